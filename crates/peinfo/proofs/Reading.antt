-- Bytes read one piece after the other into one buffer.
use Rattle.std.proofs.Common.{◌≡◌, ℕ, ◌+◌, ◌≤◌, arith, List, [], ◌++◌, length, take, drop, Option, Some, None, sym, ap, ◌∙◌, length-append, length-take-le}
use Rattle.std.proofs.Math.Seq.{take-add}
use Rattle.std.proofs.KnownBytes.{Consumes-nil, Consumes-trans}
use Rattle.std.proofs.lemmas.List.{append-nil}
use Rattle.std.specs.Prelude.{IfSome}
use Rattle.std.specs.Io.KnownBytes.{Consumes, IsAtEnd}

-- the first `filled` bytes of the buffer are what was read so far
pub record IsPartRead (old now : Option (List ℕ)) (buffer : List ℕ) (filled : ℕ) : Type 0 where
  pub within : filled ≤ length buffer
  pub read : Consumes old now (take filled buffer)

-- the filled front stays, and a read returns `count` bytes after it
pub goes_on : (old mid now : Option (List ℕ)) (before after : List ℕ) (filled count : ℕ) → IsPartRead old mid before filled → take filled after ≡ take filled before
    → Consumes mid now (take count (drop filled after)) → filled + count ≤ length after → IsPartRead old now after (filled + count)
goes_on old mid now before after filled count so_far front more within = record {
  within = within;
  read = rw (take-add filled count after, front) (Consumes-trans old mid now (take filled before) (take count (drop filled after)) so_far.read more);
}

-- at the end all is read
ends : (old now : Option (List ℕ)) (bytes : List ℕ) → Consumes old now bytes → IsAtEnd now → IfSome old (λ known. bytes ≡ known)
ends None now bytes read e = tt
ends (Some a) None bytes read e = absurd read
ends (Some a) (Some b) bytes read e = sym (read ∙ ap (λ (t : List ℕ). bytes ++ t) e ∙ append-nil bytes)

-- a read of nothing, which says that the end is there, leaves what was read before
pub all_read : (old mid now : Option (List ℕ)) (before after bytes : List ℕ) (filled : ℕ) → IsPartRead old mid before filled → take filled after ≡ take filled before → Consumes mid now [] → IsAtEnd now → bytes ≡ take filled after → IfSome old (λ known. bytes ≡ known)
all_read old mid now before after bytes filled so_far front none end is =
    rw (is, front) (ends old now (take filled before) (rw append-nil at (Consumes-trans old mid now (take filled before) [] so_far.read none)) end)

-- what was read so far is a part of what was left
pub long : (old now : Option (List ℕ)) (buffer : List ℕ) (filled n : ℕ) → IsPartRead old now buffer filled → n ≤ filled → IfSome old (λ known. n ≤ length known)
long None now buffer filled n so_far le = tt
long (Some a) None buffer filled n so_far le = absurd so_far.read
long (Some a) (Some b) buffer filled n so_far le = omega (arith, ap length so_far.read, length-append (take filled buffer) b, length-take-le filled buffer so_far.within)
