-- The bytes of ranges, and those that are left of them.
use Rattle.std.proofs.Common.{◌≡◌, ℕ, ◌+◌, ◌-◌, ◌≤◌, Bool, true, List, [], length, drop, Ok, refl, sym, ap, ◌∙◌, arith}
use Rattle.calls_base.proofs.Cited.{nat_tests, places, length_range, rest_of_range, holds, range, IsRange, bytes_at, Range}

pub same_range : (r s : Range) → r.offset ≡ s.offset → r.length ≡ s.length → r ≡ s
same_range r s offset size = ap (λ (p : ℕ). record { offset = p; length = r.length }) offset ∙ ap (λ (n : ℕ). record { offset = s.offset; length = n }) size

-- what is left after n bytes of a range
pub nothing_there : (b : List ℕ) → range b 0 0 ≡ []
nothing_there b = grind (arith, places)

pub there : (b : List ℕ) (r : Range) (bytes : List ℕ) (inside : Bool) → holds b r.offset r.length ≡ inside → bytes_at b r ≡ Ok bytes → (r.offset + r.length ≤ length b) × (bytes ≡ range b r.offset r.length)
there b r bytes inside h e = grind (arith, nat_tests)

pub bytes_there : (b : List ℕ) (r : Range) → r.offset + r.length ≤ length b → bytes_at b r ≡ Ok (range b r.offset r.length)
bytes_there b r h = let inside : holds b r.offset r.length ≡ true = grind (arith, nat_tests) in rw inside refl

-- after a step a walk has left what the step says
pub left_after : (b : List ℕ) (w v : Range) (bytes : List ℕ) → bytes_at b w ≡ Ok bytes → v.length ≤ w.length → v.offset + v.length ≡ w.offset + w.length → bytes_at b v ≡ Ok (drop (length bytes - v.length) bytes)
left_after b w v bytes e shorter same =
    let in_b = there b w bytes (holds b w.offset w.length) refl e in
    let size : length bytes ≡ w.length = ap length in_b.1 ∙ length_range b w.offset w.length in_b.0 in
    let offset : v.offset ≡ w.offset + (w.length - v.length) = omega (arith, shorter, same) in
    let count : v.length ≡ w.length - (w.length - v.length) = omega (arith, shorter) in
    let rest : range b v.offset v.length ≡ drop (w.length - v.length) (range b w.offset w.length) =
    ap (λ (p : ℕ). range b p v.length) offset
    ∙ ap (λ (n : ℕ). range b (w.offset + (w.length - v.length)) n) count
    ∙ rest_of_range b w.offset w.length (w.length - v.length) in_b.0 (omega arith) in
    bytes_there b v (omega (arith, in_b.0, same))
    ∙ ap (λ (x : List ℕ). Ok x) (rest ∙ ap (λ (x : List ℕ). drop (w.length - v.length) x) (sym in_b.1) ∙ ap (λ (n : ℕ). drop (n - v.length) bytes) (sym size))

pub size_of : (b : List ℕ) (r : Range) (bytes : List ℕ) → bytes_at b r ≡ Ok bytes → length bytes ≡ r.length
size_of b r bytes e = let in_b = there b r bytes (holds b r.offset r.length) refl e in ap length in_b.1 ∙ length_range b r.offset r.length in_b.0

-- ---- the bytes of a part that a range is

pub bytes_of_range : (b : List ℕ) (r : Range) (t : List ℕ) → IsRange b r t → bytes_at b r ≡ Ok t
bytes_of_range b r t is = let there : holds b r.offset r.length ≡ true = (let inside : r.offset + r.length ≤ length b = is.inside in grind (arith, nat_tests)) in rw there (ap (λ (x : List ℕ). Ok x) is.same)

pub length_of_range : (b : List ℕ) (r : Range) (t : List ℕ) → IsRange b r t → length t ≡ r.length
length_of_range b r t is = let inside : r.offset + r.length ≤ length b = is.inside in let all : length (range b r.offset r.length) ≡ r.length = grind (arith, places) in ap length (sym is.same) ∙ all
