-- Bytes that are written one after the other into a buffer.
use Rattle.std.proofs.Common.{◌≡◌, ℕ, ◌+◌, ◌≤◌, List, [], ◌++◌, length, take, drop, ap, refl, sym, ◌∙◌, arith, length-append}
use Rattle.pe_edit.proofs.Cited.{append-nil, append_assoc, take-append-drop, splice, length-splice, splice-splice}

-- the first bytes of all are written from an offset up to another, and these are left
pub record Written (old now : List ℕ) (at end : ℕ) (all rest : List ℕ) : Type 0 where
  pub done : List ℕ
  pub count : at + length done ≡ end
  pub joined : all ≡ done ++ rest
  pub is : now ≡ splice old at done
  pub room : at + length all ≤ length old

pub splice_none : (b : List ℕ) (p : ℕ) → p ≤ length b → splice b p [] ≡ b
unfolding splice
splice_none b p h = ap (λ (k : ℕ). take p b ++ drop k b) (omega arith) ∙ take-append-drop p b

pub nothing_written : (old : List ℕ) (at : ℕ) (all : List ℕ) → at + length all ≤ length old → Written old old at at all all
nothing_written old at all h = record { done = []; count = omega arith; joined = refl; is = sym (splice_none old at (omega (arith, h))); room = h }

pub length_written : (old now : List ℕ) (at end : ℕ) (all rest : List ℕ) → Written old now at end all rest → length now ≡ length old
length_written old now at end all rest w = grind (arith, length-append, length-splice)

-- what is left fits where it comes next
pub room_for : (old now : List ℕ) (at end : ℕ) (all x rest : List ℕ) → Written old now at end all (x ++ rest) → end + length x ≤ length now
room_for old now at end all x rest w =
    let size : length all ≡ length w.done + length (x ++ rest) = ap length w.joined ∙ length-append w.done (x ++ rest) in
    omega (arith, length_written old now at end all (x ++ rest) w, size, w.room, w.count, length-append x rest)

pub more_written : (old now next : List ℕ) (at end after : ℕ) (all x rest : List ℕ) → Written old now at end all (x ++ rest) → next ≡ splice now end x → after ≡ end + length x → Written old next at after all rest
more_written old now next at end after all x rest w e f = grind (arith, length-append, append_assoc, splice-splice)

pub all_written : (old now : List ℕ) (at end : ℕ) (all rest : List ℕ) → rest ≡ [] → Written old now at end all rest → now ≡ splice old at all
all_written old now at end all rest none w = grind (arith, append-nil)

-- the last part of all is written
pub last_written : (old now next : List ℕ) (at end : ℕ) (all x : List ℕ) → Written old now at end all x → next ≡ splice now end x → next ≡ splice old at all
last_written old now next at end all x w e = grind (arith, length-append, splice-splice)
