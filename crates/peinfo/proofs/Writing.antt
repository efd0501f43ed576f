-- Pieces written one after the other.
use Rattle.std.proofs.Common.{◌<◌, ◌≡◌, ℕ, arith, List, [], ◌∷◌, ◌++◌, length, take, drop, Option, Some, None, refl, sym, ap, ◌∙◌, append_assoc, length-append, inl, inr}
use Rattle.std.proofs.lemmas.List.{take-append-drop, take_at, append-nil}
use Rattle.std.proofs.lemmas.Bool.{cases_lt}
use Rattle.std.specs.Io.KnownBytes.{Appends, Keeps}
use Rattle.peinfo.specs.Output.{MOST, one_more_failure, AppendsBeginning, RoseOrFull}

Appends-then : (a b c : Option (List ℕ)) (x y : List ℕ) → Appends a b x → Appends b c y → Appends a c (x ++ y)
Appends-then None b c x y p q = tt
Appends-then (Some a) None c x y p q = absurd p
Appends-then (Some a) (Some b) None x y p q = absurd q
Appends-then (Some a) (Some b) (Some c) x y p q = q ∙ ap (λ (t : List ℕ). t ++ y) p ∙ append_assoc a x y

Appends-keeps : (a b c : Option (List ℕ)) (x : List ℕ) → Appends a b x → Keeps b c → Appends a c x
Appends-keeps None b c x p q = tt
Appends-keeps (Some a) None c x p q = absurd p
Appends-keeps (Some a) (Some b) None x p q = absurd q
Appends-keeps (Some a) (Some b) (Some c) x p q = q ∙ p

Appends-nothing : (a : Option (List ℕ)) → Appends a a []
Appends-nothing None = tt
Appends-nothing (Some a) = sym (append-nil a)

-- what was written so far, and the rest of the text
pub record IsPartWritten (old now : Option (List ℕ)) (text rest : List ℕ) : Type 0 where
  pub done : List ℕ
  pub parts : text ≡ done ++ rest
  pub written : Appends old now done

pub starts : (old : Option (List ℕ)) (text : List ℕ) → IsPartWritten old old text text
starts old text = record { done = []; parts = refl; written = Appends-nothing old }

pub goes_on : (old mid now : Option (List ℕ)) (text rest : List ℕ) (n : ℕ) → IsPartWritten old mid text rest → Appends mid now (take n rest) → IsPartWritten old now text (drop n rest)
goes_on old mid now text rest n so_far more = record {
  done = so_far.done ++ take n rest;
  parts = so_far.parts ∙ ap (λ (t : List ℕ). so_far.done ++ t) (sym (take-append-drop n rest)) ∙ sym (append_assoc so_far.done (take n rest) (drop n rest));
  written = Appends-then old mid now so_far.done (take n rest) so_far.written more;
}

pub stops : (old mid now : Option (List ℕ)) (text rest : List ℕ) → IsPartWritten old mid text rest → 0 < length rest → Keeps mid now
    → AppendsBeginning old now text
stops old mid now text rest so_far more keeps =
    let front : take (length so_far.done) text ≡ so_far.done = ap (take (length so_far.done)) so_far.parts ∙ take_at so_far.done rest (length so_far.done) refl in
    record {
      count = length so_far.done;
      within = omega (arith, ap length so_far.parts, length-append so_far.done rest);
      written = rw front (Appends-keeps old mid now so_far.done so_far.written keeps);
    }

pub ends : (old now : Option (List ℕ)) (text rest : List ℕ) → IsPartWritten old now text rest → length rest ≡ 0 → Appends old now text
ends old now text [] so_far e = rw (so_far.parts, append-nil so_far.done) so_far.written
ends old now text (x ∷ rest) so_far e = absurd (omega arith)

pub rises : (old new : ℕ) → new ≡ one_more_failure old → RoseOrFull old new
rises old new e = elim (cases_lt old MOST) [ inl lt ↦ inl (omega arith) | inr le ↦ inr (omega arith) ]

pub ruleset steps = (starts, goes_on, stops, ends, rises)
