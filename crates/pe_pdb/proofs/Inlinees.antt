-- Walks over the records of inlined functions.
use Rattle.std.proofs.Common.{◌≡◌, ℕ, ◌+◌, ◌<◌, ◌≤◌, Bool, true, false, List, [], ◌∷◌, length, Some, None, Ok, Err, refl, ap, ◌∙◌, arith}
use Rattle.std.proofs.lemmas.Bool.Decides.{nat_tests}
use Rattle.std.specs.Prelude.{◌==◌}
use Rattle.pe_core.specs.Bytes.{le, holds}
use Rattle.pe_pdb.specs.Inlinees.{first_inlinee, inlinee_at, inlinee_row, inlinees}
use Rattle.pe_pdb.specs.Refusals.{PdbRefusal}
use Rattle.pe_pdb.specs.Walks.{Advances}
use Rattle.pe_pdb.specs.declared.inlinee.InlineeLine.{InlineeLine}
use Rattle.pe_pdb.proofs.RecordWalks.{both, passed}
use Rattle.pe_pdb.proofs.Walked.{items_none, items_step}

inlinees_later : (extended : Bool) (b : List ℕ) → Advances (inlinee_at extended b)
unfolding inlinee_at
inlinees_later extended b = grind (arith, both, passed)

pub first_end : (id : ℕ) (b : List ℕ) (p : ℕ) → length b ≤ p → first_inlinee id (inlinees b p) ≡ Ok None
unfolding first_inlinee
first_end id b p past = ap (first_inlinee id) (items_none (inlinee_at (le b 0 4 == 1) b) (length b) p past)

inlinees_more : (b : List ℕ) (p : ℕ) (x : InlineeLine) (q : ℕ) → p < length b → inlinee_at (le b 0 4 == 1) b p ≡ Ok (x, q) → inlinees b p ≡ Ok x ∷ inlinees b q
inlinees_more b p x q before is = items_step (inlinee_at (le b 0 4 == 1) b) (inlinees_later (le b 0 4 == 1) b) (length b) p before ∙ rw is

pub first_here : (id : ℕ) (b : List ℕ) (p : ℕ) (x : InlineeLine) (q : ℕ) → p < length b → inlinee_at (le b 0 4 == 1) b p ≡ Ok (x, q) → (x.inlinee == id) ≡ true → first_inlinee id (inlinees b p) ≡ Ok (Some x)
unfolding first_inlinee
first_here id b p x q before is own = ap (first_inlinee id) (inlinees_more b p x q before is) ∙ rw own

pub first_later : (id : ℕ) (b : List ℕ) (p : ℕ) (x : InlineeLine) (q : ℕ) → p < length b → inlinee_at (le b 0 4 == 1) b p ≡ Ok (x, q) → (x.inlinee == id) ≡ false → first_inlinee id (inlinees b p) ≡ first_inlinee id (inlinees b q)
unfolding first_inlinee
first_later id b p x q before is own = ap (first_inlinee id) (inlinees_more b p x q before is) ∙ rw own

-- a record without other files
plain_at : (extended : Bool) (b : List ℕ) (p : ℕ) → extended ≡ false → p + 12 ≤ length b → inlinee_at extended b p ≡ Ok (inlinee_row b p, p + 12)
unfolding inlinee_at
plain_at extended b p plain inside = let t : holds b p 12 ≡ true = grind (arith, nat_tests) in rw plain (rw t)

pub first_skipped : (id : ℕ) (b : List ℕ) (p : ℕ) → (le b 0 4 == 1) ≡ false → p + 12 ≤ length b → (le b p 4 == id) ≡ false → first_inlinee id (inlinees b p) ≡ first_inlinee id (inlinees b (p + 12))
unfolding inlinee_row
first_skipped id b p plain inside other =
    first_later id b p (inlinee_row b p) (p + 12) (omega (arith, inside)) (plain_at (le b 0 4 == 1) b p plain inside) (ap (λ (n : ℕ). n == id) refl ∙ other)

inlinees_refused : (b : List ℕ) (p : ℕ) (r : PdbRefusal) → p < length b → inlinee_at (le b 0 4 == 1) b p ≡ Err r → inlinees b p ≡ Err r ∷ []
inlinees_refused b p r before is = items_step (inlinee_at (le b 0 4 == 1) b) (inlinees_later (le b 0 4 == 1) b) (length b) p before ∙ rw is

pub first_refused : (id : ℕ) (b : List ℕ) (p : ℕ) (r : PdbRefusal) → p < length b → inlinee_at (le b 0 4 == 1) b p ≡ Err r → first_inlinee id (inlinees b p) ≡ Err r
unfolding first_inlinee
first_refused id b p r before is = ap (first_inlinee id) (inlinees_refused b p r before is)
