-- Walks over subsections, and over blocks of lines.
use Rattle.std.proofs.Common.{◌≡◌, ℕ, ◌+◌, ◌<◌, ◌≤◌, true, false, List, [], ◌∷◌, length, Some, None, Ok, Err, ap, ◌∙◌, arith}
use Rattle.std.proofs.lemmas.Bool.Decides.{nat_tests}
use Rattle.std.proofs.lemmas.Grind.{div_ceil_times}
use Rattle.std.specs.Prelude.{◌==◌}
use Rattle.pe_pdb.specs.Lines.{BlockView, SubsectionView, block_at, block_end, blocks, first_of_kind, subsection_at, subsection_end, subsections}
use Rattle.pe_pdb.specs.Refusals.{PdbRefusal}
use Rattle.pe_pdb.proofs.RecordWalks.{passed, second_passed}
use Rattle.pe_pdb.proofs.Walked.{EndsLater, walk_more, walk_none, walk_refused}

pub subsection_offset : (b : List ℕ) (p : ℕ) (s : SubsectionView) → subsection_at b p ≡ Ok s → s.offset ≡ p
unfolding subsection_at
subsection_offset b p s is = grind (arith, passed)

pub subsection_ends : (s : SubsectionView) → s.offset < subsection_end s
subsection_ends s = let times = div_ceil_times (s.offset + 8 + length s.content) 4 (omega arith) in omega (arith, times)

pub subsections_later : (b : List ℕ) → EndsLater subsection_end (subsection_at b)
subsections_later b p s is = let at = subsection_offset b p s is in let after = subsection_ends s in omega (arith, at, after)

pub subsections_none : (b : List ℕ) (p : ℕ) → length b ≤ p → subsections b p ≡ []
subsections_none b p past = walk_none subsection_end (subsection_at b) (length b) p past

pub subsections_more : (b : List ℕ) (p : ℕ) (s : SubsectionView) → p < length b → subsection_at b p ≡ Ok s → subsections b p ≡ Ok s ∷ subsections b (subsection_end s)
subsections_more b p s before is = walk_more subsection_end (subsection_at b) (subsections_later b) (length b) p s before is

pub subsections_refused : (b : List ℕ) (p : ℕ) (r : PdbRefusal) → p < length b → subsection_at b p ≡ Err r → subsections b p ≡ Err r ∷ []
subsections_refused b p r before is = walk_refused subsection_end (subsection_at b) (subsections_later b) (length b) p r before is

-- ---- the first subsection of a kind

pub kind_absent : (k : ℕ) (b : List ℕ) (p : ℕ) → length b ≤ p → first_of_kind k (subsections b p) ≡ Ok None
unfolding first_of_kind
kind_absent k b p past = ap (first_of_kind k) (subsections_none b p past)

pub kind_here : (k : ℕ) (b : List ℕ) (p : ℕ) (s : SubsectionView) → p < length b → subsection_at b p ≡ Ok s → (s.kind == k) ≡ true → first_of_kind k (subsections b p) ≡ Ok (Some s)
unfolding first_of_kind
kind_here k b p s before is own = ap (first_of_kind k) (subsections_more b p s before is) ∙ rw own

pub kind_later : (k : ℕ) (b : List ℕ) (p : ℕ) (s : SubsectionView) → p < length b → subsection_at b p ≡ Ok s → (s.kind == k) ≡ false
    → first_of_kind k (subsections b p) ≡ first_of_kind k (subsections b (subsection_end s))
unfolding first_of_kind
kind_later k b p s before is other = ap (first_of_kind k) (subsections_more b p s before is) ∙ rw other

pub kind_refused : (k : ℕ) (b : List ℕ) (p : ℕ) (r : PdbRefusal) → p < length b → subsection_at b p ≡ Err r → first_of_kind k (subsections b p) ≡ Err r
unfolding first_of_kind
kind_refused k b p r before is = ap (first_of_kind k) (subsections_refused b p r before is)

-- ---- blocks

pub block_is : (b : List ℕ) (p : ℕ) (s : BlockView) → block_at b p ≡ Ok s → (s.offset ≡ p) × (12 ≤ s.size)
unfolding block_at
block_is b p s is = grind (arith, passed, second_passed, nat_tests)

pub blocks_later : (b : List ℕ) → EndsLater block_end (block_at b)
blocks_later b p s is = let at = block_is b p s is in omega (arith, at.0, at.1)

pub blocks_none : (b : List ℕ) (p : ℕ) → length b ≤ p → blocks b p ≡ []
blocks_none b p past = walk_none block_end (block_at b) (length b) p past

pub blocks_more : (b : List ℕ) (p : ℕ) (s : BlockView) → p < length b → block_at b p ≡ Ok s → blocks b p ≡ Ok s ∷ blocks b (block_end s)
blocks_more b p s before is = walk_more block_end (block_at b) (blocks_later b) (length b) p s before is

pub blocks_refused : (b : List ℕ) (p : ℕ) (r : PdbRefusal) → p < length b → block_at b p ≡ Err r → blocks b p ≡ Err r ∷ []
blocks_refused b p r before is = walk_refused block_end (block_at b) (blocks_later b) (length b) p r before is
