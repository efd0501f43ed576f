-- Walks over the annotations and the rows of an inlined function, and over the functions that have an offset.
use Rattle.std.proofs.Common.{◌≡◌, ℕ, ◌<◌, ◌≤◌, Bool, true, false, List, [], ◌∷◌, length, Option, Some, None, Result, Ok, Err, ap, ◌∙◌, arith}
use Rattle.std.proofs.lemmas.Bool.Decides.{nat_tests}
use Rattle.std.specs.Prelude.{if◌then◌else◌}
use Rattle.pe_pdb.specs.Annotations.{annotation_at, annotations, closed, ended, found_in, kept, last_with, moved, number_at, row_from, rows_of, starts_row}
use Rattle.pe_pdb.specs.InlineWalks.{started}
use Rattle.pe_pdb.specs.InlineSites.{followed, frames_in, step_of}
use Rattle.pe_pdb.specs.Refusals.{PdbRefusal}
use Rattle.pe_pdb.specs.Symbols.{Symbol, symbol_at, symbol_end, symbols}
use Rattle.pe_pdb.specs.Walks.{Advances}
use Rattle.pe_pdb.specs.declared.annotation.Annotation.{Annotation}
use Rattle.pe_pdb.specs.declared.inline_rows.Cursor.{Cursor}
use Rattle.pe_pdb.specs.declared.inline_rows.InlineRow.{InlineRow}
use Rattle.pe_pdb.specs.declared.inline_rows.OpenRow.{OpenRow}
use Rattle.pe_pdb.specs.declared.inline_walk.Scopes.{Scopes}
use Rattle.pe_pdb.proofs.RecordWalks.{both, first_passed, passed, second_passed, symbols_more, symbols_none, symbols_refused}
use Rattle.pe_pdb.proofs.Walked.{items_none, items_step}

-- ---- annotations

-- a number ends after its start, in the bytes
number_later : (b : List ℕ) (p : ℕ) (n : ℕ × ℕ) → number_at b p ≡ Ok n → (p < n.1) × (p < length b)
unfolding number_at
number_later b p n is = grind (arith, passed, first_passed, second_passed, nat_tests)

later_if : (p : ℕ) (t : Bool) (x y : Result (Annotation × ℕ) PdbRefusal) (z : Annotation × ℕ) → (if t then x else y) ≡ Ok z → (x ≡ Ok z → p < z.1) → (y ≡ Ok z → p < z.1) → p < z.1
later_if p t x y z is one other = grind arith

same_end : (x z : Annotation × ℕ) → ◌≡◌ {A = Result (Annotation × ℕ) PdbRefusal} (Ok x) (Ok z) → x.1 ≡ z.1
same_end x z is = let same : x ≡ z = cc is in ap (λ (y : Annotation × ℕ). y.1) same

pub annotations_later : (b : List ℕ) → Advances (annotation_at b)
unfolding annotation_at
annotations_later b = grind (arith, both, number_later, later_if, same_end)

-- ---- rows

pub rows_end : (b : List ℕ) (p : ℕ) (c : Cursor) (last : Option OpenRow) → length b ≤ p → rows_of c last (annotations b p) ≡ ended last 0 []
unfolding rows_of
rows_end b p c last past = ap (λ (l : List (Result Annotation PdbRefusal)). rows_of c last l) (items_none (annotation_at b) (length b) p past)

pub annotations_more : (b : List ℕ) (p : ℕ) (a : Annotation) (q : ℕ) → p < length b → annotation_at b p ≡ Ok (a, q) → annotations b p ≡ Ok a ∷ annotations b q
annotations_more b p a q before is = items_step (annotation_at b) (annotations_later b) (length b) p before ∙ rw is

pub rows_started : (b : List ℕ) (p : ℕ) (c : Cursor) (last : Option OpenRow) (a : Annotation) (q : ℕ) → p < length b → annotation_at b p ≡ Ok (a, q) → starts_row a ≡ true →
    rows_of c last (annotations b p) ≡ ended last (moved c a).offset (rows_of (moved c a) (Some (row_from a (moved c a))) (annotations b q))
unfolding rows_of
rows_started b p c last a q before is starts = ap (λ (l : List (Result Annotation PdbRefusal)). rows_of c last l) (annotations_more b p a q before is) ∙ rw starts

pub rows_on : (b : List ℕ) (p : ℕ) (c : Cursor) (last : Option OpenRow) (a : Annotation) (q : ℕ) → p < length b → annotation_at b p ≡ Ok (a, q) → starts_row a ≡ false →
    rows_of c last (annotations b p) ≡ rows_of (moved c a) (kept a last) (annotations b q)
unfolding rows_of
rows_on b p c last a q before is starts = ap (λ (l : List (Result Annotation PdbRefusal)). rows_of c last l) (annotations_more b p a q before is) ∙ rw starts

pub rows_refused : (b : List ℕ) (p : ℕ) (c : Cursor) (last : Option OpenRow) (r : PdbRefusal) → p < length b → annotation_at b p ≡ Err r → rows_of c last (annotations b p) ≡ Err r ∷ []
unfolding rows_of
rows_refused b p c last r before is = grind (arith, items_step, annotations_later)

-- a row that starts where there was one before it
pub started_after : (c next : Cursor) (last after : Option OpenRow) (a : Annotation) (row before : OpenRow) (out : InlineRow) (more : List (Result Annotation PdbRefusal)) →
    next ≡ moved c a → row ≡ row_from a next → after ≡ Some row → last ≡ Some before → out ≡ closed before next.offset →
    ended last (moved c a).offset (rows_of (moved c a) (Some (row_from a (moved c a))) more) ≡ Ok out ∷ rows_of next after more
started_after c next last after a row before out more at is made had closes = grind arith

-- and where there was none
pub started_first : (c next : Cursor) (last after : Option OpenRow) (a : Annotation) (row : OpenRow) (more : List (Result Annotation PdbRefusal)) →
    next ≡ moved c a → row ≡ row_from a next → after ≡ Some row → last ≡ None →
    ended last (moved c a).offset (rows_of (moved c a) (Some (row_from a (moved c a))) more) ≡ rows_of next after more
started_first c next last after a row more at is made had = grind arith

-- an annotation that starts none
pub not_started : (c next : Cursor) (last after : Option OpenRow) (a : Annotation) (more : List (Result Annotation PdbRefusal)) →
    next ≡ moved c a → after ≡ kept a last → rows_of (moved c a) (kept a last) more ≡ rows_of next after more
not_started c next last after a more at made = grind arith

pub started_few : (o : Option OpenRow) → started o ≤ 1
started_few o = grind arith

pub started_kept : (a : Annotation) (o : Option OpenRow) → started (kept a o) ≡ started o
started_kept a o = grind arith

-- ---- the last row of an offset

pub last_end : (x : ℕ) (found : Option InlineRow) (rows : List (Result InlineRow PdbRefusal)) → rows ≡ [] → last_with x found rows ≡ Ok found
unfolding last_with
last_end x found rows is = ap (λ (l : List (Result InlineRow PdbRefusal)). last_with x found l) is

-- a row that is closed, if there is one
pub last_ended : (x : ℕ) (found : Option InlineRow) (last : Option OpenRow) (next : ℕ) (more : List (Result InlineRow PdbRefusal)) → last_with x found (ended last next more) ≡ last_with x (found_in last next x found) more
unfolding last_with
last_ended x found last next more = grind arith

pub row_closed : (x : ℕ) (found out : Option InlineRow) (c next : Cursor) (last : Option OpenRow) (a : Annotation) (row : OpenRow) (more : List (Result Annotation PdbRefusal)) →
    next ≡ moved c a → row ≡ row_from a next → out ≡ found_in last next.offset x found →
    last_with x found (ended last (moved c a).offset (rows_of (moved c a) (Some (row_from a (moved c a))) more)) ≡ last_with x out (rows_of next (Some row) more)
row_closed x found out c next last a row more at is closes = grind (arith, last_ended)

pub last_refused : (x : ℕ) (found : Option InlineRow) (rows more : List (Result InlineRow PdbRefusal)) (r : PdbRefusal) → rows ≡ Err r ∷ more → last_with x found rows ≡ Err r
unfolding last_with
last_refused x found rows more r is = ap (λ (l : List (Result InlineRow PdbRefusal)). last_with x found l) is

-- ---- functions that have an offset

pub frames_end : (x : ℕ) (scopes : Scopes) (b : List ℕ) (p : ℕ) → length b ≤ p → frames_in x scopes (symbols b p) ≡ []
unfolding frames_in
frames_end x scopes b p past = ap (λ (l : List (Result Symbol PdbRefusal)). frames_in x scopes l) (symbols_none b p past)

pub frames_more : (x : ℕ) (scopes : Scopes) (b : List ℕ) (p : ℕ) (s : Symbol) → p < length b → symbol_at b p ≡ Ok s →
    frames_in x scopes (symbols b p) ≡ followed (λ inner. frames_in x inner (symbols b (symbol_end s))) (step_of x scopes s)
unfolding frames_in
frames_more x scopes b p s before is = ap (λ (l : List (Result Symbol PdbRefusal)). frames_in x scopes l) (symbols_more b p s before is)

pub frames_refused : (x : ℕ) (scopes : Scopes) (b : List ℕ) (p : ℕ) (r : PdbRefusal) → p < length b → symbol_at b p ≡ Err r → frames_in x scopes (symbols b p) ≡ Err r ∷ []
unfolding frames_in
frames_refused x scopes b p r before is = ap (λ (l : List (Result Symbol PdbRefusal)). frames_in x scopes l) (symbols_refused b p r before is)
