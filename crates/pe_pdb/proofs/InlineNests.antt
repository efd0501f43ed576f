-- The records of the inlined functions that have an offset nest.
use Rattle.std.proofs.Common.{◌≡◌, ℕ, ◌+◌, Bool, true, false, List, [], ◌∷◌, Option, Some, None, Result, Ok, Err, refl, ap, sym, ◌∙◌, arith, ltb}
use Rattle.std.proofs.lemmas.Bool.Decides.{nat_tests}
use Rattle.std.specs.Prelude.{◌==◌, ◌&&◌, ◌||◌, if◌then◌else◌}
use Rattle.pe_core.specs.Refusals.{◌>>=◌}
use Rattle.pe_pdb.specs.Annotations.{has_offset, last_with}
use Rattle.pe_pdb.specs.InlineNests.{RowsHave, SitesNest, keep_open, open_after}
use Rattle.pe_pdb.specs.InlineSites.{after_end, after_inner, after_part, followed, found_or_skipped, frame_of, frames_in, is_block, is_end, is_site, no_scopes, step_of}
use Rattle.pe_pdb.specs.Procedures.{is_procedure}
use Rattle.pe_pdb.specs.Refusals.{PdbRefusal}
use Rattle.pe_pdb.specs.Symbols.{Symbol}
use Rattle.pe_pdb.specs.declared.inline_rows.InlineRow.{InlineRow}
use Rattle.pe_pdb.specs.declared.inline_walk.InlineFrame.{InlineFrame}
use Rattle.pe_pdb.specs.declared.inline_walk.Scopes.{Scopes}
use Rattle.pe_pdb.specs.declared.inline_walk.Step.{Step}
use Rattle.pe_pdb.specs.declared.inline_walk.Step.TheVariants.{Over, On}
use Rattle.pe_pdb.proofs.RecordWalks.{both}

abbrev Records : Type 0
Records = List (Result Symbol PdbRefusal)

abbrev Frames : Type 0
Frames = List (Result InlineFrame PdbRefusal)

-- how many scopes are open
abbrev opened : Scopes → ℕ
opened s = s.skipped + s.parts

-- ---- one record more

-- a record after which as many scopes are open as a walk says
abbrev Leads : ℕ → Symbol → ℕ → Type 0
Leads n s m = (before : Records) → keep_open m before ≡ true → keep_open n (Ok s ∷ before) ≡ true

passed_by : (x n m : ℕ) (s : Symbol) (more : Records) (frames : Frames) → Leads n s m → SitesNest x m more frames → SitesNest x n (Ok s ∷ more) frames
passed_by x n m s more [] leads nest = tt
passed_by x n m s more (Err r ∷ frames) leads nest = nest
passed_by x n m s more (Ok f ∷ frames) leads nest = grind (arith)

ends_one : (n m : ℕ) (s : Symbol) → is_end s.kind ≡ true → n ≡ m + 1 → Leads n s m
unfolding keep_open
ends_one n m s ends one = grind (arith, nat_tests)

ends_none : (n m : ℕ) (s : Symbol) → is_end s.kind ≡ false → m ≡ open_after n s.kind → Leads n s m
unfolding keep_open
ends_none n m s other is before kept = rw other (ap (λ (k : ℕ). keep_open k before) (sym is) ∙ kept)

-- ---- a step of a walk

-- what a walk finds after a record, by what it finds from any scopes on
abbrev After : ℕ → Scopes → Symbol → Records → Result Step PdbRefusal → Type 0
After x scopes s more step = SitesNest x (opened scopes) (Ok s ∷ more) (followed (λ inner. frames_in x inner more) step)

abbrev Nested : ℕ → Records → Type 0
Nested x more = (scopes : Scopes) → SitesNest x (opened scopes) more (frames_in x scopes more)

goes_on : (x : ℕ) (scopes next : Scopes) (s : Symbol) (more : Records) → Nested x more → Leads (opened scopes) s (opened next) → After x scopes s more (Ok (On next))
goes_on x scopes next s more nested leads = passed_by x (opened scopes) (opened next) s more (frames_in x next more) leads (nested next)

-- a record that ends a scope
end_open : (s : Scopes) (t : Bool) → (s.skipped == 0) ≡ t → (t && s.parts == 0) ≡ false → opened s ≡ opened (after_end s) + 1
end_open s t is other = grind (arith, nat_tests)

at_end : (x : ℕ) (scopes : Scopes) (s : Symbol) (more : Records) (t : Bool) → Nested x more → is_end s.kind ≡ true → (scopes.skipped == 0 && scopes.parts == 0) ≡ t →
    After x scopes s more (if t then Ok Over else Ok (On (after_end scopes)))
at_end x scopes s more t nested ends is = grind (arith, goes_on, ends_one, end_open)

-- one within a scope that is left out
inner_open : (s : Scopes) (kind : ℕ) (t : Bool) → (is_block kind || is_procedure kind || is_site kind) ≡ t → opened (after_inner kind s) ≡ open_after (opened s) kind
inner_open s kind t is = grind arith

-- a part of the function, or another record
part_open : (s : Scopes) (kind : ℕ) (one two : Bool) → is_block kind ≡ one → is_procedure kind ≡ two → is_site kind ≡ false → s.skipped ≡ 0 → opened (after_part kind s) ≡ open_after (opened s) kind
part_open s kind one two block procedure site none = grind arith

-- an inlined function that is found, or left out
at_site : (x : ℕ) (scopes : Scopes) (s : Symbol) (more : Records) (found : Result (Option InlineFrame) PdbRefusal) → Nested x more → is_end s.kind ≡ false → is_site s.kind ≡ true → frame_of x s ≡ found →
    After x scopes s more (found >>= λ frame. Ok (found_or_skipped scopes frame))
at_site x scopes s more (Err r) nested other site is = refl
at_site x scopes s more (Ok None) nested other site is = grind (arith, goes_on, ends_none)
at_site x scopes s more (Ok (Some f)) nested other site is =
    (s, [], more, refl, unfold keep_open in refl, is, nested no_scopes)

-- what is no end
at_start : (x : ℕ) (scopes : Scopes) (s : Symbol) (more : Records) (t u : Bool) → Nested x more → is_end s.kind ≡ false → ltb 0 scopes.skipped ≡ t → is_site s.kind ≡ u →
    After x scopes s more (
    if t then Ok (On (after_inner s.kind scopes))
    else if u then (frame_of x s >>= λ frame. Ok (found_or_skipped scopes frame))
    else Ok (On (after_part s.kind scopes))
    )
at_start x scopes s more true u nested other is site =
    goes_on x scopes (after_inner s.kind scopes) s more nested
    (ends_none (opened scopes) (opened (after_inner s.kind scopes)) s other (inner_open scopes s.kind (is_block s.kind || is_procedure s.kind || is_site s.kind) refl))
at_start x scopes s more false true nested other is site = at_site x scopes s more (frame_of x s) nested other site refl
at_start x scopes s more false false nested other is site = grind (arith, nat_tests, goes_on, ends_none, part_open)

step_if : (x : ℕ) (scopes : Scopes) (s : Symbol) (more : Records) (t : Bool) → Nested x more → is_end s.kind ≡ t →
    After x scopes s more (
    if t then (if scopes.skipped == 0 && scopes.parts == 0 then Ok Over else Ok (On (after_end scopes)))
    else if ltb 0 scopes.skipped then Ok (On (after_inner s.kind scopes))
    else if is_site s.kind then (frame_of x s >>= λ frame. Ok (found_or_skipped scopes frame))
    else Ok (On (after_part s.kind scopes))
    )
step_if x scopes s more t nested is = grind (arith, at_end, at_start)

pub sites_nest : (x : ℕ) (scopes : Scopes) (records : Records) → SitesNest x (opened scopes) records (frames_in x scopes records)
unfolding frames_in step_of
sites_nest x scopes [] = tt
sites_nest x scopes (Err r ∷ more) = refl
sites_nest x scopes (Ok s ∷ more) = step_if x scopes s more (is_end s.kind) (λ next. sites_nest x next more) refl

-- ---- rows

last_if : (x : ℕ) (found : Option InlineRow) (row out : InlineRow) (t : Bool) → has_offset x row ≡ t → (found ≡ Some out → has_offset x out ≡ true) →
    (if t then Some row else found) ≡ Some out → has_offset x out ≡ true
last_if x found row out t is before same = grind arith

last_has : (x : ℕ) (found : Option InlineRow) (rows : List (Result InlineRow PdbRefusal)) (out : InlineRow) →
    (found ≡ Some out → has_offset x out ≡ true) → last_with x found rows ≡ Ok (Some out) → has_offset x out ≡ true
unfolding last_with
last_has x found [] out before is = before (let e : found ≡ Some out = cc is in e)
last_has x found (Err r ∷ more) out before is = absurd (cc is)
last_has x found (Ok row ∷ more) out before is =
    last_has x (if has_offset x row then Some row else found) more out (last_if x found row out (has_offset x row) refl before) is

frame_has : (x : ℕ) (s : Symbol) (f : InlineFrame) → frame_of x s ≡ Ok (Some f) → has_offset x f.row ≡ true
unfolding frame_of
frame_has x s f is = grind (arith, both, last_has)

rows_have : (x n : ℕ) (records : Records) (frames : Frames) → SitesNest x n records frames → RowsHave x frames
rows_have x n records [] nest = tt
rows_have x n records (Err r ∷ more) nest = nest
rows_have x n records (Ok f ∷ more) nest = (frame_has x nest.0 f nest.5, rows_have x 0 nest.2 more nest.6)

pub frames_have : (x : ℕ) (records : Records) → RowsHave x (frames_in x no_scopes records)
frames_have x records = rows_have x 0 records (frames_in x no_scopes records) (sites_nest x no_scopes records)

pub frames_nest : (x : ℕ) (records : Records) → SitesNest x 0 records (frames_in x no_scopes records)
frames_nest x records = sites_nest x no_scopes records
