-- What laws say of the inlined functions that have an offset: how their records nest.
use Rattle.std.specs.Prelude.{◌≡◌, ℕ, ◌+◌, ◌-◌, ◌&&◌, ◌||◌, Bool, true, false, List, [], ◌∷◌, ◌++◌, nat_lt, Some, Result, Ok, Err, if◌then◌else◌}
use Rattle.pe_pdb.specs.Annotations.{has_offset}
use Rattle.pe_pdb.specs.InlineSites.{frame_of, is_block, is_end, is_site}
use Rattle.pe_pdb.specs.Procedures.{is_procedure}
use Rattle.pe_pdb.specs.Refusals.{PdbRefusal}
use Rattle.pe_pdb.specs.Symbols.{Symbol}
use Rattle.pe_pdb.specs.declared.inline_walk.InlineFrame.{InlineFrame}

-- a record starts a scope
abbrev pub starts_scope : ℕ → Bool
starts_scope kind = is_block kind || is_procedure kind || is_site kind

-- how many scopes are open after a record that ends none
abbrev pub open_after : ℕ → ℕ → ℕ
open_after n kind = if starts_scope kind then n + 1 else n

-- no record of these ends a scope that is open before them all, where n were started since
unfoldable pub keep_open : ℕ → List (Result Symbol PdbRefusal) → Bool
keep_open n [] = true
keep_open n (Err r ∷ more) = false
keep_open n (Ok s ∷ more) = if is_end s.kind then nat_lt 0 n && keep_open (n - 1) more else keep_open (open_after n s.kind) more

-- Frames of an offset, the outermost first, are records of some that follow one another: each is that of an inlined function with a
-- row that has the offset, and up to it no record ends the scope of the one before. A refusal is the last.
abbrev pub SitesNest : ℕ → ℕ → List (Result Symbol PdbRefusal) → List (Result InlineFrame PdbRefusal) → Type 0
SitesNest x n records [] = Unit {0}
SitesNest x n records (Err r ∷ more) = more ≡ []
SitesNest x n records (Ok f ∷ more) =
    (s : Symbol) × (before : List (Result Symbol PdbRefusal)) × (inner : List (Result Symbol PdbRefusal))
    × (records ≡ before ++ (Ok s ∷ inner)) × (keep_open n before ≡ true) × (frame_of x s ≡ Ok (Some f)) × SitesNest x 0 inner more

-- the row of a frame has the offset
abbrev pub RowsHave : ℕ → List (Result InlineFrame PdbRefusal) → Type 0
RowsHave x [] = Unit {0}
RowsHave x (Err r ∷ more) = more ≡ []
RowsHave x (Ok f ∷ more) = (has_offset x f.row ≡ true) × RowsHave x more
