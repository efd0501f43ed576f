-- The inlined functions that have an offset of a procedure as one list.
use Rattle.std.specs.Prelude.{ℕ, ◌-◌, ◌==◌, List, [], ◌∷◌, Result, Ok, Err, if◌then◌else◌}
use Rattle.pe_core.specs.Refusals.{◌>>=◌}
use Rattle.pe_pdb.specs.InlineSites.{inline_frames}
use Rattle.pe_pdb.specs.Refusals.{PdbRefusal, InlineDepth}
use Rattle.pe_pdb.specs.declared.inline_stack.TheConstants.{MOST_INLINED}
use Rattle.pe_pdb.specs.declared.inline_walk.InlineFrame.{InlineFrame}

-- Functions that a walk finds, the outermost first, before those that were found: so the innermost comes first. A refusal is the
-- answer, and so is one function more than n.
unfoldable pub stacked : ℕ → List InlineFrame → List (Result InlineFrame PdbRefusal) → Result (List InlineFrame) PdbRefusal
stacked n found [] = Ok found
stacked n found (Err r ∷ more) = Err r
stacked n found (Ok f ∷ more) = if n == 0 then Err InlineDepth else stacked (n - 1) (f ∷ found) more

-- those that have an offset of the procedure whose record is at an offset, at most n
abbrev pub inlined_at : ℕ → List ℕ → ℕ → ℕ → Result (List InlineFrame) PdbRefusal
inlined_at n b p x = inline_frames b p x >>= stacked n []

abbrev pub inline_stack : List ℕ → ℕ → ℕ → Result (List InlineFrame) PdbRefusal
inline_stack b p x = inlined_at MOST_INLINED b p x
