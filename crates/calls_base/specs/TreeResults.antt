-- The results of calls that read a resource tree.
use Rattle.std.specs.Prelude.{◌≡◌, ℕ, Option, Some, None, Result, Ok, Err}
use Rattle.pe_resource.specs.Leaves.{TreeRefusal, Image, NotDirectory, NotData, NoEntries}
use Rattle.calls_base.specs.HandsOut.{result_number}
use Rattle.calls_base.specs.declared.results.TheConstants.{DONE, NOTHING}

-- the number of a refusal of a resource tree, written by tools/make_errors
abbrev pub tree_number : TreeRefusal → ℕ
tree_number (Image refusal) = result_number refusal
tree_number NotDirectory = 401
tree_number NotData = 402
tree_number NoEntries = 403

-- DONE and the value; NOTHING where there is none; else the number of the refusal. `out` is unchanged without a value
abbrev pub TreeHandsOut : {Y : Type 0} → ℕ → Y → Y → Result (Option Y) TreeRefusal → Type 0
TreeHandsOut number old new (Ok (Some value)) = (number ≡ DONE) × (new ≡ value)
TreeHandsOut number old new (Ok None) = (number ≡ NOTHING) × (new ≡ old)
TreeHandsOut number old new (Err refusal) = (number ≡ tree_number refusal) × (new ≡ old)
