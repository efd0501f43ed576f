-- How a chain is walked: first to count its records, then to take them. Only private contracts cite this.
use Rattle.std.specs.Prelude.{◌≡◌, ℕ, List, length, Some, None, Result, Ok, Err}
use Rattle.pe_core.specs.Refusals.{Refusal, Memory}
use Rattle.pe_unwind.specs.declared.function_table.RuntimeFunction.{RuntimeFunction}
use Rattle.pe_unwind.specs.Links.{Table}
use Rattle.pe_unwind.specs.UnwindRecord.{UnwindInfoView}
use Rattle.pe_plan.specs.Plans.{IsChain, PlansFrom}

-- the chain has n records up to its root
abbrev pub HasLength : Table → List ℕ → RuntimeFunction → ℕ → Type 0
HasLength t b f n = (is : List UnwindInfoView) × (length is ≡ n) × IsChain t b (Some f) is None

-- the result of counting the records of a chain, which never allocates
abbrev pub Counts : Table → List ℕ → RuntimeFunction → Result ℕ Refusal → Type 0
Counts t b f (Ok n) = HasLength t b f n
Counts t b f (Err Memory) = ⊥
Counts t b f (Err e) = PlansFrom t b f (Err e)

-- the result of taking the records of a chain that ends
abbrev pub Takes : Table → List ℕ → RuntimeFunction → Result (List UnwindInfoView) Refusal → Type 0
Takes t b f (Ok is) = IsChain t b (Some f) is None
Takes t b f (Err Memory) = Unit {0}
Takes t b f (Err other) = ⊥
