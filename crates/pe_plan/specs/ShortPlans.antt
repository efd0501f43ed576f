-- Plans of few records, which take no memory.
use Rattle.std.specs.Prelude.{ℕ, ◌<◌, ◌≤◌, List, length, map, take, Option, Some, None, Result, Ok, Err}
use Rattle.pe_core.specs.Refusals.{Refusal}
use Rattle.pe_unwind.specs.declared.function_table.RuntimeFunction.{RuntimeFunction}
use Rattle.pe_unwind.specs.Links.{Table}
use Rattle.pe_unwind.specs.UnwindRecord.{UnwindInfoView, unwind_view}
use Rattle.pe_unwind.specs.Unwinding.{Unwinds}
use Rattle.pe_plan.specs.declared.short_plan.ShortPlan.{ShortPlan}
use Rattle.pe_plan.specs.Plans.{IsChain, HasChained}

-- how many records a short plan has at most
abbrev pub most_records : ℕ
most_records = 32

-- the records of a short plan
abbrev pub records_of : ShortPlan → List UnwindInfoView
records_of p = map unwind_view (take p.count p.records)

-- The records of a function up to the root of its chain, if there are at most so many. `None` where as many are each chained
-- to another, as in each chain of records that never ends. A refusal is that of a function among the first so many, whose
-- record cannot be read.
abbrev pub PlansShort : Table → List ℕ → RuntimeFunction → Result (Option (List UnwindInfoView)) Refusal → Type 0
PlansShort t b f (Ok (Some is)) = IsChain t b (Some f) is None × (length is ≤ most_records)
PlansShort t b f (Ok None) = HasChained t b (Some f) most_records
PlansShort t b f (Err refusal) =
    (is : List UnwindInfoView) × (g : RuntimeFunction) × (length is < most_records) × IsChain t b (Some f) is (Some g)
    × Unwinds t b g.unwind_info_address (Err refusal)

-- The same of at most n records.
abbrev pub PlansUpTo : ℕ → Table → List ℕ → RuntimeFunction → Result (Option (List UnwindInfoView)) Refusal → Type 0
PlansUpTo n t b f (Ok (Some is)) = IsChain t b (Some f) is None × (length is ≤ n)
PlansUpTo n t b f (Ok None) = HasChained t b (Some f) n
PlansUpTo n t b f (Err refusal) =
    (is : List UnwindInfoView) × (g : RuntimeFunction) × (length is < n) × IsChain t b (Some f) is (Some g)
    × Unwinds t b g.unwind_info_address (Err refusal)
