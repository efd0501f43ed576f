-- The names that proofs of this crate cite, passed on from one place. Declares nothing.
pub use Rattle.std.proofs.lemmas.List.{length-map, length-take-le, map_push, take_more, take_more_set, length-set}
pub use Rattle.std.proofs.lemmas.Result.{err_from_is_err_and}
pub use Rattle.pe_core.specs.Refusals.{Refusal, Memory, FunctionCycle, kind_of, outcome, ◌>>=◌}
pub use Rattle.pe_plan.specs.PlanSteps.{Counts, HasLength, Takes}
pub use Rattle.pe_plan.specs.Plans.{IsChain, HasChained, ComesTo, NeverEnds, PlansFrom, EndsAtRoot, Plans}
pub use Rattle.pe_plan.specs.ShortPlans.{PlansShort, PlansUpTo, most_records}
pub use Rattle.pe_unwind.specs.Links.{Table, IsEndless, links_by, links_with}
pub use Rattle.pe_unwind.specs.UnwindRecord.{UnwindInfoView, unwind_view, unwind_record, unwind_tests}
pub use Rattle.pe_unwind.specs.Unwinding.{Unwinds, record_at_address, record_at_offset}
pub use Rattle.pe_unwind.specs.declared.function_table.RuntimeFunction.{RuntimeFunction}
pub use Rattle.pe_unwind.specs.declared.unwind_info.UnwindInfo.{UnwindInfo}
