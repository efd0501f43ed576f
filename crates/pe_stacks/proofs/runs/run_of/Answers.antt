use Rattle.std.proofs.Common.{◌<◌, ◌-◌, ◌^◌, length, inl, inr, arith, rules, sym, subst, ◌∙◌, get_or}
use Rattle.pe_frame.specs.declared.memory_list.MemoryPiece.{MemoryPiece}
use Rattle.pe_stacks.specs.MemoryRuns.{IsRunOf}
use Rattle.pe_core.specs.declared.range_index.RangeEntry.{RangeEntry}
use Rattle.pe_stacks.proofs.RunSteps.{named_has, named_within, no_run_of, part_run_of}
use Rattle.pe_stacks.proofs.runs.run_of.Goals as goal
use Rattle.pe_stacks.proofs.runs.run_of.Goals.{then-entry-eq0-via-then-entry-eq0, then-entry-eq0-via-else-entry-eq0+then-most-eq0}

pub returns-then-entry-eq0 : goal.returns-then-entry-eq0
returns-then-entry-eq0 c = no_run_of _ _ c.requires.index _ c.requires.within _ (elim c.then-entry-eq0.branch [
  | then-entry-eq0-via-then-entry-eq0 w ↦ inl w.if-entry-eq0.true
  | then-entry-eq0-via-else-entry-eq0+then-most-eq0 w ↦ inr (sym c.addresses_of-most.ensures ∙ w.if-most-eq0.true)
])

pub offset_bounds-pieces-entry : goal.offset_bounds-pieces-entry
offset_bounds-pieces-entry c =
    let z : RangeEntry = record { start = 0; number = 0 } in
    let small : (get_or c.args.entries.now c.args.index z).start < 2 ^ 64 = search rules in
    let below : (get_or c.args.entries.now c.args.index z).number - 1 < length c.args.pieces.now = named_within _ _ c.requires.index _ c.requires.within z small (omega (arith, c.addresses_of-most.ensures)) (omega arith) in
    search rules

pub bounds-pieces-entry : goal.bounds-pieces-entry
bounds-pieces-entry c =
    let z : RangeEntry = record { start = 0; number = 0 } in
    let small : (get_or c.args.entries.now c.args.index z).start < 2 ^ 64 = search rules in
    named_within _ _ c.requires.index _ c.requires.within z small (omega (arith, c.addresses_of-most.ensures)) (omega arith)

pub part_of-requires-clause-has : goal.part_of-requires-clause-has
part_of-requires-clause-has c =
    let z : RangeEntry = record { start = 0; number = 0 } in
    let small : (get_or c.args.entries.now c.args.index z).start < 2 ^ 64 = search rules in
    named_has _ _ c.requires.index _ c.requires.within z _ small (omega (arith, c.addresses_of-most.ensures)) (omega arith)

pub returns : goal.returns
returns c =
    let z : RangeEntry = record { start = 0; number = 0 } in
    let small : (get_or c.args.entries.now c.args.index z).start < 2 ^ 64 = search rules in
    subst (λ (r : MemoryPiece). IsRunOf c.args.pieces.now c.args.entries.now c.args.index r) (sym c.part_of.ensures)
    (part_run_of _ _ c.requires.index _ c.requires.within z _ _ small c.addresses_of-most.ensures (omega arith) (omega arith) c.requires.low)
