use Rattle.std.proofs.Common.{◌≡◌, drop, length, map, take}
use Rattle.std.specs.Option.{option_map}
use Rattle.pe_pdb.specs.Ids.{types_view}
use Rattle.pe_pdb.specs.Walks.{step_view}
use Rattle.calls_pdb.specs.PdbInlined.{inlined_by}
use Rattle.calls_pdb.proofs.inlined.put_inlined.Given as goal

-- the first i are written, and the others as they were
abbrev pub invariant-loop-i : goal.invariant-loop-i
invariant-loop-i l = record {
  put : take l.i l.room ≡ map (inlined_by (step_view (option_map (λ b. b.now)) l.inlinees) (step_view types_view l.ids) l.starts) (take l.i l.frames);
  rest : drop l.i l.room ≡ drop l.i l.fn.room;
  same : length l.room ≡ length l.fn.room;
}
