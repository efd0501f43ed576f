use Rattle.std.proofs.Common.{◌∙◌, arith, length-set, refl}
use Rattle.std.specs.Option.{option_map}
use Rattle.pe_pdb.specs.Ids.{types_view}
use Rattle.pe_pdb.specs.Walks.{step_view}
use Rattle.calls_pdb.specs.PdbInlined.{inlined_by}
use Rattle.calls_base.proofs.MappedRooms.{more_mapped, others_left}
use Rattle.calls_pdb.proofs.inlined.put_inlined.Goals as goal

pub loop-i-init : goal.loop-i-init
loop-i-init c = record { put = refl; rest = refl; same = refl }

pub loop-i-preserved : goal.loop-i-preserved
loop-i-preserved c =
    let kept = c.loop-i.invariant in
    record {
      put = more_mapped (inlined_by (step_view (option_map (λ b. b.now)) c.args.inlinees.now) (step_view types_view c.args.ids.now) c.args.starts.now) c.args.frames.now c.loop-i.room c.loop-i.i _ _ kept.put (omega arith) (omega arith) c.inlined_by.ensures;
      rest = others_left c.args.room.now c.loop-i.room c.loop-i.i _ kept.rest;
      same = length-set _ _ _ ∙ kept.same;
    }
