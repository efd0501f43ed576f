use Rattle.std.proofs.Common.{◌∙◌, ap, sym, arith, Some, take, length-set}
use Rattle.std.proofs.lemmas.List.{take_more_set}
use Rattle.pe_frame.specs.MemoryLists.{listed_byte}
use Rattle.pe_frame.proofs.Pieces.{byte_more}
use Rattle.pe_stacks.proofs.memory.IndexedMemoryMemory.u64_at.Goals as goal

pub loop-index-preserved : goal.loop-index-preserved
loop-index-preserved g c =
    let kept = c.loop-index.invariant in (
      rw length-set kept.0,
      byte_more (listed_byte c.args.self.now.bytes.now c.args.self.now.pieces.ranges.now) c.args.address c.loop-index.index c.in_ok-bytes.field-0 (take c.loop-index.index c.loop-index.bytes) kept.1 (sym c.in_ok-bytes.ensures)
          ∙ ap (λ bs. Some bs) (sym (take_more_set c.loop-index.bytes c.loop-index.index c.in_ok-bytes.field-0 (omega (arith, kept.0)))),
    )
