use Rattle.std.proofs.Common.{◌≡◌, ◌+◌, ◌∙◌, true, get_or, refl, sym, arith}
use Rattle.std.proofs.lemmas.List.{get_or_default}
use Rattle.std.proofs.lemmas.List.Folds.{list_all_more}
use Rattle.pe_core.specs.Bytes.{holds}
use Rattle.pe_frame.specs.declared.memory_list.MemoryPiece.{MemoryPiece}
use Rattle.pe_lookup.proofs.Lookups.{one_more}
use Rattle.pe_frame.proofs.memory_list.are_in_order.Goals as goal

pub loop-piece-preserved : goal.loop-piece-preserved
loop-piece-preserved c =
    let bytes = c.args.bytes.now in
    let pieces = c.args.pieces.now in
    let i = c.loop-piece.piece-index in
    let none : MemoryPiece = record { start = 0; offset = 0; length = 0 } in
    let piece = get_or pieces i none in
    let here : holds bytes piece.offset piece.length ≡ true = sym c.lies_in.ensures ∙ c.if-not-lies_in.false in
    let more = one_more (λ p. p.start) (λ p. p.length) pieces i (c.loop-piece.start + c.loop-piece.size) piece c.loop-piece-test.true (get_or_default pieces i none piece c.loop-piece-test.true)
    c.loop-piece.invariant.ascend c.loop-piece.invariant.ends (omega (arith, c.if-next-start.false, c.if-next-start-2.false)) in
    record {
      inside = list_all_more (λ p. holds bytes p.offset p.length) pieces i none c.loop-piece-test.true ∙ rw (c.loop-piece.invariant.inside, here) refl;
      ascend = more.0;
      ends = more.1;
    }

pub returns-clause-ascending : goal.returns-clause-ascending
returns-clause-ascending c is j k d less lt = c.loop-piece.invariant.ascend j k d less (omega arith)
