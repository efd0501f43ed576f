use Rattle.std.proofs.Common.{arith}
use Rattle.pe_core.specs.Header.{header_view}
use Rattle.pe_rewrite.proofs.Loops.{index_found_at, index_missing}
use Rattle.pe_rewrite.proofs.place.section_index.Goals as goal

pub returns-then-section_header-rva : goal.returns-then-section_header-rva
returns-then-section_header-rva c =
    index_found_at c.args.bytes.now (header_view c.args.header.now) c.args.rva c.loop-index.index c.section_header.result (omega (arith, c.if-rva-eq0.false)) c.loop-index-test.true c.loop-index.invariant c.section_header.ensures c.if-section_header-rva.true

pub returns : goal.returns
returns c = index_missing c.args.bytes.now (header_view c.args.header.now) c.args.rva (omega (arith, c.if-rva-eq0.false)) (λ k lt. c.loop-index.invariant k (omega (arith, lt, c.loop-index-test.false)))
