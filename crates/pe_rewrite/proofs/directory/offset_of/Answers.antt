use Rattle.std.proofs.Common.{Some, sym, rules, arith}
use Rattle.pe_rewrite.proofs.Cited.{header_view, section_header}
use Rattle.pe_rewrite.proofs.Mapped.{map_found, map_next, one_section}
use Rattle.pe_rewrite.proofs.directory.offset_of.Goals as goal

pub returns-in-Some : goal.returns-in-Some
returns-in-Some c =
    let f = section_header c.args.bytes.now (header_view c.args.header.now) in
    let i = c.loop-index.index in
    sym (map_found c.args.alignment c.args.rva c.in-Some.offset c.args.header.now.coff_header.number_of_sections i f c.loop-index-test.true c.loop-index.invariant
    (one_section c.default-options.result c.args.alignment c.args.rva c.section_header-section.result (f i) (Some c.in-Some.offset) c.default-options.ensures c.section_header-section.ensures c.in-Some.ensures))

pub loop-index-preserved : goal.loop-index-preserved
loop-index-preserved c = search (rules, arith, map_next, one_section)
