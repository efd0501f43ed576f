use Rattle.std.proofs.Common.{◌≡◌, true, None}
use Rattle.pe_rewrite.proofs.Cited.{header_view, each, offset_of, section_header}
use Rattle.pe_rewrite.proofs.directory.offset_of.Given as goal

-- no section so far covers the RVA
abbrev pub invariant-loop-index : goal.invariant-loop-index
invariant-loop-index l = offset_of true l.alignment (each (section_header l.bytes (header_view l.header)) l.index) l.rva ≡ None
