use Rattle.std.proofs.Common.{◌≡◌}
use Rattle.pe_rewrite.proofs.Cited.{fold, header_view, each, section_header, later_end}
use Rattle.pe_rewrite.proofs.room.data_end.Given as goal

-- the end of the first sections
abbrev pub invariant-loop-index : goal.invariant-loop-index
invariant-loop-index l = record {
  added : l.end ≡ fold later_end l.target.size_of_headers (each (section_header l.bytes (header_view l.header)) l.index);
}
