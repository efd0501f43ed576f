use Rattle.std.proofs.Common.{◌≡◌, ◌<◌, ◌==◌, ℕ, false}
use Rattle.pe_rewrite.proofs.Cited.{header_view, section_header}
use Rattle.pe_rewrite.proofs.place.section_index.Given as goal

-- no section so far starts there
abbrev pub invariant-loop-index : goal.invariant-loop-index
invariant-loop-index l = (k : ℕ) → k < l.index → ((section_header l.bytes (header_view l.header) k).virtual_address == l.rva) ≡ false
