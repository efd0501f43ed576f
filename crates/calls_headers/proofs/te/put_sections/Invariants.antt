use Rattle.std.proofs.Common.{◌≡◌, length, take, drop}
use Rattle.pe_core.specs.Rows.{rows}
use Rattle.calls_headers.specs.Headers.{te_section}
use Rattle.calls_headers.proofs.te.put_sections.Given as goal

-- the first i sections are read, and after them is what was there
abbrev pub invariant-loop-i : goal.invariant-loop-i
invariant-loop-i l = record {
  read : take l.i l.room ≡ rows (te_section l.fixup l.bytes) 40 40 l.i;
  kept : drop l.i l.room ≡ drop l.i l.initial.room;
  same : length l.room ≡ length l.initial.room;
}
