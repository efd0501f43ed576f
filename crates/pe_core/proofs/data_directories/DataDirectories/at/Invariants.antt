use Rattle.std.proofs.Common.{◌≡◌, length, take}
use Rattle.pe_core.specs.Records.{data_directory}
use Rattle.pe_core.specs.Rows.{rows}
use Rattle.pe_core.proofs.data_directories.DataDirectories.at.Given as goal

-- the first i rows are read, of sixteen
abbrev pub invariant-loop-i : goal.invariant-loop-i
invariant-loop-i l = record {
  read : take l.i l.rows ≡ rows (data_directory l.bytes) 8 l.offset l.i;
  room : length l.rows ≡ 16;
}
