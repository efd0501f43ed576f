use Rattle.std.proofs.Common.{◌*◌, take}
use Rattle.pe_image.proofs.Cited.{flat_map, spell_directory}
use Rattle.pe_image.proofs.Laid.{Laid}
use Rattle.pe_image.proofs.write.records.set_directories.Given as goal

abbrev pub invariant-loop-i : goal.invariant-loop-i
invariant-loop-i l = Laid l.fn.buffer l.offset (8 * l.i) l.buffer (flat_map spell_directory (take l.i l.rows))
