use Rattle.std.proofs.Common.{arith, rules}
use Rattle.pe_core.specs.declared.data_directories.DataDirectory.{DataDirectory}
use Rattle.pe_image.proofs.Laid.{rows_first, rows_next}
use Rattle.pe_image.proofs.write.records.set_directories.Goals as goal

abbrev none : DataDirectory
none = record { virtual_address = 0; size = 0 }

pub loop-i-init : goal.loop-i-init
loop-i-init c = rows_first c.args.buffer.now c.args.offset c.args.rows.now (omega arith)

pub loop-i-preserved : goal.loop-i-preserved
loop-i-preserved c = search (rules, arith, rows_next)
