use Rattle.std.proofs.Common.{rules, arith}
use Rattle.pe_directories.proofs.Cited.{common_steps, pushed}
use Rattle.pe_directories.proofs.DelayLists.{number_taken, no_number, one_offset, all_offsets}
use Rattle.pe_directories.proofs.delay_import.DelayImport.function_name_offsets.Goals as goal

pub loop-item-preserved : goal.loop-item-preserved
loop-item-preserved g c = grind (arith, common_steps, one_offset, number_taken, pushed)

pub returns : goal.returns
returns g c = search (rules, arith, all_offsets, no_number)
