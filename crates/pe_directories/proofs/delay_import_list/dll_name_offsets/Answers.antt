use Rattle.std.proofs.Common.{rules, arith}
use Rattle.pe_directories.proofs.Cited.{common_steps, pushed}
use Rattle.pe_directories.proofs.DelayLists.{entry_taken, no_entry, one_offset, all_offsets}
use Rattle.pe_directories.proofs.delay_import_list.dll_name_offsets.Goals as goal

pub loop-item-preserved : goal.loop-item-preserved
loop-item-preserved g c = grind (arith, common_steps, one_offset, entry_taken, pushed)

pub returns : goal.returns
returns g c = search (rules, arith, all_offsets, no_entry)
