use Rattle.std.proofs.Common.{map}
use Rattle.pe_directories.proofs.Cited.{dll_of, dll_view, dll_name_offset, entry_items}
use Rattle.pe_directories.proofs.DelayLists.{NamesLeft}
use Rattle.pe_directories.proofs.WalkLists.{ReadSoFar}
use Rattle.pe_directories.proofs.delay_import_list.named_dlls.Given as goal

-- the DLLs so far, and the names of the entries that are left
abbrev pub invariant-loop-name : goal.invariant-loop-name
invariant-loop-name g l = record {
  read : ReadSoFar (dll_of l.image) (entry_items l.initial.entries) (entry_items l.entries) (map dll_view l.dlls.items);
  names : NamesLeft l.image.bytes (dll_name_offset l.image) (entry_items l.entries) l.names l.name-index;
}
