-- The names that proofs of this crate cite, passed on from one place. Declares nothing.
pub use Rattle.std.proofs.lemmas.Bool.Decides.{nat_tests}
pub use Rattle.std.proofs.lemmas.Grind.{common_steps}
pub use Rattle.std.proofs.lemmas.List.{append-nil, length-map, append_assoc, length-replicate, places, same_lists, take_all, get_or_default, map-append, drop_all, get_or-map, take_rest}
pub use Rattle.std.proofs.lemmas.Slice.{pushed}
pub use Rattle.std.specs.Borrow.{Bor}
pub use Rattle.std.specs.Iterator.{Drains, Yields}
pub use Rattle.std.specs.List.{AllByRecursion, fold}
pub use Rattle.std.specs.Option.{option_map, is_some}
pub use Rattle.std.specs.Prelude.{slice_index, if◌then◌else◌, IfSome}
pub use Rattle.pe_core.proofs.EntryItems.{each_same, get_or-each, length-each}
pub use Rattle.pe_core.proofs.Ranges.{length_range, byte_of_range}
pub use Rattle.pe_core.proofs.Splices.{length-splice, splice-splice, length-bytes_of}
pub use Rattle.pe_core.specs.Bytes.{range, AreBytes, holds}
unfoldable pub use Rattle.pe_core.specs.Bytes.{splice, le, bytes_of}
pub use Rattle.pe_core.specs.Refusals.{◌>>=◌, Short, outcome}
unfoldable pub use Rattle.pe_core.specs.Rows.{each}
pub use Rattle.pe_core.specs.SectionMap.{covers, first, raw_start, reach}
unfoldable pub use Rattle.pe_core.specs.SectionMap.{offset_of}
pub use Rattle.pe_core.specs.Text.{text_at, texts_of}
pub use Rattle.pe_core.specs.declared.section_table.SectionTable.{SectionTable}
pub use Rattle.pe_directories.specs.BaseRelocations.{Block, block_view, blocks_left, page_of, relocations_left}
unfoldable pub use Rattle.pe_directories.specs.BaseRelocations.{first_block, first_relocation}
pub use Rattle.pe_directories.specs.Clr.{stream_view, first_stream, streams_left, Stream}
unfoldable pub use Rattle.pe_directories.specs.Clr.{name_field}
pub use Rattle.pe_directories.specs.DelayImportSteps.{AreItemNames, entry_items, item_offset, table_items, function_name_offset, dll_name_offset}
pub use Rattle.pe_directories.specs.DelayImports.{delay_imports_left, delay_imports_end, delay_import_at, imported_by, function_view, dll_of, dll_view}
unfoldable pub use Rattle.pe_directories.specs.DelayImports.{first_delay_import}
pub use Rattle.pe_directories.specs.DirectoryRefusals.{DirectoryRefusal, directory_answer, Image, UnlessNoMemory, directory_kind_of}
pub use Rattle.pe_directories.specs.GuardTables.{guarded_view, flag_size_of, guarded_left, Guarded}
unfoldable pub use Rattle.pe_directories.specs.GuardTables.{first_guarded}
pub use Rattle.pe_directories.specs.LoadedImages.{IsRun, byte_or_zero, in_turn, loaded_byte, loaded}
pub use Rattle.pe_directories.specs.Relocated.{AllPassBy, AllStand, all_moved, stands_in, IsOutside, blocks_moved, passes_by, relocated, words_of, base_words, block_words, word_of}
unfoldable pub use Rattle.pe_directories.specs.Relocated.{moved}
pub use Rattle.pe_directories.specs.RichHeader.{Rich, rich_from, rich_view, word, plus, entry_share, stub_sum, stub_share}
unfoldable pub use Rattle.pe_directories.specs.RichHeader.{last_rich, next_rich, rich_header}
pub use Rattle.pe_directories.specs.VaTables.{vas_left, vas_are_64}
unfoldable pub use Rattle.pe_directories.specs.VaTables.{first_va}
pub use Rattle.pe_directories.specs.Walks.{Steps, HasOneList, ItemsLeft, First, Items, with_more}
unfoldable pub use Rattle.pe_directories.specs.Walks.{each_read, first_items, all_items}
pub use Rattle.pe_directories.specs.declared.base_relocation.BaseRelocation.{BaseRelocation}
pub use Rattle.pe_directories.specs.declared.base_relocation.BaseRelocations.{BaseRelocations}
pub use Rattle.pe_directories.specs.declared.base_relocation.RelocationBlock.{RelocationBlock}
pub use Rattle.pe_directories.specs.declared.base_relocation.RelocationBlocks.{RelocationBlocks}
pub use Rattle.pe_directories.specs.declared.delay_import.DelayImport.{DelayImport}
pub use Rattle.pe_directories.specs.declared.delay_import.DelayImports.{DelayImports}
pub use Rattle.pe_directories.specs.declared.error.DirectoryError.{DirectoryError}
pub use Rattle.pe_directories.specs.declared.relocating.Word.{Word}
pub use Rattle.pe_directories.specs.declared.section_runs.Run.{Run}
pub use Rattle.pe_directories.specs.declared.va_table.VaTable.{VaTable}
