-- The names that proofs of this crate cite, passed on from one place. Declares nothing.
pub use Rattle.std.proofs.Math.Nat.{add-mul, le-div_iff_mul-le, lt-div-mul-add, mul-le-mul_right, one-mul, mul-mod_left, div-mul-le_self}
pub use Rattle.std.proofs.lemmas.Bool.{cases_lt, or_parts, or_right}
pub use Rattle.std.proofs.lemmas.Bool.Decides.{nat_tests}
pub use Rattle.std.proofs.lemmas.List.{ext_get_or, get_or-drop, length-drop, drop_at, take-append-drop, take_at, length-take-le, length-replicate, get_or-append_right, get_or-replicate, get_or-take, get_or_append_left, length-set, take_all, get_or-set_other, get_or-set_same, append_assoc, places, append-nil, drop_all}
pub use Rattle.std.proofs.lemmas.List.Sums.{position_or_len_is, passes_at_first}
pub use Rattle.std.proofs.lemmas.Result.{err_from_is_err_and}
pub use Rattle.std.specs.Int.{is_power_of_two}
pub use Rattle.std.specs.List.{list_all, position_or_len, fold}
pub use Rattle.std.specs.Option.{option_map}
pub use Rattle.std.specs.Prelude.{nat_le, if◌then◌else◌, nat_lt, filter, not, slice_range, replicate}
pub use Rattle.pe_core.proofs.Comparisons.{lt_is, lt_is_not, le_is}
pub use Rattle.pe_core.proofs.EntryItems.{get_or-each, length-each, each_same}
pub use Rattle.pe_core.proofs.Equality.{both}
pub use Rattle.pe_core.proofs.Map.{positive, same_some}
pub use Rattle.pe_core.proofs.NumberBytes.{le-same, le_small}
pub use Rattle.pe_core.proofs.Ranges.{range_in_range, byte_of_range}
pub use Rattle.pe_core.proofs.Splices.{get_or-splice, length-bytes_of, length-splice, splice-splice}
pub use Rattle.pe_core.specs.Bytes.{fit_at, AreBytes, range}
unfoldable pub use Rattle.pe_core.specs.Bytes.{splice, le, bytes_of}
pub use Rattle.pe_core.specs.Directories.{absent_directory, kept}
pub use Rattle.pe_core.specs.Header.{HeaderView, OptionalHeaderView, directories_offset, is_pe32_plus, header_view, optional_header_view}
unfoldable pub use Rattle.pe_core.specs.Header.{header_at, optional_header, optional_header_tests, header}
unfoldable pub use Rattle.pe_core.specs.Records.{section_table, data_directory, dos_header, coff_header, standard_fields_32, standard_fields_64, windows_fields_32, windows_fields_64}
pub use Rattle.pe_core.specs.Refusals.{Refusal, WriteFit, outcome, ◌>>=◌}
pub use Rattle.pe_core.specs.Rows.{rows}
unfoldable pub use Rattle.pe_core.specs.Rows.{each}
pub use Rattle.pe_core.specs.SectionMap.{section_map, covers, first, offset_by, raw_start, rounded_up}
unfoldable pub use Rattle.pe_core.specs.SectionMap.{offset_of}
pub use Rattle.pe_core.specs.Sections.{sections_offset, raw_end}
unfoldable pub use Rattle.pe_core.specs.Spelling.{spell_section}
pub use Rattle.pe_core.specs.declared.data_directories.DataDirectory.{DataDirectory}
pub use Rattle.pe_core.specs.declared.options.ParseMode.{ParseMode}
pub use Rattle.pe_core.specs.declared.options.ParseOptions.{ParseOptions}
pub use Rattle.pe_core.specs.declared.section_table.SectionTable.{SectionTable}
pub use Rattle.pe_directories.proofs.WordsLeft.{items_of_block, no_relocation, relocation_taken, relocations_of, block_taken, items_of_table, no_block, blocks_of}
pub use Rattle.pe_directories.specs.BaseRelocations.{block_view, page_of}
pub use Rattle.pe_edit.proofs.SectionRead.{length_of_section, section_read, is_layout, parts_stand}
pub use Rattle.pe_edit.proofs.Stands.{Stands, left, number, part, right}
pub use Rattle.pe_edit.proofs.Tests.{passes, section_fits, section_is, section_is_sorted, accepted_fit}
pub use Rattle.pe_edit.specs.EditRefusals.{section_of, EditRefusal}
pub use Rattle.pe_edit.specs.Reread.{first_entries, leaves_in, read_item}
unfoldable pub use Rattle.pe_edit.specs.Reread.{read_leaf}
pub use Rattle.pe_edit.specs.Views.{leaf_views}
pub use Rattle.pe_edit.specs.Written.{Leaf, Accepted, Each, Numbers, Fits, same_type, section_at, type_key, type_size}
unfoldable pub use Rattle.pe_edit.specs.Written.{section, section_length, layout_of, types_of}
unfoldable pub use Rattle.pe_records.specs.DebugDirectory.{debug_entry_at}
pub use Rattle.pe_resource.specs.Contents.{file_bytes}
pub use Rattle.pe_resource.specs.Leaves.{tree_leaves, TreeRefusal, resource_tree}
pub use Rattle.pe_resource.specs.declared.leaves.ResourceLeaf.{ResourceLeaf}
pub use Rattle.pe_sign.proofs.Digests.{range_below, range_past}
pub use Rattle.pe_sign.proofs.HeadersStay.{wide, headers_change, Stays, end_is, magic_is, minus, one_set, Parsed, parsed, plus, same_range, some_optional}
pub use Rattle.pe_sign.proofs.SectionRows.{one_fails, all_more}
pub use Rattle.pe_sign.proofs.Splices.{splice_first, splice_front}
pub use Rattle.pe_sign.proofs.Tests.{passed, value_is}
pub use Rattle.pe_sign.proofs.WrittenHeaders.{same_ok}
pub use Rattle.pe_sign.specs.WrittenHeaders.{directories_end, directories_end_after, headers_changed}
pub use Rattle.pe_rewrite.specs.Edited.{CanMove, GoneLies, Inside, Lies, at_end, cleared_file, edited_file, edited_length, edited_of, gone_file, in_place, moved_file, or_at_end, removed_of, stayed_file, wants_room, with_pointers, without_section, written, RoomLies, moved_pointer, pointer_at, EntriesLie, PointersFit, is_pointer, FieldsLie, changed, emptied_file, room_changes, sum_of, grown_size, is_moved_over, is_written, sum_by, resource_changes}
unfoldable pub use Rattle.pe_rewrite.specs.Edited.{roomy_file, pointers_moved, with_zeros, cut, with_sum, with_resources, filled}
pub use Rattle.pe_rewrite.specs.Places.{header_tests, place_of, target_of, debug_entries, directory_at, section_headers, debug_apart, entries_apart, entry_apart, grows_clear, index_of, is_alone, is_apart, is_clear, is_outside, leads_out, section_header, sections_apart, pages_end, has_data, headers_end, is_absent, length_at, place_at, section_tests, symbols_apart, target_by, data_apart, debug_data_apart}
pub use Rattle.pe_rewrite.specs.Relocations.{is_beside, item_beside}
pub use Rattle.pe_rewrite.specs.Removals.{emptied_of, gone_of, ends_table, gone_at, gone_tests, data_before}
pub use Rattle.pe_rewrite.specs.RewriteRefusals.{RewriteRefusal, Image, RewriteReturns, RewriteReturnsWritten, NoSection, of_leaves, ImageTooLarge, DebugData, SharedSection, Overlap}
pub use Rattle.pe_rewrite.specs.Rooms.{room_of, moved, debug_moves, entries_lie, entry_moves, is_before_or_same, is_last, data_moves, is_before, is_u32, room_at, table_end, own_section, room_beside, rvas_tests, count_with, are_u32, data_end, ends_data, enlarged, has_header, image_end, new_room, new_section, or_else, own_room, room_tests, room_with, sizes_of, symbols_move, later_end}
pub use Rattle.pe_rewrite.specs.WrittenImages.{entries_at, entry_offset, moved_entry, entry_of, headers_roomy, is_emptied_at, is_emptied_over, is_gone_over, optional_roomy, coff_roomy, edited_headers, leaves_of_image, resized, sections_with, mapped_item}
unfoldable pub use Rattle.pe_rewrite.specs.WrittenImages.{mapped_leaf}
pub use Rattle.pe_rewrite.specs.declared.debug.DebugEntries.{DebugEntries}
pub use Rattle.pe_rewrite.specs.declared.place.Place.{Place}
pub use Rattle.pe_rewrite.specs.declared.place.Target.{Target}
pub use Rattle.pe_rewrite.specs.declared.room.LastSection.{LastSection}
pub use Rattle.pe_rewrite.specs.declared.room.Room.{Room}
