-- The names that proofs of this crate cite, passed on from one place. Declares nothing.
pub use Rattle.std.proofs.lemmas.Bool.{false≢true, and_left}
pub use Rattle.std.proofs.lemmas.Bool.Decides.{nat_tests}
pub use Rattle.std.proofs.lemmas.List.{length-replicate, append_assoc, drop_all, length-map, take-map, map-append, drop_more, drop-drop, length-take-le, take-append-drop, append-nil, take_at, drop_at}
pub use Rattle.std.specs.Borrow.{Bor}
pub use Rattle.std.specs.List.{flat_map, find, list_all}
pub use Rattle.std.specs.Prelude.{nat_le, if◌then◌else◌, nat_lt, length}
pub use Rattle.pe_core.proofs.Equality.{both}
pub use Rattle.pe_core.proofs.Splices.{length-bytes_of, splice-splice, length-splice}
pub use Rattle.pe_core.specs.Bytes.{bytes_of, holds, range, fit_at}
unfoldable pub use Rattle.pe_core.specs.Bytes.{splice, le}
pub use Rattle.pe_core.specs.Refusals.{Short, outcome, ◌>>=◌, Refusal, WriteFit}
pub use Rattle.pe_core.specs.SectionMap.{rounded_up}
pub use Rattle.pe_resource.specs.Leaves.{TreeRefusal, in_table, tree_leaves, Image, NotDirectory, NoEntries}
unfoldable pub use Rattle.pe_resource.specs.Leaves.{table_below, leaf_of, leaves_of_name, leaves_of_type, name_units}
pub use Rattle.pe_resource.specs.ResourceEntries.{entries, has_id, has_name, name_offset, with_id, is_directory, directory_offset}
pub use Rattle.pe_resource.specs.VersionStrings.{units}
pub use Rattle.pe_resource.specs.declared.entry.ResourceEntry.{ResourceEntry}
pub use Rattle.pe_edit.specs.EditRefusals.{leaf_tests, length_of, section_of, written}
pub use Rattle.pe_edit.specs.Found.{as_read, entries_below, entries_of, found_language, found_name, found_type, has_key, is_key, with_key, has_keys, with_keys}
unfoldable pub use Rattle.pe_edit.specs.Found.{found_leaf}
pub use Rattle.pe_edit.specs.Levels.{AllPartsFit, PartsFit, key_at, names_total, parts_total, runs_of, size_at, IsRunAt, above, after_directory, measure_of, after_entries, key_of_run, size_of_run, measured_of, alike, end_below}
unfoldable pub use Rattle.pe_edit.specs.Levels.{directories_at}
pub use Rattle.pe_edit.specs.RecordRefusals.{names_length, record_fits, sum_within, Contents, content_length}
pub use Rattle.pe_edit.specs.Reread.{LeafRefusal, read_key, read_item, key_by, read_content, first_entries, leaves_in}
unfoldable pub use Rattle.pe_edit.specs.Reread.{read_leaf}
pub use Rattle.pe_edit.specs.Runs.{elements, in_front}
unfoldable pub use Rattle.pe_edit.specs.Runs.{runs, run_length}
pub use Rattle.pe_edit.specs.Sorted.{key_before, leaf_before, units_before}
unfoldable pub use Rattle.pe_edit.specs.Sorted.{is_sorted}
pub use Rattle.pe_edit.specs.Views.{key_view, no_leaf, leaf_view, leaf_views, record_leaf}
pub use Rattle.pe_edit.specs.Written.{Accepted, Leaf, below_size, name_key, name_size, names, names_size, padded_size, resource_size, same_resource, type_key, type_size, data_entry, name_bytes, padded_content, padded_length, entry_size, language_key, named, unnamed, Id, Key, Name, NameFits, key_number, Each, KeyFits, LeafFits, key_eq, same_type, Fits, NamesFit, KeyNumber, Numbers, name_fits, names_fit}
unfoldable pub use Rattle.pe_edit.specs.Written.{contents, data_entries, directory_to, layout_of, resource_tables, resources_of, section, section_at, section_length, total, type_tables, types_of, entries_to}
pub use Rattle.pe_edit.specs.declared.directories.Cursor.{Cursor}
pub use Rattle.pe_edit.specs.declared.layout.Layout.{Layout}
pub use Rattle.pe_edit.specs.declared.level.Level.{Level}
pub use Rattle.pe_edit.specs.declared.level.Measure.{Measure}
pub use Rattle.pe_edit.specs.declared.record.ResourceRecord.{ResourceRecord}
pub use Rattle.pe_edit.specs.declared.section.Measured.{Measured}
