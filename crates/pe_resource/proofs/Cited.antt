-- The names that proofs of this crate cite, passed on from one place. Declares nothing.
pub use Rattle.std.proofs.lemmas.Bool.{false≢true, cases_lt}
pub use Rattle.std.proofs.lemmas.Bool.Decides.{nat_tests}
pub use Rattle.std.proofs.lemmas.List.{places, take_all, drop_all, drop_more, append_assoc, same_lists, get_or_default, append-nil, get_or-map, length-map, drop-drop, map-id, get_or-replicate, length-replicate}
pub use Rattle.std.proofs.lemmas.Result.{err_from_is_err_and}
pub use Rattle.std.proofs.lemmas.Slice.Eq.{bytes_eq-Decides}
pub use Rattle.std.specs.Iterator.{Yields, YieldsFirstBy}
pub use Rattle.std.specs.List.{flat_map, list_all, list_any}
pub use Rattle.std.specs.Option.{is_some, option_map, option_or}
pub use Rattle.std.specs.Prelude.{◌&&◌, if◌then◌else◌, nat_lt, codes}
pub use Rattle.std.specs.Str.{bytes_eq, encode_utf8_all}
pub use Rattle.pe_core.proofs.HexDigits.{power_more, power_small, after-nil, after-digit, after-none, digit_small}
pub use Rattle.pe_core.proofs.NoMemory.{Lacks, outcome_lacks, then_lacks, if_lacks, one_test_lacks, memory_never}
pub use Rattle.pe_core.proofs.Pigeonhole.{stop_once, StopsAfter, follows_from_decides, goes_or_stops, last_state, never_stops, repeats, stops_at, after_more}
pub use Rattle.pe_core.proofs.Ranges.{length_range, rest_of_range, range_in_range}
pub use Rattle.pe_core.proofs.Steps.{same_inside, other_value, one_ok, one_err, not_both}
pub use Rattle.pe_core.specs.Bytes.{holds, range, record_at}
unfoldable pub use Rattle.pe_core.specs.Bytes.{le}
pub use Rattle.pe_core.specs.Chains.{after, KeyDecides, HasKeysBelow}
pub use Rattle.pe_core.specs.HexDigits.{digit_of, number_after}
pub use Rattle.pe_core.specs.Offsets.{IsWithin, bytes_in}
pub use Rattle.pe_core.specs.Refusals.{Refusal, ◌>>=◌, ReturnsAs, answer_by, Short, outcome, ResourceCycle, kind_of, Memory}
pub use Rattle.pe_core.specs.declared.byte_range.ByteRange.{ByteRange}
pub use Rattle.pe_core.specs.declared.data_directories.DataDirectory.{DataDirectory}
pub use Rattle.pe_core.specs.declared.error.Error.{Error}
pub use Rattle.pe_core.specs.declared.options.ParseOptions.{ParseOptions}
pub use Rattle.pe_core.specs.declared.section_table.SectionTable.{SectionTable}
pub use Rattle.pe_resource.specs.Contents.{map_of, IsThere, file_range, range_in, IsContentRange, content_of, IsContent, version_of_content, IsVersion, IsLeaf, file_bytes, inner}
unfoldable pub use Rattle.pe_resource.specs.Contents.{named_range}
pub use Rattle.pe_resource.specs.Leaves.{TreeRefusal, Image, leaf_of, leaves_of_name, leaves_of_type, leaves_from, tree_answer, leaves_left}
pub use Rattle.pe_resource.specs.ResourceEntries.{is_directory, data_offset, entry_at, entry_of_number, number_of, directory_offset, with_id, entries_left, resource_items_left}
unfoldable pub use Rattle.pe_resource.specs.ResourceEntries.{entries}
pub use Rattle.pe_resource.specs.ResourceWalk.{Walks, step, decided, passed_on, passes, IsEndlessWalk, Decides, IsSteady}
unfoldable pub use Rattle.pe_resource.specs.ResourceWalk.{first_at}
pub use Rattle.pe_resource.specs.VersionFields.{VersionView, file_strings, version_key, value_named, version_of_halves, high_half, low_half, fixed_info_in}
unfoldable pub use Rattle.pe_resource.specs.VersionFields.{fixed_info_of, version_in, value_range_in}
pub use Rattle.pe_resource.specs.VersionStrings.{VersionString, read, value_of, value_range, units, before_zero, key_length, is_name, is_plain, IsPlain, ArePlain, version_string_at, then_more, strings_in, all_read, string_view, value_bytes, ReturnsString, value_start, up_to_four, Strings, item_of}
unfoldable pub use Rattle.pe_resource.specs.VersionStrings.{strings, text, whole_string_at, string_and_next, value_offset, lengthened, value_ranges}
pub use Rattle.pe_resource.specs.declared.directory.ImageResourceDirectory.{ImageResourceDirectory}
pub use Rattle.pe_resource.specs.declared.entry.ResourceEntry.{ResourceEntry}
pub use Rattle.pe_resource.specs.declared.leaves.ResourceLeaf.{ResourceLeaf}
pub use Rattle.pe_resource.specs.declared.string.ResourceString.{ResourceString}
