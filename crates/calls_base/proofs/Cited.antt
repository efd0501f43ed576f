-- The names that proofs of this crate cite, passed on from one place. Declares nothing.
pub use Rattle.std.proofs.lemmas.Bool.{cases_lt, cases_eq}
pub use Rattle.std.proofs.lemmas.Bool.Decides.{nat_tests}
pub use Rattle.std.proofs.lemmas.Grind.{drop_more_same}
pub use Rattle.std.proofs.lemmas.List.{drop-set-lt, length-take-le, take-append-drop, take_more_set, get_or_past, places, get_or_append_left, get_or_default, length-append, same_lists, get_or-set_other, get_or-set_same, length-drop, take_rest, drop-drop, drop-take}
pub use Rattle.std.proofs.lemmas.List.Quantifiers.{position-Some}
pub use Rattle.std.proofs.lemmas.Str.{utf16_chars_lone, utf16_chars_pair, is_utf8-from_IsUtf8}
pub use Rattle.std.specs.Int.{is_power_of_two}
pub use Rattle.std.specs.List.{position_or_len, slice_get, flat_map}
pub use Rattle.std.specs.Option.{option_and_then, option_map, unwrap_or}
pub use Rattle.std.specs.Prelude.{◌==◌, nat_lt, nat_eq, nat_le, slice_index_or, codes, max, position, slice_range, IsTrue}
pub use Rattle.std.specs.Str.{encode_utf8_all, IsUtf8, IsValidUpTo, valid_up_to, is_utf8}
pub use Rattle.calls_base.specs.EndedTexts.{truncated_text, ended, second_of}
unfoldable pub use Rattle.calls_base.specs.EndedTexts.{utf16_text}
pub use Rattle.calls_base.specs.Images.{map_of_image, PutsIf, PutsSectionsAt}
pub use Rattle.calls_base.specs.KeptSections.{ChangeNothing, HasAll, IsAlone, keeps_sections, map_kept, StepsKept}
pub use Rattle.calls_base.specs.Loaded.{PutsImage, PutsImageIf, loaded_of, StartedUntil, number_of_last, start_of_last}
pub use Rattle.calls_base.specs.Modes.{resolves}
pub use Rattle.calls_base.specs.NearMaps.{IsWindowOf, FindsWindow, IsWindow}
pub use Rattle.calls_base.specs.Ranges.{range_after, IsRange, bytes_at}
pub use Rattle.calls_base.specs.Runs.{ReturnsItems, IsOver, ReturnsReported}
pub use Rattle.calls_base.specs.SectionIndexes.{entries_needed, is_searched, HasIndex, IsIndexOf, MakesIndex, WritesIndex}
pub use Rattle.calls_base.specs.TextRuns.{IsEntryRun, IsTextRun}
unfoldable pub use Rattle.calls_base.specs.TextRuns.{run_text}
pub use Rattle.calls_base.specs.Views.{map_of, may_map}
pub use Rattle.calls_base.specs.declared.image.Image.{Image}
pub use Rattle.calls_base.specs.declared.kept_sections.KeptSections.{KeptSections}
pub use Rattle.calls_base.specs.declared.near_map.Window.{Window}
pub use Rattle.calls_base.specs.declared.ranges.Range.{Range}
pub use Rattle.calls_base.specs.declared.view.View.{View}
pub use Rattle.pe_core.proofs.EntryLists.{NoneIsZero, none_yet}
pub use Rattle.pe_core.proofs.Equality.{both}
pub use Rattle.pe_core.proofs.Ranges.{length_range, rest_of_range, byte_of_range, inside_if_held}
pub use Rattle.pe_core.specs.Bytes.{holds, range, le}
unfoldable pub use Rattle.pe_core.specs.Bytes.{splice}
pub use Rattle.pe_core.specs.Imports.{entry_size}
pub use Rattle.pe_core.specs.RangeIndexes.{first_number, number_at, Rises, EndBelow, Indexes}
pub use Rattle.pe_core.specs.Refusals.{Refusal, Short, outcome}
pub use Rattle.pe_core.specs.SectionMap.{covers, first, reach, raw_start, section_map}
unfoldable pub use Rattle.pe_core.specs.SectionMap.{offset_of}
pub use Rattle.pe_core.specs.declared.options.ParseOptions.{ParseOptions}
pub use Rattle.pe_core.specs.declared.range_index.RangeEntry.{RangeEntry}
pub use Rattle.pe_core.specs.declared.section_table.SectionTable.{SectionTable}
pub use Rattle.pe_directories.specs.LoadedImages.{in_turn, IsRun}
pub use Rattle.pe_lookup.proofs.Halving.{count_of, searched, grows, halved}
pub use Rattle.pe_lookup.proofs.IndexSearches.{start_of, skipped, turned_up, turned_down, started_at_0, start_inside}
pub use Rattle.pe_lookup.specs.SectionIndexes.{number_found, numbered, no_entry, started, start_by}
unfoldable pub use Rattle.pe_lookup.specs.SectionIndexes.{sections_by}
