-- The names that proofs of this crate cite, passed on from one place. Declares nothing.
pub use Rattle.std.proofs.lemmas.Bool.Decides.{nat_tests}
pub use Rattle.std.proofs.lemmas.List.{length-replicate, append_assoc, append-nil, take_at, drop_at, drop_all, nil_from_length, drop-drop, drop_more, take-append-le, take-take, places, length-map}
pub use Rattle.std.proofs.lemmas.Result.{err_from_is_err_and}
pub use Rattle.std.specs.List.{flat_map, list_all}
pub use Rattle.std.specs.Prelude.{nat_le, codes, not, if◌then◌else◌, nat_lt}
pub use Rattle.pe_core.proofs.Equality.{both}
pub use Rattle.pe_core.proofs.HexDigits.{after-nil}
pub use Rattle.pe_core.proofs.Splices.{length-bytes_of, splice-splice}
pub use Rattle.pe_core.specs.Bytes.{le, range, holds, fit_at}
unfoldable pub use Rattle.pe_core.specs.Bytes.{bytes_of, splice}
pub use Rattle.pe_core.specs.Refusals.{Short, outcome, Refusal, WriteFit, ◌>>=◌}
pub use Rattle.pe_edit.proofs.Records.{few_enough, one_added, too_many, Added, all_within, one_too_many, sum_is}
pub use Rattle.pe_edit.proofs.Stands.{Stands, whole, left, right, number, part, moved, rest_of_number}
pub use Rattle.pe_edit.proofs.Writing.{Written, last_written, more_written, nothing_written, all_written, room_for}
pub use Rattle.pe_edit.specs.Views.{part_of}
unfoldable pub use Rattle.pe_edit.specs.Written.{total}
pub use Rattle.pe_resource.specs.VersionBlocks.{Block, BlockRefusal, BelowHead, PastEnd, blocks_end, blocks, fixed_info_of_block, string_tables, translation_at, translations, version_block}
unfoldable pub use Rattle.pe_resource.specs.VersionBlocks.{whole_block, own_bytes, first_block, children_with_key, translation_of_key, value_with_key}
pub use Rattle.pe_resource.specs.VersionFields.{VersionView, file_strings, fixed_info_in, value_named, version_key}
unfoldable pub use Rattle.pe_resource.specs.VersionFields.{fixed_info_at, fixed_info_of, version_in}
pub use Rattle.pe_resource.specs.VersionStrings.{units, before_zero, key_length, up_to_four, VersionString, strings, then_more, version_string_at, IsPlain, all_read, is_name, is_plain, read, text}
unfoldable pub use Rattle.pe_resource.specs.VersionStrings.{value_offset, lengthened, string_and_next, whole_string_at}
pub use Rattle.pe_resource.specs.declared.version.VsFixedFileInfo.{VsFixedFileInfo}
pub use Rattle.pe_resource.specs.declared.version_block.Translation.{Translation}
pub use Rattle.pe_version.specs.VersionRecords.{least_of_string, least_of_table, string_fits, strings_of, table_fits, table_of, text_of, value_at, version_at, each_made, Measured, capped, capped_length_of, table_made, tables_made, texts_made, variables_made, record_tests, records_version, value_of, pair_of}
unfoldable pub use Rattle.pe_version.specs.VersionRecords.{head_bytes}
pub use Rattle.pe_version.specs.VersionRefusals.{VersionRefusal, Image, block_of, block_tests, length_of, parts_of, written, TooLong, VersionReturns, key_fits, block_view}
pub use Rattle.pe_version.specs.VersionStrings.{flat, flat_table, padded, text_with_name, texts_of}
unfoldable pub use Rattle.pe_version.specs.VersionStrings.{flat_blocks}
pub use Rattle.pe_version.specs.VersionValues.{TableValue, TextValue, Value, blocks_of_table, strings_block, table_block, table_blocks, text_block, text_blocks, translation_block, variables_block, parent, translation_bytes, utf16, key_of, IsPair, NumbersFit, TablesHavePairs, four_digits, hex_digit, AllPairs, FixedFits, VersionRead, read_table, read_text, table_as_read}
unfoldable pub use Rattle.pe_version.specs.VersionValues.{all_blocks, root_block, version_of, fixed_bytes, as_read, read_root, version_read}
pub use Rattle.pe_version.specs.WrittenBlocks.{AllFit, BlockValue, Fits, NoZero, before_others, block_length, read_block, type_number, value_length, value_start, children_start, padded_length}
unfoldable pub use Rattle.pe_version.specs.WrittenBlocks.{block_bytes, blocks_bytes, padded_block}
pub use Rattle.pe_version.specs.declared.record.LanguageRecord.{LanguageRecord}
pub use Rattle.pe_version.specs.declared.record.StringRecord.{StringRecord}
pub use Rattle.pe_version.specs.declared.record.TableRecord.{TableRecord}
