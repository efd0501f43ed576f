-- The names that proofs of this crate cite, passed on from one place. Declares nothing.
pub use Rattle.std.proofs.lemmas.Bool.{or_right, cases_lt}
pub use Rattle.std.proofs.lemmas.Bool.Decides.{nat_tests}
pub use Rattle.std.proofs.lemmas.List.{places, length-take-le, ext_get_or, append-nil, take_at, take_all, take-append-le, take-append-drop, length-take, length-drop, length-set, get_or-set_same, get_or-set_other, drop-drop, append_assoc, drop_all, length-append, drop-append-le, length-replicate, same_lists, drop_at, get_or-append-add}
pub use Rattle.std.proofs.lemmas.Result.{err_from_is_err_and}
pub use Rattle.std.specs.List.{fold, list_all}
pub use Rattle.std.specs.Prelude.{nat_le, nat_lt, not, Result, if◌then◌else◌, slice_range, min, slice_index_or}
pub use Rattle.pe_core.proofs.Comparisons.{le_is, or_false}
pub use Rattle.pe_core.proofs.EntryItems.{each_same, length-each, get_or-each}
pub use Rattle.pe_core.proofs.NumberBytes.{le-same, bytes_of-le}
pub use Rattle.pe_core.proofs.Splices.{length-splice, get_or-splice, length-bytes_of, splice-splice}
pub use Rattle.pe_core.specs.Bytes.{le, bytes_of, holds, put, fit_at, AreBytes, range}
unfoldable pub use Rattle.pe_core.specs.Bytes.{splice}
pub use Rattle.pe_core.specs.Directories.{absent_directory, kept, present}
pub use Rattle.pe_core.specs.Header.{HeaderView, OptionalHeaderView, directories_offset, is_pe32_plus, header_view}
unfoldable pub use Rattle.pe_core.specs.Header.{header_at, optional_header, optional_header_tests, header, header_tests}
pub use Rattle.pe_core.specs.Offsets.{empty_range, bytes_in, StandAt}
unfoldable pub use Rattle.pe_core.specs.Records.{section_table, dos_header, coff_header, standard_fields_32, standard_fields_64, windows_fields_32, windows_fields_64, data_directory}
pub use Rattle.pe_core.specs.Refusals.{CertificateTable, Refusal, outcome, ◌>>=◌, Short, WriteFit}
pub use Rattle.pe_core.specs.Rows.{rows}
unfoldable pub use Rattle.pe_core.specs.Rows.{each}
pub use Rattle.pe_core.specs.SectionMap.{rounded_up}
pub use Rattle.pe_core.specs.Sections.{sections_offset}
pub use Rattle.pe_core.specs.declared.byte_range.ByteRange.{ByteRange}
pub use Rattle.pe_core.specs.declared.data_directories.DataDirectory.{DataDirectory}
pub use Rattle.pe_core.specs.declared.options.ParseMode.{ParseMode}
pub use Rattle.pe_core.specs.declared.section_table.SectionTable.{SectionTable}
pub use Rattle.pe_sign.specs.Attaching.{attached_of, before_table, data_ends_by, detached_file, detached_of, entry_to, headers_end_by, is_signed, layout_tests, sections_end_by, table_start, unsigned_length, with_both_fields, with_table, unsigned_file, joined_file, attached_file, without_table, changeable_parts, attach_tests, kept_length, is_aligned, length_of, written, IsAttached, IsDetached}
unfoldable pub use Rattle.pe_sign.specs.Attaching.{with_entry, with_checksum, padded}
pub use Rattle.pe_sign.specs.AttachingSteps.{Fits, FitsWith, certified_of, table_tests}
pub use Rattle.pe_sign.specs.Checksum.{summed_word, with_carry}
unfoldable pub use Rattle.pe_sign.specs.Checksum.{checksum_of}
pub use Rattle.pe_sign.specs.Digest.{unless, left_out_of, is_in, Covered, covered, covered_bytes, is_left_out, lacking_to_eight, zeros_after, left_out_before, entry_range, certificates_range, digest_of, Throughout, IsCut, AreSides, digested, joined_slices, ranges_view}
unfoldable pub use Rattle.pe_sign.specs.Digest.{kept_bytes}
pub use Rattle.pe_sign.specs.DigestRanges.{range_at, with_offset, in_array, digest_ranges_of, EndBy}
unfoldable pub use Rattle.pe_sign.specs.DigestRanges.{kept_ranges}
pub use Rattle.pe_sign.specs.DigestSteps.{Between, IsFirstRange, one_if_after, parts_after}
pub use Rattle.pe_sign.specs.SignRefusals.{Headers, Image, NoDirectory, Section, TableNotLast, of_image, SignRefusal}
pub use Rattle.pe_sign.specs.WrittenHeaders.{directories_end, headers_with, optional_changed, headers_changed, directories_end_after, optional_with}
pub use Rattle.pe_sign.specs.declared.attachment.Placement.{Placement}
pub use Rattle.pe_sign.specs.declared.attachment.Placement.TheVariants.{After, InPlace}
pub use Rattle.pe_sign.specs.declared.digest.LeftOut.{LeftOut}
pub use Rattle.pe_sign.specs.declared.digest.Part.{Part}
