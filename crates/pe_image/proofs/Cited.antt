-- The names that proofs of this crate cite, passed on from one place. Declares nothing.
pub use Rattle.std.proofs.lemmas.Bool.{or_right, cases_lt}
pub use Rattle.std.proofs.lemmas.Bool.Decides.{nat_tests}
pub use Rattle.std.proofs.lemmas.Grind.{flat_map-append}
pub use Rattle.std.proofs.lemmas.List.{take_all, length-append, length-replicate, append-nil, take-append-drop, take_more, ext_get_or, places, drop_more, get_or-map, get_or-replicate, get_or-set_other, get_or-set_same, get_or_past, length-map, length-set, map-append, drop_all, with_items_is}
pub use Rattle.std.proofs.lemmas.List.Edits.{length-between}
pub use Rattle.std.proofs.lemmas.List.Elements.{All-contains, All-from_recursion, All-weaker, recursion_from_All, All-cons, All-nil, All-same}
pub use Rattle.std.proofs.lemmas.Result.{err_from_is_err_and}
pub use Rattle.std.specs.List.{list_all, flat_map, AllByRecursion, Contains, last_or, All}
pub use Rattle.std.specs.Option.{option_map}
pub use Rattle.std.specs.Prelude.{Vec, ◌==◌, not, min, max, nat_le, nat_lt, Option, None, Some, is_ok, if◌then◌else◌, unwrap_or, slice_index, filter, slice_range, IfOk, slice_set, IfSome}
pub use Rattle.std.specs.Result.{IsOk}
pub use Rattle.pe_core.proofs.Comparisons.{le_is, le_is_not, lt_is, lt_is_not}
pub use Rattle.pe_core.proofs.EntryItems.{length-each, get_or-each, each_same, each_front, none_of_none}
pub use Rattle.pe_core.proofs.Equality.{and_true}
pub use Rattle.pe_core.proofs.ImportLists.{unless_memory}
pub use Rattle.pe_core.proofs.NoMemory.{Lacks, memory_never, is_memory, nothing_owed, TestsLack, outcome_lacks, then_lacks, if_lacks, one_test_lacks}
pub use Rattle.pe_core.proofs.Ranges.{length_range, inside_if_held}
pub use Rattle.pe_core.proofs.Splices.{length-bytes_of, splice-splice, length-splice, get_or-splice}
pub use Rattle.pe_core.proofs.Steps.{then_then, not_both, given, same_inside}
pub use Rattle.pe_core.specs.Bytes.{holds, range, bytes_of, record_at, AreBytes, put}
unfoldable pub use Rattle.pe_core.specs.Bytes.{splice, le}
pub use Rattle.pe_core.specs.Gathered.{all_or_refusal, with_rest, up_to_none}
pub use Rattle.pe_core.specs.Header.{HeaderView, OptionalHeaderView, optional_header_at, header_view, optional_header_view}
unfoldable pub use Rattle.pe_core.specs.Header.{header_at, header_tests, optional_header_tests, header}
pub use Rattle.pe_core.specs.Imports.{AreLibraries, ImportRecordView, ImportView, entry_size, EntryView, import_entry_at, import_record_view, name_or_refusal, import_data_at, is_last, lookup_at, lookups_at, lookups_rva}
unfoldable pub use Rattle.pe_core.specs.Imports.{import_records, import_entries, import_of, imports, import_record, import_record_at, lookup_entries}
pub use Rattle.pe_core.specs.Options.{is_permissive}
pub use Rattle.pe_core.specs.Records.{coff_header, dos_header, section_table, import_entry}
pub use Rattle.pe_core.specs.Refusals.{Refusal, Memory, ReturnsAs, ReturnsUnlessMemory, answer_by, NoOptionalHeader, WriteAlignment, WriteFit, WriteOverlap, WriteSection, WriteSymbols, outcome, ◌>>=◌, UnlessMemory, kind_of, IfMemory, Short, DebugData, PogoSize, BadMagic, HeaderPointer, CertificateTable}
unfoldable pub use Rattle.pe_core.specs.Relocations.{directory_bytes}
unfoldable pub use Rattle.pe_core.specs.Rows.{each}
pub use Rattle.pe_core.specs.SectionMap.{section_map, mapped, offset_in}
pub use Rattle.pe_core.specs.Sections.{raw_end, SharesRawByte, sections_offset, sections_of}
unfoldable pub use Rattle.pe_core.specs.Spelling.{spell_optional, spell_coff, spell_directory, spell_dos, spell_section, spell_standard_fields_32, spell_standard_fields_64, spell_windows_fields_32, spell_windows_fields_64}
pub use Rattle.pe_core.specs.Text.{text_at}
pub use Rattle.pe_core.specs.declared.data_directories.DataDirectory.{DataDirectory}
pub use Rattle.pe_core.specs.declared.error.Error.{Error}
pub use Rattle.pe_core.specs.declared.options.ParseMode.{ParseMode}
pub use Rattle.pe_core.specs.declared.options.ParseMode.TheVariants.{Strict, Permissive}
pub use Rattle.pe_core.specs.declared.options.ParseOptions.{ParseOptions}
pub use Rattle.pe_core.specs.declared.section_table.SectionTable.{SectionTable}
pub use Rattle.pe_records.proofs.CertificateListings.{StandFrom, is_listing, unplaced, listing, listing_is, next_above, refusal_is, refused, stand_push}
pub use Rattle.pe_records.proofs.CertificatePieces.{length-spell, length_written, three_pieces, in_turn}
pub use Rattle.pe_records.specs.CertificateWriting.{padding, written_length, written_certificate, written_end, written_certificates}
unfoldable pub use Rattle.pe_records.specs.CertificateWriting.{spell_certificate}
pub use Rattle.pe_records.specs.Certificates.{ListingStarts, Lists, CertificateView, certificates_at, IsListing, is_revision, is_type, revision_number, revision_of, type_number, type_of, certificate_view}
unfoldable pub use Rattle.pe_records.specs.Certificates.{certificate_at, certificate, certificate_tests}
pub use Rattle.pe_records.specs.DebugRecords.{characteristics_of, features_of, of_entry, of_least_size, pdb20_at, pdb20_of, pdb70_at, pdb70_of, pogo_of, record_offset, repro_of, signed, some_of_entry, DebugFields}
unfoldable pub use Rattle.pe_records.specs.DebugRecords.{debug_data, pdb20_record, pdb70_record, pogo_record, records, repro_record}
pub use Rattle.pe_resource.specs.Resources.{IsResource, resource_view, ResourceView}
pub use Rattle.pe_resource.specs.declared.resource.ResourceData.{ResourceData}
pub use Rattle.pe_unwind.specs.ExceptionTable.{ExceptionView, table_of}
unfoldable pub use Rattle.pe_unwind.specs.ExceptionTable.{exception_at}
pub use Rattle.pe_unwind.specs.FunctionTable.{functions, Finds, NeverFalls, scan}
pub use Rattle.pe_image.specs.CertificateLists.{certificate_views}
unfoldable pub use Rattle.pe_image.specs.CertificateLists.{listed}
pub use Rattle.pe_image.specs.Core.{CoreView, sections_read, AreLibrariesOf, export_data_of, exports_of, import_data_of, import_directory}
unfoldable pub use Rattle.pe_image.specs.Core.{core_of, core_with}
pub use Rattle.pe_image.specs.FieldSteps.{ReturnsResources, by_mode}
unfoldable pub use Rattle.pe_image.specs.FieldSteps.{first_fields_in_turn}
pub use Rattle.pe_image.specs.Fields.{field, given_value, Field, certificate_field, list_by_mode, IsField, resource_directory}
pub use Rattle.pe_image.specs.Headline.{AreDerived, AreAlone, IsOfCore, IsPermissive}
pub use Rattle.pe_image.specs.Image.{ImageView, IsImage, core_part, demanded, first_fields_demanded, AreResourcesOf, IsAfterCore, certificates_of, debug_of, exceptions_of, relocations_of, FirstFieldsView, first_fields, image_of, ReturnsImage, image_view, libraries_of, HasLibraries}
unfoldable pub use Rattle.pe_image.specs.Image.{with_fields, before_resources}
pub use Rattle.pe_image.specs.ImageSteps.{unless_refused, ReturnsAfterCore}
pub use Rattle.pe_image.specs.Layout.{directory, alignment, is_64}
unfoldable pub use Rattle.pe_image.specs.LayoutParts.{layout_of}
pub use Rattle.pe_image.specs.Memory.{MemoryOnlyIf, AsksForMemory, HasCertificates, HasExports, HasImports}
pub use Rattle.pe_image.specs.Overlay.{Piece, all_fit, fits, greatest_end, longest, LeavesOverlay, has_byte, byte_of, EndsInZeros, piece}
unfoldable pub use Rattle.pe_image.specs.Overlay.{overlay, byte_after}
pub use Rattle.pe_image.specs.Pieces.{all_certificate_pieces, all_section_pieces, certificate_pieces, certificates_end, in_a_row, lacking, row_end, header_width}
unfoldable pub use Rattle.pe_image.specs.Pieces.{header_pieces, section_pieces}
pub use Rattle.pe_image.specs.SharedLists.{core_if_listed, if_listed, AllStand, StandsAt, counts_after, entries_left, list_offset, tested}
pub use Rattle.pe_image.specs.Writing.{clash, clash_free, same_section, all_in_source, certificate_directory, image_by, image_end, image_length, image_length_by, image_pieces, image_written, section_tests, whole_by, whole_length, whole_length_by, whole_pieces, whole_written, ReturnsWritten, certificates_written, sections_written, AreAligned, certificates_over}
unfoldable pub use Rattle.pe_image.specs.Writing.{image_tests, padded_pieces}
pub use Rattle.pe_image.specs.WritingSteps.{before_by, ends_before, in_order, is_next, all_end, possible, covered, parts_outside, next_range, own_pieces, own_whole}
unfoldable pub use Rattle.pe_image.specs.WritingSteps.{put_in_turn, section_parts}
pub use Rattle.pe_image.specs.declared.layout.Layout.{Layout}
pub use Rattle.pe_image.specs.declared.pe.PE.{PE}
