-- The names that proofs of this crate cite, passed on from one place. Declares nothing.
pub use Rattle.std.proofs.lemmas.Bool.{eqb-true}
pub use Rattle.std.proofs.lemmas.Bool.Decides.{nat_tests}
pub use Rattle.std.proofs.lemmas.List.{places, same_lists, get_or_past, append-nil, map-append}
pub use Rattle.std.specs.List.{AllZip, find, flat_map, range_with_len}
pub use Rattle.std.specs.Option.{option_map, IsSome}
pub use Rattle.std.specs.Prelude.{◌==◌, nat_le, nat_lt, if◌then◌else◌, min, ◌*◌, slice_index_or, slice_range, ◌/◌, unwrap_or, ◌↔◌, drop}
pub use Rattle.calls_base.proofs.ListRuns.{give_lists}
pub use Rattle.calls_base.proofs.ResourceRoots.{tested}
pub use Rattle.calls_base.proofs.WrittenFiles.{file_asked, file_short_after}
pub use Rattle.calls_base.specs.DirectoryResults.{directory_number}
pub use Rattle.calls_base.specs.HandsOut.{HandsOutIf, result_number}
pub use Rattle.calls_base.specs.Images.{debug_directory, is_absent, image_info_by, image_info_of, or_absent, directory, map_of_image, export_directory, all_directories, import_directory, image_at}
pub use Rattle.calls_base.specs.Modes.{options_of, resolves, mode_of_number}
pub use Rattle.calls_base.specs.Lists.{StepsByIndex, HandsOutList, Numbered}
pub use Rattle.calls_base.specs.Ranges.{IsPart, IsRange, range_of, one_if_some, range_from}
pub use Rattle.calls_base.specs.Runs.{ReturnsReported, ReturnsItems, IsOver}
pub use Rattle.calls_base.specs.declared.image.Image.{Image}
pub use Rattle.calls_base.specs.declared.ranges.Range.{Range}
pub use Rattle.calls_base.specs.declared.view.View.{View}
pub use Rattle.calls_directories.proofs.ExportParts.{tables_stand}
pub use Rattle.calls_directories.proofs.ExportRuns.{directory_in_turn}
pub use Rattle.calls_directories.specs.DirectoryTables.{root_at, root_of}
pub use Rattle.calls_directories.specs.ExportAddresses.{address_table, dll_name, exported_at}
unfoldable pub use Rattle.calls_directories.specs.ExportAddresses.{address_table_at}
pub use Rattle.calls_directories.specs.Imports.{libraries_at, libraries_from, import_at, import_by, import_reported, StepsImports, StepsLibraries, library_by, library_reported, no_imports, no_libraries, slot_entry}
unfoldable pub use Rattle.calls_directories.specs.Imports.{import_step, library_step}
pub use Rattle.calls_directories.specs.Parts.{ReportsImport, ReportsLibrary, ImportsInTurn}
pub use Rattle.calls_directories.specs.VersionBlocks.{HandsOutBlocks}
pub use Rattle.calls_directories.specs.Versions.{IsContentBy, IsContentOf, content_at, fixed_at, fixed_in, value_at, HandsOutFixed, HandsOutText, text_in}
pub use Rattle.calls_directories.specs.declared.names.imports.Import.{Import}
pub use Rattle.calls_directories.specs.declared.names.imports.Libraries.{Libraries}
pub use Rattle.calls_directories.specs.declared.names.imports.Library.{Library}
pub use Rattle.calls_failures.proofs.OneImports.{libraries_move, one_imports}
pub use Rattle.calls_failures.proofs.OneParts.{one_range, one_certificates, one_exceptions, one_exports, one_relocations}
pub use Rattle.calls_failures.proofs.OneRun.{ReportsOne, one_run, one_zip, same_values, one_option, one_result}
pub use Rattle.calls_failures.specs.ImageParts.{HasOption, HasResult, Reports, AreCertificates, AreExceptions, AreRelocations, IsTable, function_table, is_left_out, AreExports, AreExportsBy, AreImports, AreImportsAfter, AreImportsBy, AreImportsOf, IsLibrary, in_turn, AreResources, AreResourcesBy, AreResourcesUnless, AreStrings, IsVersionAt, IsVersionBy}
pub use Rattle.calls_headers.specs.Debug.{characteristics_of, checksum_of, embedded_of, features_of, flat_checksum, flat_embedded, flat_key, flat_pdb20, flat_pogo, flat_repro, key_of, pdb20_of, pogo_of, repro_of, part_after, read_first}
unfoldable pub use Rattle.calls_headers.specs.Debug.{first_entry, debug_entries_range}
pub use Rattle.calls_headers.specs.Headers.{dos_fields, headers_at, headers_by, headers_of}
pub use Rattle.calls_pdb.specs.Pdbs.{stream_numbered}
pub use Rattle.calls_signatures.specs.SignatureParts.{SignatureHandsOut, SignatureHandsOutIf}
pub use Rattle.calls_stacks.proofs.WalkFrames.{keep_marks}
pub use Rattle.calls_stacks.specs.Arm64StackWalks.{arm64_stack_walks}
pub use Rattle.calls_stacks.specs.DumpContexts.{raised_of, thread_context_at}
pub use Rattle.calls_stacks.specs.DumpMemory.{piece_reported}
pub use Rattle.calls_stacks.specs.DumpRecords.{module_reported}
pub use Rattle.calls_stacks.specs.Dumps.{DumpHandsOut, DumpHandsOutIf, dump_stream_at}
pub use Rattle.calls_stacks.specs.StackWalks.{stack_walks}
pub use Rattle.calls_unwind.proofs.RecordRanges.{of_offset}
unfoldable pub use Rattle.calls_unwind.specs.Unwinding.{exception_table_at}
pub use Rattle.calls_write.specs.ResourceEdits.{block_at, block_with}
pub use Rattle.pe_core.proofs.Comparisons.{not_below}
pub use Rattle.pe_core.proofs.EntryItems.{length-each, each_as_map, each_front, each_same, none_of_none}
pub use Rattle.pe_core.proofs.NumberBytes.{bytes_of-le, range_join, le_small}
pub use Rattle.pe_core.proofs.Ranges.{byte_of_range, inside_if_held, length_range, held_if_inside, range_in_range}
pub use Rattle.pe_core.proofs.Steps.{same_inside, given, one_ok}
pub use Rattle.pe_core.specs.Bytes.{holds, le, range, record_at, AreBytes, bytes_of, splice}
pub use Rattle.pe_core.specs.Directories.{absent_directory, present}
pub use Rattle.pe_core.specs.Exports.{ExportDataView}
unfoldable pub use Rattle.pe_core.specs.Exports.{export_data_at}
pub use Rattle.pe_core.specs.Gathered.{all_or_refusal, with_rest, up_to_none}
pub use Rattle.pe_core.specs.Header.{HeaderView, OptionalHeaderView}
unfoldable pub use Rattle.pe_core.specs.Header.{header, header_at, header_tests, optional_header}
pub use Rattle.pe_core.specs.Imports.{EntryView, ImportRecordView, ImportView, entry_size, import_data_at, import_entry_at, name_or_refusal, named_import, is_last, lookups_at, lookups_rva, AreLibraries}
unfoldable pub use Rattle.pe_core.specs.Imports.{import_entries, import_of, import_records, imports, import_record, import_record_at}
pub use Rattle.pe_core.specs.Offsets.{bytes_in, IsWithin}
pub use Rattle.pe_core.specs.Options.{is_permissive, default_options}
unfoldable pub use Rattle.pe_core.specs.Records.{dos_header, import_entry}
pub use Rattle.pe_core.specs.Refusals.{Refusal, BadMagic, DebugData, DebugSize, Short, outcome, ◌>>=◌, DebugBounds, ResourceBounds}
pub use Rattle.pe_core.specs.Rows.{each}
pub use Rattle.pe_core.specs.SectionMap.{section_map, mapped}
pub use Rattle.pe_core.specs.Sections.{sections_at, sections_of}
pub use Rattle.pe_core.specs.Text.{text_at}
pub use Rattle.pe_core.specs.declared.byte_range.ByteRange.{ByteRange}
pub use Rattle.pe_core.specs.declared.data_directories.DataDirectory.{DataDirectory}
pub use Rattle.pe_core.specs.declared.options.ParseMode.{ParseMode}
pub use Rattle.pe_core.specs.declared.options.ParseOptions.{ParseOptions}
pub use Rattle.pe_core.specs.declared.section_table.SectionTable.{SectionTable}
pub use Rattle.pe_frame.specs.MemoryLists.{ascend}
pub use Rattle.pe_frame.specs.Walks.{Calls}
pub use Rattle.pe_image.specs.Core.{export_data_of, exports_of, value_or_none, import_data_of, imports_of, CoreView, AreLibrariesOf}
unfoldable pub use Rattle.pe_image.specs.Core.{core_of, core_with}
pub use Rattle.pe_image.specs.Fields.{debug_field, field, certificate_field, exception_field, relocation_field, Field, IsField, IsResourceField, list_by_mode, given_value, resource_directory}
pub use Rattle.pe_image.specs.Image.{ImageView, IsImage, IsAfterCore, demanded, first_fields_demanded}
unfoldable pub use Rattle.pe_image.specs.Image.{before_resources, with_fields}
pub use Rattle.pe_image.specs.Layout.{alignment, entry_point, image_base, is_64}
pub use Rattle.pe_minidump.specs.Dumps.{located, entry_bytes, DumpView}
pub use Rattle.pe_minidump.specs.Refusals.{DumpRefusal}
pub use Rattle.pe_records.proofs.PartsInOffset.{RecordsOf, compressed_of_embedded, entries_of_pogo, hash_of_repro, name_of_pdb20, name_of_pdb70, parts_of_checksum, records_are}
pub use Rattle.pe_records.specs.DebugDirectory.{first_of_type, whole_debug_entries}
unfoldable pub use Rattle.pe_records.specs.DebugDirectory.{directory_range, directory_table}
pub use Rattle.pe_records.specs.DebugRecords.{record_offset, DebugFields, Stamp, Buffer, of_entry, some_of_entry}
unfoldable pub use Rattle.pe_records.specs.DebugRecords.{pdb70_at, pdb70_record, pdb20_at, pdb20_record, features_at, pogo_record, repro_record, debug_data}
pub use Rattle.pe_records.specs.declared.debug.ImageDebugDirectory.{ImageDebugDirectory}
pub use Rattle.pe_records.specs.declared.debug.records.ExDllCharacteristicsInfo.{ExDllCharacteristicsInfo}
pub use Rattle.pe_resource.specs.Contents.{IsContentRange, content_of, file_bytes, file_range, inner, map_of, range_in, version_of_content}
unfoldable pub use Rattle.pe_resource.specs.Contents.{named_range}
pub use Rattle.pe_resource.specs.Resources.{IsResource, ResourceView, FirstDirectoryView, IsOfFirst, first_directory}
pub use Rattle.pe_resource.specs.declared.version.VsFixedFileInfo.{VsFixedFileInfo}
pub use Rattle.pe_unwind.specs.ExceptionTable.{table_range}
unfoldable pub use Rattle.pe_unwind.specs.ExceptionTable.{exception_at}
pub use Rattle.pe_c.specs.DebugLaws.{ReadsItsBytes, SameBytes, SameOrOther, StandsAlone, by_kind, by_length, by_signature, by_size, debug_table, ReportsPart, ReturnsRecord}
unfoldable pub use Rattle.pe_c.specs.DebugLaws.{image_debug}
pub use Rattle.pe_c.specs.DumpLaws.{IsStreamOf, memory_range, as_reported}
pub use Rattle.pe_c.specs.HeadersRead.{dos_numbers, header_of}
pub use Rattle.pe_c.specs.ImageDebug.{AreDebugData, DebugResults, IsDebugData, IsKey, IsPdb20, IsPogo, IsRepro, debug_results, debug_results_after}
pub use Rattle.pe_c.specs.ImageOfCalls.{mode_of, AreParts, IsImageAfter, IsImageOfCalls, IsImageWith, Parts, part_by_mode}
unfoldable pub use Rattle.pe_c.specs.ImageOfCalls.{image_of_parts}
