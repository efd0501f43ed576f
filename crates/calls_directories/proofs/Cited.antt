-- The names that proofs of this crate cite, passed on from one place. Declares nothing.
pub use Rattle.std.proofs.lemmas.Bool.Decides.{nat_tests}
pub use Rattle.std.proofs.lemmas.List.{places, same_lists, drop_all}
pub use Rattle.std.proofs.lemmas.List.Quantifiers.{position-Some}
pub use Rattle.std.specs.List.{AllZip, cons_option, filter_map, range_with_len}
pub use Rattle.std.specs.Option.{option_and_then, option_map}
pub use Rattle.std.specs.Prelude.{◌==◌, if◌then◌else◌, nat_le, IfSome, position, nat_lt, Some, Ok}
pub use Rattle.calls_base.proofs.KeptSections.{same_map}
pub use Rattle.calls_base.proofs.LeftBytes.{bytes_of_range, size_of, there, bytes_there, nothing_there, same_range, length_of_range}
pub use Rattle.calls_base.proofs.Runs.{Makes, gives_first, gives_nothing, gives_refusal, makes_by}
pub use Rattle.calls_base.proofs.TextRanges.{text_stands}
pub use Rattle.calls_base.specs.Directories.{image_parts, first_of, first_in, left_after, range_left, read_first, step_of, callbacks_at, first_va_in}
pub use Rattle.calls_base.specs.HandsOut.{result_number, HandsOutIf}
pub use Rattle.calls_base.specs.Images.{map_of_image, directory, is_absent, map_by, resource_directory}
pub use Rattle.calls_base.specs.Modes.{options_of}
pub use Rattle.calls_base.specs.KeptSections.{ChangeNothing, StepsKept, no_sections, map_kept}
pub use Rattle.calls_base.specs.NearMaps.{IsWindow}
pub use Rattle.calls_base.specs.Ranges.{IsPart, IsRange, bytes_at, or_no_bytes, no_bytes, range_after, range_of, range_from}
pub use Rattle.calls_base.specs.Runs.{EachHas, IsOver, ReturnsItems, and_after, read_items, read_in_turn}
pub use Rattle.calls_base.specs.Views.{map_of, may_map}
pub use Rattle.calls_base.specs.Walks.{StepsEntries, next_of, walk_items, walk_of, left_entry}
pub use Rattle.calls_base.specs.declared.ranges.Range.{Range}
pub use Rattle.pe_core.proofs.Ranges.{length_range, range_in_range, rest_of_range}
pub use Rattle.pe_core.proofs.Steps.{given, same_inside}
pub use Rattle.pe_core.specs.Bytes.{holds, le, record_at, range}
pub use Rattle.pe_core.specs.ExportAddresses.{AddressesView, address_with, forwarder_text, lies_in}
pub use Rattle.pe_core.specs.Exports.{ExportDataView, image_name, table_at, table_entry, export_at, ExportView}
unfoldable pub use Rattle.pe_core.specs.Exports.{export_data_at, exports}
pub use Rattle.pe_core.specs.Imports.{entry_size}
pub use Rattle.pe_core.specs.Records.{export_directory}
pub use Rattle.pe_core.specs.Refusals.{Refusal, ◌>>=◌, Short, outcome, answer_of}
pub use Rattle.pe_core.specs.Rows.{entry_items, each}
pub use Rattle.pe_core.specs.SectionMap.{mapped}
pub use Rattle.pe_core.specs.Text.{text_at}
pub use Rattle.pe_core.specs.declared.byte_range.ByteRange.{ByteRange}
pub use Rattle.pe_core.specs.declared.data_directories.DataDirectory.{DataDirectory}
pub use Rattle.pe_core.specs.declared.export.ExportDirectoryTable.{ExportDirectoryTable}
pub use Rattle.pe_core.specs.declared.section_table.SectionTable.{SectionTable}
pub use Rattle.pe_directories.specs.BaseRelocations.{Block, is_block_size, relocation_size}
unfoldable pub use Rattle.pe_directories.specs.BaseRelocations.{first_block, first_relocation, relocation_of}
pub use Rattle.pe_directories.specs.BoundImports.{Bound, bound_at, bound_forwarder_at, bound_imports_end, bound_size, bound_table}
unfoldable pub use Rattle.pe_directories.specs.BoundImports.{bound_name, bound_of, first_bound_import}
pub use Rattle.pe_directories.specs.Clr.{Metadata, Stream, first_stream, header_size, named, clr_metadata}
unfoldable pub use Rattle.pe_directories.specs.Clr.{metadata_at, metadata_of, name_field, name_length, stream_of}
pub use Rattle.pe_directories.specs.DelayImports.{Name, Ordinal, name_or_refusal, delay_dll, lookup_table}
unfoldable pub use Rattle.pe_directories.specs.DelayImports.{delay_name, hint_and_name, hint_offset, imported_by, offset_in_entry, first_delay_import}
pub use Rattle.pe_directories.specs.DirectoryRefusals.{DirectoryRefusal, VaBelowBase, of_image, Image, BlockSize, BlockTruncated, directory_answer}
pub use Rattle.pe_directories.specs.ImageParts.{ImageView, record_of, table_of, walk_table, size_of_va}
unfoldable pub use Rattle.pe_directories.specs.ImageParts.{offset_of_va}
pub use Rattle.pe_directories.specs.Walks.{Items, First}
pub use Rattle.pe_directories.specs.declared.delay_import.DelayImport.{DelayImport}
pub use Rattle.pe_resource.specs.Contents.{IsContentRange, IsDataEntry, IsThere, inner, version_of_content}
unfoldable pub use Rattle.pe_resource.specs.Contents.{named_range}
pub use Rattle.pe_resource.specs.LeafPositions.{leaves_at, leaf_start}
pub use Rattle.pe_resource.specs.Leaves.{TreeRefusal, tree_answer}
unfoldable pub use Rattle.pe_resource.specs.Leaves.{name_units}
pub use Rattle.pe_resource.specs.Resources.{FirstDirectoryView, IsOfFirst, IsResourceEntry, first_directory, ResourceView, IsResourceRange}
pub use Rattle.pe_resource.specs.declared.entry.ResourceEntry.{ResourceEntry}
pub use Rattle.calls_directories.specs.BoundImports.{bound_reported, forwarder_reported, next_forwarder, unless_refused, bound_imports_at}
pub use Rattle.calls_directories.specs.Clr.{content_of, first_stream_in, metadata_reported, stream_reported, clr_metadata_at, no_streams, streams_after, streams_in}
pub use Rattle.calls_directories.specs.DelayImports.{address_in, dll_range, functions_of, library_of, first_library_in, first_of_walk, functions_after, dll_reported, function_reported, table_reported}
unfoldable pub use Rattle.calls_directories.specs.DelayImports.{address_offset, function_of, name_range, named_at}
pub use Rattle.calls_directories.specs.DirectoryRuns.{HasBound, HasBlock, StepsBlocks, StepsBoundImports, StepsDelayLibraries, StepsForwarders, StepsRelocations, blocks_reported, bounds_reported, forwarders_reported, relocations_reported, StepsBy, StepsDelayedFunctions, StepsCallbacks, HasContent, HasStream, StepsStreams, after_stream, streams_reported}
pub use Rattle.calls_directories.specs.ExportAddresses.{address_table, addresses_in, exported_with, exported_at, exported_in}
pub use Rattle.calls_directories.specs.Exports.{AreNear, export_reported, one_if, reported_entry, walk_over, with_tables, FindsNext, StepsExports, StepsExportsIf, StepsOverExports, count_of, exports_after, tables_or_short, reported_from, HaveNone, view_of}
pub use Rattle.calls_directories.specs.Imports.{import_left, StepsImports, StepsLibraries, import_by, no_libraries}
unfoldable pub use Rattle.calls_directories.specs.Imports.{import_step, library_step}
pub use Rattle.calls_directories.specs.LibraryFunctions.{AreFunctionsOf, StepsLibraryFunctions, turn_by_function}
pub use Rattle.calls_directories.specs.LibraryImports.{then_items, AreImportsOf, StepsLibraryImports, Turn, Turns, after_import, all_over, at_library, before_first, next_library, of_libraries, of_library, turn_by_import, turn_by_library, with_library}
unfoldable pub use Rattle.calls_directories.specs.LibraryImports.{turn}
pub use Rattle.calls_directories.specs.Parts.{HasTables, ReportsExport}
pub use Rattle.calls_directories.specs.Versions.{IsContentBy, IsContentOf, entry_range, HandsOutManifest, fixed_at, HandsOutFixed, value_at, HandsOutText, AreImageResources, ReportsRange, fixed_of, version_value}
pub use Rattle.calls_directories.specs.declared.directories.all_delay_imports.LibraryFunction.{LibraryFunction}
pub use Rattle.calls_directories.specs.declared.directories.all_delay_imports.LibraryFunctions.{LibraryFunctions}
pub use Rattle.calls_directories.specs.declared.directories.clr.MetadataStreams.{MetadataStreams}
pub use Rattle.calls_directories.specs.declared.directories.delay_imports.DelayLibrary.{DelayLibrary}
pub use Rattle.calls_directories.specs.declared.directories.delay_imports.DelayedFunction.{DelayedFunction}
pub use Rattle.calls_directories.specs.declared.directories.delay_imports.DelayedFunctions.{DelayedFunctions}
pub use Rattle.calls_directories.specs.declared.names.all_imports.LibraryImport.{LibraryImport}
pub use Rattle.calls_directories.specs.declared.names.all_imports.LibraryImports.{LibraryImports}
pub use Rattle.calls_directories.specs.declared.names.export_addresses.AddressTable.{AddressTable}
pub use Rattle.calls_directories.specs.declared.names.export_addresses.Exported.{Exported}
pub use Rattle.calls_directories.specs.declared.names.exports.Export.{Export}
pub use Rattle.calls_directories.specs.declared.names.exports.Exports.{Exports}
pub use Rattle.calls_directories.specs.declared.names.imports.Import.{Import}
pub use Rattle.calls_directories.specs.declared.names.imports.Imports.{Imports}
