-- The layout of an image as the code keeps it. For proofs only.
use Rattle.std.specs.Prelude.{None, Option, if◌then◌else◌}
use Rattle.pe_core.specs.Header.{OptionalHeaderView}
use Rattle.pe_core.specs.declared.data_directories.DataDirectory.{DataDirectory}
use Rattle.pe_core.specs.declared.options.ParseOptions.{ParseOptions}
use Rattle.pe_image.specs.Layout.{directory, alignment, is_64, entry_point, image_base}
use Rattle.pe_image.specs.declared.layout.Layout.{Layout}

-- the layout with or without an optional header
unfoldable pub layout_of : Option OptionalHeaderView → Layout
layout_of o = record {
  is_64 = is_64 o;
  entry = entry_point o;
  image_base = image_base o;
  file_alignment = alignment o;
  exports = directory 0 o;
  imports = directory 1 o;
  resources = directory 2 o;
  exceptions = directory 3 o;
  certificates = directory 4 o;
  relocations = directory 5 o;
  debug = directory 6 o;
}

-- the import directory of a layout, unless `parse_imports` is off
abbrev pub import_directory_in : ParseOptions → Layout → Option DataDirectory
import_directory_in opts layout = if opts.parse_imports then layout.imports else None
