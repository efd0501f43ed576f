-- The directories of an image, each for itself.
use Rattle.std.specs.Prelude.{◌≡◌, List, Bool, Option, None, Result, if◌then◌else◌}
use Rattle.std.specs.Option.{option_map}
use Rattle.pe_core.specs.Directories.{present}
use Rattle.pe_core.specs.declared.data_directories.DataDirectory.{DataDirectory}
use Rattle.pe_directories.specs.BaseRelocations.{blocks_left}
use Rattle.pe_directories.specs.Clr.{clr_header}
use Rattle.pe_directories.specs.DelayImports.{delay_imports_left}
use Rattle.pe_directories.specs.ImageParts.{ImageView, walk_table}
use Rattle.pe_directories.specs.DirectoryRefusals.{DirectoryRefusal, directory_answer}
use Rattle.pe_directories.specs.LoadConfig.{load_config}
use Rattle.pe_directories.specs.Tls.{tls_directory}
use Rattle.pe_directories.specs.declared.directories.Directories.{Directories}
use Rattle.pe_directories.specs.declared.directories.ChosenDirectories.{ChosenDirectories}
use Rattle.pe_directories.specs.declared.error.DirectoryError.{DirectoryError}

-- a directory by its own definition, if it is chosen and present
abbrev pub of_directory : {X : Type 0} → Bool → Option DataDirectory → (DataDirectory → Result X DirectoryRefusal) → Option (Result X DirectoryRefusal)
of_directory chosen entry defined = if chosen then option_map defined entry else None

-- a field holds that: the value, seen by view, or an error of the kind
abbrev pub FieldIs : {X Y : Type 0} → (X → Y) → Option (Result X DirectoryError) → Option (Result Y DirectoryRefusal) → Type 0
FieldIs view field defined = option_map (directory_answer view) field ≡ defined

-- each field is that of its own directory, whatever the others are
pub record AreDirectories (i : ImageView) (rows : List DataDirectory) (chosen : ChosenDirectories) (d : Directories) : Type 0 where
  pub base_relocations : FieldIs blocks_left d.base_relocations (of_directory chosen.base_relocations (present rows 5) (walk_table i))
  pub tls : FieldIs (λ t. t) d.tls (of_directory chosen.tls (present rows 9) (tls_directory i))
  pub load_config : FieldIs (λ l. l) d.load_config (of_directory chosen.load_config (present rows 10) (load_config i))
  pub delay_imports : FieldIs delay_imports_left d.delay_imports (of_directory chosen.delay_imports (present rows 13) (walk_table i))
  pub clr_header : FieldIs (λ h. h) d.clr_header (of_directory chosen.clr_header (present rows 14) (clr_header i))
