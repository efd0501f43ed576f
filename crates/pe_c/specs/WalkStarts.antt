-- Walks that a call starts for an image, each with the bytes that pe_directories reads there.
use Rattle.std.specs.Prelude.{◌≡◌, ℕ, List, Option, Some, Result, Ok}
use Rattle.pe_core.specs.declared.section_table.SectionTable.{SectionTable}
use Rattle.pe_directories.specs.Clr.{clr_metadata}
use Rattle.pe_directories.specs.Clr as roots
use Rattle.pe_directories.specs.DelayImports.{lookup_table}
use Rattle.pe_directories.specs.DirectoryRefusals.{DirectoryRefusal}
use Rattle.pe_directories.specs.ImageParts.{walk_table}
use Rattle.pe_directories.specs.Tls.{callback_table}
use Rattle.pe_directories.specs.declared.clr.ClrHeader.{ClrHeader}
use Rattle.pe_directories.specs.declared.delay_import.DelayImport.{DelayImport}
use Rattle.pe_directories.specs.declared.tls.TlsDirectory.{TlsDirectory}
use Rattle.calls_directories.specs.Clr.{clr_metadata_at}
use Rattle.calls_directories.specs.DelayImports.{function_of, functions_of, library_of}
use Rattle.calls_base.specs.Directories.{callbacks_at, image_parts, table_at}
use Rattle.calls_directories.specs.DirectoryRuns.{StepsDelayLibraries, StepsDelayedFunctions}
use Rattle.calls_base.specs.Images.{directory, map_of_image}
use Rattle.calls_base.specs.Runs.{ReturnsItems, read_items}
use Rattle.calls_directories.specs.declared.directories.clr.Metadata.{Metadata}
use Rattle.calls_directories.specs.declared.directories.delay_imports.DelayedFunctions.{DelayedFunctions}
use Rattle.calls_base.specs.declared.image.Image.{Image}
use Rattle.calls_base.specs.declared.ranges.Range.{Range}
use Rattle.pe_core.specs.Refusals.{Refusal}
use Rattle.calls_base.specs.HandsOut.{HandsOutIf}

-- the walk over the directory with this index, and the bytes of its table
pub record StartsTable (index : ℕ) (b : List ℕ) (image : Image) (sections : List SectionTable) (walk : Range) (table : List ℕ) : Type 0 where
  pub started : table_at index b image sections ≡ Ok (Some walk)
  pub read : walk_table (image_parts b image sections) (directory image index) ≡ Ok (Some table)

-- the walk over TLS callbacks, and the bytes of their table
pub record StartsCallbacks (b : List ℕ) (image : Image) (sections : List SectionTable) (tls : TlsDirectory) (walk : Range) (table : List ℕ) : Type 0 where
  pub started : callbacks_at b image (λ _. sections) tls ≡ Ok (Some walk)
  pub read : callback_table (image_parts b image sections) tls ≡ Ok (Some table)

-- the metadata root of a CLR header, with the walk over its streams, as a call returns it and as pe_directories does
pub record StartsStreams (b : List ℕ) (image : Image) (sections : List SectionTable) (header : ClrHeader) (root : Metadata) (metadata : roots.Metadata) : Type 0 where
  pub started : clr_metadata_at b image sections header ≡ Ok (Some root)
  pub read : clr_metadata (image_parts b image sections) header ≡ Ok metadata

-- the walk over what is imported of the DLL of an entry, and the bytes of its table
pub record StartsFunctions (b : List ℕ) (image : Image) (sections : List SectionTable) (entry : DelayImport) (walk : DelayedFunctions) (table : List ℕ) : Type 0 where
  pub started : functions_of (map_of_image image sections) b image entry ≡ Ok walk
  pub read : lookup_table (image_parts b image sections) entry ≡ Ok (Some table)

-- a walk over delay imports returns these entries, each with the range of its DLL's name and the walk over what is imported of it
abbrev pub ReturnsDelayLibraries : (ℕ → Option ℕ) → List ℕ → Image → Range → List (Result DelayImport DirectoryRefusal) → Type 0
ReturnsDelayLibraries offset b image walk items =
    ReturnsItems (StepsDelayLibraries offset b image) walk (read_items (library_of offset b image) items)

-- a walk over what is imported of the DLL of an entry with these attributes returns what these numbers of its table import
abbrev pub ReturnsFunctions : (ℕ → Option ℕ) → List ℕ → Image → ℕ → DelayedFunctions → List (Result ℕ DirectoryRefusal) → Type 0
ReturnsFunctions offset b image attributes walk items =
    ReturnsItems (StepsDelayedFunctions offset b image) walk (read_items (function_of offset b image attributes) items)

-- ---- steps of walks that are calls of their own

-- what such a call returns and writes is what a step returns, and the walk after it is that after the step
abbrev pub HandsOutStep : {W X : Type 0} → (W → Result (Option X) Refusal → W → Type 0) → ℕ → W → W → X → X → Type 0
HandsOutStep {W} {X} Steps number w v old new = (answer : Result (Option X) Refusal) × Steps w answer v × HandsOutIf number old new answer
