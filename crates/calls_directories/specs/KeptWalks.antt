-- Steps of the walks that keep sections: of each the step of where it stands, by a map of RVAs that has these sections first.
use Rattle.std.specs.Prelude.{◌==◌, Option, Result, ◌≡◌}
use Rattle.pe_core.specs.Imports.{entry_size}
use Rattle.pe_core.specs.Refusals.{Refusal}
use Rattle.pe_directories.specs.DirectoryRefusals.{DirectoryRefusal}
use Rattle.pe_resource.specs.Leaves.{TreeRefusal}
use Rattle.calls_directories.specs.DirectoryRuns.{StepsDelayLibraries, StepsDelayedFunctions}
use Rattle.calls_directories.specs.Exports.{StepsExports}
use Rattle.calls_directories.specs.Imports.{StepsImports, StepsLibraries}
use Rattle.calls_base.specs.KeptSections.{StepsKept}
use Rattle.calls_directories.specs.ResourceLeaves.{StepsLeaves}
use Rattle.calls_directories.specs.declared.directories.delay_imports.DelayLibrary.{DelayLibrary}
use Rattle.calls_directories.specs.declared.directories.delay_imports.DelayWalk.{DelayWalk}
use Rattle.calls_directories.specs.declared.directories.delay_imports.DelayedFunction.{DelayedFunction}
use Rattle.calls_directories.specs.declared.directories.delay_imports.DelayedFunctionWalk.{DelayedFunctionWalk}
use Rattle.calls_directories.specs.declared.names.exports.Export.{Export}
use Rattle.calls_directories.specs.declared.names.exports.ExportWalk.{ExportWalk}
use Rattle.calls_directories.specs.declared.names.imports.Import.{Import}
use Rattle.calls_directories.specs.declared.names.imports.ImportWalk.{ImportWalk}
use Rattle.calls_directories.specs.declared.names.imports.Library.{Library}
use Rattle.calls_directories.specs.declared.names.imports.LibraryWalk.{LibraryWalk}
use Rattle.calls_directories.specs.declared.resources.leaves.LeafWalk.{LeafWalk}
use Rattle.calls_directories.specs.declared.resources.leaves.ResourceLeaf.{ResourceLeaf}
use Rattle.calls_base.specs.declared.view.View.{View}
use Rattle.calls_directories.specs.LibraryFunctions.{StepsLibraryFunctions}
use Rattle.calls_directories.specs.LibraryImports.{StepsLibraryImports}
use Rattle.calls_base.specs.Views.{map_of}
use Rattle.calls_base.specs.declared.kept_sections.KeptWalk.{KeptWalk}
use Rattle.calls_directories.specs.declared.directories.all_delay_imports.LibraryFunction.{LibraryFunction}
use Rattle.calls_directories.specs.declared.directories.all_delay_imports.LibraryFunctions.{LibraryFunctions}
use Rattle.calls_directories.specs.declared.names.all_imports.LibraryImport.{LibraryImport}
use Rattle.calls_directories.specs.declared.names.near_exports.NearExports.{NearExports}
use Rattle.calls_directories.specs.declared.names.near_imports.NearImports.{NearImports}
use Rattle.calls_directories.specs.declared.names.near_imports.NearLibraryImports.{NearLibraryImports}

-- over exports
abbrev pub StepsKeptExports : View → ExportWalk → Result (Option Export) Refusal → ExportWalk → Type 0
StepsKeptExports v = StepsKept (λ (w : ExportWalk). w.exports) (λ (w : ExportWalk). w.kept) (λ m. StepsExports m v.bytes.now) v

-- over libraries
abbrev pub StepsKeptLibraries : View → LibraryWalk → Result (Option Library) Refusal → LibraryWalk → Type 0
StepsKeptLibraries v = StepsKept (λ (w : LibraryWalk). w.libraries) (λ (w : LibraryWalk). w.kept) (λ m. StepsLibraries m (entry_size (v.image.now.width == 64)) v.bytes.now) v

-- over the imports of a library
abbrev pub StepsKeptImports : View → ImportWalk → Result (Option Import) Refusal → ImportWalk → Type 0
StepsKeptImports v = StepsKept (λ (w : ImportWalk). w.imports) (λ (w : ImportWalk). w.kept) (λ m. StepsImports m (entry_size (v.image.now.width == 64)) v.bytes.now) v

-- over the DLLs of the delay import directory
abbrev pub StepsKeptDelayLibraries : View → DelayWalk → Result (Option DelayLibrary) DirectoryRefusal → DelayWalk → Type 0
StepsKeptDelayLibraries v = StepsKept (λ (w : DelayWalk). w.entries) (λ (w : DelayWalk). w.kept) (λ m. StepsDelayLibraries m v.bytes.now v.image.now) v

-- over what is imported of a DLL
abbrev pub StepsKeptFunctions : View → DelayedFunctionWalk → Result (Option DelayedFunction) DirectoryRefusal → DelayedFunctionWalk → Type 0
StepsKeptFunctions v = StepsKept (λ (w : DelayedFunctionWalk). w.functions) (λ (w : DelayedFunctionWalk). w.kept) (λ m. StepsDelayedFunctions m v.bytes.now v.image.now) v

-- over the leaves of a resource tree
abbrev pub StepsKeptLeaves : View → LeafWalk → Result (Option ResourceLeaf) TreeRefusal → LeafWalk → Type 0
StepsKeptLeaves v = StepsKept (λ (w : LeafWalk). w.leaves) (λ (w : LeafWalk). w.kept) (λ m. StepsLeaves v.bytes.now m) v

-- ---- steps of walks that lists keep with windows of the section map. Only contracts of private functions cite this.

-- a step of a walk that a list keeps with the image: it is a step of the walk, and the image stays
abbrev pub StepsNear : {S W X R : Type 0} → (S → View) → (S → W) → (View → W → Result (Option X) R → W → Type 0) → S → Result (Option X) R → S → Type 0
StepsNear view walk Steps s answer t = Steps (view s) (walk s) answer (walk t) × (view t ≡ view s)

-- over exports
abbrev pub StepsNearExports : NearExports → Result (Option Export) Refusal → NearExports → Type 0
StepsNearExports = StepsNear (λ s. s.names.view.now) (λ s. s.walk) (λ v. StepsExports (map_of v) v.bytes.now)

-- over the imports of a library
abbrev pub StepsNearImports : NearImports → Result (Option Import) Refusal → NearImports → Type 0
StepsNearImports = StepsNear (λ s. s.names.view.now) (λ s. s.walk) (λ v. StepsImports (map_of v) (entry_size (v.image.now.width == 64)) v.bytes.now)

-- over what is imported of all DLLs
abbrev pub StepsKeptLibraryFunctions : KeptWalk LibraryFunctions → Result (Option LibraryFunction) DirectoryRefusal → KeptWalk LibraryFunctions → Type 0
StepsKeptLibraryFunctions = StepsNear (λ s. s.names.view.now) (λ s. s.walk) (λ v. StepsLibraryFunctions (map_of v) v.bytes.now v.image.now)

-- over the imports of all libraries
abbrev pub StepsNearLibraryImports : NearLibraryImports → Result (Option LibraryImport) Refusal → NearLibraryImports → Type 0
StepsNearLibraryImports = StepsNear (λ s. s.names.view.now) (λ s. s.walk) (λ v. StepsLibraryImports (map_of v) (entry_size (v.image.now.width == 64)) v.bytes.now)
