-- The imports of all libraries: one walk that goes through the walk over libraries, and through the walk over the imports of each.
use Rattle.std.specs.Prelude.{◌≡◌, ℕ, zero, suc, ◌+◌, ◌-◌, ◌%◌, ◌^◌, ◌==◌, min, List, [], ◌∷◌, Option, Some, None, Result, Ok, Err, if◌then◌else◌}
use Rattle.pe_core.specs.Bytes.{le}
use Rattle.pe_core.specs.Refusals.{Refusal}
use Rattle.calls_directories.specs.declared.names.imports.Import.{Import}
use Rattle.calls_directories.specs.declared.names.imports.Imports.{Imports}
use Rattle.calls_directories.specs.declared.names.imports.Libraries.{Libraries}
use Rattle.calls_directories.specs.declared.names.imports.Library.{Library}
use Rattle.calls_directories.specs.declared.names.all_imports.LibraryImport.{LibraryImport}
use Rattle.calls_directories.specs.declared.names.all_imports.LibraryImports.{LibraryImports}
use Rattle.calls_base.specs.declared.ranges.Range.{Range}
use Rattle.calls_directories.specs.Imports.{StepsImports, import_step, library_step, no_imports, no_libraries}
use Rattle.calls_base.specs.Ranges.{no_bytes, range_after}
use Rattle.calls_base.specs.Runs.{ReturnsItems, read_in_turn}

-- ---- a walk; `offset` maps an RVA to its file offset, `w` is the size of an entry of a list in bytes

-- a walk before the first of these libraries
abbrev pub before_first : Libraries → LibraryImports
before_first libraries = record { libraries = libraries; imports = record { left = no_bytes; rva = 0 }; library_name = no_bytes; begun = 0 }

-- how many libraries a walk has begun after one more
abbrev pub one_more : ℕ → ℕ
one_more begun = min (begun + 1) (2 ^ 64 - 1)

-- the walk at the start of this library, after which these are left
abbrev pub at_library : LibraryImports → Libraries → Library → LibraryImports
at_library walk rest library = record { libraries = rest; imports = library.imports; library_name = library.name; begun = one_more walk.begun }

-- the walk after an error: none of its library and no library is left
abbrev pub all_over : LibraryImports → LibraryImports
all_over walk = record walk { libraries = no_libraries; imports = no_imports walk.imports }

-- ---- an import with its library

-- the RVA of an import's hint, if it has a name: the low 31 bits of its entry, which a walk has left at an offset
abbrev pub hint_rva : ℕ → List ℕ → ℕ → Import → ℕ
hint_rva w b p import = if import.has_name == 0 then 0 else le b p w % 2 ^ 31

-- the import that a walk over a library of this name returns next; so many libraries have begun
abbrev pub with_library : ℕ → List ℕ → Range → ℕ → Imports → Import → LibraryImport
with_library w b name begun imports import = record {
  import = import;
  library_name = name;
  library = begun - 1;
  hint_rva = hint_rva w b imports.left.offset import;
  spare = 0;
}

-- ---- steps

-- what a turn returns, if it ends the step, and the walk after it
abbrev pub Turn : Type 0
Turn = Option (Result (Option LibraryImport) Refusal) × LibraryImports

-- where the library has no import left: the next library begins; after the last, or at its error, the step ends
abbrev pub turn_by_library : LibraryImports → Result (Option Library) Refusal → Libraries → Turn
turn_by_library walk (Ok (Some library)) rest = (None, at_library walk rest library)
turn_by_library walk (Ok None) rest = (Some (Ok None), record walk { libraries = rest })
turn_by_library walk (Err refusal) rest = (Some (Err refusal), all_over walk)

abbrev pub next_library : (ℕ → Option ℕ) → ℕ → List ℕ → LibraryImports → Turn
next_library offset w b walk = let next = library_step offset w b walk.libraries in turn_by_library walk next.0 next.1

-- by what the walk over the imports of the library returns, and the walk after it; or else this
abbrev pub turn_by_import : ℕ → List ℕ → LibraryImports → Turn → Result (Option Import) Refusal → Imports → Turn
turn_by_import w b walk otherwise (Ok (Some import)) left = (Some (Ok (Some (with_library w b walk.library_name walk.begun walk.imports import))), record walk { imports = left })
turn_by_import w b walk otherwise (Ok None) left = otherwise
turn_by_import w b walk otherwise (Err refusal) left = (Some (Err refusal), all_over walk)

-- a turn: the next import of the library; where it has none left, the next library
unfoldable pub turn : (ℕ → Option ℕ) → ℕ → List ℕ → LibraryImports → Turn
turn offset w b walk = let own = import_step offset w b walk.imports in turn_by_import w b walk (next_library offset w b walk) own.0 own.1

-- what all steps of a walk return, without turns, is `of_libraries` below, by the law walks_give_all_imports
-- turns by which libraries without an import begin, so many, and then one that returns this
abbrev pub Turns : (LibraryImports → Turn) → ℕ → LibraryImports → Result (Option LibraryImport) Refusal → LibraryImports → Type 0
Turns make zero old answer new = (Some answer, new) ≡ make old
Turns make (suc n) old answer new = (between : LibraryImports) × ((None, between) ≡ make old) × Turns make n between answer new

-- a step: turns, up to the first that returns something
abbrev pub StepsLibraryImports : (ℕ → Option ℕ) → ℕ → List ℕ → LibraryImports → Result (Option LibraryImport) Refusal → LibraryImports → Type 0
StepsLibraryImports offset w b old answer new = (n : ℕ) × Turns (turn offset w b) n old answer new

-- ---- whole walks

-- items, and then others; a refusal is the last
abbrev pub then_items : {X R : Type 0} → List (Result X R) → List (Result X R) → List (Result X R)
then_items [] more = more
then_items (Ok x ∷ items) more = Ok x ∷ then_items items more
then_items (Err refusal ∷ items) more = Err refusal ∷ []

-- a walk over the imports of a library after one of w bytes
abbrev pub after_import : ℕ → Imports → Imports
after_import w walk = record { left = range_after walk.left w; rva = (walk.rva + w) % 2 ^ 64 }

-- what a walk returns of the items that the walk over the imports of its library returns
abbrev pub of_library : ℕ → List ℕ → Range → ℕ → Imports → List (Result Import Refusal) → List (Result LibraryImport Refusal)
of_library w b name begun walk items = read_in_turn (λ u i. Ok (with_library w b name begun u i)) (λ u i. after_import w u) walk items

-- the imports of libraries, one library after the other: `imports` are the items of each; up to the first refusal
abbrev pub of_libraries : ℕ → List ℕ → (Library → List (Result Import Refusal)) → ℕ → List (Result Library Refusal) → List (Result LibraryImport Refusal)
of_libraries w b imports begun [] = []
of_libraries w b imports begun (Ok x ∷ libraries) = then_items (of_library w b x.name (one_more begun) x.imports (imports x)) (of_libraries w b imports (one_more begun) libraries)
of_libraries w b imports begun (Err refusal ∷ libraries) = Err refusal ∷ []

-- these are the items of the imports of each of these libraries
abbrev pub AreImportsOf : (ℕ → Option ℕ) → ℕ → List ℕ → (Library → List (Result Import Refusal)) → List (Result Library Refusal) → Type 0
AreImportsOf offset w b imports [] = Unit {0}
AreImportsOf offset w b imports (Ok x ∷ libraries) = ReturnsItems (StepsImports offset w b) x.imports (imports x) × AreImportsOf offset w b imports libraries
AreImportsOf offset w b imports (Err refusal ∷ libraries) = Unit {0}
