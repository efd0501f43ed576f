-- What is imported of all delay-loaded DLLs: one walk that goes through the walk over DLLs, and through the walk over the functions of each.
use Rattle.std.specs.Prelude.{◌≡◌, ℕ, zero, suc, ◌-◌, List, [], ◌∷◌, Option, Some, None, Result, Ok, Err}
use Rattle.pe_directories.specs.DirectoryRefusals.{DirectoryRefusal}
use Rattle.calls_directories.specs.DelayImports.{first_library_in, first_of_walk, functions_after}
use Rattle.calls_directories.specs.DirectoryRuns.{StepsDelayedFunctions}
use Rattle.calls_base.specs.Directories.{left_after, step_of}
use Rattle.calls_directories.specs.LibraryImports.{one_more, then_items}
use Rattle.calls_base.specs.Ranges.{no_bytes}
use Rattle.calls_base.specs.Runs.{ReturnsItems, read_items}
use Rattle.calls_directories.specs.declared.directories.delay_imports.DelayLibrary.{DelayLibrary}
use Rattle.calls_directories.specs.declared.directories.delay_imports.DelayedFunction.{DelayedFunction}
use Rattle.calls_directories.specs.declared.directories.delay_imports.DelayedFunctions.{DelayedFunctions}
use Rattle.calls_base.specs.declared.image.Image.{Image}
use Rattle.calls_directories.specs.declared.directories.all_delay_imports.LibraryFunction.{LibraryFunction}
use Rattle.calls_directories.specs.declared.directories.all_delay_imports.LibraryFunctions.{LibraryFunctions}
use Rattle.calls_base.specs.declared.ranges.Range.{Range}

-- ---- a walk; `offset` maps an RVA to its file offset

-- a walk before the first of these DLLs
abbrev pub before_first : Range → LibraryFunctions
before_first libraries = record { libraries = libraries; functions = record { left = no_bytes; attributes = 0; spare = 0 }; library_name = no_bytes; begun = 0 }

-- the walk at the start of this DLL, after which these are left
abbrev pub at_library : LibraryFunctions → Range → DelayLibrary → LibraryFunctions
at_library walk rest library = record { libraries = rest; functions = library.functions; library_name = library.name; begun = one_more walk.begun }

-- the walk after an error: no function of its DLL and no DLL is left
abbrev pub all_over : LibraryFunctions → LibraryFunctions
all_over walk = record walk { libraries = no_bytes; functions = record walk.functions { left = no_bytes } }

-- a function of a DLL of this name; so many DLLs have begun
abbrev pub with_library : Range → ℕ → DelayedFunction → LibraryFunction
with_library name begun function = record { function = function; library_name = name; library = begun - 1 }

-- ---- steps

-- what a turn returns, if it ends the step, and the walk after it
abbrev pub Turn : Type 0
Turn = Option (Result (Option LibraryFunction) DirectoryRefusal) × LibraryFunctions

-- where the DLL has no function left: the next DLL begins; after the last, or at its error, the step ends
abbrev pub turn_by_library : LibraryFunctions → Result (Option DelayLibrary) DirectoryRefusal → Range → Turn
turn_by_library walk (Ok (Some library)) rest = (None, at_library walk rest library)
turn_by_library walk (Ok None) rest = (Some (Ok None), record walk { libraries = rest })
turn_by_library walk (Err refusal) rest = (Some (Err refusal), all_over walk)

abbrev pub next_library : (ℕ → Option ℕ) → List ℕ → Image → LibraryFunctions → Turn
next_library offset b image walk =
    let first = first_library_in offset b image walk.libraries in
    turn_by_library walk (step_of (λ x. x) first) (left_after walk.libraries first)

-- by what the walk over the functions of the DLL returns, and the walk after it; or else this
abbrev pub turn_by_function : LibraryFunctions → Turn → Result (Option DelayedFunction) DirectoryRefusal → DelayedFunctions → Turn
turn_by_function walk otherwise (Ok (Some function)) left = (Some (Ok (Some (with_library walk.library_name walk.begun function))), record walk { functions = left })
turn_by_function walk otherwise (Ok None) left = otherwise
turn_by_function walk otherwise (Err refusal) left = (Some (Err refusal), all_over walk)

-- a turn: the next function of the DLL; where it has none left, the next DLL
unfoldable pub turn : (ℕ → Option ℕ) → List ℕ → Image → LibraryFunctions → Turn
turn offset b image walk =
    let first = first_of_walk offset b image walk.functions in
    turn_by_function walk (next_library offset b image walk) (step_of (λ x. x) first) (functions_after walk.functions first)

-- what all steps of a walk return, without turns, is `of_libraries` below, by the law walks_give_all_delayed_functions
-- turns by which DLLs without a function begin, so many, and then one that returns this
abbrev pub Turns : (LibraryFunctions → Turn) → ℕ → LibraryFunctions → Result (Option LibraryFunction) DirectoryRefusal → LibraryFunctions → Type 0
Turns make zero old answer new = (Some answer, new) ≡ make old
Turns make (suc n) old answer new = (between : LibraryFunctions) × ((None, between) ≡ make old) × Turns make n between answer new

-- a step: turns, up to the first that returns something
abbrev pub StepsLibraryFunctions : (ℕ → Option ℕ) → List ℕ → Image → LibraryFunctions → Result (Option LibraryFunction) DirectoryRefusal → LibraryFunctions → Type 0
StepsLibraryFunctions offset b image old answer new = (n : ℕ) × Turns (turn offset b image) n old answer new

-- ---- whole walks

-- what a walk returns of the items that the walk over the functions of its DLL returns
abbrev pub of_library : Range → ℕ → List (Result DelayedFunction DirectoryRefusal) → List (Result LibraryFunction DirectoryRefusal)
of_library name begun items = read_items (λ f. Ok (with_library name begun f)) items

-- the functions of DLLs, one DLL after the other: `functions` are the items of each; up to the first refusal
abbrev pub of_libraries : (DelayLibrary → List (Result DelayedFunction DirectoryRefusal)) → ℕ → List (Result DelayLibrary DirectoryRefusal) → List (Result LibraryFunction DirectoryRefusal)
of_libraries functions begun [] = []
of_libraries functions begun (Ok x ∷ libraries) = then_items (of_library x.name (one_more begun) (functions x)) (of_libraries functions (one_more begun) libraries)
of_libraries functions begun (Err refusal ∷ libraries) = Err refusal ∷ []

-- these are the items of the functions of each of these DLLs
abbrev pub AreFunctionsOf : (ℕ → Option ℕ) → List ℕ → Image → (DelayLibrary → List (Result DelayedFunction DirectoryRefusal)) → List (Result DelayLibrary DirectoryRefusal) → Type 0
AreFunctionsOf offset b image functions [] = Unit {0}
AreFunctionsOf offset b image functions (Ok x ∷ libraries) =
    ReturnsItems (StepsDelayedFunctions offset b image) x.functions (functions x) × AreFunctionsOf offset b image functions libraries
AreFunctionsOf offset b image functions (Err refusal ∷ libraries) = Unit {0}
