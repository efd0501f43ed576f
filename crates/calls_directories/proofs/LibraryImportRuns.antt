-- The walk over the imports of all libraries returns those of each library in turn.
use Rattle.std.proofs.Common.{◌≡◌, ℕ, zero, suc, List, [], ◌∷◌, Option, Some, None, Result, Ok, Err, refl, sym, ap, subst, ◌∙◌, arith}
use Rattle.calls_directories.proofs.Cited.{Refusal, Import, Imports, LibraryImport, LibraryImports, StepsImports, StepsLibraries}
use Rattle.calls_directories.proofs.Cited.{import_by, import_left, import_step, library_step, no_libraries, AreImportsOf}
use Rattle.calls_directories.proofs.Cited.{StepsLibraryImports, Turn, Turns, after_import, all_over, at_library, before_first}
use Rattle.calls_directories.proofs.Cited.{next_library, of_libraries, of_library, then_items, turn, turn_by_import}
use Rattle.calls_directories.proofs.Cited.{turn_by_library, with_library, IsOver, ReturnsItems, left_entry, Makes, gives_first}
use Rattle.calls_directories.proofs.Cited.{gives_nothing, gives_refusal, makes_by}
use Rattle.calls_directories.specs.declared.names.imports.Libraries.{Libraries}
use Rattle.calls_directories.specs.declared.names.imports.Library.{Library}
use Rattle.calls_directories.proofs.LastImports.{step_last}

module _ (offset : ℕ → Option ℕ) (w : ℕ) (b : List ℕ) where
  abbrev Own : Imports → Result (Option Import) Refusal → Imports → Type 0
  Own = StepsImports offset w b

  abbrev Others : Libraries → Result (Option Library) Refusal → Libraries → Type 0
  Others = StepsLibraries offset w b

  abbrev All : LibraryImports → Result (Option LibraryImport) Refusal → LibraryImports → Type 0
  All = StepsLibraryImports offset w b

  -- ---- turns

  ends_by : (n : ℕ) (walk next : LibraryImports) (given answer : Result (Option LibraryImport) Refusal) (v : LibraryImports) → turn offset w b walk ≡ (Some given, next) → Turns (turn offset w b) n walk answer v → (answer ≡ given) × (v ≡ next)
  ends_by zero walk next given answer v is t =
      let same : Some answer ≡ Some given = ap (λ (p : Turn). p.0) (t ∙ is) in
      (cc, ap (λ (p : Turn). p.1) (t ∙ is))
  ends_by (suc n) walk next given answer v is t =
      let none : None ≡ Some given = ap (λ (p : Turn). p.0) (t.1 ∙ is) in
      absurd cc

  -- a turn that returns something is a step
  ends : (walk next : LibraryImports) (given : Result (Option LibraryImport) Refusal) → turn offset w b walk ≡ (Some given, next) → Makes All walk given next
  ends walk next given is answer v s = ends_by s.0 walk next given answer v is s.1

  goes_on : (n : ℕ) (walk next : LibraryImports) (answer : Result (Option LibraryImport) Refusal) (v : LibraryImports) → turn offset w b walk ≡ (None, next) → Turns (turn offset w b) n walk answer v → All next answer v
  goes_on zero walk next answer v is t =
      let none : Some answer ≡ None = ap (λ (p : Turn). p.0) (t ∙ is) in
      absurd cc
  goes_on (suc n) walk next answer v is t =
      (n, subst (λ (u : LibraryImports). Turns (turn offset w b) n u answer v) (ap (λ (p : Turn). p.1) (t.1 ∙ is)) t.2)

  -- a turn that returns nothing is a part of the step
  passes : (walk next : LibraryImports) (items : List (Result LibraryImport Refusal)) → turn offset w b walk ≡ (None, next) → ReturnsItems All next items → ReturnsItems All walk items
  passes walk next [] is h = λ answer v s. h answer v (goes_on s.0 walk next answer v is s.1)
  passes walk next (Ok x ∷ items) is h = λ answer v s. h answer v (goes_on s.0 walk next answer v is s.1)
  passes walk next (Err r ∷ items) is h = (h.0, λ answer v s. h.1 answer v (goes_on s.0 walk next answer v is s.1))

  pub one_more_turn : (walk next : LibraryImports) (answer : Result (Option LibraryImport) Refusal) (v : LibraryImports) → (None, next) ≡ turn offset w b walk → All next answer v → All walk answer v
  one_more_turn walk next answer v is s = (suc s.0, (next, is, s.1))

  -- ---- the walk after an import

  after_by : (walk left : Imports) (i : Import) (r : Result Import Refusal) → import_by w walk r ≡ (Ok (Some i), left) → left ≡ after_import w walk
  after_by walk left i (Ok x) is = sym (ap (λ (p : Result (Option Import) Refusal × Imports). p.1) is)
  after_by walk left i (Err r) is =
      let refused : Err r ≡ Ok (Some i) = ap (λ (p : Result (Option Import) Refusal × Imports). p.0) is in
      absurd cc

  after_left : (walk left : Imports) (i : Import) (entry : Result (Option (List ℕ)) Refusal) → import_left offset w b walk entry ≡ (Ok (Some i), left) → left ≡ after_import w walk
  after_left walk left i (Ok (Some bytes)) is = after_by walk left i _ is
  after_left walk left i (Ok None) is =
      let none : Ok None ≡ Ok (Some i) = ap (λ (p : Result (Option Import) Refusal × Imports). p.0) is in
      absurd cc
  after_left walk left i (Err r) is =
      let refused : Err r ≡ Ok (Some i) = ap (λ (p : Result (Option Import) Refusal × Imports). p.0) is in
      absurd cc

  after_one : (walk left : Imports) (i : Import) → import_step offset w b walk ≡ (Ok (Some i), left) → left ≡ after_import w walk
  unfolding import_step
  after_one walk left i is = after_left walk left i (left_entry w b walk.left) is

  -- ---- a turn by what the two walks return

  turn_own : (walk : LibraryImports) (left : Imports) (given : Result (Option Import) Refusal) → import_step offset w b walk.imports ≡ (given, left) → turn offset w b walk ≡ turn_by_import w b walk (next_library offset w b walk) given left
  unfolding turn
  turn_own walk left given is = ap (λ (p : Result (Option Import) Refusal × Imports). turn_by_import w b walk (next_library offset w b walk) p.0 p.1) is

  turn_other : (walk : LibraryImports) (rest : Libraries) (given : Result (Option Library) Refusal) → ReturnsItems Own walk.imports [] → library_step offset w b walk.libraries ≡ (given, rest) → turn offset w b walk ≡ turn_by_library walk given rest
  turn_other walk rest given none is =
      let own : Result (Option Import) Refusal × Imports = import_step offset w b walk.imports in
      let over = none own.0 own.1 refl in
      turn_own walk own.1 (Ok None) (ap (λ (r : Result (Option Import) Refusal). (r, own.1)) over.0)
      ∙ ap (λ (p : Result (Option Library) Refusal × Libraries). turn_by_library walk p.0 p.1) is

  -- ---- walks that are over

  nothing_left : (rva : ℕ) → import_step offset w b (record { left = record { offset = 0; length = 0 }; rva = rva }) ≡ (Ok None, record { left = record { offset = 0; length = 0 }; rva = rva })
  nothing_left rva = step_last offset w b 0 rva (omega arith)

  none_left : (rva : ℕ) → ReturnsItems Own (record { left = record { offset = 0; length = 0 }; rva = rva }) []
  none_left rva =
      let walk : Imports = record { left = record { offset = 0; length = 0 }; rva = rva } in
      let makes = makes_by (import_step offset w b) walk walk (Ok None) (nothing_left rva) in
      gives_nothing Own walk walk makes makes

  no_library : library_step offset w b no_libraries ≡ (Ok None, no_libraries)
  unfolding library_step
  no_library = refl

  over_after_error : (walk : LibraryImports) → IsOver All (all_over walk)
  over_after_error walk = ends (all_over walk) (all_over walk) (Ok None) (turn_other (all_over walk) no_libraries (Ok None) (none_left walk.imports.rva) no_library)

  -- ---- the imports of a library, and what follows them

  abbrev Follows : LibraryImports → List (Result LibraryImport Refusal) → Type 0
  Follows walk more = (left : Imports) → ReturnsItems Own left [] → ReturnsItems All (record walk { imports = left }) more

  in_library : (own : List (Result Import Refusal)) (walk : LibraryImports) (more : List (Result LibraryImport Refusal)) → ReturnsItems Own walk.imports own → Follows walk more →
      ReturnsItems All walk (then_items (of_library w b walk.library_name walk.begun walk.imports own) more)
  in_library [] walk more h follows = follows walk.imports h
  in_library (Ok i ∷ own) walk more h follows =
      let step : Result (Option Import) Refusal × Imports = import_step offset w b walk.imports in
      let given = h step.0 step.1 refl in
      let is : step ≡ (Ok (Some i), step.1) = ap (λ (r : Result (Option Import) Refusal). (r, step.1)) given.0 in
      let after : step.1 ≡ after_import w walk.imports = after_one walk.imports step.1 i is in
      let next : LibraryImports = record walk { imports = after_import w walk.imports } in
      let first : turn offset w b walk ≡ (Some (Ok (Some (with_library w b walk.library_name walk.begun walk.imports i))), next) =
      turn_own walk (after_import w walk.imports) (Ok (Some i)) (is ∙ ap (λ (u : Imports). (Ok (Some i), u)) after) in
      gives_first All walk next (with_library w b walk.library_name walk.begun walk.imports i) _ (ends walk next _ first)
      (in_library own next more (subst (λ (u : Imports). ReturnsItems Own u own) after given.1) follows)
  in_library (Err r ∷ own) walk more h follows =
      let step : Result (Option Import) Refusal × Imports = import_step offset w b walk.imports in
      let given = h.1 step.0 step.1 refl in
      let is : step ≡ (Err r, step.1) = ap (λ (x : Result (Option Import) Refusal). (x, step.1)) given.0 in
      gives_refusal All walk (all_over walk) r (ends walk (all_over walk) (Err r) (turn_own walk step.1 (Err r) is)) (over_after_error walk)

  from_libraries : (imports : Library → List (Result Import Refusal)) (libraries : List (Result Library Refusal)) (walk : LibraryImports) → ReturnsItems Own walk.imports [] → ReturnsItems Others walk.libraries libraries →
      AreImportsOf offset w b imports libraries → ReturnsItems All walk (of_libraries w b imports walk.begun libraries)
  from_libraries imports [] walk none h are =
      let step : Result (Option Library) Refusal × Libraries = library_step offset w b walk.libraries in
      let given = h step.0 step.1 refl in
      let last : LibraryImports = record walk { libraries = step.1 } in
      let is : step ≡ (Ok None, step.1) = ap (λ (x : Result (Option Library) Refusal). (x, step.1)) given.0 in
      let again : Result (Option Library) Refusal × Libraries = library_step offset w b step.1 in
      let over = given.1 again.0 again.1 refl in
      let stays : again ≡ (Ok None, step.1) = ap (λ (x : Result (Option Library) Refusal). (x, again.1)) over.0 ∙ ap (λ (u : Libraries). (Ok None, u)) over.1 in
      gives_nothing All walk last (ends walk last (Ok None) (turn_other walk step.1 (Ok None) none is)) (ends last last (Ok None) (turn_other last step.1 (Ok None) none stays))
  from_libraries imports (Ok x ∷ libraries) walk none h are =
      let step : Result (Option Library) Refusal × Libraries = library_step offset w b walk.libraries in
      let given = h step.0 step.1 refl in
      let is : step ≡ (Ok (Some x), step.1) = ap (λ (r : Result (Option Library) Refusal). (r, step.1)) given.0 in
      let next : LibraryImports = at_library walk step.1 x in
      passes walk next _ (turn_other walk step.1 (Ok (Some x)) none is)
      (in_library (imports x) next (of_libraries w b imports next.begun libraries) are.0 (λ left over. from_libraries imports libraries (record next { imports = left }) over given.1 are.1))
  from_libraries imports (Err r ∷ libraries) walk none h are =
      let step : Result (Option Library) Refusal × Libraries = library_step offset w b walk.libraries in
      let given = h.1 step.0 step.1 refl in
      let is : step ≡ (Err r, step.1) = ap (λ (x : Result (Option Library) Refusal). (x, step.1)) given.0 in
      gives_refusal All walk (all_over walk) r (ends walk (all_over walk) (Err r) (turn_other walk step.1 (Err r) none is)) (over_after_error walk)

  pub all_in_turn : (walk : LibraryImports) (own : List (Result Import Refusal)) (libraries : List (Result Library Refusal)) (imports : Library → List (Result Import Refusal)) →
      ReturnsItems Own walk.imports own → ReturnsItems Others walk.libraries libraries → AreImportsOf offset w b imports libraries →
      ReturnsItems All walk (then_items (of_library w b walk.library_name walk.begun walk.imports own) (of_libraries w b imports walk.begun libraries))
  all_in_turn walk own libraries imports h others are =
      in_library own walk (of_libraries w b imports walk.begun libraries) h (λ left none. from_libraries imports libraries (record walk { imports = left }) none others are)

  pub from_first : (libraries : List (Result Library Refusal)) (imports : Library → List (Result Import Refusal)) (start : Libraries) → ReturnsItems Others start libraries → AreImportsOf offset w b imports libraries →
      ReturnsItems All (before_first start) (of_libraries w b imports 0 libraries)
  from_first libraries imports start h are = from_libraries imports libraries (before_first start) (none_left 0) h are
