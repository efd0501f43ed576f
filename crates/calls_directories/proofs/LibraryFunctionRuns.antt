-- The walk over the functions of all delay-loaded DLLs returns those of each DLL in turn.
use Rattle.std.proofs.Common.{◌≡◌, ℕ, zero, suc, ◌<◌, List, [], ◌∷◌, length, drop, Option, Some, None, Result, Ok, Err, length-drop, refl, ap, subst, ◌∙◌, arith}
use Rattle.calls_directories.proofs.Cited.{◌>>=◌, first_delay_import, DirectoryRefusal, of_image, First, DelayImport}
use Rattle.calls_directories.proofs.Cited.{first_library_in, first_of_walk, functions_after, library_of, StepsDelayLibraries}
use Rattle.calls_directories.proofs.Cited.{StepsDelayedFunctions, first_of, left_after, read_first, step_of, AreFunctionsOf}
use Rattle.calls_directories.proofs.Cited.{StepsLibraryFunctions, turn_by_function, then_items, bytes_at, no_bytes, IsOver}
use Rattle.calls_directories.proofs.Cited.{ReturnsItems, DelayLibrary, DelayedFunction, DelayedFunctions, LibraryFunction}
use Rattle.calls_directories.proofs.Cited.{LibraryFunctions, Range, size_of, Makes, gives_first, gives_nothing, gives_refusal}
use Rattle.calls_directories.specs.LibraryFunctions.{Turn, Turns, all_over, at_library, before_first, next_library, of_libraries, of_library, turn, turn_by_library, with_library}
use Rattle.calls_base.specs.declared.image.Image as images
use Rattle.calls_directories.proofs.DirectoryLists.{delay_taken, no_delay_import}
use Rattle.calls_directories.proofs.DirectoryRuns.{over_has_none}

-- ---- each DLL takes bytes of the directory

shorter_read : (w : Range) (t : List ℕ) (a : Result DelayLibrary DirectoryRefusal) (x : DelayLibrary) → length t < w.length → step_of (λ (y : DelayLibrary). y) (Some (a >>= λ y. Ok (y, t))) ≡ Ok (Some x) →
    (left_after w (Some (a >>= λ y. Ok (y, t)))).length < w.length
shorter_read w t a x h given = grind arith

shorter_by : (offset : ℕ → Option ℕ) (b : List ℕ) (image : images.Image) (w : Range) (s : List ℕ) (f : First DelayImport (List ℕ)) (x : DelayLibrary) → length s ≡ w.length → first_delay_import s ≡ f →
    step_of (λ (y : DelayLibrary). y) (read_first (library_of offset b image) f) ≡ Ok (Some x) → (left_after w (read_first (library_of offset b image) f)).length < w.length
shorter_by offset b image w s None x size is given = absurd cc
shorter_by offset b image w s (Some (Ok p)) x size is given =
    let taken = delay_taken s p.0 p.1 is in
    let left : length p.1 ≡ length (drop 32 s) = ap length taken.0 in
    shorter_read w p.1 (library_of offset b image p.0) x (omega (arith, left, length-drop 32 s, taken.1, size)) given
shorter_by offset b image w s (Some (Err r)) x size is given = absurd cc

shorter_in : (offset : ℕ → Option ℕ) (b : List ℕ) (image : images.Image) (w : Range) (bytes : Result (List ℕ) DirectoryRefusal) (x : DelayLibrary) → of_image (bytes_at b w) ≡ bytes →
    step_of (λ (y : DelayLibrary). y) (read_first (library_of offset b image) (first_of first_delay_import bytes)) ≡ Ok (Some x) → (left_after w (read_first (library_of offset b image) (first_of first_delay_import bytes))).length < w.length
shorter_in offset b image w (Ok s) x is given = shorter_by offset b image w s (first_delay_import s) x (grind (arith, size_of)) refl given
shorter_in offset b image w (Err r) x is given = absurd cc

pub shorter : (offset : ℕ → Option ℕ) (b : List ℕ) (image : images.Image) (w : Range) (x : DelayLibrary) → step_of (λ (y : DelayLibrary). y) (first_library_in offset b image w) ≡ Ok (Some x) → (left_after w (first_library_in offset b image w)).length < w.length
shorter offset b image w x given = shorter_in offset b image w (of_image (bytes_at b w)) x refl given

-- ---- turns

module _ (offset : ℕ → Option ℕ) (b : List ℕ) (image : images.Image) where
  abbrev Own : DelayedFunctions → Result (Option DelayedFunction) DirectoryRefusal → DelayedFunctions → Type 0
  Own = StepsDelayedFunctions offset b image

  abbrev Others : Range → Result (Option DelayLibrary) DirectoryRefusal → Range → Type 0
  Others = StepsDelayLibraries offset b image

  abbrev All : LibraryFunctions → Result (Option LibraryFunction) DirectoryRefusal → LibraryFunctions → Type 0
  All = StepsLibraryFunctions offset b image

  ends_by : (n : ℕ) (walk next : LibraryFunctions) (given answer : Result (Option LibraryFunction) DirectoryRefusal) (v : LibraryFunctions) → turn offset b image walk ≡ (Some given, next) → Turns (turn offset b image) n walk answer v → (answer ≡ given) × (v ≡ next)
  ends_by zero walk next given answer v is t =
      let same : Some answer ≡ Some given = ap (λ (p : Turn). p.0) (t ∙ is) in
      (cc, ap (λ (p : Turn). p.1) (t ∙ is))
  ends_by (suc n) walk next given answer v is t =
      let none : None ≡ Some given = ap (λ (p : Turn). p.0) (t.1 ∙ is) in
      absurd cc

  -- a turn that returns something is a step
  ends : (walk next : LibraryFunctions) (given : Result (Option LibraryFunction) DirectoryRefusal) → turn offset b image walk ≡ (Some given, next) → Makes All walk given next
  ends walk next given is answer v s = ends_by s.0 walk next given answer v is s.1

  goes_on : (n : ℕ) (walk next : LibraryFunctions) (answer : Result (Option LibraryFunction) DirectoryRefusal) (v : LibraryFunctions) → turn offset b image walk ≡ (None, next) → Turns (turn offset b image) n walk answer v → All next answer v
  goes_on zero walk next answer v is t =
      let none : Some answer ≡ None = ap (λ (p : Turn). p.0) (t ∙ is) in
      absurd cc
  goes_on (suc n) walk next answer v is t =
      (n, subst (λ (u : LibraryFunctions). Turns (turn offset b image) n u answer v) (ap (λ (p : Turn). p.1) (t.1 ∙ is)) t.2)

  -- a turn that returns nothing is a part of the step
  passes : (walk next : LibraryFunctions) (items : List (Result LibraryFunction DirectoryRefusal)) → turn offset b image walk ≡ (None, next) → ReturnsItems All next items → ReturnsItems All walk items
  passes walk next [] is h = λ answer v s. h answer v (goes_on s.0 walk next answer v is s.1)
  passes walk next (Ok x ∷ items) is h = λ answer v s. h answer v (goes_on s.0 walk next answer v is s.1)
  passes walk next (Err r ∷ items) is h = (h.0, λ answer v s. h.1 answer v (goes_on s.0 walk next answer v is s.1))

  pub one_more_turn : (walk next : LibraryFunctions) (answer : Result (Option LibraryFunction) DirectoryRefusal) (v : LibraryFunctions) → (None, next) ≡ turn offset b image walk → All next answer v → All walk answer v
  one_more_turn walk next answer v is s = (suc s.0, (next, is, s.1))

  -- ---- a turn by what the two walks return

  abbrev own_step : DelayedFunctions → Result (Option DelayedFunction) DirectoryRefusal
  own_step walk = step_of (λ (x : DelayedFunction). x) (first_of_walk offset b image walk)

  abbrev own_left : DelayedFunctions → DelayedFunctions
  own_left walk = functions_after walk (first_of_walk offset b image walk)

  abbrev other_step : Range → Result (Option DelayLibrary) DirectoryRefusal
  other_step walk = step_of (λ (x : DelayLibrary). x) (first_library_in offset b image walk)

  abbrev other_left : Range → Range
  other_left walk = left_after walk (first_library_in offset b image walk)

  turn_own : (walk : LibraryFunctions) (given : Result (Option DelayedFunction) DirectoryRefusal) → own_step walk.functions ≡ given → turn offset b image walk ≡ turn_by_function walk (next_library offset b image walk) given (own_left walk.functions)
  unfolding turn
  turn_own walk given is = ap (λ (r : Result (Option DelayedFunction) DirectoryRefusal). turn_by_function walk (next_library offset b image walk) r (own_left walk.functions)) is

  turn_other : (walk : LibraryFunctions) (given : Result (Option DelayLibrary) DirectoryRefusal) → ReturnsItems Own walk.functions [] → other_step walk.libraries ≡ given → turn offset b image walk ≡ turn_by_library walk given (other_left walk.libraries)
  turn_other walk given none is =
      let over = none (own_step walk.functions) (own_left walk.functions) (refl, refl) in
      turn_own walk (Ok None) over.0
      ∙ ap (λ (r : Result (Option DelayLibrary) DirectoryRefusal). turn_by_library walk r (other_left walk.libraries)) is

  -- ---- walks that are over

  none_left : (attributes spare : ℕ) → ReturnsItems Own (record { left = no_bytes; attributes = attributes; spare = spare }) []
  none_left attributes spare =
      let walk : DelayedFunctions = record { left = no_bytes; attributes = attributes; spare = spare } in
      gives_nothing Own walk walk (λ answer v s. s) (λ answer v s. s)

  no_library : first_library_in offset b image no_bytes ≡ None
  no_library = ap (λ (f : First DelayImport (List ℕ)). read_first (library_of offset b image) f) (over_has_none first_delay_import b no_delay_import)

  over_after_error : (walk : LibraryFunctions) → IsOver All (all_over walk)
  over_after_error walk =
      let none : turn offset b image (all_over walk) ≡ turn_by_library (all_over walk) (Ok None) (other_left no_bytes) =
      turn_other (all_over walk) (Ok None) (none_left walk.functions.attributes walk.functions.spare) (ap (λ (f : First DelayLibrary (List ℕ)). step_of (λ (x : DelayLibrary). x) f) no_library) in
      let stays : other_left no_bytes ≡ no_bytes = ap (λ (f : First DelayLibrary (List ℕ)). left_after no_bytes f) no_library in
      ends (all_over walk) (all_over walk) (Ok None) (none ∙ ap (λ (r : Range). turn_by_library (all_over walk) (Ok None) r) stays)

  -- ---- the functions of a DLL, and what follows them

  abbrev Follows : LibraryFunctions → List (Result LibraryFunction DirectoryRefusal) → Type 0
  Follows walk more = (left : DelayedFunctions) → ReturnsItems Own left [] → ReturnsItems All (record walk { functions = left }) more

  in_library : (own : List (Result DelayedFunction DirectoryRefusal)) (walk : LibraryFunctions) (more : List (Result LibraryFunction DirectoryRefusal)) → ReturnsItems Own walk.functions own → Follows walk more →
      ReturnsItems All walk (then_items (of_library walk.library_name walk.begun own) more)
  in_library [] walk more h follows = follows walk.functions h
  in_library (Ok f ∷ own) walk more h follows =
      let given = h (own_step walk.functions) (own_left walk.functions) (refl, refl) in
      let next : LibraryFunctions = record walk { functions = own_left walk.functions } in
      gives_first All walk next (with_library walk.library_name walk.begun f) _ (ends walk next _ (turn_own walk (Ok (Some f)) given.0))
      (in_library own next more given.1 follows)
  in_library (Err r ∷ own) walk more h follows =
      let given = h.1 (own_step walk.functions) (own_left walk.functions) (refl, refl) in
      gives_refusal All walk (all_over walk) r (ends walk (all_over walk) (Err r) (turn_own walk (Err r) given.0)) (over_after_error walk)

  from_libraries : (functions : DelayLibrary → List (Result DelayedFunction DirectoryRefusal)) (libraries : List (Result DelayLibrary DirectoryRefusal)) (walk : LibraryFunctions) → ReturnsItems Own walk.functions [] → ReturnsItems Others walk.libraries libraries →
      AreFunctionsOf offset b image functions libraries → ReturnsItems All walk (of_libraries functions walk.begun libraries)
  from_libraries functions [] walk none h are =
      let given = h (other_step walk.libraries) (other_left walk.libraries) (refl, refl) in
      let last : LibraryFunctions = record walk { libraries = other_left walk.libraries } in
      let over = given.1 (other_step last.libraries) (other_left last.libraries) (refl, refl) in
      let again : turn offset b image last ≡ (Some (Ok None), last) =
      turn_other last (Ok None) none over.0 ∙ ap (λ (r : Range). turn_by_library last (Ok None) r) over.1 in
      gives_nothing All walk last (ends walk last (Ok None) (turn_other walk (Ok None) none given.0)) (ends last last (Ok None) again)
  from_libraries functions (Ok x ∷ libraries) walk none h are =
      let given = h (other_step walk.libraries) (other_left walk.libraries) (refl, refl) in
      let next : LibraryFunctions = at_library walk (other_left walk.libraries) x in
      passes walk next _ (turn_other walk (Ok (Some x)) none given.0)
      (in_library (functions x) next (of_libraries functions next.begun libraries) are.0 (λ left over. from_libraries functions libraries (record next { functions = left }) over given.1 are.1))
  from_libraries functions (Err r ∷ libraries) walk none h are =
      let given = h.1 (other_step walk.libraries) (other_left walk.libraries) (refl, refl) in
      gives_refusal All walk (all_over walk) r (ends walk (all_over walk) (Err r) (turn_other walk (Err r) none given.0)) (over_after_error walk)

  pub all_in_turn : (walk : LibraryFunctions) (own : List (Result DelayedFunction DirectoryRefusal)) (libraries : List (Result DelayLibrary DirectoryRefusal)) (functions : DelayLibrary → List (Result DelayedFunction DirectoryRefusal)) →
      ReturnsItems Own walk.functions own → ReturnsItems Others walk.libraries libraries → AreFunctionsOf offset b image functions libraries →
      ReturnsItems All walk (then_items (of_library walk.library_name walk.begun own) (of_libraries functions walk.begun libraries))
  all_in_turn walk own libraries functions h others are =
      in_library own walk (of_libraries functions walk.begun libraries) h (λ left none. from_libraries functions libraries (record walk { functions = left }) none others are)

  pub from_first : (libraries : List (Result DelayLibrary DirectoryRefusal)) (functions : DelayLibrary → List (Result DelayedFunction DirectoryRefusal)) (start : Range) → ReturnsItems Others start libraries → AreFunctionsOf offset b image functions libraries →
      ReturnsItems All (before_first start) (of_libraries functions 0 libraries)
  from_first libraries functions start h are = from_libraries functions libraries (before_first start) (none_left 0 0) h are
