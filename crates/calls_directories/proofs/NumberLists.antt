-- Whole walks over TLS callbacks, and over what is imported of a DLL, return the numbers of their tables.
use Rattle.std.proofs.Common.{◌≡◌, ◌⊎◌, inl, inr, ℕ, ◌+◌, ◌-◌, ◌<◌, ◌≤◌, ◌==◌, Bool, true, false, List, [], ◌∷◌, length, drop, Option, Some, None, Result, Ok, Err, refl, sym, ap, subst, ◌∙◌, arith}
use Rattle.calls_directories.proofs.Cited.{nat_tests, places, same_lists, drop_all, holds, Refusal, Short, SectionTable}
use Rattle.calls_directories.proofs.Cited.{lookup_table, DirectoryRefusal, Image, size_of_va, First, Items, DelayImport, size_of}
use Rattle.calls_directories.proofs.Cited.{function_of, functions_after, functions_of, StepsCallbacks, StepsDelayedFunctions}
use Rattle.calls_directories.proofs.Cited.{callbacks_at, first_in, first_va_in, image_parts, left_after, range_left, read_first}
use Rattle.calls_directories.proofs.Cited.{map_of_image, bytes_at, no_bytes, range_after, ReturnsItems, read_in_turn, read_items}
use Rattle.calls_directories.proofs.Cited.{DelayedFunction, DelayedFunctions, Range}
use Rattle.pe_directories.specs.Tls.{callback_table}
use Rattle.pe_directories.specs.VaTables.{first_va}
use Rattle.pe_directories.specs.declared.tls.TlsDirectory.{TlsDirectory}
use Rattle.calls_directories.proofs.DelayAddresses.{same_offset}
use Rattle.calls_directories.proofs.DirectoryLists.{held}
use Rattle.calls_directories.proofs.DirectoryRuns.{IsWalk, Takes, as_they_are, goes_on, in_turn, makes_read, makes_reported, moved, moves_reported, next_range, over_range, refused, same_read, sees, sees_refusal}
use Rattle.calls_base.specs.declared.image.Image as images

-- ---- what stands first, and what it leaves

pub va_taken : (is_64 : Bool) → Takes (first_va is_64) (λ x. size_of_va is_64)
unfolding first_va
va_taken is_64 = grind (arith, held)

-- ---- TLS callbacks, and what is imported of a DLL

-- a walk over numbers has these bytes, and is not the range that stands for the end of any walk
abbrev pub HoldsNumbers : List ℕ → Range → List ℕ → Type 0
HoldsNumbers b w s = (bytes_at b w ≡ Ok s) × (0 < w.offset + w.length)

sees_numbers : (image : images.Image) (b : List ℕ) (w : Range) → 0 < w.offset + w.length → first_va_in image b w ≡ first_in (first_va (image.width == 64)) b w
sees_numbers image b w h = grind (arith, nat_tests)

numbers_go_on : (b : List ℕ) (w : Range) (s t : List ℕ) (n : ℕ) → HoldsNumbers b w s → t ≡ drop n s → n ≤ length s → (range_left w (length t) ≡ range_after w n) × HoldsNumbers b (range_after w n) t
numbers_go_on b w s t n h is some =
    let on = goes_on b w s t n h.0 is some in
    let size : length s ≡ w.length = size_of b w s h.0 in
    let room : 0 < w.offset + w.length = h.1 in
    (on.0, (on.1, omega (arith, size, some, room)))

abbrev pub wide : images.Image → Bool
wide image = image.width == 64

abbrev pub past_number : {X : Type 0} → images.Image → Range → X → Range
past_number image w x = range_after w (size_of_va (wide image))

callback_walk : (image : images.Image) (b : List ℕ) → IsWalk (StepsCallbacks image b) (first_va (wide image)) (first_va_in image b) (λ (w : Range) (x : ℕ). Ok x) (past_number image) next_range over_range (HoldsNumbers b)
callback_walk image b = record {
  sees = λ w s h. sees_numbers image b w h.1 ∙ sees (first_va (wide image)) b w s h.0;
  makes = makes_reported (λ (w : Range) (x : ℕ). x) (first_va_in image b) left_after next_range over_range (moves_reported (λ (w : Range) (x : ℕ). x));
  goes_on = λ w s x t h e. numbers_go_on b w s t (size_of_va (wide image)) h (va_taken (wide image) s x t e).0 (va_taken (wide image) s x t e).1;
  ends = λ w. refl;
}

pub callbacks_in_turn : (b : List ℕ) (image : images.Image) (w : Range) (s : List ℕ) (items : List (Result ℕ DirectoryRefusal)) → 0 < w.offset + w.length → bytes_at b w ≡ Ok s → Items (first_va (wide image)) s items →
    ReturnsItems (StepsCallbacks image b) w items
callbacks_in_turn b image w s items some h f =
    subst (λ (xs : List (Result ℕ DirectoryRefusal)). ReturnsItems (StepsCallbacks image b) w xs)
    (same_read (λ (x : ℕ). Ok x) (past_number image) w items ∙ as_they_are (first_va (wide image)) s items f)
    (in_turn _ _ _ _ _ _ _ _ (callback_walk image b) w s items (h, some) f)

pub callbacks_outside : (b : List ℕ) (image : images.Image) (w : Range) (r : Refusal) → 0 < w.offset + w.length → bytes_at b w ≡ Err r → ReturnsItems (StepsCallbacks image b) w (Err (Image r) ∷ [])
callbacks_outside b image w r some e = grind (arith, refused, callback_walk, sees_numbers, sees_refusal)

abbrev pub function_read : (ℕ → Option ℕ) → List ℕ → images.Image → DelayedFunctions → ℕ → Result DelayedFunction DirectoryRefusal
function_read offset b image w number = function_of offset b image w.attributes number

abbrev pub numbers_at : List ℕ → images.Image → DelayedFunctions → First ℕ (List ℕ)
numbers_at b image w = first_va_in image b w.left

abbrev pub past_function : images.Image → DelayedFunctions → ℕ → DelayedFunctions
past_function image w x = record w { left = range_after w.left (size_of_va (wide image)) }

abbrev pub next_function : DelayedFunctions → ℕ → List ℕ → DelayedFunctions
next_function w x t = record w { left = range_left w.left (length t) }

abbrev pub over_functions : DelayedFunctions → DelayedFunctions
over_functions w = record w { left = no_bytes }

functions_move : (offset : ℕ → Option ℕ) (b : List ℕ) (image : images.Image) (w : DelayedFunctions) (f : First ℕ (List ℕ)) → functions_after w (read_first (function_read offset b image w) f) ≡ moved (function_read offset b image w) (next_function w) (over_functions w) w f
functions_move offset b image w f = grind arith

function_walk : (offset : ℕ → Option ℕ) (b : List ℕ) (image : images.Image) → IsWalk (StepsDelayedFunctions offset b image) (first_va (wide image)) (numbers_at b image) (function_read offset b image) (past_function image) next_function over_functions (λ w s. HoldsNumbers b w.left s)
function_walk offset b image = record {
  sees = λ w s h. sees_numbers image b w.left h.1 ∙ sees (first_va (wide image)) b w.left s h.0;
  makes = makes_read (function_read offset b image) (numbers_at b image) functions_after next_function over_functions (functions_move offset b image);
  goes_on = λ w s x t h e.
      let on = numbers_go_on b w.left s t (size_of_va (wide image)) h (va_taken (wide image) s x t e).0 (va_taken (wide image) s x t e).1 in
      (ap (λ (r : Range). record w { left = r }) on.0, on.1);
  ends = λ w. refl;
}

-- the attributes stay
same_functions : (offset : ℕ → Option ℕ) (b : List ℕ) (image : images.Image) (w : DelayedFunctions) (items : List (Result ℕ DirectoryRefusal)) →
    read_in_turn (function_read offset b image) (past_function image) w items ≡ read_items (function_of offset b image w.attributes) items
same_functions offset b image w [] = refl
same_functions offset b image w (Ok x ∷ items) = grind (arith, same_functions offset b image (past_function image w x) items)
same_functions offset b image w (Err r ∷ items) = refl

pub functions_in_turn : (offset : ℕ → Option ℕ) (b : List ℕ) (image : images.Image) (w : DelayedFunctions) (s : List ℕ) (items : List (Result ℕ DirectoryRefusal)) → 0 < w.left.offset + w.left.length → bytes_at b w.left ≡ Ok s → Items (first_va (wide image)) s items →
    ReturnsItems (StepsDelayedFunctions offset b image) w (read_items (function_of offset b image w.attributes) items)
functions_in_turn offset b image w s items some h f =
    subst (λ (ys : List (Result DelayedFunction DirectoryRefusal)). ReturnsItems (StepsDelayedFunctions offset b image) w ys) (same_functions offset b image w items)
    (in_turn _ _ _ _ _ _ _ _ (function_walk offset b image) w s items (h, some) f)

pub functions_outside : (offset : ℕ → Option ℕ) (b : List ℕ) (image : images.Image) (w : DelayedFunctions) (r : Refusal) → 0 < w.left.offset + w.left.length → bytes_at b w.left ≡ Err r → ReturnsItems (StepsDelayedFunctions offset b image) w (Err (Image r) ∷ [])
functions_outside offset b image w r some e = grind (arith, refused, function_walk, sees_numbers, sees_refusal)

-- ---- tables of numbers that start at an offset and have no length

abbrev pub tail_from : List ℕ → ℕ → Range
tail_from b p = record { offset = p; length = length b - p }

pub tail_there : (b : List ℕ) (p : ℕ) (inside : Bool) → holds b p (length b - p) ≡ inside → (bytes_at b (tail_from b p) ≡ Ok (drop p b)) ⊎ ((bytes_at b (tail_from b p) ≡ Err Short) × (drop p b ≡ []))
tail_there b p true h =
    inl (rw h (ap (λ (d : List ℕ). Ok d) (same_lists _ _ (grind (arith, places)) (λ j d lt. grind (arith, places)))))
tail_there b p false h = inr (rw h refl, drop_all p b (grind (arith, nat_tests)))

-- the list of no bytes is one refusal
no_number : (is_64 : Bool) → first_va is_64 [] ≡ Some (Err (Image Short))
unfolding first_va
no_number is_64 = grind arith

truncated : (is_64 : Bool) (items : List (Result ℕ DirectoryRefusal)) → Items (first_va is_64) [] items → items ≡ Err (Image Short) ∷ []
truncated is_64 [] f = absurd (let none : ◌≡◌ {A = First ℕ (List ℕ)} (Some (Err (Image Short))) None = sym (no_number is_64) ∙ f in cc)
truncated is_64 (Ok x ∷ items) f = absurd (let none : ◌≡◌ {A = First ℕ (List ℕ)} (Some (Err (Image Short))) (Some (Ok (x, f.0))) = sym (no_number is_64) ∙ f.1 in cc)
truncated is_64 (Err r ∷ items) f = grind (arith, no_number)

some_left : (n p : ℕ) → 0 < n → 0 < p + (n - p)
some_left n p h = omega arith

callbacks_by : (b : List ℕ) (image : images.Image) (p : ℕ) (items : List (Result ℕ DirectoryRefusal)) → 0 < length b → Items (first_va (wide image)) (drop p b) items →
    ((bytes_at b (tail_from b p) ≡ Ok (drop p b)) ⊎ ((bytes_at b (tail_from b p) ≡ Err Short) × (drop p b ≡ []))) → ReturnsItems (StepsCallbacks image b) (tail_from b p) items
callbacks_by b image p items some f e = grind (arith, callbacks_in_turn, some_left, truncated, callbacks_outside)

pub callbacks_of_image : (b : List ℕ) (image : images.Image) (sections : List SectionTable) (tls : TlsDirectory) (w : Range) (table : List ℕ) (items : List (Result ℕ DirectoryRefusal)) → 0 < length b →
    callbacks_at b image (λ _. sections) tls ≡ Ok (Some w) → callback_table (image_parts b image sections) tls ≡ Ok (Some table) → Items (first_va (wide image)) table items → ReturnsItems (StepsCallbacks image b) w items
unfolding callback_table
callbacks_of_image b image sections tls w table items some e g f = grind (arith, callbacks_by, tail_there)

functions_by_offset : (offset : ℕ → Option ℕ) (b : List ℕ) (image : images.Image) (attributes p : ℕ) (items : List (Result ℕ DirectoryRefusal)) →
    0 < length b → Items (first_va (wide image)) (drop p b) items →
    ((bytes_at b (tail_from b p) ≡ Ok (drop p b)) ⊎ ((bytes_at b (tail_from b p) ≡ Err Short) × (drop p b ≡ []))) →
    ReturnsItems (StepsDelayedFunctions offset b image) (record { left = tail_from b p; attributes = attributes; spare = 0 }) (read_items (function_of offset b image attributes) items)
functions_by_offset offset b image attributes p items some f (inl h) =
    functions_in_turn offset b image (record { left = tail_from b p; attributes = attributes; spare = 0 }) (drop p b) items (some_left (length b) p some) h f
functions_by_offset offset b image attributes p items some f (inr h) = grind (arith, truncated, functions_outside, some_left)

pub functions_of_library : (b : List ℕ) (image : images.Image) (sections : List SectionTable) (e : DelayImport) (w : DelayedFunctions) (table : List ℕ) (items : List (Result ℕ DirectoryRefusal)) → 0 < length b →
    functions_of (map_of_image image sections) b image e ≡ Ok w → lookup_table (image_parts b image sections) e ≡ Ok (Some table) → Items (first_va (wide image)) table items →
    ReturnsItems (StepsDelayedFunctions (map_of_image image sections) b image) w (read_items (function_of (map_of_image image sections) b image e.attributes) items)
functions_of_library b image sections e w table items some h g f = grind (arith, same_offset, functions_by_offset, tail_there)
