-- Delay imports as lists: the steps of their walks, and the names of what is left.
use Rattle.std.proofs.Common.{◌≡◌, ℕ, suc, ◌+◌, ◌<◌, ◌≤◌, List, [], ◌∷◌, ◌++◌, map, length, get_or, drop, Option, Some, None, Result, Ok, refl, ap, ◌∙◌, arith, length-drop, append_assoc}
use Rattle.pe_directories.proofs.Cited.{Bor, option_map, append-nil, length-map, text_at, texts_of, first_delay_import, delay_imports_left}
use Rattle.pe_directories.proofs.Cited.{AreItemNames, entry_items, item_offset, table_items, DirectoryRefusal, directory_answer, first_va}
use Rattle.pe_directories.proofs.Cited.{vas_left, vas_are_64, Steps, DelayImport, DelayImports, VaTable, DirectoryError}
use Rattle.std.proofs.Math.Seq.{drop-cons}
use Rattle.pe_directories.proofs.OtherWalks.{va_shrinks, delay_import_shrinks}
use Rattle.pe_directories.proofs.WalkLists.{first_taken, none_left}

-- ---- the steps

pub number_taken : (s t : VaTable) (r : Result ℕ DirectoryError)
    → Steps (λ x. x) (first_va (vas_are_64 s)) (vas_left s) (Some r) (vas_left t) × (vas_are_64 t ≡ vas_are_64 s) → table_items s ≡ directory_answer (λ x. x) r ∷ table_items t
number_taken s t r h = grind (arith, first_taken, va_shrinks)

pub no_number : (s t : VaTable) → Steps {Y = ℕ} (λ x. x) (first_va (vas_are_64 s)) (vas_left s) None (vas_left t) × (vas_are_64 t ≡ vas_are_64 s) → table_items s ≡ []
no_number s t h = none_left (λ (x : ℕ). x) (first_va (vas_are_64 s)) (va_shrinks (vas_are_64 s)) (vas_left s) (vas_left t) h.0

pub entry_taken : (s t : DelayImports) (r : Result DelayImport DirectoryError)
    → Steps (λ x. x) first_delay_import (delay_imports_left s) (Some r) (delay_imports_left t) → entry_items s ≡ directory_answer (λ x. x) r ∷ entry_items t
entry_taken s t r h = first_taken (λ (x : DelayImport). x) first_delay_import delay_import_shrinks (delay_imports_left s) (delay_imports_left t) r h

pub no_entry : (s t : DelayImports) → Steps {Y = DelayImport} (λ x. x) first_delay_import (delay_imports_left s) None (delay_imports_left t) → entry_items s ≡ []
no_entry s t h = none_left (λ (x : DelayImport). x) first_delay_import delay_import_shrinks (delay_imports_left s) (delay_imports_left t) h

-- the item is this one
pub taken_is : {X : Type 0} (left more : List (Result X DirectoryRefusal)) (r q : Result X DirectoryError) → left ≡ directory_answer (λ x. x) r ∷ more → r ≡ q → left ≡ directory_answer (λ x. x) q ∷ more
taken_is left more r q h is = h ∙ ap (λ (r : Result _ DirectoryError). directory_answer (λ x. x) r ∷ more) is

-- ---- the offsets so far, and those of what is left

pub one_offset : {X : Type 0} (offset : X → ℕ) (all : List ℕ) (done pushed : List ℕ) (left more : List (Result X DirectoryRefusal)) (item : Result X DirectoryRefusal) (p : ℕ)
    → done ++ map (item_offset offset) left ≡ all → left ≡ item ∷ more → p ≡ item_offset offset item → pushed ≡ done ++ p ∷ [] → pushed ++ map (item_offset offset) more ≡ all
one_offset offset all done pushed left more item p so_far is at push = grind (arith, append_assoc)

pub all_offsets : {X : Type 0} (offset : X → ℕ) (all done : List ℕ) (left : List (Result X DirectoryRefusal))
    → done ++ map (item_offset offset) left ≡ all → left ≡ [] → done ≡ all
all_offsets offset all done left so_far is = grind (arith, append-nil)

-- ---- the names of what is left

-- the names from this index on are those of the items that are left
pub record NamesLeft {X : Type 0} (b : List ℕ) (offset : X → ℕ) (left : List (Result X DirectoryRefusal)) (names : List (Option (Bor (List ℕ)))) (i : ℕ) : Type 0 where
  pub are : AreItemNames b offset left (drop i names)

names_below : {X : Type 0} (b : List ℕ) (offset : X → ℕ) (left more : List (Result X DirectoryRefusal)) (names : List (Option (Bor (List ℕ)))) (i : ℕ) (item : Result X DirectoryRefusal)
    → NamesLeft b offset left names i → left ≡ item ∷ more → i < length names
names_below b offset left more names i item n is =
    omega (
      arith,
      length-drop i names,
      length-map (drop i names) (option_map (λ (s : Bor (List ℕ)). s.now)),
      ap length n.are,
      length-map (map (item_offset offset) left) (text_at b),
      length-map left (item_offset offset),
      ap length is,
    )

-- after the last name no item is left
pub names_over : {X : Type 0} (b : List ℕ) (offset : X → ℕ) (left : List (Result X DirectoryRefusal)) (names : List (Option (Bor (List ℕ)))) (i : ℕ) → NamesLeft b offset left names i → length names ≤ i → left ≡ []
names_over b offset [] names i n over = refl
names_over b offset (item ∷ left) names i n over = absurd (let below = names_below b offset (item ∷ left) left names i item n refl in omega (arith, below, over))

cut : (names : List (Option (Bor (List ℕ)))) (i : ℕ) (d : Option (Bor (List ℕ))) → i < length names → drop i names ≡ get_or names i d ∷ drop (i + 1) names
cut names i d lt = let after : suc i ≡ i + 1 = omega arith in drop-cons names i d lt ∙ ap (λ k. get_or names i d ∷ drop k names) after

named : {X : Type 0} (b : List ℕ) (offset : X → ℕ) (left more : List (Result X DirectoryRefusal)) (names : List (Option (Bor (List ℕ)))) (i : ℕ) (item : Result X DirectoryRefusal) (d : Option (Bor (List ℕ)))
    → NamesLeft b offset left names i → left ≡ item ∷ more
    → option_map (λ s. s.now) (get_or names i d) ∷ texts_of (drop (i + 1) names) ≡ text_at b (item_offset offset item) ∷ map (text_at b) (map (item_offset offset) more)
named b offset left more names i item d n is = cc (cut names i d (names_below b offset left more names i item n is), n.are, is)

pub name_is : {X : Type 0} (b : List ℕ) (offset : X → ℕ) (left more : List (Result X DirectoryRefusal)) (names : List (Option (Bor (List ℕ)))) (i : ℕ) (x : X) (d : Option (Bor (List ℕ)))
    → NamesLeft b offset left names i → left ≡ Ok x ∷ more → option_map (λ s. s.now) (get_or names i d) ≡ text_at b (offset x)
name_is b offset left more names i x d n is = let e = named b offset left more names i (Ok x) d n is in cc e

pub names_after : {X : Type 0} (b : List ℕ) (offset : X → ℕ) (left more : List (Result X DirectoryRefusal)) (names : List (Option (Bor (List ℕ)))) (i : ℕ) (item : Result X DirectoryRefusal)
    → NamesLeft b offset left names i → left ≡ item ∷ more → NamesLeft b offset more names (i + 1)
names_after b offset left more names i item n is = let e = named b offset left more names i item None n is in record { are = cc e }
