use Rattle.std.proofs.Common.{◌≡◌, ℕ, ap, refl, Option, Result}
use Rattle.pe_directories.proofs.Cited.{first_delay_import, delay_imports_left, first_va, vas_left, vas_are_64, Steps, DelayImport}
use Rattle.pe_directories.proofs.Cited.{DelayImports, VaTable, DirectoryError}
use Rattle.pe_directories.proofs.WholeWalks.{whole}
use Rattle.pe_directories.proofs.WalkLists.{only_items}
use Rattle.pe_directories.proofs.OtherWalks.{va_shrinks, delay_import_shrinks}
use Rattle.pe_directories.proofs.laws.delay_import_lists_are_of_whole_walks.Goals as goal

abbrev pub NextNumber : VaTable → Option (Result ℕ DirectoryError) → VaTable → Type 0
NextNumber s r t = Steps (λ x. x) (first_va (vas_are_64 s)) (vas_left s) r (vas_left t) × (vas_are_64 t ≡ vas_are_64 s)

abbrev pub NextEntry : DelayImports → Option (Result DelayImport DirectoryError) → DelayImports → Type 0
NextEntry s r t = Steps (λ x. x) first_delay_import (delay_imports_left s) r (delay_imports_left t)

pub returns : goal.returns
returns c = record {
  numbers = λ s xs d. only_items (first_va (vas_are_64 s)) (va_shrinks (vas_are_64 s)) (vas_left s) _
      (whole (λ (x : ℕ). x) (λ (s : VaTable). first_va (vas_are_64 s)) vas_left NextNumber (λ s r t h. (h.0, ap first_va h.1)) s d.1.0 d.0 xs d.1.1 d.1.2);
  entries = λ s xs d. only_items first_delay_import delay_import_shrinks (delay_imports_left s) _
      (whole (λ (x : DelayImport). x) (λ (_ : DelayImports). first_delay_import) delay_imports_left NextEntry (λ s r t h. (h, refl)) s d.1.0 d.0 xs d.1.1 d.1.2);
}
