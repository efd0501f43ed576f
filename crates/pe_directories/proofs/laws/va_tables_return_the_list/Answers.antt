use Rattle.std.proofs.Common.{◌≡◌, ℕ, length, ap, Option, Result}
use Rattle.pe_directories.proofs.Cited.{first_va, vas_left, vas_are_64, Steps, VaTable, DirectoryError}
use Rattle.pe_directories.proofs.WholeWalks.{whole, one_list}
use Rattle.pe_directories.proofs.OtherWalks.{va_shrinks}
use Rattle.pe_directories.proofs.laws.va_tables_return_the_list.Goals as goal

abbrev pub Next : VaTable → Option (Result ℕ DirectoryError) → VaTable → Type 0
Next s r t = Steps (λ x. x) (first_va (vas_are_64 s)) (vas_left s) r (vas_left t) × (vas_are_64 t ≡ vas_are_64 s)

pub returns : goal.returns
returns c = record {
  numbers = λ s xs d. whole (λ (x : ℕ). x) (λ (s : VaTable). first_va (vas_are_64 s)) vas_left Next (λ s r t h. (h.0, ap first_va h.1)) s d.1.0 d.0 xs d.1.1 d.1.2;
  list = λ is_64. one_list length (first_va is_64) (va_shrinks is_64);
}
