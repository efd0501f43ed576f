use Rattle.std.proofs.Common.{length, refl, Option, Result}
use Rattle.pe_directories.proofs.Cited.{first_delay_import, delay_imports_left, Steps, DelayImport, DelayImports, DirectoryError}
use Rattle.pe_directories.proofs.WholeWalks.{whole, one_list}
use Rattle.pe_directories.proofs.OtherWalks.{delay_import_shrinks}
use Rattle.pe_directories.proofs.laws.delay_import_walks_return_the_list.Goals as goal

abbrev pub Next : DelayImports → Option (Result DelayImport DirectoryError) → DelayImports → Type 0
Next s r t = Steps (λ x. x) first_delay_import (delay_imports_left s) r (delay_imports_left t)

pub returns : goal.returns
returns c = record {
  entries = λ s xs d. whole (λ (x : DelayImport). x) (λ (_ : DelayImports). first_delay_import) delay_imports_left Next (λ s r t h. (h, refl)) s d.1.0 d.0 xs d.1.1 d.1.2;
  list = one_list length first_delay_import delay_import_shrinks;
}
