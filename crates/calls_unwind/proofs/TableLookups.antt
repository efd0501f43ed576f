-- Lookups in a function table at a range.
use Rattle.std.proofs.Common.{◌≡◌, ℕ, List, Option, Result, Ok, Err, refl, sym, subst}
use Rattle.calls_unwind.proofs.Cited.{Refusal, RuntimeFunction, bytes_at, LocatesIn, Range}
use Rattle.pe_unwind.specs.FunctionTable.{Finds, functions}

pub found_in : (b entries : List ℕ) (table : Range) (rva : ℕ) (found : Option RuntimeFunction) → bytes_at b table ≡ Ok entries → Finds (functions entries) rva found → LocatesIn (bytes_at b table) rva (Ok found)
found_in b entries table rva found e h = subst (λ (r : Result (List ℕ) Refusal). LocatesIn r rva (Ok found)) (sym e) h

pub refused_in : (b : List ℕ) (table : Range) (rva : ℕ) (refusal : Refusal) → bytes_at b table ≡ Err refusal → LocatesIn (bytes_at b table) rva (Err refusal)
refused_in b table rva refusal e = subst (λ (r : Result (List ℕ) Refusal). LocatesIn r rva (Err refusal)) (sym e) refl
