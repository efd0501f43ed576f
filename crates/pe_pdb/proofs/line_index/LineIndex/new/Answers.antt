use Rattle.std.proofs.Common.{◌≡◌, ℕ, ◌≤◌, List, length, true, Result, Ok, arith, rules}
use Rattle.std.proofs.lemmas.Bool.Decides.{nat_tests}
use Rattle.std.proofs.lemmas.List.{take_all}
use Rattle.std.specs.Prelude.{nat_le}
use Rattle.pe_pdb.specs.LineIndexes.{in_room}
use Rattle.pe_pdb.specs.Refusals.{PdbRefusal}
use Rattle.pe_pdb.specs.declared.line_entries.CodeLine.{CodeLine}
use Rattle.pe_pdb.proofs.LineEntries.{length_entries}
use Rattle.pe_pdb.proofs.line_index.LineIndex.new.Goals as goal

fits : (n : ℕ) (defined : Result (List CodeLine) PdbRefusal) (xs : List CodeLine) → defined ≡ Ok xs → length xs ≤ n → in_room n defined ≡ Ok xs
fits n defined xs is few = let t : nat_le (length xs) n ≡ true = grind (arith, nat_tests) in rw is (rw t)

pub returns : goal.returns
returns c = search (rules, arith, length_entries, take_all, fits)
