use Rattle.std.proofs.Common.{◌≡◌, ℕ, List, Ok, Result, ap, arith, length, rules, subst, sym, take, ◌∙◌}
use Rattle.std.proofs.lemmas.List.{take_all}
use Rattle.std.proofs.lemmas.List.Sorted.{IsNonDecreasingBy-from_sort_by_key}
use Rattle.std.specs.List.Sorted.{IsPermutation}
use Rattle.pe_pdb.specs.LineEntries.{count_of, entries_from}
use Rattle.pe_pdb.specs.LineKeys.{line_key}
use Rattle.pe_pdb.specs.Refusals.{PdbRefusal}
use Rattle.pe_pdb.specs.declared.line_entries.CodeLine.{CodeLine}
use Rattle.pe_pdb.specs.declared.line_entries.LineEntry.{LineEntry}
use Rattle.pe_pdb.proofs.LineEntries.{length_entries}
use Rattle.pe_pdb.proofs.line_lookup.put_sorted.Goals as goal

same_number : (r : Result ℕ PdbRefusal) (n m : ℕ) → r ≡ Ok n → r ≡ Ok m → n ≡ m
same_number r n m e f = cc

pub returns-in-Ok : goal.returns-in-Ok
returns-in-Ok c =
    let puts = c.in-Ok.ensures.puts in
    let xs : List CodeLine = puts.0 in
    let has = puts.2 in
    let few = c.in-Ok.ensures.few in
    let len = c.in-Ok.ensures.len in
    let count : length xs ≡ length c.args.room.now = same_number _ (length xs) (length c.args.room.now) (ap count_of puts.1) c.requires in
    let size : length (entries_from 0 xs) ≡ length xs = length_entries 0 xs in
    let first : take c.in-Ok.field-0 c.put_lines.new.room ≡ c.put_lines.new.room = take_all c.in-Ok.field-0 c.put_lines.new.room (omega (arith, len, count, has.counted)) in
    let second : take (length c.put_lines.new.room) (entries_from 0 xs) ≡ entries_from 0 xs = take_all (length c.put_lines.new.room) (entries_from 0 xs) (omega (arith, len, count, size)) in
    let same : c.put_lines.new.room ≡ entries_from 0 xs = sym first ∙ has.written ∙ second in (
      xs,
      puts.1,
      (omega (arith, few, has.counted), subst (λ (l : List LineEntry). IsPermutation l c.sort_unstable_by_key.new.self) same c.sort_unstable_by_key.ensures.permutation),
      IsNonDecreasingBy-from_sort_by_key line_key _ c.sort_unstable_by_key.ensures.sorted (λ a r f' k. search rules),
      c.sort_unstable_by_key.ensures.len ∙ len,
    )
