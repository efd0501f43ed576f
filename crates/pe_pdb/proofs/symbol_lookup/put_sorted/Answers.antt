use Rattle.std.proofs.Common.{ℕ, List, length, subst, ◌∙◌, ◌≡◌, take, Result, Ok, arith}
use Rattle.std.proofs.lemmas.List.{take_all}
use Rattle.pe_pdb.specs.Refusals.{PdbRefusal}
use Rattle.pe_pdb.specs.SymbolEntries.{addresses, count_of}
use Rattle.std.proofs.lemmas.List.Sorted.{IsNonDecreasingBy-from_sort}
use Rattle.std.specs.List.Sorted.{IsPermutation}
use Rattle.pe_pdb.proofs.symbol_lookup.put_sorted.Goals as goal

filled : {n : ℕ} (defined : Result (List ℕ) PdbRefusal) (xs room : List ℕ) (m : ℕ) → count_of defined ≡ Ok m → defined ≡ Ok xs → length room ≡ m → n ≡ length xs → take n room ≡ take (length room) xs → room ≡ xs
filled defined xs room m counted is long number same = grind (arith, take_all)

pub returns-in-Ok : goal.returns-in-Ok
returns-in-Ok c =
    let puts = c.in-Ok.ensures.puts in
    let same = filled (addresses c.args.class c.args.bytes.now c.args.start c.args.sections.now.bytes.now) puts.0 c.put_addresses.new.room (length c.args.room.now) c.requires puts.1 c.in-Ok.ensures.len puts.2 puts.3 in (
      puts.0,
      puts.1,
      subst (λ (l : List ℕ). IsPermutation l c.sort_unstable.new.self) same c.sort_unstable.ensures.permutation,
      IsNonDecreasingBy-from_sort (λ x. x) _ c.sort_unstable.ensures.sorted,
      c.sort_unstable.ensures.len ∙ c.in-Ok.ensures.len,
    )
