use Rattle.std.proofs.lemmas.List.Sorted.{IsNonDecreasingBy-from_sort}
use Rattle.pe_pdb.proofs.symbol_index.SymbolIndex.sorted.Goals as goal

pub invariant_of-result : goal.invariant_of-result
invariant_of-result c = record { ascending = IsNonDecreasingBy-from_sort (λ x. x) _ c.sort_unstable.ensures.sorted }
