use Rattle.std.proofs.Common.{rules}
use Rattle.std.proofs.lemmas.List.Sorted.{IsNonDecreasingBy-from_sort_by_key}
use Rattle.pe_pdb.specs.LineKeys.{line_key}
use Rattle.pe_pdb.proofs.line_index.LineIndex.sorted.Goals as goal

pub invariant_of-result : goal.invariant_of-result
invariant_of-result c = record { ascending = IsNonDecreasingBy-from_sort_by_key line_key _ c.sort_unstable_by_key.ensures.sorted (λ a r f' k. search rules) }
