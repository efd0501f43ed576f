use Rattle.std.proofs.Common.{Result, sym, ◌∙◌}
use Rattle.pe_resource.proofs.Cited.{map-id, Error, ResourceEntry, resource_items_left}
use Rattle.pe_resource.proofs.Entries.{list_from_yields}
use Rattle.pe_resource.proofs.laws.resources.entry_iterators_give_the_entries.Goals as goal

pub returns-clause-items : goal.returns-clause-items
returns-clause-items c = λ s xs d. sym (map-id xs) ∙ list_from_yields (λ (r : Result ResourceEntry Error). r) resource_items_left s d.1.0 d.0 xs d.1.1 d.1.2
