use Rattle.std.proofs.Common.{rules}
use Rattle.calls_directories.proofs.AddressEntries as entries
use Rattle.pe_c.proofs.laws.exports_by_index_are_those_by_name.Goals as goal

pub returns : goal.returns
returns c = record {
  addresses = entries.addresses_stand;
  name = entries.names_stand;
  forwarders = entries.forwarders;
  named = search rules;
  named_forwarders = entries.named_forwarders;
  named_texts = search rules;
}
