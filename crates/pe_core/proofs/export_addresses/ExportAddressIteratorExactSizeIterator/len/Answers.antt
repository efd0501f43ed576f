use Rattle.std.proofs.Common.{arith}
use Rattle.pe_core.specs.ExportAddresses.{addresses_view}
use Rattle.pe_core.proofs.AddressLists.{count_of_addresses}
use Rattle.pe_core.proofs.export_addresses.ExportAddressIteratorExactSizeIterator.len.Goals as goal

pub returns : goal.returns
returns c = omega (arith, c.saturating_sub.ensures, c.len.ensures, count_of_addresses (addresses_view c.args.self.now.table) c.args.self.now.next)
