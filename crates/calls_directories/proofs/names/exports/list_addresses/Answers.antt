use Rattle.calls_directories.proofs.NearLists.{lists_addresses}
use Rattle.calls_directories.proofs.names.exports.list_addresses.Goals as goal
use Rattle.calls_base.specs.Views.{map_of}

pub returns-in-Ok : goal.returns-in-Ok
returns-in-Ok c =
    lists_addresses (map_of c.args.names.now.view.now) c.args.names.now.view.now.bytes.now c.in-Ok.addresses.now c.args.table.now _ c.list_inside.result c.args.next.now c.list_inside.new.next c.args.entries.now c.list_inside.new.entries c.args.written.now c.list_inside.new.written c.in-Ok.ensures c.addresses_in-table.ensures c.list_inside.ensures
