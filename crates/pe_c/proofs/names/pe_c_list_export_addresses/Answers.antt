use Rattle.std.proofs.Common.{subst}
use Rattle.pe_c.proofs.Cited.{exported_at, result_number, HandsOutList, Numbered, StepsByIndex, View}
use Rattle.calls_base.specs.Views.{map_of}
use Rattle.pe_c.proofs.names.pe_c_list_export_addresses.Goals as goal

-- the image is the same, whatever of it is read together
pub returns : goal.returns
returns c =
    subst
    (λ (v : View). HandsOutList (Numbered result_number (StepsByIndex (exported_at (map_of v) v.bytes.now c.args.table.now))) c.list_addresses.result c.args.next.now c.list_addresses.new.next c.args.entries.now c.list_addresses.new.entries c.args.written.now c.list_addresses.new.written)
    c.named_forwarders-names.ensures
    c.list_addresses.ensures
