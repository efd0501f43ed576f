use Rattle.pe_core.specs.Header.{header_view}
use Rattle.pe_rewrite.proofs.Removed.{emptied_inside, is_emptied, stayed_by}
use Rattle.pe_rewrite.proofs.edit.set_stayed.Goals as goal

pub set_emptied-requires-clause-end : goal.set_emptied-requires-clause-end
set_emptied-requires-clause-end c =
    emptied_inside c.args.bytes.now (header_view c.args.header.now) c.args.target.now c.in-Ok.place (is_emptied c.args.bytes.now (header_view c.args.header.now) c.args.target.now c.in-Ok.place c.in-Ok.ensures)

pub returns-in-Ok : goal.returns-in-Ok
returns-in-Ok c =
    stayed_by c.args.bytes.now (header_view c.args.header.now) c.args.target.now c.in-Ok.place c.args.out.now c.set_emptied.new.out c.in-Ok.ensures c.set_emptied.ensures
