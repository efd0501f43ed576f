use Rattle.std.proofs.Common.{◌-◌, length, arith, rules}
use Rattle.pe_rewrite.proofs.Cited.{header_view, gone_file}
use Rattle.pe_rewrite.proofs.Removed.{cleared_over, fields_before, gone_set, length_cut, length_front, length_gone}
use Rattle.pe_rewrite.proofs.put.set_gone.Goals as goal

pub set_fields-requires : goal.set_fields-requires
set_fields-requires c = search (rules, arith, length_front, length_cut, fields_before)

pub set_cleared-requires : goal.set_cleared-requires
set_cleared-requires c = search (rules, arith, length_gone, length_front, gone_set)

pub returns : goal.returns
returns c =
    let h = header_view c.args.header.now in
    let m = c.args.room.now in
    let b = c.args.bytes.now in
    let l = c.requires.lies in
    let size = length_gone h m b l in
    cleared_over h m.place.entry c.args.out.now (gone_file h m b) c.set_fields.new.out c.set_cleared.new.out (length b - m.more)
    (omega (arith, size, l.fields.sum, l.fields.entry, l.fields.row, l.end)) (omega (arith, size, l.fields.entry, l.fields.row, l.end))
    (gone_set h m c.args.out.now b c.set_cut.new.out c.set_fields.new.out l c.set_cut.ensures c.set_fields.ensures) size c.set_cleared.ensures
