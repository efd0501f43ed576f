use Rattle.std.proofs.Common.{◌≡◌, suc, ◌-◌, ◌/◌, false, length, arith}
use Rattle.std.specs.Option.{is_some}
use Rattle.pe_directories.proofs.RichHeaders.{all_left, one_passed}
use Rattle.pe_directories.proofs.rich_header.RichHeader.find.Goals as goal

pub loop-left-init : goal.loop-left-init
loop-left-init c = all_left c.args.bytes.now c.saturating_sub-left.result c.saturating_sub-left.ensures

pub loop-left-preserved : goal.loop-left-preserved
loop-left-preserved c =
    let one : c.loop-left.left ≡ suc (c.loop-left.left - 1) = omega (arith, c.loop-left-test.true) in
    let none : is_some c.rich_from-header.result ≡ false = cc (c.if-is_some.false, c.is_some.ensures) in
    one_passed c.args.bytes.now (length c.args.bytes.now / 4 - 1) c.loop-left.left (c.loop-left.left - 1) c.loop-left.next c.next_rich-next.result c.rich_from-header.result
    c.loop-left.invariant one c.next_rich-next.ensures c.rich_from-header.ensures none
