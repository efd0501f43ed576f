use Rattle.std.proofs.Common.{arith}
use Rattle.std.proofs.lemmas.Grind.{common_steps}
use Rattle.pe_records.proofs.PogoNames.{none_truncated}
use Rattle.pe_records.proofs.debug.pogo.entry_at.Goals as goal

pub returns-then-bytes-end : goal.returns-then-bytes-end
returns-then-bytes-end c = record {
  entry = (
    none_truncated c.args.bytes.now _ c.in-Some.zero c.split_at.ensures.back c.in-Some.ensures.within c.in-Some.ensures.here c.in-Some.ensures.before
        (omega (arith, c.if-bytes-end.true, c.rounded_up-end.ensures.up)),
    grind (arith, common_steps),
  );
}
