use Rattle.std.proofs.Common.{Bool, Ok, Err, ap}
use Rattle.pe_version.proofs.Cited.{if◌then◌else◌, few_enough, one_added, too_many, least_of_table, TooLong}
use Rattle.pe_version.proofs.record.require_short.Goals as goal

pub returns-in-None : goal.returns-in-None
returns-in-None c =
    ap (λ (t : Bool). if t then Ok tt else Err TooLong)
    (too_many (least_of_table c.args.strings.now) 65535 c.args.tables.now c.loop-index.end c.loop-index.index _ c.loop-index-test.true c.in-None.ensures c.loop-index.invariant)

pub loop-index-preserved : goal.loop-index-preserved
loop-index-preserved c = one_added (least_of_table c.args.strings.now) 65535 c.args.tables.now 0 c.loop-index.end c.in-Some.more c.loop-index.index _ c.loop-index-test.true c.in-Some.ensures c.loop-index.invariant

pub returns : goal.returns
returns c =
    ap (λ (t : Bool). if t then Ok tt else Err TooLong)
    (few_enough (least_of_table c.args.strings.now) 65535 c.args.tables.now c.loop-index.end c.loop-index.index c.loop-index-test.false c.loop-index.invariant)
