use Rattle.std.proofs.Common.{Bool, Ok, Err, ap, ◌∙◌, sym}
use Rattle.pe_edit.proofs.Cited.{if◌then◌else◌, nat_le, Contents, content_length, total}
use Rattle.pe_edit.proofs.Records.{few_enough, one_added, too_many}
use Rattle.pe_edit.proofs.record.require_contents.Goals as goal

pub returns-in-None : goal.returns-in-None
returns-in-None c =
    ap (λ (t : Bool). if t then Ok tt else Err Contents)
    (ap (nat_le (total content_length c.args.records.now)) (sym c.most_contents-most.ensures)
    ∙ too_many content_length c.most_contents-most.result c.args.records.now c.loop-index.sum c.loop-index.index _ c.loop-index-test.true c.in-None.ensures c.loop-index.invariant)

pub loop-index-preserved : goal.loop-index-preserved
loop-index-preserved c = one_added content_length c.most_contents-most.result c.args.records.now 0 c.loop-index.sum c.in-Some.more c.loop-index.index _ c.loop-index-test.true c.in-Some.ensures c.loop-index.invariant

pub returns : goal.returns
returns c =
    ap (λ (t : Bool). if t then Ok tt else Err Contents)
    (ap (nat_le (total content_length c.args.records.now)) (sym c.most_contents-most.ensures)
    ∙ few_enough content_length c.most_contents-most.result c.args.records.now c.loop-index.sum c.loop-index.index c.loop-index-test.false c.loop-index.invariant)
