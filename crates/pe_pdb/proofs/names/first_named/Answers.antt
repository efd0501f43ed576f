use Rattle.std.proofs.Common.{arith, sym, ◌∙◌, rules}
use Rattle.pe_pdb.proofs.NamedStreams.{named_here, named_later, named_none}
use Rattle.pe_pdb.proofs.names.first_named.Goals as goal

pub returns-then-is_text_at : goal.returns-then-is_text_at
returns-then-is_text_at c = search (rules, arith, named_here)

pub loop-left-preserved : goal.loop-left-preserved
loop-left-preserved c = search (rules, arith, named_later)

pub returns : goal.returns
returns c = sym (c.loop-left.invariant.same ∙ named_none c.args.texts.now c.args.name.now c.args.bytes.now c.loop-left.left c.loop-left.next (omega (arith, c.loop-left-test.false)))
