use Rattle.pe_pkcs7.proofs.AttributeSearch.{at_end, at_error, at_found, at_refused, passed_over}
use Rattle.pe_pkcs7.proofs.signer.find_attribute_at.Goals as goal

pub returns-in-Err : goal.returns-in-Err
returns-in-Err c = at_error c.args.part.now c.args.number c.args.offset c.loop-next.next c.loop-next.invariant c.in-Err.error c.loop-next-test.true (search c.in-Err.ensures.exact)

pub returns-in-Ok-parse : goal.returns-in-Ok-parse
returns-in-Ok-parse c = at_found c.args.part.now c.args.number c.args.offset c.loop-next.next c.loop-next.invariant c.in-Ok.element c.in-Ok-parse.attribute (search c.loop-next-test.true) (search c.in-Ok.ensures.exact) (search c.in-Ok-parse.ensures) c.attribute_number.result (cc (c.attribute_number.ensures, c.content_of.ensures)) c.if-attribute_number-number.true

pub loop-next-preserved : goal.loop-next-preserved
loop-next-preserved c = passed_over c.args.part.now c.args.number c.args.offset c.loop-next.next c.loop-next.invariant c.in-Ok.element c.in-Ok-parse.attribute (search c.loop-next-test.true) (search c.in-Ok.ensures.exact) (search c.in-Ok-parse.ensures) c.attribute_number.result (cc (c.attribute_number.ensures, c.content_of.ensures)) c.if-attribute_number-number.false

pub returns-in-Err-parse : goal.returns-in-Err-parse
returns-in-Err-parse c = at_refused c.args.part.now c.args.number c.args.offset c.loop-next.next c.loop-next.invariant c.in-Ok.element c.in-Err-parse.error (search c.loop-next-test.true) (search c.in-Ok.ensures.exact) (search c.in-Err-parse.ensures)

pub returns : goal.returns
returns c = at_end c.args.part.now c.args.number c.args.offset c.loop-next.next c.loop-next.invariant (search c.loop-next-test.false)
