use Rattle.std.proofs.Common.{◌+◌, arith, refl, rules}
use Rattle.pe_image.proofs.Cited.{err_from_is_err_and, kind_of}
use Rattle.pe_image.proofs.TableLists.{all_counted, none_over, one_refused}
use Rattle.pe_image.proofs.write.certificate_list.CertificateList.read.Goals as goal

pub overflow_add-count : goal.overflow_add-count
overflow_add-count c = search (rules, arith, none_over)

pub returns-in_err-parse : goal.returns-in_err-parse
returns-in_err-parse c =
    let p = err_from_is_err_and c.from_residual.result c.from_residual.ensures.1 in
    rw (p.1, p.2) (one_refused c.args.bytes.now c.args.address c.args.size (c.args.address + c.args.size) c.loop-offset.offset c.loop-offset.count (kind_of c.in_err-parse.field-0.0) (omega arith) refl c.loop-offset.invariant (omega arith) c.in_err-parse.ensures.0)

pub returns : goal.returns
returns c =
    all_counted c.args.bytes.now c.args.address c.args.size (c.args.address + c.args.size) c.loop-offset.offset c.loop-offset.count (omega arith) refl c.loop-offset.invariant (omega arith)
