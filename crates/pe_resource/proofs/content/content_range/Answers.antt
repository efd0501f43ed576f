use Rattle.std.proofs.Common.{Ok, sym}
use Rattle.pe_resource.proofs.Cited.{err_from_is_err_and, kind_of}
use Rattle.pe_resource.proofs.Contents.{range_in_given, range_in_refusal}
use Rattle.pe_resource.proofs.content.content_range.Goals as goal

pub returns-in_err-named_range-in-Some-clause-range : goal.returns-in_err-named_range-in-Some-clause-range
returns-in_err-named_range-in-Some-clause-range c =
    let p = err_from_is_err_and c.from_residual-in_err-named_range-in-Some.result c.from_residual-in_err-named_range-in-Some.ensures.1 in
    rw (p.1, p.2) (Ok c.in_ok-leaf.field-0, c.in_ok-leaf.ensures, sym (range_in_refusal _ _ _ _ _ (kind_of c.in_err-named_range-in-Some.field-0.0) c.in-Some.is c.in_err-named_range-in-Some.ensures.range))

pub returns-in_ok-named_range-in-Some-clause-range : goal.returns-in_ok-named_range-in-Some-clause-range
returns-in_ok-named_range-in-Some-clause-range c =
    (Ok c.in_ok-leaf.field-0, c.in_ok-leaf.ensures, sym (range_in_given _ _ _ _ _ _ c.in-Some.is c.in_ok-named_range-in-Some.ensures.range))
