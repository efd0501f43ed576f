use Rattle.std.proofs.Common.{length, sym}
use Rattle.std.proofs.lemmas.Bool.{eqb-true}
use Rattle.calls_unwind.proofs.PutCodes.{all_put, ends_all, ends_refused, ends_room}
use Rattle.calls_unwind.proofs.lists.x64.finish_codes.Goals as goal

pub returns-in-Some : goal.returns-in-Some
returns-in-Some c = λ s before h. all_put s before c.put_any-put.new.entries c.put_any-put.result c.in-Some.error (c.put_any-put.ensures s before h) (ends_refused s before c.put_any-put.new.entries c.put_any-put.result c.in-Some.error (c.put_any-put.ensures s before h) c.in-Some.is)

pub returns-in-None : goal.returns-in-None
returns-in-None c = λ s before h. all_put s before c.put_any-put.new.entries c.put_any-put.result 0 (c.put_any-put.ensures s before h) (ends_all (length before) c.put_any-put.result (eqb-true _ _ (sym c.if-is_empty.ensures)))

pub returns-in-None-2 : goal.returns-in-None-2
returns-in-None-2 c = λ s before h. all_put s before c.put_any-put.new.entries c.put_any-put.result 101 (c.put_any-put.ensures s before h) (ends_room s before c.put_any-put.new.entries c.put_any-put.result (c.put_any-put.ensures s before h) c.in-None-2.is c.if-is_empty.ensures)
