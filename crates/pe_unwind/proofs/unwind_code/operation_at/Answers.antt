use Rattle.std.proofs.Common.{◌∙◌}
use Rattle.pe_unwind.proofs.SpellingLengths.{starts_2, starts_4, starts_6, word_at_2, long_at_2}
use Rattle.pe_unwind.proofs.unwind_code.operation_at.Goals as goal

pub returns-in-Whole : goal.returns-in-Whole
returns-in-Whole c = λ v says. rw c.in-Whole.is (starts_2 v _ _ _ (rw c.in-Whole.is at c.requires) ((rw c.in-Whole.is at says) c.args.frame_register.0))

pub returns-in-Scaled : goal.returns-in-Scaled
returns-in-Scaled c = λ v says.
    rw (c.in-Scaled.is, c.operation.ensures, c.from-count.ensures ∙ (c.read_u16.ensures ∙ word_at_2 _), c.from.ensures)
    (starts_4 v _ _ _ (rw c.in-Scaled.is at c.requires) ((rw c.in-Scaled.is at says) c.args.frame_register.0 _ _))

pub returns-in-Long : goal.returns-in-Long
returns-in-Long c = λ v says.
    rw (c.in-Long.is, c.operation-in-Long.ensures, c.read_u32.ensures ∙ long_at_2 _)
    (starts_6 v _ _ _ (rw c.in-Long.is at c.requires) ((rw c.in-Long.is at says) c.args.frame_register.0 _ _ _ _))
