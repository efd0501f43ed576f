use Rattle.std.proofs.Common.{arith}
use Rattle.calls_base.proofs.KeptSections.{alone, none_alone}
use Rattle.calls_base.proofs.kept_sections.number_alone.Goals as goal

pub returns-then-has_all : goal.returns-then-has_all
returns-then-has_all c =
    alone c.args.image.now c.args.sections.now c.in-Some.index c.args.rva _ c.in_ok-window.window c.requires.searched c.in_ok-window.ensures (c.has_all.ensures.yes c.if-has_all.true) c.in-Some.ensures

pub returns-in_default : goal.returns-in_default
returns-in_default c = none_alone c.args.image.now c.args.sections.now 4294967295 c.requires.searched (omega (arith, c.if-sections.false))

pub returns-else-has_all : goal.returns-else-has_all
returns-else-has_all c = none_alone c.args.image.now c.args.sections.now 4294967295 c.requires.searched (omega (arith, c.if-sections.false))
