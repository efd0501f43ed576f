use Rattle.std.proofs.Common.{◌≡◌, ◌+◌, ◌-◌, length}
use Rattle.pe_pdb.specs.Inlinees.{first_inlinee, inlinees}
use Rattle.pe_pdb.proofs.inlinee.skip_others.Given as goal

-- none of the records so far has the id
abbrev pub invariant-loop-next : goal.invariant-loop-next
invariant-loop-next l = first_inlinee l.inlinee (inlinees l.content 4) ≡ first_inlinee l.inlinee (inlinees l.content l.next)

abbrev pub decreases-loop-next : goal.decreases-loop-next
decreases-loop-next l = (length l.content + 12) - l.next
