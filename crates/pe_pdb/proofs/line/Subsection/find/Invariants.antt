use Rattle.std.proofs.Common.{◌≡◌, ◌-◌, length}
use Rattle.pe_pdb.specs.Lines.{first_of_kind, subsections}
use Rattle.pe_pdb.proofs.line.Subsection.find.Given as goal

-- none of the subsections so far has the kind
abbrev pub invariant-loop-next : goal.invariant-loop-next
invariant-loop-next l = first_of_kind l.kind (subsections l.bytes 0) ≡ first_of_kind l.kind (subsections l.bytes l.next)

abbrev pub decreases-loop-next : goal.decreases-loop-next
decreases-loop-next l = length l.bytes - l.next
