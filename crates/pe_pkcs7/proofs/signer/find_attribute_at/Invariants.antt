use Rattle.std.proofs.Common.{length, ◌-◌}
use Rattle.pe_pkcs7.proofs.AttributeSearch.{SearchesOn}
use Rattle.pe_pkcs7.proofs.signer.find_attribute_at.Given as goal

-- what is left to be found is what was to be found
abbrev pub invariant-loop-next : goal.invariant-loop-next
invariant-loop-next l = SearchesOn l.fn.part l.number l.fn.offset l.next

abbrev pub decreases-loop-next : goal.decreases-loop-next
decreases-loop-next l = length l.part - l.next
