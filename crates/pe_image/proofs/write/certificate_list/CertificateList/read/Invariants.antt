use Rattle.std.proofs.Common.{◌-◌}
use Rattle.pe_image.proofs.TableLists.{Counted}
use Rattle.pe_image.proofs.write.certificate_list.CertificateList.read.Given as goal

abbrev pub invariant-loop-offset : goal.invariant-loop-offset
invariant-loop-offset l = Counted l.bytes l.end l.address l.offset l.count

abbrev pub decreases-loop-offset : goal.decreases-loop-offset
decreases-loop-offset l = l.end - l.offset
