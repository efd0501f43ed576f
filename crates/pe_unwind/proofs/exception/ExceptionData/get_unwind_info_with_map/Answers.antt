use Rattle.pe_unwind.proofs.LinkChains.{unwinds_cycle}
use Rattle.pe_unwind.proofs.exception.ExceptionData.get_unwind_info_with_map.Goals as goal

pub returns-clause-cycle : goal.returns-clause-cycle
returns-clause-cycle g c = unwinds_cycle _ _ _ _ c.linked_record.ensures
