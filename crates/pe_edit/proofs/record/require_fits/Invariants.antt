use Rattle.std.proofs.Common.{◌≡◌, drop}
use Rattle.pe_edit.proofs.Cited.{list_all, record_fits}
use Rattle.pe_edit.proofs.record.require_fits.Given as goal

-- the records so far fit
abbrev pub invariant-loop-index : goal.invariant-loop-index
invariant-loop-index l = list_all (record_fits l.data) (drop l.index l.records) ≡ list_all (record_fits l.data) l.records
