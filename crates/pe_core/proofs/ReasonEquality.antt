-- Equality of reasons.
-- Its list of errors is written by tools/make_errors.
use Rattle.std.proofs.Common.{◌≡◌, ◌↔◌, Bool, false, IsTrue}
use denote.Enum.Compared.{Each, by}
use Rattle.pe_core.specs.contracts.error.Reason.{enum}
use Rattle.pe_core.specs.declared.error.Reason.{Reason}
use Rattle.pe_core.proofs.VariantEquality.{EachDecides, variants_equal, none_equal, one_equal, two_equal, none, one, two}

-- the test of each kind's fields, in the order of the kinds
abbrev each : Each Bool enum.parts
each = (one_equal, (one_equal, (one_equal, (one_equal, (one_equal, (one_equal, (one_equal, (one_equal, (one_equal, (one_equal, (one_equal, (one_equal, (two_equal, (one_equal, (one_equal, (one_equal, (one_equal, (one_equal, (one_equal, (one_equal, (one_equal, (one_equal, (two_equal, (one_equal, (one_equal, (one_equal, (one_equal, (one_equal, (none_equal, (one_equal, (one_equal, (two_equal, (one_equal, (two_equal, (two_equal, tt)))))))))))))))))))))))))))))))))))

fields : EachDecides enum.parts each
fields = (one, (one, (one, (one, (one, (one, (one, (one, (one, (one, (one, (one, (two, (one, (one, (one, (one, (one, (one, (one, (one, (one, (two, (one, (one, (one, (one, (one, (none, (one, (one, (two, (one, (two, (two, tt)))))))))))))))))))))))))))))))))))

pub reasons_equal : (x y : Reason) → IsTrue (by false false enum.parts each (enum.as_values x) (enum.as_values y)) ↔ (x ≡ y)
reasons_equal = variants_equal enum each fields
