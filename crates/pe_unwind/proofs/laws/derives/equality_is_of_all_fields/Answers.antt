use Rattle.pe_unwind.proofs.Arm64Equality.{codes_equal, data_equal}
use Rattle.pe_unwind.proofs.laws.derives.equality_is_of_all_fields.Goals as goal

pub returns-clause-arm64_unwind_code : goal.returns-clause-arm64_unwind_code
returns-clause-arm64_unwind_code c = codes_equal

pub returns-clause-arm64_unwind_code_data : goal.returns-clause-arm64_unwind_code_data
returns-clause-arm64_unwind_code_data c = data_equal
