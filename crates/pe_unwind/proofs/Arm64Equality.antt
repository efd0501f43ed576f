-- Equality of ARM64 codes.
use Rattle.std.proofs.Common.{◌≡◌, ◌↔◌, ℕ, Bool, false, IsTrue, nat_eq, ◌&&◌, arith}
use Rattle.std.specs.Bool.{beq}
use Rattle.std.proofs.lemmas.Bool.{false≢true}
use Rattle.std.proofs.lemmas.Bool.Decides.{nat_tests}
use denote.Enum.Bare.{sameb}
use denote.Enum.Compared.{Each, by}
use Rattle.pe_core.proofs.VariantEquality.{EachDecides, variants_equal, none_equal, one_equal, two_equal, last_equal, next_equal, none, one, two, last, next, number}
use Rattle.pe_core.specs.Traits.{IsEquality}
use Rattle.pe_unwind.specs.contracts.arm64.codes.Arm64CustomStackCase.{the_type}
use Rattle.pe_unwind.specs.contracts.arm64.codes.Arm64UnwindCode.{enum}
use Rattle.pe_unwind.specs.declared.arm64.codes.Arm64CustomStackCase.{Arm64CustomStackCase}
use Rattle.pe_unwind.specs.declared.arm64.codes.Arm64UnwindCode.{Arm64UnwindCode}
use Rattle.pe_unwind.specs.declared.arm64.codes.Arm64UnwindCodeData.{Arm64UnwindCodeData}

flag : IsEquality beq
flag = grind arith

-- the fields of a code: none, numbers, those of `SaveAnyReg`, or a case
abbrev three_equal : ℕ × (ℕ × (ℕ × Unit {0})) → ℕ × (ℕ × (ℕ × Unit {0})) → Bool
three_equal = next_equal nat_eq two_equal

abbrev any_equal : ℕ × (Bool × (Bool × (ℕ × (ℕ × Unit {0})))) → ℕ × (Bool × (Bool × (ℕ × (ℕ × Unit {0})))) → Bool
any_equal = next_equal nat_eq (next_equal beq (next_equal beq two_equal))

abbrev case_equal : Arm64CustomStackCase × Unit {0} → Arm64CustomStackCase × Unit {0} → Bool
case_equal = last_equal (sameb the_type)

-- the test of each code's fields, in the order of the codes
abbrev each : Each Bool enum.parts
each = (one_equal, (one_equal, (one_equal, (one_equal, (one_equal, (two_equal, (two_equal, (two_equal, (two_equal, (two_equal, (two_equal, (two_equal, (two_equal, (two_equal, (one_equal, (one_equal, (none_equal, (two_equal, (none_equal, (none_equal, (none_equal, (none_equal, (any_equal, (two_equal, (two_equal, (case_equal, (none_equal, (three_equal, tt))))))))))))))))))))))))))))

fields : EachDecides enum.parts each
fields = grind (arith, one, two, none, next, number, flag, last, two_equal)

abbrev same_code : Arm64UnwindCode → Arm64UnwindCode → Bool
same_code x y = by false false enum.parts each (enum.as_values x) (enum.as_values y)

pub codes_equal : (x y : Arm64UnwindCode) → IsTrue (same_code x y) ↔ (x ≡ y)
codes_equal = variants_equal enum each fields

-- two numbers and one field between them
between : (m n i j : ℕ) (b : Bool) → IsTrue (nat_eq m n && (b && nat_eq i j)) ↔ ((m ≡ n) × (i ≡ j) × IsTrue b)
between m n i j b = grind (arith, nat_tests, false≢true)

pub same_fields : (x y : Arm64UnwindCodeData) → x.offset ≡ y.offset → x.code ≡ y.code → x.len ≡ y.len → x ≡ y
same_fields x y o c l = grind arith

pub data_equal : (x y : Arm64UnwindCodeData) → IsTrue (nat_eq x.offset y.offset && (same_code x.code y.code && nat_eq x.len y.len)) ↔ (x ≡ y)
data_equal x y = grind (arith, fields, between, same_fields, codes_equal)
