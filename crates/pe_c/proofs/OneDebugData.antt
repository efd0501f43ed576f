-- What the calls return decides the debug data of an image.
use Rattle.std.proofs.Common.{◌≡◌, ℕ, List, Option, Some, Result, arith}
use Rattle.pe_c.proofs.Cited.{Refusal, SectionTable, DebugFields, one_range, one_option, one_result, AreDebugData, IsDebugData}
use Rattle.pe_c.proofs.Cited.{debug_results, HasOption, Image}

one_stamp : (o : Option ℕ) (x y : ℕ) → o ≡ Some x → o ≡ Some y → x ≡ y
one_stamp o x y e f = cc

not_both : (n : ℕ) → n ≡ 0 → n ≡ 1 → ⊥
not_both n e f = cc

pub one_debug_data : (b : List ℕ) (image : Image) (sections : List SectionTable) (x y : Result (Option DebugFields) Refusal) → AreDebugData b image sections x → AreDebugData b image sections y → x ≡ y
one_debug_data b image sections x y g h =
    one_result (HasOption (IsDebugData b)) (one_option (IsDebugData b) (grind (arith, one_range, one_option, one_stamp, not_both)))
    (debug_results b image sections) x y g h
