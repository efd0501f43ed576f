-- The ranges of records are their parts.
use Rattle.std.proofs.Common.{◌≡◌, ℕ, ◌+◌, List, length, Option, Ok, arith}
use Rattle.calls_unwind.proofs.Cited.{IfSome, outcome, HandlerView, UnwindInfoView, unwind_tests, unwind_record}
use Rattle.calls_unwind.proofs.Cited.{arm64_handler_range, flat_info, IsRange, handler_range, flat_record}
use Rattle.pe_unwind.proofs.Arm64Records as arm64
use Rattle.pe_unwind.proofs.Offsets as x64
use Rattle.pe_unwind.specs.Arm64Record.{Arm64HandlerView, Arm64InfoView, info_at, scopes_offset}
use Rattle.pe_core.specs.Offsets.{StandAt}
use Rattle.pe_unwind.specs.Offsets.{StandLast, handler_data_of}

-- what stands at an offset is the range from there
pub of_offset : (b : List ℕ) (p : ℕ) (part : List ℕ) → StandAt b p part → IsRange b (record { offset = p; length = length part }) part
of_offset b p part s = record { inside = s.inside; same = s.here }

of_handler : (b : List ℕ) (h : Option HandlerView) → IfSome h (λ h. StandLast b (handler_data_of h)) → IfSome h (λ x. IsRange b (handler_range b h) (handler_data_of x))
of_handler b h s = grind arith

of_arm64_handler : (b : List ℕ) (h : Option Arm64HandlerView) → IfSome h (λ h. StandLast b h.bytes) → IfSome h (λ x. IsRange b (arm64_handler_range b h) x.bytes)
of_arm64_handler b h s = grind arith

pub codes_of_record : (b : List ℕ) (p : ℕ) (i : UnwindInfoView) → outcome (unwind_tests b p) (unwind_record b p) ≡ Ok i → IsRange b (flat_record b p i).codes.left i.codes
codes_of_record b p i e = of_offset b (p + 4) i.codes (x64.parts_stand b p i e).codes

pub handler_of_record : (b : List ℕ) (p : ℕ) (i : UnwindInfoView) → outcome (unwind_tests b p) (unwind_record b p) ≡ Ok i →
    IfSome i.handler (λ h. IsRange b (flat_record b p i).handler_data (handler_data_of h))
handler_of_record b p i e = of_handler b i.handler (x64.parts_stand b p i e).tail

pub scopes_of_info : (b : List ℕ) (p : ℕ) (i : Arm64InfoView) → info_at b p ≡ Ok i → IsRange b (flat_info b p i).scopes i.scopes
scopes_of_info b p i e = of_offset b (scopes_offset p i.header) i.scopes (arm64.parts_stand b p i e).scopes

pub codes_of_info : (b : List ℕ) (p : ℕ) (i : Arm64InfoView) → info_at b p ≡ Ok i → IsRange b (flat_info b p i).codes i.codes
codes_of_info b p i e = of_offset b (scopes_offset p i.header + length i.scopes) i.codes (arm64.parts_stand b p i e).codes

pub handler_of_info : (b : List ℕ) (p : ℕ) (i : Arm64InfoView) → info_at b p ≡ Ok i → IfSome i.handler (λ h. IsRange b (flat_info b p i).handler_data h.bytes)
handler_of_info b p i e = of_arm64_handler b i.handler (arm64.parts_stand b p i e).tail
