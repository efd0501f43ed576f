-- A chain of links has one answer, and so has the record at its end.
use Rattle.std.proofs.Common.{◌≡◌, ℕ, List, ◌-◌, ◌%◌, ◌==◌, if◌then◌else◌, Option, Some, None, Result, Ok, Err, arith}
use Rattle.std.proofs.lemmas.Bool.Decides.{nat_tests}
use Rattle.pe_core.specs.Refusals.{Refusal, Unmapped, FunctionLink}
use Rattle.pe_core.proofs.Pigeonhole.{stop_once}
use Rattle.pe_unwind.specs.Links.{Table, IsEven, link, next, Reaches, Follows}
use Rattle.pe_unwind.specs.UnwindRecord.{UnwindInfoView}
use Rattle.pe_unwind.specs.Unwinding.{Unwinds}
use Rattle.pe_unwind.proofs.LinkChains.{next-unmapped, next-no_entry, cycle_is_endless}

next-even : (t : Table) (u : ℕ) → IsEven u → next t u ≡ None
unfolding next link
next-even t u even = grind (arith, nat_tests)

-- what the last address of a chain returns
abbrev at_offset : Option ℕ → Result ℕ Refusal
at_offset None = Err Unmapped
at_offset (Some p) = Err FunctionLink

-- a chain that ends comes to a last address, which decides the answer
abbrev EndsWith : Table → ℕ → Result ℕ Refusal → Type 0
EndsWith t u a = (v : ℕ) × Reaches t u v × (next t v ≡ None) × (a ≡ (if v % 2 == 0 then Ok v else at_offset (t.offset (v - 1))))

pub one_answer : (t : Table) (u : ℕ) (a b : Result ℕ Refusal) → Follows t u a → Follows t u b → a ≡ b
one_answer t u a b f g = grind (arith, cycle_is_endless, stop_once, nat_tests, next-even, next-unmapped, next-no_entry)

-- the same of the record at the end of the chain
pub one_record : (t : Table) (b : List ℕ) (u : ℕ) (x y : Result UnwindInfoView Refusal) → Unwinds t b u x → Unwinds t b u y → x ≡ y
one_record t b u x y v w = grind (arith, one_answer)
