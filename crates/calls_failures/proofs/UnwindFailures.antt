-- The end of the links from an unwind RVA, and what a step that a relation defines is refused by.
use Rattle.std.proofs.Common.{◌≡◌, ℕ, suc, ◌+◌, List, Option, Some, None, Result, Err, refl, sym, subst, ◌∙◌, add-one, arith}
use Rattle.pe_core.proofs.Pigeonhole.{after_more, stop_once}
use Rattle.pe_core.proofs.Steps.{other_value}
use Rattle.pe_core.specs.Chains.{after}
use Rattle.pe_core.specs.Refusals.{Refusal, FunctionCycle}
use Rattle.pe_core.specs.SectionMap.{mapped}
use Rattle.pe_core.specs.declared.error.Error.{Error}
use Rattle.pe_unwind.proofs.LinkChains.{cycle_is_endless, cycles}
use Rattle.pe_unwind.specs.Links.{IsEndless, Table, next, table_count}
use Rattle.pe_unwind.specs.Unwinding.{FindsRecord}
use Rattle.pe_unwind.specs.declared.unwind_code.UnwindCode.{UnwindCode}
use Rattle.calls_unwind.specs.Arm64.{StepsArm64Codes}
use Rattle.calls_failures.specs.Arm64Failures.{IsWhyOfArm64Code, arm64_code_numbers}
use Rattle.calls_base.specs.FailureNumbers.{failure_by, refused}
use Rattle.calls_base.specs.Ranges.{bytes_at}
use Rattle.calls_failures.specs.UnwindFailures.{IsWhyOfCode, IsWhyOfRecord, LinksEnd, code_numbers, record_numbers, table_there}
use Rattle.calls_unwind.specs.Unwinding.{FindsOffset, FollowsToRecord, WalksIn, flat_answer, links_at}
use Rattle.calls_unwind.specs.declared.arm64.codes.Arm64Code.{Arm64Code}
use Rattle.calls_unwind.specs.declared.arm64.codes.Arm64CodeWalk.{Arm64CodeWalk}
use Rattle.calls_base.specs.declared.numbers.Failure.{Failure}
use Rattle.calls_base.specs.declared.ranges.Range.{Range}
use Rattle.calls_unwind.specs.declared.unwinding.CodeWalk.{CodeWalk}
use Rattle.calls_unwind.specs.declared.unwinding.UnwindRecord.{UnwindRecord}

-- ---- links

pub one_more_link : (t : Table) (u k v w : ℕ) (o : Option ℕ) → after (next t) k u ≡ Some v → o ≡ next t v → o ≡ Some w → after (next t) (k + 1) u ≡ Some w
one_more_link t u k v w o reached is to = rw add-one (after_more (next t) k u v reached ∙ sym is ∙ to)

pub ends_here : (t : Table) (u k v : ℕ) (o : Option ℕ) → after (next t) k u ≡ Some v → o ≡ next t v → o ≡ None → LinksEnd t u (Some v)
ends_here t u k v o reached is none = ((k, reached), sym is ∙ none)

-- more links than entries
pub endless : (t : Table) (u k v : ℕ) → after (next t) k u ≡ Some v → k ≡ table_count t + 1 → LinksEnd t u None
endless t u k v reached many = cycles t u v (subst (λ (m : ℕ). after (next t) m u ≡ Some v) many reached)

never_stops_there : (t : Table) (u k v : ℕ) → after (next t) k u ≡ Some v → next t v ≡ None → IsEndless t u → ⊥
never_stops_there t u k v reached none never = rw (after_more (next t) k u v reached ∙ none) at (never (suc k))

-- they end once
pub links_end_once : (t : Table) (u : ℕ) (x y : Option ℕ) → LinksEnd t u x → LinksEnd t u y → x ≡ y
links_end_once t u x y f g = grind (arith, never_stops_there, stop_once)

-- ---- links that never end, by the offset that they lead to

no_cycle : (offset : Option ℕ) → mapped offset ≡ Err FunctionCycle → ⊥
no_cycle offset h = grind arith

found_endless : (t : Table) (u : ℕ) (answer : Result ℕ Refusal) → FindsRecord t u answer → answer ≡ Err FunctionCycle → IsEndless t u
found_endless t u answer w h = grind (arith, no_cycle, cycle_is_endless)

pub linked_endless : (offset : ℕ → Option ℕ) (b : List ℕ) (table : Range) (u : ℕ) (answer : Result ℕ Refusal) → FindsOffset (links_at offset b table) u answer → answer ≡ Err FunctionCycle →
    LinksEnd (table_there offset b table) u None
linked_endless offset b table u answer f h = grind (arith, found_endless, other_value)

-- ---- why a step is refused that returned this

pub why_of_record : (offset : ℕ → Option ℕ) (b : List ℕ) (table : Range) (u : ℕ) (answer : Result UnwindRecord Refusal) (last : Option ℕ) (found : Option Failure) → FollowsToRecord b (links_at offset b table) u answer → LinksEnd (table_there offset b table) u last → found ≡ failure_by (record_numbers offset b table u last) (refused answer) →
    IsWhyOfRecord offset b table u found
why_of_record offset b table u answer last found f ends why = (answer, last, f, ends, why)

pub why_of_code : (b : List ℕ) (w after : CodeWalk) (given : Option (Result UnwindCode Error)) (found : Option Failure) → WalksIn (bytes_at b w.left) w given after → found ≡ failure_by (code_numbers b w) (refused (flat_answer given)) →
    IsWhyOfCode b w found
why_of_code b w after given found s why = (flat_answer given, after, (given, s, refl), why)

pub why_of_arm64_code : (b : List ℕ) (w after : Arm64CodeWalk) (answer : Result (Option Arm64Code) Refusal) (found : Option Failure) → StepsArm64Codes b w answer after → found ≡ failure_by (arm64_code_numbers w) (refused answer) →
    IsWhyOfArm64Code b w found
why_of_arm64_code b w after answer found s why = (answer, after, s, why)
