-- The parts of unwind records are ranges of the bytes.
use Rattle.std.proofs.Common.{◌≡◌, ℕ, ◌+◌, ◌*◌, ◌≤◌, Bool, true, false, List, length, drop, Some, None, Ok, subst, arith}
use Rattle.std.specs.Prelude.{if◌then◌else◌, IfSome}
use Rattle.std.proofs.lemmas.List.{places, same_lists}
use Rattle.pe_core.proofs.Ranges.{length_range, inside_if_held}
use Rattle.pe_core.specs.Bytes.{holds, le, range}
use Rattle.pe_core.specs.Refusals.{outcome}
use Rattle.pe_unwind.specs.FunctionTable.{function_at}
use Rattle.pe_core.specs.Offsets.{StandAt}
use Rattle.pe_unwind.specs.Offsets.{StandLast, handler_data_of, UnwindPartsStand}
use Rattle.pe_unwind.specs.UnwindRecord.{Exception, Termination, UnwindInfoView, Ending, ending_at, unwind_tests, unwind_record, count_at, flags_at, after_codes, is_chained, handles_exceptions, handles_termination}

pub range_stands : (b : List ℕ) (p n : ℕ) → p + n ≤ length b → StandAt b p (range b p n)
range_stands b p n h = grind (arith, length_range)

pub tail_stands : (b : List ℕ) (k : ℕ) → StandLast b (drop k b)
tail_stands b k = grind (arith, places, same_lists)

abbrev pub ending_by : List ℕ → ℕ → Bool → Bool → Bool → Ending
ending_by b q chained exception termination =
    if chained then record { chained = Some (function_at b q); handler = None }
    else (if exception then record { chained = None; handler = Some (Exception (le b q 4) (drop (q + 4) b)) }
    else (if termination then record { chained = None; handler = Some (Termination (le b q 4) (drop (q + 4) b)) }
    else record { chained = None; handler = None }))

data_by_flags : (b : List ℕ) (q : ℕ) (chained exception termination : Bool) → IfSome (ending_by b q chained exception termination).handler (λ h. StandLast b (handler_data_of h))
data_by_flags b q true exception termination = tt
data_by_flags b q false true termination = tail_stands b (q + 4)
data_by_flags b q false false true = tail_stands b (q + 4)
data_by_flags b q false false false = tt

data_of_ending : (b : List ℕ) (q flags : ℕ) → IfSome (ending_at b q flags).handler (λ h. StandLast b (handler_data_of h))
unfolding ending_at
data_of_ending b q flags = data_by_flags b q (is_chained flags) (handles_exceptions flags) (handles_termination flags)

-- what is returned is what stands there
pub given : (b : List ℕ) (p : ℕ) (i : UnwindInfoView) → outcome (unwind_tests b p) (unwind_record b p) ≡ Ok i → (holds b (p + 4) (2 * count_at b p) ≡ true) × (unwind_record b p ≡ i)
unfolding unwind_tests
given b p i e = grind arith

parts_of_record : (b : List ℕ) (p : ℕ) → p + 4 + 2 * count_at b p ≤ length b → UnwindPartsStand b p (unwind_record b p)
unfolding unwind_record
parts_of_record b p h = record {
  codes = range_stands b (p + 4) (2 * count_at b p) h;
  tail = data_of_ending b (after_codes b p) (flags_at b p);
}

-- the parts of a record that is returned
pub parts_stand : (b : List ℕ) (p : ℕ) (i : UnwindInfoView) → outcome (unwind_tests b p) (unwind_record b p) ≡ Ok i → UnwindPartsStand b p i
parts_stand b p i e =
    let found = given b p i e in
    subst (λ (j : UnwindInfoView). UnwindPartsStand b p j) found.1 (parts_of_record b p (inside_if_held b (p + 4) (2 * count_at b p) found.0))
