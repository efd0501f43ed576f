use Rattle.std.proofs.Common.{◌≡◌, ◌≤◌, ◌||◌, ◌==◌, nat_lt, ℕ, List, length, true, sym, ap, ◌∙◌, subst, []}
use Rattle.pe_frame.proofs.Cited.{Arm64UnwindCode, bits, caller_by_list, Adds, packed_codes, is_canonical}
use Rattle.pe_frame.proofs.Arm64Packed.{packed_whole, packed_alone, whole_alone, rest_alone, left_before, left_later, canonical_step, not_true, not_false}
use Rattle.pe_frame.proofs.arm64.step.packed_caller.Goals as goal

-- the slice has all codes
whole : (d : ℕ) (xs list : List Arm64UnwindCode) → is_canonical d ≡ true → length xs ≤ 24 → xs ≡ list → Adds [] list (packed_codes d) → xs ≡ packed_codes d
whole d xs list canonical few is adds = packed_whole d xs canonical few (subst (λ (ys : List Arm64UnwindCode). Adds [] ys (packed_codes d)) (sym is) adds)

pub packed_caller_after-requires : goal.packed_caller_after-requires
packed_caller_after-requires g c =
    let d = (c.args.function.now).unwind_data in
    let canonical : is_canonical d ≡ true = sym c.if-not-is_canonical.ensures in
    record {
      canonical = canonical;
      alone = whole_alone d c.as_slice-codes.result.now canonical
          (whole d c.as_slice-codes.result.now c.packed_codes-list.result canonical c.as_slice-codes.ensures.few c.as_slice-codes.ensures.value c.packed_codes-list.ensures);
    }

pub returns-then-has_ended : goal.returns-then-has_ended
returns-then-has_ended g c =
    let d = (c.args.function.now).unwind_data in
    let canonical : is_canonical d ≡ true = sym c.if-not-is_canonical.ensures in
    let m = g.M.Memory.word c.args.memory.now in
    c.packed_caller_after.ensures
    ∙ (ap (λ (cs : List Arm64UnwindCode). caller_by_list m cs c.args.registers)
    (left_later d c.args.place c.packed_length-length.result c.as_slice-codes.result.now canonical
    (whole d c.as_slice-codes.result.now c.packed_codes-list.result canonical c.as_slice-codes.ensures.few c.as_slice-codes.ensures.value c.packed_codes-list.ensures)
    c.packed_length-length.ensures.value (not_true (bits d 0 2 == 2 || nat_lt c.args.place c.packed_length-length.result) c.if-has_ended.ensures))
    ∙ sym (canonical_step m d c.args.place c.args.registers canonical))

pub caller_by_list-requires : goal.caller_by_list-requires
caller_by_list-requires g c =
    let d = (c.args.function.now).unwind_data in
    let canonical : is_canonical d ≡ true = sym c.if-not-is_canonical.ensures in
    rest_alone c.saturating_sub-left.result c.as_slice-codes.result.now (packed_codes d)
    (whole d c.as_slice-codes.result.now c.packed_codes-list.result canonical c.as_slice-codes.ensures.few c.as_slice-codes.ensures.value c.packed_codes-list.ensures)
    (packed_alone d canonical)

pub returns : goal.returns
returns g c =
    let d = (c.args.function.now).unwind_data in
    let canonical : is_canonical d ≡ true = sym c.if-not-is_canonical.ensures in
    let m = g.M.Memory.word c.args.memory.now in
    c.caller_by_list.ensures
    ∙ (ap (λ (cs : List Arm64UnwindCode). caller_by_list m cs c.args.registers)
    (left_before d c.args.place c.packed_length-length.result c.saturating_sub-left.result c.as_slice-codes.result.now canonical
    (whole d c.as_slice-codes.result.now c.packed_codes-list.result canonical c.as_slice-codes.ensures.few c.as_slice-codes.ensures.value c.packed_codes-list.ensures)
    c.packed_length-length.ensures.value c.saturating_sub-left.ensures (not_false (bits d 0 2 == 2 || nat_lt c.args.place c.packed_length-length.result) c.if-has_ended.ensures))
    ∙ sym (canonical_step m d c.args.place c.args.registers canonical))
