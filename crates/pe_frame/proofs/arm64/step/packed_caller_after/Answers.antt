use Rattle.std.proofs.Common.{◌≡◌, ◌≤◌, ◌∙◌, ℕ, List, length, true, ap, sym, subst, arith, []}
use Rattle.pe_frame.proofs.Cited.{Arm64UnwindCode, caller_by_list, Adds, packed_frame, epilog_codes, is_canonical}
use Rattle.pe_frame.proofs.Arm64Packed.{epilog_whole, epilog_alone, rest_alone, after_yes, after_no}
use Rattle.pe_frame.proofs.arm64.step.packed_caller_after.Goals as goal

-- the slice has all codes
whole : (d : ℕ) (xs list : List Arm64UnwindCode) → is_canonical d ≡ true → length xs ≤ 24 → xs ≡ list → Adds [] list (epilog_codes (packed_frame d)) → xs ≡ epilog_codes (packed_frame d)
whole d xs list canonical few is adds = epilog_whole d xs canonical few (subst (λ (ys : List Arm64UnwindCode). Adds [] ys (epilog_codes (packed_frame d))) (sym is) adds)

pub caller_by_list-requires : goal.caller_by_list-requires
caller_by_list-requires g c =
    let d = (c.args.function.now).unwind_data in
    rest_alone c.saturating_sub.result c.as_slice-of_epilog.result.now (epilog_codes (packed_frame d))
    (whole d c.as_slice-of_epilog.result.now c.epilog_codes-list.result c.requires.canonical c.as_slice-of_epilog.ensures.few c.as_slice-of_epilog.ensures.value c.epilog_codes-list.ensures)
    (epilog_alone d c.requires.canonical).alone

pub returns-then-is_in_epilog : goal.returns-then-is_in_epilog
returns-then-is_in_epilog g c =
    let d = (c.args.function.now).unwind_data in
    let xs = c.as_slice-of_epilog.result.now in
    c.caller_by_list.ensures
    ∙ ap (λ (cs : List Arm64UnwindCode). caller_by_list (g.M.Memory.word c.args.memory.now) cs c.args.registers)
    (after_yes d c.args.place _ c.epilog_start-start.result c.saturating_sub.result xs c.args.codes.now c.requires.canonical
    (whole d xs c.epilog_codes-list.result c.requires.canonical c.as_slice-of_epilog.ensures.few c.as_slice-of_epilog.ensures.value c.epilog_codes-list.ensures)
    (omega (arith, c.function_length-count.ensures)) c.epilog_start-start.ensures c.saturating_sub.ensures (sym c.if-is_in_epilog.ensures))

pub returns : goal.returns
returns g c =
    let d = (c.args.function.now).unwind_data in
    let xs = c.as_slice-of_epilog.result.now in
    c.caller_by_list-2.ensures
    ∙ ap (λ (cs : List Arm64UnwindCode). caller_by_list (g.M.Memory.word c.args.memory.now) cs c.args.registers)
    (after_no d c.args.place _ c.epilog_start-start.result xs c.args.codes.now c.requires.canonical
    (whole d xs c.epilog_codes-list.result c.requires.canonical c.as_slice-of_epilog.ensures.few c.as_slice-of_epilog.ensures.value c.epilog_codes-list.ensures)
    (omega (arith, c.function_length-count.ensures)) c.epilog_start-start.ensures (sym c.if-is_in_epilog.ensures))
