use Rattle.std.proofs.Common.{ℕ, ◌-◌, ◌%◌, ap, sym, rules, arith}
use Rattle.pe_sign.proofs.Cited.{LeftOut, Part}
use Rattle.pe_sign.proofs.Slices.{both_sides, is_covered, kept_after, kept_before, length_without}
use Rattle.pe_sign.proofs.digest.ranges_without.Goals as goal

pub returns-clause-value : goal.returns-clause-value
returns-clause-value c =
    let l : LeftOut = c.args.left_out.now in
    let whole : Part = record { offset = 0; bytes = c.args.bytes } in
    is_covered l c.args.bytes.now _ _
    (both_sides l whole _ _ c.without_fields.result c.without_fields-2.result c.cut.ensures.cut c.without_fields.ensures c.without_fields-2.ensures)
    (ap (λ (n : ℕ). (8 - n % 8) % 8) (sym (length_without l.certificates whole _ _ c.cut.ensures.cut)))

pub returns-clause-sides : goal.returns-clause-sides
returns-clause-sides c = search (rules, arith, kept_before, kept_after)
