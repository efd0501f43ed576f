use Rattle.std.proofs.Common.{◌≡◌, ℕ, ◌<◌, ◌*◌, ◌^◌, Some, ap, sym, ◌∙◌, arith}
use Rattle.pe_resource.proofs.Cited.{le, digit_of, power_more, power_small, digit_small}
use Rattle.pe_resource.proofs.Digits.{digit_more}
use Rattle.pe_resource.proofs.version_block.number_of.Goals as goal

pub overflow_mul-number : goal.overflow_mul-number
overflow_mul-number c =
    let small : c.loop-i.number < 2 ^ 32 = power_small c.loop-i.number c.loop-i.i c.loop-i.invariant.small (omega arith) in
    record { fits = omega (arith, small) }

pub overflow_add-number : goal.overflow_add-number
overflow_add-number c =
    let small : c.loop-i.number < 2 ^ 32 = power_small c.loop-i.number c.loop-i.i c.loop-i.invariant.small (omega arith) in
    record { fits = omega (arith, small) }

pub loop-i-preserved : goal.loop-i-preserved
loop-i-preserved c =
    let digit : digit_of (le c.args.digits.now (2 * c.loop-i.i) 2) ≡ Some c.from.result =
    ap digit_of (sym c.read_u16.ensures) ∙ sym c.hex_digit.ensures.value ∙ c.in_ok-digit.was ∙ ap (λ (n : ℕ). Some n) (sym c.from.ensures) in
    let below : c.from.result < 16 = digit_small (le c.args.digits.now (2 * c.loop-i.i) 2) c.from.result digit in
    record {
      rest = sym (digit_more c.loop-i.number c.loop-i.i c.from.result c.args.digits.now (omega arith) digit) ∙ c.loop-i.invariant.rest;
      small = power_more c.loop-i.number c.loop-i.i c.from.result c.loop-i.invariant.small below;
    }
