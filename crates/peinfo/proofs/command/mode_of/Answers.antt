use Rattle.std.proofs.Common.{arith, sym, ap, ◌∙◌, List, ℕ, refl}
use Rattle.std.specs.Prelude.{codes}
use Rattle.std.specs.String.{string_bytes}
use Rattle.std.specs.Str.{bytes_eq}
use Rattle.peinfo.proofs.Words.{map-one}
use Rattle.peinfo.proofs.command.mode_of.Goals as goal

pub returns-in-len1 : goal.returns-in-len1
returns-in-len1 c =
    let shape = map-one string_bytes c.args.arguments.now c.argument-item.result (omega arith) c.argument-item.is in
    let is_flag = ap (λ (t : List ℕ). bytes_eq t (codes "--permissive")) (sym c.as_str.ensures.value) ∙ sym c.eq.ensures ∙ c.if-eq.true in
    rw (shape, is_flag) refl

pub returns-in_default : goal.returns-in_default
returns-in_default c =
    let shape = map-one string_bytes c.args.arguments.now c.argument-item.result (omega arith) c.argument-item.is in
    let is_flag = ap (λ (t : List ℕ). bytes_eq t (codes "--permissive")) (sym c.as_str.ensures.value) ∙ sym c.eq.ensures ∙ c.if-eq.false in
    rw (shape, is_flag) refl
