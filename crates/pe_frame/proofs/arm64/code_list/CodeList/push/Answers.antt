use Rattle.std.proofs.Common.{◌≡◌, ◌∷◌, ◌≤◌, length, sym, ap, ◌∙◌, arith, length-take-le, rules, []}
use Rattle.pe_frame.proofs.Arm64CodeLists.{full_adds}
use Rattle.pe_frame.proofs.arm64.code_list.CodeList.push.Goals as goal

pub returns-else-self-lt-MOST_CODES : goal.returns-else-self-lt-MOST_CODES
returns-else-self-lt-MOST_CODES c =
    let whole : length c.self.inside.codes ≡ 24 = search rules in
    let most : c.self.inside.count ≤ 24 = search rules in
    let full : c.self.inside.count ≡ 24 = omega (arith, most, c.if-self-lt-MOST_CODES.false) in
    full_adds c.args.self.now (c.args.code ∷ [])
    (sym (ap length c.self.view_is) ∙ (length-take-le c.self.inside.count c.self.inside.codes (omega (arith, whole, most)) ∙ full))
