use Rattle.std.proofs.Common.{arith, ◌≡◌, ℕ, ◌≤◌, [], sym}
use Rattle.std.proofs.lemmas.List.{get_or_past}
use Rattle.pe_unwind.specs.Registers.{register_name, names}
use Rattle.pe_unwind.proofs.register.Register.name.Goals as goal

-- A number after the last register has no name.
name_past : (n : ℕ) → 33 ≤ n → [] ≡ register_name n
unfolding register_name
name_past n h = sym (get_or_past names n [] (omega arith))

pub returns-in_default : goal.returns-in_default
returns-in_default c = name_past c.args.self.0 (omega arith)
