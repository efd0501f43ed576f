-- The module that is found of an address has it.
use Rattle.std.proofs.Common.{◌≡◌, ℕ, ◌+◌, ◌<◌, true, List, Option, Some, arith}
use Rattle.pe_frame.proofs.Cited.{IfSome, IsTrue, Bor, option_map, found_passes, has_address, is_within, module_at, module_base}
use Rattle.pe_frame.proofs.Cited.{module_size, Module}

pub found_has : (modules : List Module) (a : ℕ) (m : Module) → module_at modules a ≡ Some m → has_address module_base module_size a m ≡ true
found_has modules a m found = found_passes (has_address module_base module_size a) modules m found

pub found_ends : (modules : List Module) (a : ℕ) (m : Module) → module_at modules a ≡ Some m → a < m.base + m.size
found_ends modules a m found = (is_within m.base m.size a (found_has modules a m found)).1

pub has_it : (modules : List Module) (a : ℕ) (o : Option (Bor Module)) → option_map (λ m. m.now) o ≡ module_at modules a →
    IfSome o (λ m. IsTrue (has_address module_base module_size a m.now))
has_it modules a o found = grind (arith, found_has)

pub ends_after : (modules : List Module) (a : ℕ) (o : Option (Bor Module)) → option_map (λ m. m.now) o ≡ module_at modules a →
    IfSome o (λ m. a < m.now.base + m.now.size)
ends_after modules a o found = grind (arith, found_ends)
