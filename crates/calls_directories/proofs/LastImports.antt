-- The last step of a walk over the imports of a library.
use Rattle.std.proofs.Common.{◌≡◌, ℕ, ◌≤◌, List, length, Option, None, Ok, arith}
use Rattle.calls_directories.proofs.Cited.{nat_tests, Imports, import_step}

-- a walk that has the bytes from q on left
abbrev pub over : ℕ → ℕ → ℕ → Imports
over q n rva = record { left = record { offset = q; length = n }; rva = rva }

pub step_last : (offset : ℕ → Option ℕ) (w : ℕ) (b : List ℕ) (q rva : ℕ) → q ≤ length b → import_step offset w b (over q 0 rva) ≡ (Ok None, over q 0 rva)
unfolding import_step
step_last offset w b q rva h = grind (arith, nat_tests)
