use Rattle.std.proofs.Common.{◌≡◌, ℕ, ◌+◌, ◌/◌, ◌^◌, ◌<◌, ◌≤◌, List, length, Some, arith}
use Rattle.std.proofs.lemmas.Bool.Decides.{nat_tests}
use Rattle.pe_pdb.specs.SectionHeaders.{rva_of, start_of}
use Rattle.pe_pdb.proofs.laws.rva_is_section_offset.Goals as goal

found : (b : List ℕ) (section offset rva : ℕ) → rva_of b section offset ≡ Some rva → (0 < section) × (section ≤ length b / 40) × (rva ≡ start_of b section + offset) × (rva < 2 ^ 32)
unfolding rva_of
found b section offset rva is = grind (arith, nat_tests)

there : (b : List ℕ) (section offset rva : ℕ) → (0 < section) × (section ≤ length b / 40) × (rva ≡ start_of b section + offset) × (rva < 2 ^ 32) → rva_of b section offset ≡ Some rva
unfolding rva_of
there b section offset rva h = grind (arith, nat_tests)

pub returns : goal.returns
returns c = λ b section offset rva. (found b section offset rva, there b section offset rva)
