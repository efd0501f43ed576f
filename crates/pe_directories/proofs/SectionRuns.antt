-- Runs of RVAs, by sections that are tested in turn.
use Rattle.std.proofs.Common.{◌≡◌, ℕ, ◌+◌, ◌-◌, ◌<◌, ◌≤◌, ◌^◌, min, List, [], ◌∷◌, filter, Some, None, refl, arith}
use Rattle.pe_directories.proofs.Cited.{nat_tests, covers, first, raw_start, reach, SectionTable, IsRun, in_turn, Run}
use Rattle.pe_core.proofs.Reaches.{outside}

-- the sections that were passed cover no RVA of a run, so that the first of those that are left to cover one is the first of all
pub record Passed (alignment : ℕ) (sections left : List SectionTable) (rva end : ℕ) : Type 0 where
  pub ahead : rva < end
  pub firsts : (x : ℕ) → rva ≤ x → x < end → first (filter (covers alignment x) sections) ≡ first (filter (covers alignment x) left)

pub none_passed : (alignment : ℕ) (sections : List SectionTable) (rva : ℕ) → rva < 2 ^ 64 - 1 → Passed alignment sections sections rva (2 ^ 64 - 1)
none_passed alignment sections rva h = record { ahead = h; firsts = λ x g k. refl }

pub one_passed : (alignment : ℕ) (sections rest : List SectionTable) (s : SectionTable) (rva end after : ℕ) → Passed alignment sections (s ∷ rest) rva end
    → (s.virtual_address ≤ rva → s.virtual_address + reach alignment s ≤ rva) → after ≤ end → rva < after → (rva < s.virtual_address → after ≤ s.virtual_address)
    → Passed alignment sections rest rva after
one_passed alignment sections rest s rva end after g outside_it low ahead starts = grind (arith, outside)

pub found : (alignment : ℕ) (sections rest : List SectionTable) (s : SectionTable) (rva end : ℕ) (r : Run) → Passed alignment sections (s ∷ rest) rva end
    → s.virtual_address ≤ rva → rva < s.virtual_address + reach alignment s → r.end ≡ min end (s.virtual_address + reach alignment s)
    → r.offset ≡ Some (rva - s.virtual_address + raw_start s) → IsRun (in_turn alignment sections) rva r
found alignment sections rest s rva end r g start stop is_end is_offset = grind (arith, nat_tests)

pub none_covers : (alignment : ℕ) (sections : List SectionTable) (rva end : ℕ) (r : Run) → Passed alignment sections [] rva end → r.end ≡ end → r.offset ≡ None
    → IsRun (in_turn alignment sections) rva r
none_covers alignment sections rva end r g is_end is_offset = grind arith
