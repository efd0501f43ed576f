-- Runs of RVAs by an index of the sections, whatever its entries are.
use Rattle.std.proofs.Common.{◌≡◌, ℕ, ◌+◌, ◌-◌, ◌<◌, ◌≤◌, ◌^◌, min, true, false, List, length, arith}
use Rattle.calls_base.proofs.Cited.{nat_tests, SectionTable, IsRun, map_of_image, StartedUntil, number_of_last, start_of_last, numbered}
use Rattle.calls_base.proofs.Cited.{sections_by, start_by, started, Image, RangeEntry, skipped, turned_up, turned_down, started_at_0}
use Rattle.pe_directories.specs.declared.section_runs.Run.{Run}

-- ---- one turn of the search, for all RVAs of the run

-- after so many entries the search goes on in the same way for all RVAs of the run
pub record SearchesAlike (es : List RangeEntry) (rva bits count end : ℕ) : Type 0 where
  pub ahead : rva < end
  pub same : (x : ℕ) → rva ≤ x → x < end → started es x bits count ≡ started es x 64 0

pub alike_first : (es : List RangeEntry) (rva bits : ℕ) → length es < 2 ^ bits → bits ≤ 64 → rva < 2 ^ 64 - 1 → SearchesAlike es rva bits 0 (2 ^ 64 - 1)
alike_first es rva bits enough most small = record { ahead = small; same = λ x from to. skipped es x bits enough most }

pub alike_up : (es : List RangeEntry) (rva bits count more end : ℕ) → SearchesAlike es rva bits count end → 0 < bits → more ≡ count + 2 ^ (bits - 1)
    → start_by es rva more ≡ true → SearchesAlike es rva (bits - 1) more end
alike_up es rva bits count more end g some is passed = grind (arith, turned_up, nat_tests)

pub alike_down : (es : List RangeEntry) (rva bits count more end after : ℕ) → SearchesAlike es rva bits count end → 0 < bits → more ≡ count + 2 ^ (bits - 1)
    → start_by es rva more ≡ false → rva < 2 ^ 64 - 1 → after ≡ min end (start_of_last es more) → SearchesAlike es rva (bits - 1) count after
alike_down es rva bits count more end after g some is failed small is_after = grind (arith, turned_down, nat_tests)

pub alike_last : (es : List RangeEntry) (rva bits count end : ℕ) → SearchesAlike es rva bits count end → bits ≡ 0 → count ≤ length es → StartedUntil es rva count end
alike_last es rva bits count end g none inside = grind (arith, started_at_0)

-- ---- runs

pub without_index : (image : Image) (sections : List SectionTable) (es : List RangeEntry) (rva : ℕ) (r : Run) → length es ≡ 0
    → IsRun (map_of_image image sections) rva r → IsRun (λ x. map_of_image image (sections_by sections es x) x) rva r
unfolding sections_by
without_index image sections es rva r none g = grind arith

pub by_index : (image : Image) (sections : List SectionTable) (es : List RangeEntry) (rva count end number : ℕ) (r q : Run) → (length es ≡ 0 → ⊥)
    → StartedUntil es rva count end → number ≡ number_of_last es count → IsRun (map_of_image image (numbered sections number)) rva r
    → q.end ≡ min r.end end → q.offset ≡ r.offset → IsRun (λ x. map_of_image image (sections_by sections es x) x) rva q
unfolding sections_by
by_index image sections es rva count end number r q some s is_number g is_end is_offset = grind arith
