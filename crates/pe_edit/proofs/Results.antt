-- What the calls return, by the tests that leaves pass.
use Rattle.std.proofs.Common.{◌≡◌, ℕ, ◌+◌, List, [], ◌∷◌, length, Result, Ok, Err, ap, ◌∙◌, arith}
use Rattle.pe_edit.proofs.Cited.{nat_le, splice, Refusal, WriteFit, outcome, fit_at, Measured, leaf_tests, length_of, section_of}
use Rattle.pe_edit.proofs.Cited.{written, measured_of, Accepted, Leaf, section}
use Rattle.pe_edit.specs.EditRefusals.{Image}
use Rattle.pe_edit.proofs.SectionRead.{length_of_section}
use Rattle.pe_edit.proofs.Tests.{Passes, passes, tests_pass}

-- the layout was returned
pub accepted_by : (rva : ℕ) (xs : List Leaf) (m : Measured) → outcome (leaf_tests rva xs) (measured_of xs) ≡ Ok m → Accepted rva xs
accepted_by rva xs m h = let p : Passes rva xs = tests_pass rva xs (measured_of xs) m h in p.fit

pub section_made : (rva : ℕ) (xs : List Leaf) (m : Measured) → outcome (leaf_tests rva xs) (measured_of xs) ≡ Ok m → section_of rva xs ≡ Ok (section rva xs)
section_made rva xs m h = let p : Passes rva xs = tests_pass rva xs (measured_of xs) m h in passes rva xs p.fit p.sorted

pub length_made : (rva : ℕ) (xs : List Leaf) (m : Measured) → outcome (leaf_tests rva xs) (measured_of xs) ≡ Ok m → length (section rva xs) ≡ m.length
length_made rva xs m h = grind (arith, length_of_section)

pub length_returned : (rva : ℕ) (xs : List Leaf) (m : Measured) → outcome (leaf_tests rva xs) (measured_of xs) ≡ Ok m → length_of (section_of rva xs) ≡ Ok m.length
length_returned rva xs m h = ap length_of (section_made rva xs m h) ∙ ap (λ (n : ℕ). Ok n) (length_made rva xs m h)

-- ---- the buffer

fit_of : (f old : List ℕ) (n : ℕ) (x : Result (Unit {0}) Refusal) → length f ≡ n → fit_at old 0 n ≡ x → outcome {Y = Unit {0}} ((nat_le (length f) (length old), WriteFit) ∷ []) tt ≡ x
fit_of f old n x same h = let start : 0 + n ≡ length f = omega (arith, same) in rw start at h

pub written_short : (rva : ℕ) (xs : List Leaf) (m : Measured) (old : List ℕ) (r : Refusal) → outcome (leaf_tests rva xs) (measured_of xs) ≡ Ok m → fit_at old 0 m.length ≡ Err r → written (section_of rva xs) old ≡ Err (Image r)
written_short rva xs m old r h e = grind (arith, section_made, fit_of, length_made)

pub written_done : (rva : ℕ) (xs : List Leaf) (m : Measured) (old new : List ℕ) (u : Unit {0}) → outcome (leaf_tests rva xs) (measured_of xs) ≡ Ok m → fit_at old 0 m.length ≡ Ok u → new ≡ splice old 0 (section rva xs) → written (section_of rva xs) old ≡ Ok (m.length, new)
written_done rva xs m old new u h e is = grind (arith, section_made, fit_of, length_made)
