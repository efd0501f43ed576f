-- Records that are written whole.
use Rattle.std.proofs.Common.{◌≡◌, ℕ, ◌≤◌, List, length, Result, Ok, Err, ap, arith}
use Rattle.pe_version.proofs.Cited.{nat_tests, fit_at, splice, Refusal, outcome, ◌>>=◌, record_tests, records_version, value_of}
use Rattle.pe_version.proofs.Cited.{VersionRefusal, Image, length_of, written, all_blocks, root_block, version_of, AllFit}
use Rattle.pe_version.proofs.Cited.{padded_block, padded_length}
use Rattle.pe_version.specs.declared.record.VersionRecords.{VersionRecords}
use Rattle.pe_version.proofs.Calls.{fit_of, fits_by, padded_size, room_enough, too_small}
use Rattle.pe_version.proofs.Heads.{parts_fit}
use Rattle.pe_version.proofs.Making.{refused_by_length, value_same}
use Rattle.pe_version.proofs.Measures.{counted}
use Rattle.pe_version.proofs.VersionsRead.{all_fit}

-- ---- the tests of the ranges

pub unfit_refused : (v : VersionRecords) (r : VersionRefusal) → outcome {Y = Unit {0}} (record_tests v) tt ≡ Err r → length_of (records_version v) ≡ Err r
unfit_refused v r e = ap (λ (x : Result (Unit {0}) VersionRefusal). length_of (x >>= λ u. version_of (value_of v))) e

pub fit_is : (v : VersionRecords) (u : Unit {0}) → outcome {Y = Unit {0}} (record_tests v) tt ≡ Ok u → length_of (records_version v) ≡ length_of (version_of (value_of v))
fit_is v u e = ap (λ (x : Result (Unit {0}) VersionRefusal). length_of (x >>= λ u. version_of (value_of v))) e

-- ---- what is written

pub record Accepted (v : VersionRecords) (n : ℕ) : Type 0 where
  pub fits : AllFit (all_blocks (value_of v))
  pub is : records_version v ≡ Ok (padded_block (root_block (value_of v)))
  pub count : length (padded_block (root_block (value_of v))) ≡ n
  pub size : padded_length (root_block (value_of v)) ≡ n

pub accepted : (v : VersionRecords) (n : ℕ) → length_of (records_version v) ≡ Ok n → Accepted v n
unfolding version_of
accepted v n e = grind (arith, counted, value_same, all_fit, parts_fit, padded_size)

pub not_written : (made : Result (List ℕ) VersionRefusal) (old : List ℕ) (r : VersionRefusal) → length_of made ≡ Err r → written made old ≡ Err r
not_written made old r e = ap (λ (x : Result (List ℕ) VersionRefusal). written x old) (refused_by_length made r e)

pub no_room : (v : VersionRecords) (old : List ℕ) (n : ℕ) (r : Refusal) → length_of (records_version v) ≡ Ok n → fit_at old 0 n ≡ Err r → written (records_version v) old ≡ Err (Image r)
no_room v old n r e h = grind (arith, accepted, too_small, fit_of)

pub room_inside : (v : VersionRecords) (old : List ℕ) (n : ℕ) (u : Unit {0}) → length_of (records_version v) ≡ Ok n → fit_at old 0 n ≡ Ok u → padded_length (root_block (value_of v)) ≤ length old
room_inside v old n u e h = grind (arith, accepted, fits_by, nat_tests)

pub is_written : (v : VersionRecords) (old new : List ℕ) (n : ℕ) (u : Unit {0}) → length_of (records_version v) ≡ Ok n → fit_at old 0 n ≡ Ok u → new ≡ splice old 0 (padded_block (root_block (value_of v))) → written (records_version v) old ≡ Ok (n, new)
is_written v old new n u e h now = grind (arith, accepted, room_enough, fit_of)
