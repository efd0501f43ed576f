-- Tables: one record and those after it.
use Rattle.std.proofs.Common.{◌≡◌, ℕ, suc, ◌+◌, ◌-◌, ◌*◌, ◌<◌, ◌≤◌, List, [], ◌∷◌, map, length, ap, ◌∙◌, arith}
use Rattle.std.specs.List.{range_with_len}
use Rattle.std.proofs.lemmas.List.{length-map}
use Rattle.std.proofs.lemmas.List.FromFn.{length-range_with_len}
use Rattle.pe_minidump.specs.Tables.{records_from}

pub records_more : {X : Type 0} (record_at : List ℕ → ℕ → X) (b : List ℕ) (stride n i : ℕ) → i < n → records_from record_at b stride n i ≡ record_at b (stride * i) ∷ records_from record_at b stride n (i + 1)
records_more record_at b stride n i h =
    let count : n - i ≡ suc (n - (i + 1)) = omega (arith, h) in
    ap (λ (m : ℕ). map (λ k. record_at b (stride * k)) (range_with_len i m)) count

pub records_none : {X : Type 0} (record_at : List ℕ → ℕ → X) (b : List ℕ) (stride n i : ℕ) → n ≤ i → records_from record_at b stride n i ≡ []
records_none record_at b stride n i h =
    let count : n - i ≡ 0 = omega (arith, h) in
    ap (λ (m : ℕ). map (λ k. record_at b (stride * k)) (range_with_len i m)) count

pub count_of_records : {X : Type 0} (record_at : List ℕ → ℕ → X) (b : List ℕ) (stride n i : ℕ) → length (records_from record_at b stride n i) ≡ n - i
count_of_records record_at b stride n i =
    length-map (range_with_len i (n - i)) (λ k. record_at b (stride * k)) ∙ length-range_with_len i (n - i)
