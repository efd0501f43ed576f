-- Tables: records, the first bytes of which stand so many bytes apart.
use Rattle.std.specs.Prelude.{ℕ, ◌-◌, ◌*◌, List, nat_lt, map, Option, Some, None, if◌then◌else◌}
use Rattle.std.specs.List.{range_with_len}

-- the records from an index on of a table that has n of them, each read by `record_at`
abbrev pub records_from : {X : Type 0} → (List ℕ → ℕ → X) → List ℕ → ℕ → ℕ → ℕ → List X
records_from record_at b stride n i = map (λ k. record_at b (stride * k)) (range_with_len i (n - i))

-- all of them
abbrev pub records : {X : Type 0} → (List ℕ → ℕ → X) → List ℕ → ℕ → ℕ → List X
records record_at b stride n = map (λ k. record_at b (stride * k)) (range_with_len 0 n)

-- the record with an index, if there is one
abbrev pub record_of : {X : Type 0} → (List ℕ → ℕ → X) → List ℕ → ℕ → ℕ → ℕ → Option X
record_of record_at b stride n i = if nat_lt i n then Some (record_at b (stride * i)) else None
