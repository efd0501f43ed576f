-- A record of a list by its index.
use Rattle.std.proofs.Common.{◌≡◌, ℕ, ◌*◌, ◌<◌, ◌≤◌, Bool, true, false, List, length, refl, ap, ◌∙◌, arith}
use Rattle.std.specs.Prelude.{Some, None, nat_lt, slice_get, if◌then◌else◌}
use Rattle.std.proofs.lemmas.Bool.Decides.{nat_tests}
use Rattle.std.proofs.lemmas.List.FromFn.{get_or-map-range_with_len, length-map-range_with_len}
use Rattle.std.proofs.lemmas.Option.{slice_get-get_or, slice_get_past}
use Rattle.pe_minidump.specs.Tables.{records, record_of}

by_test : {X : Type 0} (record_at : List ℕ → ℕ → X) (b : List ℕ) (stride n i : ℕ) (t : Bool) → nat_lt i n ≡ t → slice_get (records record_at b stride n) i ≡ (if t then Some (record_at b (stride * i)) else None)
by_test {X} record_at b stride n i true e =
    let f : ℕ → X = λ k. record_at b (stride * k) in
    let less : i < n = grind (arith, nat_tests) in
    let count : length (records record_at b stride n) ≡ n = length-map-range_with_len f 0 n in
    slice_get-get_or (records record_at b stride n) i (f i) (omega (arith, less, count)) ∙ ap (λ (x : X). Some x) (get_or-map-range_with_len f 0 n i i (f i) less (omega arith))
by_test record_at b stride n i false e =
    let past : n ≤ i = grind (arith, nat_tests) in
    let count : length (records record_at b stride n) ≡ n = length-map-range_with_len (λ k. record_at b (stride * k)) 0 n in
    slice_get_past (records record_at b stride n) i (omega (arith, past, count))

pub listed : {X : Type 0} (record_at : List ℕ → ℕ → X) (b : List ℕ) (stride n i : ℕ) → slice_get (records record_at b stride n) i ≡ record_of record_at b stride n i
listed record_at b stride n i = by_test record_at b stride n i (nat_lt i n) refl
