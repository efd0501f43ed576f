use Rattle.std.proofs.Common.{rules, arith, ◌≡◌, ◌-◌, ◌<◌, ℕ, true, false, get_or, leb, ltb, inl, inr}
use Rattle.std.proofs.lemmas.Bool.{cases_lt}
use Rattle.std.proofs.lemmas.Bool.Decides.{nat_tests}
use Rattle.std.proofs.lemmas.List.{get_or_default}
use Rattle.std.proofs.lemmas.List.Sorted.{IsPartitionPoint-from_clause, IsPartitionedBy-leb, IsPartitionedBy-ltb}
use Rattle.pe_stacks.specs.Names.{rva_of}
use Rattle.pe_stacks.proofs.NearestNames.{all_of_sorted, nearest_of, nearest_permuted, rvas_rise}
use Rattle.pe_stacks.proofs.names.NamedAddresses.nearest.Goals as goal

pub returns-then-after-eq0 : goal.returns-then-after-eq0
returns-then-after-eq0 c = λ addresses same. all_of_sorted (λ k. c.args.rva < rva_of k) addresses c.args.self.now.addresses.now same (λ k d lt.
    let xs = c.args.self.now.addresses.now in
    let x : ℕ = c.args.rva in
    let cut = IsPartitionPoint-from_clause (λ a. leb (rva_of a) x) xs _ c.partition_point-after.ensures.partitioned (IsPartitionedBy-leb rva_of xs x (rvas_rise xs c.args.self.now.ascending)) (λ a r f' k. search rules) in
    let t : leb (rva_of (get_or xs k d)) x ≡ false = cut.1 k d (omega (arith, c.if-after-eq0.true)) lt in grind (arith, nat_tests))

pub bounds-self-first : goal.bounds-self-first
bounds-self-first c =
    let xs = c.args.self.now.addresses.now in
    let n = c.partition_point-after.result in
    let m = c.partition_point-first.result in
    let start : ℕ = rva_of (get_or xs (n - 1) 0) in
    let cut = IsPartitionPoint-from_clause (λ a. ltb (rva_of a) start) xs m c.partition_point-first.ensures.partitioned (IsPartitionedBy-ltb rva_of xs start (rvas_rise xs c.args.self.now.ascending)) (λ a r f' k. search rules) in
    elim (cases_lt m n) [
      | inl low ↦ omega (arith, low, c.partition_point-after.ensures.bound)
      | inr high ↦ let t : ltb (rva_of (get_or xs (n - 1) 0)) start ≡ true = cut.0 (n - 1) 0 (omega arith) (omega (arith, high, c.if-after-eq0.false)) in absurd (grind (arith, nat_tests, t))
    ]

pub returns : goal.returns
returns c =
    let xs = c.args.self.now.addresses.now in
    let x : ℕ = c.args.rva in
    let n = c.partition_point-after.result in
    let m = c.partition_point-first.result in
    let start : ℕ = rva_of (get_or xs (n - 1) 0) in
    let some : 0 < n = omega (arith, c.if-after-eq0.false) in
    let within = c.partition_point-after.ensures.bound in
    let cut = IsPartitionPoint-from_clause (λ a. leb (rva_of a) x) xs n c.partition_point-after.ensures.partitioned (IsPartitionedBy-leb rva_of xs x (rvas_rise xs c.args.self.now.ascending)) (λ a r f' k. search rules) in
    let early = IsPartitionPoint-from_clause (λ a. ltb (rva_of a) start) xs m c.partition_point-first.ensures.partitioned (IsPartitionedBy-ltb rva_of xs start (rvas_rise xs c.args.self.now.ascending)) (λ a r f' k. search rules) in
    let inside : m < n = elim (cases_lt m n) [
      | inl low ↦ low
      | inr high ↦ let t : ltb (rva_of (get_or xs (n - 1) 0)) start ≡ true = early.0 (n - 1) 0 (omega arith) (omega (arith, high, some)) in absurd (grind (arith, nat_tests, t))
    ] in
    let same : (d : ℕ) → get_or xs (n - 1) d ≡ get_or xs (n - 1) 0 = λ d. get_or_default xs (n - 1) d 0 (omega (arith, within, some)) in
    λ addresses same_ones. nearest_permuted addresses xs x _ same_ones (nearest_of xs x n m c.args.self.now.ascending some within inside
    (λ k d low lt. let t : leb (rva_of (get_or xs k d)) x ≡ true = cut.0 k d (omega arith) low in grind (arith, nat_tests))
    (λ k d high lt. let t : leb (rva_of (get_or xs k d)) x ≡ false = cut.1 k d high lt in grind (arith, nat_tests))
    (λ k d low lt. let t : ltb (rva_of (get_or xs k d)) start ≡ true = early.0 k d (omega arith) low in let e = same d in grind (arith, nat_tests, e))
    (λ k d high lt. let t : ltb (rva_of (get_or xs k d)) start ≡ false = early.1 k d high lt in let e = same d in grind (arith, nat_tests, e))
    _ (λ d. get_or_default xs m d 0 (omega (arith, within, inside))))
