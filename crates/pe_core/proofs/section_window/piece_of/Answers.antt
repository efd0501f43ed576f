use Rattle.std.proofs.Common.{◌≡◌, ◌∙◌, ℕ, ◌≤◌, ◌<◌, ◌-◌, sym, rules, arith, true, false, get_or, length, leb}
use Rattle.std.proofs.lemmas.Bool.Decides.{nat_tests}
use Rattle.std.proofs.lemmas.List.Sorted.{IsPartitionPoint-from_clause, IsPartitionedBy-leb}
use Rattle.pe_core.specs.declared.range_index.RangeEntry.{RangeEntry}
use Rattle.pe_core.proofs.RangeCuts.{none_starts, last_starts}
use Rattle.pe_core.proofs.SectionWindows.{piece_between, piece_at_end}
use Rattle.pe_core.proofs.section_window.piece_of.Goals as goal

pub returns-then-after-eq0-clause-none : goal.returns-then-after-eq0-clause-none
returns-then-after-eq0-clause-none c =
    let ps = c.args.entries.now in
    let x : ℕ = c.args.rva in
    let cut = IsPartitionPoint-from_clause (λ (p : RangeEntry). leb p.start x) ps _ c.partition_point-after.ensures.partitioned (IsPartitionedBy-leb (λ (p : RangeEntry). p.start) ps x c.requires) (λ a r f' k. search rules) in
    λ _. sym (none_starts ps _ x c.if-after-eq0.true (λ k d h l. let t : leb (get_or ps k d).start x ≡ false = cut.1 k d h l in grind (arith, nat_tests)))

pub returns-then-entry-eq0-clause-none : goal.returns-then-entry-eq0-clause-none
returns-then-entry-eq0-clause-none c =
    let ps = c.args.entries.now in
    let x : ℕ = c.args.rva in
    let d : RangeEntry = record { start = 0; number = 0 } in
    let cut = IsPartitionPoint-from_clause (λ (p : RangeEntry). leb p.start x) ps _ c.partition_point-after.ensures.partitioned (IsPartitionedBy-leb (λ (p : RangeEntry). p.start) ps x c.requires) (λ a r f' k. search rules) in
    λ _. sym (last_starts ps c.partition_point-after.result x d (omega arith) c.partition_point-after.ensures.bound
    (λ k d h l. let t : leb (get_or ps k d).start x ≡ true = cut.0 k d (omega arith) h in grind (arith, nat_tests))
    (λ k d h l. let t : leb (get_or ps k d).start x ≡ false = cut.1 k d h l in grind (arith, nat_tests))) ∙ c.if-entry-eq0.true

pub returns-then-after-entries-clause-found : goal.returns-then-after-entries-clause-found
returns-then-after-entries-clause-found c =
    let ps = c.args.entries.now in
    let x : ℕ = c.args.rva in
    let i : ℕ = c.partition_point-after.result in
    let d : RangeEntry = record { start = 0; number = 0 } in
    let cut = IsPartitionPoint-from_clause (λ (p : RangeEntry). leb p.start x) ps _ c.partition_point-after.ensures.partitioned (IsPartitionedBy-leb (λ (p : RangeEntry). p.start) ps x c.requires) (λ a r f' k. search rules) in
    let within : i < length ps = omega (arith, c.if-after-entries.true) in
    let low : (get_or ps (i - 1) d).start ≤ x = let t : leb (get_or ps (i - 1) d).start x ≡ true = cut.0 (i - 1) d (omega arith) (omega arith) in grind (arith, nat_tests) in
    let high : x < (get_or ps i d).start = let t : leb (get_or ps i d).start x ≡ false = cut.1 i d (omega arith) within in grind (arith, nat_tests) in
    piece_between ps i x d d c.requires (omega arith) within low high (omega (arith, c.if-entry-eq0.false))

pub returns-else-after-entries-clause-found : goal.returns-else-after-entries-clause-found
returns-else-after-entries-clause-found c =
    let ps = c.args.entries.now in
    let x : ℕ = c.args.rva in
    let i : ℕ = c.partition_point-after.result in
    let d : RangeEntry = record { start = 0; number = 0 } in
    let cut = IsPartitionPoint-from_clause (λ (p : RangeEntry). leb p.start x) ps _ c.partition_point-after.ensures.partitioned (IsPartitionedBy-leb (λ (p : RangeEntry). p.start) ps x c.requires) (λ a r f' k. search rules) in
    let bound : i ≤ length ps = c.partition_point-after.ensures.bound in
    let low : (get_or ps (i - 1) d).start ≤ x = let t : leb (get_or ps (i - 1) d).start x ≡ true = cut.0 (i - 1) d (omega arith) (omega arith) in grind (arith, nat_tests) in
    piece_at_end ps i x d c.requires (omega arith) bound c.if-after-entries.false c.ranges.rva.fits low (omega (arith, c.if-entry-eq0.false))
