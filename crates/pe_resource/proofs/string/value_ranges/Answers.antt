use Rattle.std.proofs.Common.{ℕ, List, map, ap, sym, ◌∙◌, arith, length, Result, Ok, Err}
use Rattle.pe_resource.proofs.Cited.{Refusal, ◌>>=◌, strings, read, all_read, value_range, value_ranges, get_or-replicate, length-replicate}
use Rattle.pe_resource.proofs.StringLists.{reads_on, reads_refusal}
use Rattle.pe_resource.proofs.ValueRanges.{value_ends, key_measured, start_kept, one_further, found}
use Rattle.pe_resource.proofs.string.value_ranges.Goals as goal

pub overflow_sub-start : goal.overflow_sub-start
overflow_sub-start g c =
    let ends = value_ends _ _ _ _ c.in-Some.ensures.steps c.in-Ok.is in
    omega (arith, ends, c.loop-item.invariant.left)

pub overflow_sub-range : goal.overflow_sub-range
overflow_sub-range g c =
    let ends = value_ends _ _ _ _ c.in-Some.ensures.steps c.in-Ok.is in
    omega (arith, ends, c.loop-item.invariant.left)

pub keep_range-requires-clause-whole : goal.keep_range-requires-clause-whole
keep_range-requires-clause-whole g c = key_measured _ _ _ _ c.in-Some.ensures.steps c.in-Ok.is

pub loop-item-init : goal.loop-item-init
loop-item-init g c = record {
  left = omega (arith, ap length c.new-left.ensures);
  many = length-replicate _ _ ∙ sym c.requires.many;
  errors = ap (λ (b : List ℕ). all_read (strings b)) c.new-left.ensures;
  kept = λ k h. start_kept _ c.args.data.now _ _ c.new-left.ensures (get_or-replicate g.row.N k _ _ (omega (arith, h, c.requires.many)));
}

pub loop-item-preserved : goal.loop-item-preserved
loop-item-preserved g c =
    let ends = value_ends _ _ _ _ c.in-Some.ensures.steps c.in-Ok.is in
    record {
      left = omega (arith, ends, c.loop-item.invariant.left);
      many = c.keep_range.ensures.many;
      errors = reads_on _ _ _ _ _ c.in-Some.ensures.steps c.in-Ok.is c.loop-item.invariant.errors;
      kept = λ k h. one_further (length c.args.data.now) _ _ _ _ _ _ _ _ c.loop-item.invariant.left c.in-Some.ensures.steps c.in-Ok.is (c.keep_range.ensures.kept k h) (c.loop-item.invariant.kept k h);
    }

pub returns-in-Err-clause-ranges : goal.returns-in-Err-clause-ranges
unfolding value_ranges
returns-in-Err-clause-ranges g c =
    ap (λ (r : Result (Unit {0}) Refusal). r >>= λ _. Ok (map (λ name. value_range name 0 (read (strings c.args.data.now))) (map (λ key. key.now) c.args.keys.now)))
    (reads_refusal _ _ _ _ _ c.in-Some.ensures.steps c.in-Err.is c.loop-item.invariant.errors ∙ ap Err (sym c.counted_from.ensures))

pub returns-clause-ranges : goal.returns-clause-ranges
returns-clause-ranges g c =
    (found (λ key. key.now) c.args.keys.now c.args.data.now _ _ _ c.in_default.ensures.steps c.loop-item.invariant.many c.loop-item.invariant.errors c.loop-item.invariant.kept).0

pub returns-clause-within : goal.returns-clause-within
returns-clause-within g c =
    (found (λ key. key.now) c.args.keys.now c.args.data.now _ _ _ c.in_default.ensures.steps c.loop-item.invariant.many c.loop-item.invariant.errors c.loop-item.invariant.kept).1
