use Rattle.std.proofs.Common.{◌∙◌, ap, eqb, w8, arith}
use Rattle.std.proofs.lemmas.Simd.{length-chunk, bitmask_splat, first_set_mask_l, run_in_chunk_le, run_in_chunk_fails, run_in_chunk_stops}
use lib.Lanes.{chunk}
use Rattle.pe_core.specs.ZeroRuns.{lowest_bit}
use Rattle.pe_core.proofs.first_zero.zero_run.Goals as goal

pub returns : goal.returns
returns c =
    let b = c.args.bytes.now in
    let i = c.args.at in
    let long = length-chunk i 16 b c.requires in
    let counted = c.lowest_bit.ensures ∙ ap lowest_bit (bitmask_splat w8 eqb (chunk i 16 b) 16 0 long (omega arith)) ∙ first_set_mask_l (λ x. eqb x 0) (chunk i 16 b) 16 long (omega arith) in
    record {
      few = run_in_chunk_le (λ x. eqb x 0) b i 16 _ 0 c.requires counted;
      passes = run_in_chunk_fails (λ x. eqb x 0) b i 16 _ 0 c.requires counted;
      stops = run_in_chunk_stops (λ x. eqb x 0) b i 16 _ 0 c.requires counted;
    }
