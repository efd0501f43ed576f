use Rattle.std.proofs.Common.{◌∙◌, ap, leb, arith}
use Rattle.std.proofs.lemmas.Simd.{length-chunk, first_set_mask_l, run_in_chunk_le, run_in_chunk_fails, run_in_chunk_stops}
use lib.Lanes.{chunk}
use Rattle.pe_core.specs.ZeroRuns.{lowest_bit}
use Rattle.pe_core.proofs.AsciiTexts.{splat_compared}
use Rattle.pe_core.proofs.first_zero.ascii_run.Goals as goal

pub returns : goal.returns
returns c =
    let b = c.args.bytes.now in
    let i = c.args.at in
    let long = length-chunk i 16 b c.requires in
    let counted = c.lowest_bit.ensures ∙ ap lowest_bit (splat_compared (chunk i 16 b) 16 128 long (omega arith)) ∙ first_set_mask_l (λ x. leb 128 x) (chunk i 16 b) 16 long (omega arith) in
    record {
      few = run_in_chunk_le (λ x. leb 128 x) b i 16 _ 0 c.requires counted;
      passes = run_in_chunk_fails (λ x. leb 128 x) b i 16 _ 0 c.requires counted;
      stops = run_in_chunk_stops (λ x. leb 128 x) b i 16 _ 0 c.requires counted;
    }
