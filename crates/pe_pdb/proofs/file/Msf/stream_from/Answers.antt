use Rattle.std.proofs.Common.{◌≡◌, ◌+◌, ◌*◌, sym, ap, ◌∙◌, arith, rules}
use Rattle.std.specs.Int.{div_ceil}
use Rattle.pe_pdb.specs.Msf.{msf_view, word_of}
use Rattle.pe_pdb.proofs.Blocks.{all_each}
use Rattle.pe_pdb.proofs.file.Msf.stream_from.Goals as goal

pub invariant_of-result-clause-listed : goal.invariant_of-result-clause-listed
invariant_of-result-clause-listed c = search (rules, arith)

pub invariant_of-result-clause-few : goal.invariant_of-result-clause-few
invariant_of-result-clause-few c = search (rules, arith)

pub invariant_of-result-clause-below : goal.invariant_of-result-clause-below
invariant_of-result-clause-below c = λ k lt.
    let same : div_ceil c.size_of-size.result (4 * c.args.self.now.map.words) ≡ c.blocks_of-count.result = ap (λ n. div_ceil n (4 * c.args.self.now.map.words)) c.size_of-size.ensures.value ∙ sym c.blocks_of-count.ensures.value in
    all_each c.args.self.now.map.blocks (λ j. word_of (msf_view c.args.self.now) (c.args.start + j)) c.blocks_of-count.result (sym c.listed_below.ensures ∙ c.if-not-listed_below.false) k (omega (arith, lt, same))
