use Rattle.std.proofs.Common.{◌+◌, ◌≤◌, subst, sym, arith}
use Rattle.pe_pdb.specs.Msf.{msf_view, word_of}
use Rattle.pe_pdb.proofs.Blocks.{all_fails}
use Rattle.pe_pdb.proofs.file.Msf.listed_below.Goals as goal

pub returns-then-word-self : goal.returns-then-word-self
returns-then-word-self c =
    let m = c.args.self.now in
    sym (all_fails m.map.blocks (λ k. word_of (msf_view m) (c.args.start + k)) c.loop-index.index c.args.count (omega arith) (subst (λ n. m.map.blocks ≤ n) c.word.ensures c.if-word-self.true))
