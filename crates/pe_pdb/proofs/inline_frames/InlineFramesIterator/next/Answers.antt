use Rattle.std.proofs.Common.{◌≡◌, ℕ, length, List, ◌∷◌, Result, Ok, Err, arith, rules, ap, sym, ◌∙◌}
use Rattle.pe_pdb.specs.InlineSites.{followed, frames_in, no_scopes}
use Rattle.pe_pdb.specs.Refusals.{PdbRefusal, pdb_kind_of}
use Rattle.pe_pdb.specs.Symbols.{symbol_end, symbol_view, symbols}
use Rattle.pe_pdb.specs.declared.inline_walk.InlineFrame.{InlineFrame}
use Rattle.pe_pdb.specs.declared.inline_walk.Step.{Step}
use Rattle.pe_pdb.proofs.InlineWalks.{frames_end, frames_more, frames_refused}
use Rattle.pe_pdb.proofs.inline_frames.InlineFramesIterator.next.Goals as goal

pub returns-in-Err-clause-steps : goal.returns-in-Err-clause-steps
returns-in-Err-clause-steps c = search (rules, arith, frames_refused, frames_end)

pub returns-in-Err-step-clause-steps : goal.returns-in-Err-step-clause-steps
returns-in-Err-step-clause-steps c =
    let s = c.loop-self.self in
    let b = s.bytes.now in
    let v = symbol_view c.in-Ok.record in
    let kind = pdb_kind_of c.in-Err-step.error in
    c.loop-self.invariant.same ∙ frames_more s.offset s.scopes b s.next v c.loop-self-test.true c.in-Ok.ensures.value
    ∙ ap (λ (r : Result Step PdbRefusal). followed (λ inner. frames_in s.offset inner (symbols b (symbol_end v))) r) c.in-Err-step.ensures.value
    ∙ ap (λ (l : List (Result InlineFrame PdbRefusal)). Err kind ∷ l) (sym (c.at-in-Err-step.ensures.left ∙ frames_end s.offset _ b (length b) (omega arith)))

pub loop-self-preserved-in-Over : goal.loop-self-preserved-in-Over
loop-self-preserved-in-Over c =
    let s = c.loop-self.self in
    let b = s.bytes.now in
    let v = symbol_view c.in-Ok.record in
    let kept : length c.at-in-Over.result.bytes.now ≡ length b = ap (λ r. length r.now) c.at-in-Over.ensures.bytes in
    record {
      same = c.loop-self.invariant.same ∙ frames_more s.offset s.scopes b s.next v c.loop-self-test.true c.in-Ok.ensures.value
          ∙ ap (λ (r : Result Step PdbRefusal). followed (λ inner. frames_in s.offset inner (symbols b (symbol_end v))) r) (c.in-Ok-step.ensures.value ∙ ap (λ (k : Step). Ok k) c.in-Over.is)
          ∙ sym (c.at-in-Over.ensures.left ∙ frames_end s.offset _ b (length b) (omega arith));
      bound = omega (arith, kept, c.at-in-Over.ensures.next, c.loop-self.invariant.bound);
    }

pub at-requires-in-On : goal.at-requires-in-On
at-requires-in-On c = search (rules, arith)

pub loop-self-smaller : goal.loop-self-smaller
loop-self-smaller c = search (rules, arith)

pub loop-self-preserved : goal.loop-self-preserved
loop-self-preserved c =
    let s = c.loop-self.self in
    let b = s.bytes.now in
    let v = symbol_view c.in-Ok.record in
    let kept : length c.at-in-On.result.bytes.now ≡ length b = ap (λ r. length r.now) c.at-in-On.ensures.bytes in
    record {
      same = c.loop-self.invariant.same ∙ frames_more s.offset s.scopes b s.next v c.loop-self-test.true c.in-Ok.ensures.value
          ∙ ap (λ (r : Result Step PdbRefusal). followed (λ inner. frames_in s.offset inner (symbols b (symbol_end v))) r) (c.in-Ok-step.ensures.value ∙ ap (λ (k : Step). Ok k) c.in-On.is)
          ∙ sym (c.at-in-On.ensures.left ∙ ap (λ (n : ℕ). frames_in s.offset c.in-On.scopes (symbols b n)) c.end.ensures);
      bound = omega (arith, c.in-Ok.ensures.start, kept, c.at-in-On.ensures.next, c.end.ensures, c.loop-self.invariant.bound);
    }

pub returns-in-Found-clause-steps : goal.returns-in-Found-clause-steps
returns-in-Found-clause-steps c =
    let s = c.loop-self.self in
    let b = s.bytes.now in
    let v = symbol_view c.in-Ok.record in
    c.loop-self.invariant.same ∙ frames_more s.offset s.scopes b s.next v c.loop-self-test.true c.in-Ok.ensures.value
    ∙ ap (λ (r : Result Step PdbRefusal). followed (λ inner. frames_in s.offset inner (symbols b (symbol_end v))) r) (c.in-Ok-step.ensures.value ∙ ap (λ (k : Step). Ok k) c.in-Found.is)
    ∙ ap (λ (l : List (Result InlineFrame PdbRefusal)). Ok c.in-Found.frame ∷ l) (sym (c.at-in-Found.ensures.left ∙ ap (λ (n : ℕ). frames_in s.offset no_scopes (symbols b n)) c.end-in-Found.ensures))

pub returns-in-Found-clause-goes : goal.returns-in-Found-clause-goes
returns-in-Found-clause-goes c = search (rules, arith)

pub returns-clause-steps : goal.returns-clause-steps
returns-clause-steps c = search (rules, arith, frames_end)
