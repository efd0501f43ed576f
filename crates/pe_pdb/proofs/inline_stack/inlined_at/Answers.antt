use Rattle.std.proofs.Common.{◌≡◌, ◌-◌, ◌<◌, drop, length, length-set, ◌∷◌, Result, Ok, Err, arith, rules, ap, ◌∙◌, ℕ, ◌+◌, ◌≤◌, Bool, true, false, List, [], slice_set}
use Rattle.std.proofs.lemmas.Bool.Decides.{nat_tests}
use Rattle.std.proofs.lemmas.List.{drop-set}
use Rattle.std.specs.Prelude.{◌==◌, if◌then◌else◌}
use Rattle.pe_pdb.specs.InlineStacks.{inlined_at, stacked}
use Rattle.pe_pdb.specs.Refusals.{pdb_kind_of, PdbRefusal, InlineDepth}
use Rattle.pe_pdb.specs.declared.inline_walk.InlineFrame.{InlineFrame}
use Rattle.pe_pdb.specs.InlineSites.{frames_left}
use Rattle.pe_pdb.specs.Walks.{step_view}
use Rattle.pe_pdb.specs.declared.error.PdbError.{PdbError}
use Rattle.pe_pdb.proofs.inline_stack.inlined_at.Goals as goal

-- Walks over inlined functions, kept as lists.
stacked_end : (n : ℕ) (found : List InlineFrame) (walk : List (Result InlineFrame PdbRefusal)) → walk ≡ [] → stacked n found walk ≡ Ok found
unfolding stacked
stacked_end n found walk is = ap (λ (l : List (Result InlineFrame PdbRefusal)). stacked n found l) is

stacked_refused : (n : ℕ) (found : List InlineFrame) (walk more : List (Result InlineFrame PdbRefusal)) (r : PdbRefusal) → walk ≡ Err r ∷ more → stacked n found walk ≡ Err r
unfolding stacked
stacked_refused n found walk more r is = ap (λ (l : List (Result InlineFrame PdbRefusal)). stacked n found l) is

stacked_more : (n : ℕ) (found : List InlineFrame) (walk more : List (Result InlineFrame PdbRefusal)) (f : InlineFrame) → walk ≡ Ok f ∷ more →
    stacked n found walk ≡ (if n == 0 then Err InlineDepth else stacked (n - 1) (f ∷ found) more)
unfolding stacked
stacked_more n found walk more f is = ap (λ (l : List (Result InlineFrame PdbRefusal)). stacked n found l) is

stacked_full : (n : ℕ) (found : List InlineFrame) (walk more : List (Result InlineFrame PdbRefusal)) (f : InlineFrame) → walk ≡ Ok f ∷ more → n ≡ 0 → stacked n found walk ≡ Err InlineDepth
stacked_full n found walk more f is none =
    let test : (n == 0) ≡ true = grind (arith, nat_tests) in
    stacked_more n found walk more f is ∙ ap (λ (t : Bool). if t then Err InlineDepth else stacked (n - 1) (f ∷ found) more) test

-- one function more, before those in a room from n on
stacked_put : (n : ℕ) (room : List InlineFrame) (walk more : List (Result InlineFrame PdbRefusal)) (f : InlineFrame) → walk ≡ Ok f ∷ more → 0 < n → n ≤ length room →
    stacked n (drop n room) walk ≡ stacked (n - 1) (drop (n - 1) (slice_set room (n - 1) f)) more
stacked_put n room walk more f is some fits =
    let test : (n == 0) ≡ false = grind (arith, nat_tests) in
    let next : (n - 1) + 1 ≡ n = omega (arith, some) in
    let put : drop (n - 1) (slice_set room (n - 1) f) ≡ f ∷ drop n room = drop-set room (n - 1) f (omega (arith, some, fits)) ∙ ap (λ (k : ℕ). f ∷ drop k room) next in
    grind (arith, stacked_more n (drop n room) walk more f is, test, put)

pub returns-in_err-frame : goal.returns-in_err-frame
returns-in_err-frame c =
    let l = c.loop-frame in
    let more = frames_left c.next.new.self in
    let kind = pdb_kind_of c.in_err-frame.field-0.0 in
    let e = c.in-Some.ensures.steps ∙ ap (λ (k : Result InlineFrame PdbError). step_view (λ (x : InlineFrame). x) k ∷ more) c.in_err-frame.was in
    let refused : inlined_at (length c.args.room.now) c.args.bytes.now c.args.procedure c.args.offset ≡ Err kind =
    l.invariant.same ∙ stacked_refused l.first (drop l.first l.room) (frames_left l.walk) more kind e in
    search rules

pub returns-then-first-eq0 : goal.returns-then-first-eq0
returns-then-first-eq0 c = search (rules, arith, stacked_full)

pub loop-frame-preserved : goal.loop-frame-preserved
loop-frame-preserved c = search (rules, arith, stacked_put, length-set)

pub returns : goal.returns
returns c = search (rules, arith, stacked_end)
