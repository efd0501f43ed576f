use Rattle.std.proofs.Common.{◌≡◌, ◌∙◌, rules, Bool, true, false, [], ◌∷◌, Ok, refl, sym}
use Rattle.std.specs.Option.{is_none}
use Rattle.pe_core.specs.Refusals.{Short, outcome}
use Rattle.pe_frame.specs.MemoryLists.{are_inside}
use Rattle.pe_lookup.proofs.Lookups.{ascends, decided, test_passed}
use Rattle.pe_frame.proofs.memory_list.MemoryList.new.Goals as goal

passed : (t : Bool) (x : Unit {0}) → outcome ((t, Short) ∷ []) x ≡ Ok x → t ≡ true
passed true x e = refl
passed false x e = absurd (cc e)

pub invariant_of-result : goal.invariant_of-result
invariant_of-result c =
    let up = c.are_in_order.ensures.ascending c.if-are_in_order.true in
    record {
      ascending = λ is. up;
      tested = sym (test_passed (λ p. p.start) (λ p. p.length) c.args.pieces.now up);
      inside = c.are_in_order.ensures.inside c.if-are_in_order.true;
      asked = c.first_piece-near.ensures;
      whole = c.words_of.ensures;
    }

pub invariant_of-result-2 : goal.invariant_of-result-2
invariant_of-result-2 c =
    record {
      ascending = λ is.
          let none : is_none c.first_overlap.result ≡ true = search rules in
          ascends (λ p. p.start) (λ p. p.length) c.args.pieces.now c.first_overlap.result c.first_overlap.ensures none;
      tested =
          let none : c.is_none-is_ascending.result ≡ is_none c.first_overlap.result = search rules in
          none ∙ decided (λ p. p.start) (λ p. p.length) c.args.pieces.now c.first_overlap.result c.first_overlap.ensures;
      inside = passed (are_inside c.args.bytes.now c.args.pieces.now) tt (sym c.in_ok-require_inside.ensures);
      asked = c.first_piece-near-2.ensures;
      whole = c.words_of-2.ensures;
    }
