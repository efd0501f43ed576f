use Rattle.std.proofs.Common.{refl, ◌∷◌, [], arith, rules}
use Rattle.std.proofs.lemmas.Slice.{pushed}
use Rattle.pe_core.proofs.SymbolNames.{names-start, names-pushed, names-failed, next_is}
use Rattle.pe_core.proofs.symbol_names.names_at.Goals as goal

pub loop-i-init : goal.loop-i-init
loop-i-init g c = names-start _ _ _ c.in_ok-names.ensures.items

pub returns-in_err-name_in : goal.returns-in_err-name_in
returns-in_err-name_in g c =
    let next = next_is _ _ _ _ _ _ _ _ _ (omega arith) c.requires c.in_ok-texts.ensures (omega arith) c.index.ensures c.loop-i.invariant in
    let refused = names-failed _ _ _ _ _ _ _ c.loop-i.invariant next c.in_err-name_in.ensures in
    search (rules, refused)

pub loop-i-preserved : goal.loop-i-preserved
loop-i-preserved g c =
    let next = next_is _ _ _ _ _ _ _ _ _ (omega arith) c.requires c.in_ok-texts.ensures (omega arith) c.index.ensures c.loop-i.invariant in
    names-pushed _ _ _ _ _ c.at-symbol.result _ _ c.in_ok-name_in.field-0 _ c.loop-i.invariant next c.at-symbol.ensures c.in_ok-name_in.ensures (omega arith)
    (pushed (c.in_ok-name_in.field-0 ∷ []) refl c.in_ok-push.was c.push.ensures.items)
