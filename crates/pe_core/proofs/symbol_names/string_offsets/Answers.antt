use Rattle.std.proofs.Common.{refl, ◌∷◌, [], arith}
use Rattle.std.proofs.lemmas.Slice.{pushed}
use Rattle.pe_core.proofs.SymbolNames.{offsets-start, offsets-pushed}
use Rattle.pe_core.proofs.symbol_names.string_offsets.Goals as goal

pub loop-row-init : goal.loop-row-init
loop-row-init g c = offsets-start _ _ c.new-offsets.ensures.items

pub loop-row-preserved : goal.loop-row-preserved
loop-row-preserved g c =
    offsets-pushed _ _ _ _ _ _ c.at-symbol.result c.loop-row.invariant (omega arith) c.at-symbol.ensures (omega arith) c.string_offset.ensures
    (pushed (c.string_offset.result ∷ []) refl c.in_ok-push.was c.push.ensures.items)
