use Rattle.std.proofs.Common.{refl, ◌∷◌, [], arith}
use Rattle.std.proofs.lemmas.Slice.{pushed}
use Rattle.pe_resource.proofs.Units.{stops_here, goes_on}
use Rattle.pe_resource.proofs.string.units_before_zero.Goals as goal

pub returns-then-unit-eq0 : goal.returns-then-unit-eq0
returns-then-unit-eq0 g c = stops_here _ c.loop-rest.rest.now _ c.loop-rest.invariant (omega arith) (omega arith)

pub loop-rest-preserved : goal.loop-rest-preserved
loop-rest-preserved g c =
    goes_on _ _ c.loop-rest.rest.now _ _ c.read_u16-unit.result c.loop-rest.invariant (omega arith) c.read_u16-unit.ensures c.if-unit-eq0.false
    (pushed (c.read_u16-unit.result ∷ []) refl c.in_ok-push.was c.push.ensures.items) c.split_at.ensures.back
