use Rattle.std.proofs.Common.{◌≡◌, drop, map}
use Rattle.pe_pkcs7.specs.ObjectIds.{number_in}
use Rattle.pe_pkcs7.proofs.object_ids.number_in.Given as goal

-- no row so far has these octets
abbrev pub invariant-loop-i : goal.invariant-loop-i
invariant-loop-i l = number_in (map (λ row. (row.0, row.1.now)) (drop l.i l.rows)) l.octets ≡ number_in (map (λ row. (row.0, row.1.now)) l.rows) l.octets
