use Rattle.std.proofs.Common.{◌≡◌, ℕ, ◌+◌, ◌*◌, ◌<◌, ◌≤◌, get_or}
use Rattle.pe_pdb.specs.Msf.{msf_view}
use Rattle.pe_pdb.specs.Streams.{list_start}
use Rattle.pe_pdb.proofs.file.Msf.put_starts.Given as goal

-- the numbers before the one with this index are written
abbrev pub invariant-loop-index : goal.invariant-loop-index
invariant-loop-index l =
    (l.start ≡ list_start (msf_view l.self) l.index) × (l.start ≤ 1073741824 + l.index * 4294967296)
    × ((k : ℕ) → k < l.index → get_or l.starts k 0 ≡ list_start (msf_view l.self) k)
