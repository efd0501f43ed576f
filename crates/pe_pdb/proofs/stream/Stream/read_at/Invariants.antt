use Rattle.std.proofs.Common.{◌≡◌, ℕ, ◌+◌, ◌-◌, ◌<◌, ◌≤◌, get_or, length}
use Rattle.pe_pdb.specs.Streams.{stream_bytes, stream_view}
use Rattle.pe_pdb.proofs.stream.Stream.read_at.Given as goal

-- so many bytes are copied
abbrev pub invariant-loop-done : goal.invariant-loop-done
invariant-loop-done l = (l.done ≤ length l.room) × ((k : ℕ) → k < l.done → get_or l.room k 0 ≡ get_or (stream_bytes (stream_view l.self)) (l.offset + k) 0)

abbrev pub decreases-loop-done : goal.decreases-loop-done
decreases-loop-done l = length l.room - l.done
