use Rattle.std.proofs.Common.{◌≡◌, ◌-◌, ◌≤◌, length}
use Rattle.pe_pdb.specs.InlineSites.{frames_left}
use Rattle.pe_pdb.proofs.inline_frames.InlineFramesIterator.next.Given as goal

-- no function was left out
abbrev pub invariant-loop-self : goal.invariant-loop-self
invariant-loop-self l = record {
  same : frames_left l.fn.self ≡ frames_left l.self;
  bound : length l.self.bytes.now - l.self.next ≤ length l.fn.self.bytes.now - l.fn.self.next;
}

abbrev pub decreases-loop-self : goal.decreases-loop-self
decreases-loop-self l = length l.self.bytes.now - l.self.next
