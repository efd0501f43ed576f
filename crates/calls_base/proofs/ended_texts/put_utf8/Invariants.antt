use Rattle.std.proofs.Common.{◌≡◌, ◌+◌, ◌<◌, length}
use Rattle.calls_base.proofs.Cited.{splice, ended, utf16_text}
use Rattle.calls_base.proofs.ended_texts.put_utf8.Given as goal

-- with the rest of the text after what is written, the room is as it is to be
abbrev pub invariant-loop-rest : goal.invariant-loop-rest
invariant-loop-rest l = record {
  left : splice l.room l.at (ended (utf16_text l.rest)) ≡ splice l.initial.room 0 (ended (utf16_text l.text));
  fits : l.at + length (utf16_text l.rest) < length l.room;
}

abbrev pub decreases-loop-rest : goal.decreases-loop-rest
decreases-loop-rest l = length l.rest
