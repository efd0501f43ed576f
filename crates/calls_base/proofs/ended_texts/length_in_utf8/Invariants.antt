use Rattle.std.proofs.Common.{◌≡◌, ◌+◌, ◌≤◌, ◌*◌, length}
use Rattle.calls_base.specs.EndedTexts.{utf16_text}
use Rattle.calls_base.proofs.ended_texts.length_in_utf8.Given as goal

-- what is counted and the rest of the text are the text, and no character has more than twice as many bytes in UTF-8
abbrev pub invariant-loop-rest : goal.invariant-loop-rest
invariant-loop-rest l = record {
  left : l.length + length (utf16_text l.rest) ≡ length (utf16_text l.text);
  small : l.length + 2 * length l.rest ≤ 2 * length l.text;
}

abbrev pub decreases-loop-rest : goal.decreases-loop-rest
decreases-loop-rest l = length l.rest
