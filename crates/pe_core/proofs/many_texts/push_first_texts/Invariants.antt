use Rattle.std.proofs.Common.{◌≡◌, length, take, map}
use Rattle.pe_core.specs.Text.{text_at, texts_of}
use Rattle.pe_core.specs.TextRuns.{IsRun}
use Rattle.pe_core.proofs.many_texts.push_first_texts.Given as goal

-- the texts so far, and a run of these bytes
abbrev pub invariant-loop-offset : goal.invariant-loop-offset
invariant-loop-offset g l = record {
  run : IsRun l.bytes l.run;
  are : texts_of l.texts.items ≡ map (text_at l.bytes) (take l.offset-index l.offsets);
  many : length l.texts.items ≡ l.offset-index;
}
