use Rattle.std.proofs.Common.{◌≡◌, ◌++◌, drop, map}
use Rattle.pe_core.specs.Text.{text_at, texts_of}
use Rattle.pe_core.proofs.many_texts.texts_at.Given as goal

-- the texts so far and those at the offsets that are left
abbrev pub invariant-loop-offset : goal.invariant-loop-offset
invariant-loop-offset g l = texts_of l.texts.items ++ map (text_at l.bytes) (drop l.offset-index l.later) ≡ map (text_at l.bytes) l.offsets
