use Rattle.std.proofs.Common.{◌≡◌, ◌-◌, drop}
use Rattle.pe_image.specs.Writing.{last_in_file}
use Rattle.pe_image.proofs.write.overlaps.last_raw_end.Given as goal

abbrev pub invariant-loop-passed : goal.invariant-loop-passed
invariant-loop-passed l = l.last ≡ last_in_file (drop (l.count - l.passed) l.sections)
