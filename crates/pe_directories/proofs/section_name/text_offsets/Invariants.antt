use Rattle.std.proofs.Common.{◌≡◌, ◌++◌, drop, map}
use Rattle.pe_directories.specs.SectionNames.{text_offset}
use Rattle.pe_directories.proofs.section_name.text_offsets.Given as goal

-- the offsets so far, and those of the sections that are left
abbrev pub invariant-loop-section : goal.invariant-loop-section
invariant-loop-section g l = l.offsets.items ++ map text_offset (drop l.section-index l.sections) ≡ map text_offset l.sections
