use Rattle.std.proofs.Common.{refl, rules, arith}
use Rattle.pe_directories.proofs.LoadedImages.{as_loaded, by_none, by_sections}
use Rattle.pe_directories.proofs.section_runs.run_in.Goals as goal

pub returns-then-not-opts : goal.returns-then-not-opts
returns-then-not-opts c = as_loaded _ _ _ _ _ (search rules) (omega (arith, c.ranges.rva.fits)) (search rules)

pub returns-then-not-is_power_of_two : goal.returns-then-not-is_power_of_two
returns-then-not-is_power_of_two c = by_none _ _ _ _ _ (search rules) (search rules) (omega (arith, c.ranges.rva.fits)) refl

pub returns : goal.returns
returns c = by_sections _ _ _ _ _ (search rules) (search rules) c.run_by_sections.ensures
