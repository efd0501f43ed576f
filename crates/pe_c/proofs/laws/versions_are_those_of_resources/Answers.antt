use Rattle.std.proofs.Common.{rules, arith}
use Rattle.calls_directories.proofs.VersionsReported.{manifest_reported, fixed_reported, value_reported}
use Rattle.pe_c.proofs.laws.versions_are_those_of_resources.Goals as goal

pub returns : goal.returns
returns c = search (rules, arith, manifest_reported, fixed_reported, value_reported)
