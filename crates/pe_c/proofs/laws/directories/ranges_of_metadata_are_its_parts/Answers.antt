use Rattle.std.proofs.Common.{rules, arith}
use Rattle.calls_directories.proofs.DirectoryParts.{version_stands, headers_stand, metadata_stand}
use Rattle.pe_c.proofs.laws.directories.ranges_of_metadata_are_its_parts.Goals as goal

pub returns : goal.returns
returns c = search (rules, arith, version_stands, headers_stand, metadata_stand)
