use Rattle.pe_resource.proofs.ContentRanges.{manifest_in, version_in_range, version_fixed, version_named}
use Rattle.pe_resource.proofs.ValueRanges.{inner_bytes}
use Rattle.pe_resource.proofs.laws.resources.ranges_hold_what_is_read.Goals as goal

pub returns-clause-manifest : goal.returns-clause-manifest
returns-clause-manifest c = manifest_in

pub returns-clause-version : goal.returns-clause-version
returns-clause-version c = version_in_range

pub returns-clause-fixed : goal.returns-clause-fixed
returns-clause-fixed c = version_fixed

pub returns-clause-value : goal.returns-clause-value
returns-clause-value c = version_named

pub returns-clause-inner : goal.returns-clause-inner
returns-clause-inner c = inner_bytes
