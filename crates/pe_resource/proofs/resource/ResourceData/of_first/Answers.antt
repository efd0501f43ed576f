use Rattle.std.proofs.Common.{Ok, Err}
use Rattle.pe_resource.proofs.Cited.{err_from_is_err_and, kind_of, entries_left}
use Rattle.pe_resource.proofs.Contents.{resources_without_version, resources_read}
use Rattle.pe_resource.proofs.resource.ResourceData.of_first.Goals as goal

pub returns-in_err-version : goal.returns-in_err-version
returns-in_err-version c =
    let p = err_from_is_err_and c.from_residual.result c.from_residual.ensures.1 in
    rw (p.1, p.2) (resources_without_version _ _ _ (entries_left c.entries-it.result) (kind_of c.in_err-version.field-0.0) c.entries-it.ensures c.in_err-version.ensures)

pub returns-in_err-manifest : goal.returns-in_err-manifest
returns-in_err-manifest c =
    let p = err_from_is_err_and c.from_residual-in_err-manifest.result c.from_residual-in_err-manifest.ensures.1 in
    rw (p.1, p.2) (resources_read _ _ _ (entries_left c.entries-it.result) _ (Err (kind_of c.in_err-manifest.field-0.0)) c.entries-it.ensures c.in_ok-version.ensures c.in_err-manifest.ensures)

pub returns : goal.returns
returns c = resources_read _ _ _ (entries_left c.entries-it.result) _ (Ok _) c.entries-it.ensures c.in_ok-version.ensures c.in_ok-manifest.ensures
