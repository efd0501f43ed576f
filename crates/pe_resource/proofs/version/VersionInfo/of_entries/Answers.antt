use Rattle.pe_resource.proofs.Cited.{err_from_is_err_and, kind_of, entries_left}
use Rattle.pe_resource.proofs.Contents.{given_answer, version_given, version_refusal}
use Rattle.pe_resource.proofs.version.VersionInfo.of_entries.Goals as goal

pub returns-in_err-content : goal.returns-in_err-content
returns-in_err-content c =
    let p = err_from_is_err_and c.from_residual.result c.from_residual.ensures.1 in
    rw (p.1, p.2) (version_refusal _ _ _ (entries_left c.args.it) (kind_of c.in_err-content.field-0.0) c.in_err-content.ensures)

pub returns : goal.returns
returns c = version_given _ _ _ (entries_left c.args.it) _ _ c.in_ok-content.ensures (given_answer _ _ _ c.of_content.ensures)
