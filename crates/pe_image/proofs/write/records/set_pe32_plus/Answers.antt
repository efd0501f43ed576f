use Rattle.std.proofs.Common.{arith}
use Rattle.pe_image.proofs.Laid.{laid_first, laid_next, length_standard64, length_windows64, length_directories}
use Rattle.pe_image.proofs.write.records.set_pe32_plus.Goals as goal

pub returns : goal.returns
returns c =
    let laid = laid_next _ _ (laid_next _ 88 (laid_first _ 24 (omega arith) (length_standard64 c.args.standard.now) c.set_standard_fields_64.ensures) (length_windows64 c.args.windows.now) c.set_windows_fields_64.ensures) (length_directories c.args.rows.now) c.set_directories.ensures in
    laid.same
