use Rattle.std.proofs.Common.{arith}
use Rattle.pe_image.proofs.Laid.{laid_first, laid_next, length_standard32, length_windows32, length_directories}
use Rattle.pe_image.proofs.write.records.set_pe32.Goals as goal

pub returns : goal.returns
returns c =
    let laid = laid_next _ _ (laid_next _ 68 (laid_first _ 28 (omega arith) (length_standard32 c.args.standard.now) c.set_standard_fields_32.ensures) (length_windows32 c.args.windows.now) c.set_windows_fields_32.ensures) (length_directories c.args.rows.now) c.set_directories.ensures in
    laid.same
