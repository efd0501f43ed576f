-- From the text that was written to what an engine did.
use Rattle.std.proofs.Common.{ℕ, List, Option, Result, Ok, Err, sym}
use Rattle.pe_core.specs.declared.error.Error.{Error}
use Rattle.peinfo.specs.Engine.{Reports, Writes}
use Rattle.peinfo.specs.declared.engine.ReportError.{ReportError}
use Rattle.peinfo.specs.declared.engine.ReportError.TheVariants.{Parse, Write}

pub reports : (IsText : List ℕ → Type 0) (IsRefusal : Error → Type 0) (r : Result (Unit {0}) ReportError) (text : List ℕ) (old new : Option (List ℕ)) (failed_old failed_new : ℕ) → Writes r text old new failed_old failed_new → IsText text → Reports r IsText IsRefusal old new failed_old failed_new
reports IsText IsRefusal (Ok u) text old new failed_old failed_new (written, is, appends, same) right = (text, right, rw (sym is) appends, same)
reports IsText IsRefusal (Err (Parse e)) text old new failed_old failed_new (none, keeps, same) right = absurd none
reports IsText IsRefusal (Err Write) text old new failed_old failed_new (written, is, starts, rose) right = (text, right, rw (sym is) starts, rose)
