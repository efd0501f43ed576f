-- What an engine does: it makes a text of an image, and then writes it.
use Rattle.std.specs.Prelude.{◌≡◌, ℕ, List, Option, Result, Ok, Err}
use Rattle.std.specs.Io.KnownBytes.{Appends, Keeps}
use Rattle.pe_core.specs.declared.error.Error.{Error}
use Rattle.peinfo.specs.Output.{AppendsBeginning, RoseOrFull}
use Rattle.peinfo.specs.declared.engine.ReportError.{ReportError}
use Rattle.peinfo.specs.declared.engine.ReportError.TheVariants.{Parse, Write}

-- the effect of a call on the known bytes of its writer and on the count of failures, by what its text and its refusal
-- have to be
abbrev pub Reports : Result (Unit {0}) ReportError → (List ℕ → Type 0) → (Error → Type 0) → Option (List ℕ) → Option (List ℕ) → ℕ → ℕ → Type 0
-- exactly the text was written, and no write failed
Reports (Ok u) IsText IsRefusal old new failed_old failed_new = (text : List ℕ) × IsText text × Appends old new text × (failed_new ≡ failed_old)
-- nothing was written
Reports (Err (Parse e)) IsText IsRefusal old new failed_old failed_new = IsRefusal e × Keeps old new × (failed_new ≡ failed_old)
-- a part of the text from its start on was written, and a write failed
Reports (Err Write) IsText IsRefusal old new failed_old failed_new = (text : List ℕ) × IsText text × AppendsBeginning old new text × RoseOrFull failed_old failed_new

-- the same of a call that is passed the text, and refuses nothing
abbrev pub Writes : Result (Unit {0}) ReportError → List ℕ → Option (List ℕ) → Option (List ℕ) → ℕ → ℕ → Type 0
Writes result text old new failed_old failed_new = Reports result (λ written. written ≡ text) (λ refusal. ⊥) old new failed_old failed_new
