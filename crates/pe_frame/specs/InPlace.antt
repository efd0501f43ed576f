-- Registers that a function changes in place, as the result that its definition returns. Contracts of private functions alone
-- cite it.
use Rattle.std.specs.Prelude.{Result, Ok, Err}
use Rattle.pe_frame.specs.declared.error.FrameError.{FrameError}

-- registers after a change, or the error that stopped it
abbrev pub changed : {R : Type 0} → Result Unit FrameError → R → Result R FrameError
changed (Ok u) g = Ok g
changed (Err e) g = Err e

-- the same of a change that returns more
abbrev pub changed_with : {R A : Type 0} → Result A FrameError → R → Result (R × A) FrameError
changed_with (Ok x) g = Ok (g, x)
changed_with (Err e) g = Err e
