-- What each mode does with a damaged directory: strict mode returns its error, permissive mode leaves it empty.
-- (This project's profile.)
use Rattle.std.specs.Prelude.{Option, Some, None, Result, Ok, Err, unwrap_or}
use Rattle.pe_core.specs.Refusals.{Refusal, ◌>>=◌}
use Rattle.pe_core.specs.declared.error.Error.{Error}
use Rattle.pe_core.specs.declared.error.Error.TheVariants as errors
use Rattle.pe_core.specs.declared.options.ParseMode.{ParseMode}
use Rattle.pe_core.specs.declared.options.ParseMode.TheVariants.{Strict, Permissive}

-- a refusal is `None` in permissive mode
abbrev pub none_if_refused : {X : Type 0} → ParseMode → Result X Refusal → Result (Option X) Refusal
none_if_refused mode (Ok x) = Ok (Some x)
none_if_refused Strict (Err refusal) = Err refusal
none_if_refused Permissive (Err refusal) = Ok None

-- a refusal is this value in permissive mode
abbrev pub empty_if_refused : {X : Type 0} → ParseMode → X → Result X Refusal → Result X Refusal
empty_if_refused mode empty defined = none_if_refused mode defined >>= λ x. Ok (unwrap_or x empty)

-- the same for the result of a call; `Memory` is returned in both modes
abbrev pub none_if_error : {X : Type 0} → ParseMode → Result X Error → Result (Option X) Error
none_if_error mode (Ok x) = Ok (Some x)
none_if_error Strict (Err error) = Err error
none_if_error Permissive (Err (errors.Memory e)) = Err (errors.Memory e)
none_if_error Permissive (Err other) = Ok None
