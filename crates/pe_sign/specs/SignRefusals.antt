-- What an error of attaching and detaching is, without its numbers and its text.
use Rattle.std.specs.Prelude.{◌≡◌, Result, Ok, Err}
use Rattle.pe_core.specs.Refusals.{Refusal, kind_of}
use Rattle.pe_sign.specs.declared.error.SignError.{SignError}
use Rattle.pe_sign.specs.declared.error.SignError.TheVariants as errors

-- the kinds of errors
pub data SignRefusal : Type 0 where
  Image : Refusal → SignRefusal
  NoDirectory : SignRefusal
  TableNotLast : SignRefusal
  Headers : SignRefusal
  Section : SignRefusal
  TableOffset : SignRefusal
  TooLarge : SignRefusal

-- the kind of an error
abbrev pub sign_kind_of : SignError → SignRefusal
sign_kind_of (errors.Image error) = Image (kind_of error)
sign_kind_of (errors.NoDirectory count) = NoDirectory
sign_kind_of (errors.TableNotLast end) = TableNotLast
sign_kind_of (errors.Headers end) = Headers
sign_kind_of (errors.Section index) = Section
sign_kind_of (errors.TableOffset offset) = TableOffset
sign_kind_of errors.TooLarge = TooLarge

-- the call returned the defined value, or an error of the defined kind
abbrev pub SignReturns : {X : Type 0} → Result X SignError → Result X SignRefusal → Type 0
SignReturns (Ok x) defined = defined ≡ Ok x
SignReturns (Err e) defined = defined ≡ Err (sign_kind_of e)

-- the result of a definition of pe_core
abbrev pub of_image : {X : Type 0} → Result X Refusal → Result X SignRefusal
of_image (Ok x) = Ok x
of_image (Err r) = Err (Image r)
