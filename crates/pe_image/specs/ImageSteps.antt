-- An image, joined from its parts. For proofs only.
use Rattle.std.specs.Prelude.{List, ℕ, Result, Ok, Err}
use Rattle.pe_core.specs.Refusals.{Refusal, UnlessMemory, kind_of, ◌>>=◌}
use Rattle.pe_core.specs.declared.error.Error.{Error}
use Rattle.pe_core.specs.declared.options.ParseOptions.{ParseOptions}
use Rattle.pe_image.specs.Core.{CoreView}
use Rattle.pe_image.specs.Image.{image_view, first_fields_demanded, IsAfterCore}
use Rattle.pe_image.specs.declared.pe.PE.{PE}

-- the core, or the refusal of the first field before the resources that refuses the image
abbrev pub unless_refused : List ℕ → ParseOptions → CoreView → Result CoreView Refusal
unless_refused b opts c = first_fields_demanded b opts c >>= λ u. Ok c

-- the result of reading the fields of an image with this core
abbrev pub ReturnsAfterCore : {Z : Type 0} → List ℕ → ParseOptions → CoreView → Result (PE Z) Error → Type 0
ReturnsAfterCore b opts c (Ok p) = IsAfterCore b opts (unless_refused b opts c) (Ok (image_view p))
ReturnsAfterCore b opts c (Err e) = UnlessMemory e (IsAfterCore b opts (unless_refused b opts c) (Err (kind_of e)))
