-- An image that is read without the list of its imports. Import records may share their lookup entries, so that the list may
-- not fit in memory; whether one of them is refused is known without it. (This project's profile.)
use Rattle.std.specs.Prelude.{◌≡◌, ℕ, List, [], Result, Ok, Err, IsOk}
use Rattle.pe_core.specs.Refusals.{UnlessMemory, IfMemory, kind_of}
use Rattle.pe_core.specs.declared.error.Error.{Error}
use Rattle.pe_core.specs.declared.options.ParseOptions.{ParseOptions}
use Rattle.pe_image.specs.Core.{sections_read}
use Rattle.pe_image.specs.Image.{ImageView, IsImage, image_view}
use Rattle.pe_image.specs.declared.pe.PE.{PE}

-- an image without its imports
abbrev pub unlisted : ImageView → ImageView
unlisted image = record image { imports = [] }

-- this is the image of these bytes with these options, without its imports
pub record IsUnlisted (b : List ℕ) (opts : ParseOptions) (x : ImageView) : Type 0 where
  pub image : ImageView
  pub given : IsImage b opts (Ok image)
  pub same : x ≡ unlisted image

-- the result of reading an image without its imports: it is refused exactly as with them; memory runs out only after the
-- headers and the section headers were accepted
abbrev pub ReturnsUnlisted : {Z : Type 0} → List ℕ → ParseOptions → Result (PE Z) Error → Type 0
ReturnsUnlisted b opts (Ok p) = IsUnlisted b opts (image_view p)
ReturnsUnlisted b opts (Err e) = UnlessMemory e (IsImage b opts (Err (kind_of e))) × IfMemory e (IsOk (sections_read b opts))
