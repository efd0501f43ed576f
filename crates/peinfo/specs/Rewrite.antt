-- The file that `rewrite` writes: the pieces of an image over a copy of its bytes.
use Rattle.std.specs.Prelude.{◌≡◌, ◌⊎◌, ℕ, List, Result, Ok, Err, IsOk, Vec}
use Rattle.pe_core.specs.Options.{default_options}
use Rattle.pe_core.specs.Refusals.{Refusal, UnlessMemory, IfMemory, kind_of}
use Rattle.pe_core.specs.declared.error.Error.{Error}
use Rattle.pe_image.specs.Core.{sections_read}
use Rattle.pe_image.specs.Image.{ImageView, IsImage}
use Rattle.pe_image.specs.Writing.{image_written}

-- the overlay of the pieces of the image, which is read in strict mode
pub record IsRewritten (b text : List ℕ) : Type 0 where
  pub image : ImageView
  pub given : IsImage b default_options (Ok image)
  pub answer : ℕ
  pub written : image_written b image b ≡ Ok (answer, text)

-- the image is read, but writing it is refused
pub record IsRefusedWrite (b : List ℕ) (refusal : Refusal) : Type 0 where
  pub image : ImageView
  pub given : IsImage b default_options (Ok image)
  pub refused : image_written b image b ≡ Err refusal

-- the refusal of reading or of writing; or `Memory`: an allocation can fail only once the headers and the section
-- headers are read
abbrev pub IsRewriteRefusal : List ℕ → Error → Type 0
IsRewriteRefusal b e =
    UnlessMemory e (IsImage b default_options (Err (kind_of e)) ⊎ IsRefusedWrite b (kind_of e))
    × IfMemory e (IsOk (sections_read b default_options))

-- the result of making these bytes
abbrev pub ReturnsRewritten : {Z : Type 0} → List ℕ → Result (Vec ℕ Z) Error → Type 0
ReturnsRewritten b (Ok text) = IsRewritten b text.items
ReturnsRewritten b (Err e) = IsRewriteRefusal b e
