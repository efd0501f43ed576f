-- The text of `list`.
use Rattle.std.specs.Prelude.{◌≡◌, ℕ, ◌++◌, Bool, List, Result, Ok, Err, IsOk, Vec, codes, if◌then◌else◌}
use Rattle.pe_core.specs.Refusals.{UnlessMemory, IfMemory, kind_of}
use Rattle.pe_core.specs.declared.error.Error.{Error}
use Rattle.pe_core.specs.declared.options.ParseOptions.{ParseOptions}
use Rattle.pe_image.specs.Core.{sections_read}
use Rattle.pe_image.specs.Image.{ImageView, IsImage}
use Rattle.peinfo.specs.CertificateLines.{certificate_lines}
use Rattle.peinfo.specs.DebugEntries.{debug_lines}
use Rattle.peinfo.specs.FunctionLines.{function_lines}
use Rattle.peinfo.specs.Hex.{hex}

-- 64 for PE32+, else 32
abbrev pub width_text : Bool → List ℕ
width_text is_64 = if is_64 then codes "64" else codes "32"

-- the first line: the width, the RVA of the entry point, the preferred base
unfoldable pub image_line : Bool → ℕ → ℕ → List ℕ
image_line is_64 entry base = codes "image " ++ width_text is_64 ++ codes " entry " ++ hex 8 entry ++ codes " base " ++ hex 16 base ++ codes "\n"

-- the whole text
unfoldable pub report_text : ImageView → List ℕ
report_text image =
    image_line image.is_64 image.entry image.image_base
    ++ debug_lines image.debug_data
    ++ certificate_lines image.certificates
    ++ function_lines image

-- the text of the image that is read from these bytes with these options
pub record IsReport (b : List ℕ) (opts : ParseOptions) (text : List ℕ) : Type 0 where
  pub image : ImageView
  pub given : IsImage b opts (Ok image)
  pub shown : text ≡ report_text image

-- the refusal of the image, or `Memory`: an allocation can fail only once the headers and the section headers are read
abbrev pub IsReportRefusal : List ℕ → ParseOptions → Error → Type 0
IsReportRefusal b opts e = UnlessMemory e (IsImage b opts (Err (kind_of e))) × IfMemory e (IsOk (sections_read b opts))

-- the result of making that text of an image
abbrev pub ReturnsReport : {Z : Type 0} → List ℕ → ParseOptions → Result (Vec ℕ Z) Error → Type 0
ReturnsReport b opts (Ok text) = IsReport b opts text.items
ReturnsReport b opts (Err e) = IsReportRefusal b opts e
