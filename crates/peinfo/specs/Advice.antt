-- The end of the message that an image is refused.
use Rattle.std.specs.Prelude.{◌≡◌, ℕ, List, Result, Ok, Err, IsOk, codes}
use Rattle.std.specs.Borrow.{Bor}
use Rattle.pe_core.specs.Options.{default_options}
use Rattle.pe_core.specs.Refusals.{Refusal}
use Rattle.pe_core.specs.declared.options.ParseMode.{ParseMode}
use Rattle.pe_core.specs.declared.options.ParseMode.TheVariants.{Strict, Permissive}
use Rattle.pe_core.specs.declared.options.ParseOptions.{ParseOptions}
use Rattle.pe_image.specs.Core.{sections_read}
use Rattle.pe_image.specs.Image.{ImageView, IsImage}

-- the default options in permissive mode
abbrev pub permissive_options : ParseOptions
permissive_options = record default_options { parse_mode = Permissive }

-- the option `--permissive` is named exactly where permissive mode reads the image
abbrev pub IsAdvice : List ℕ → Result ImageView Refusal → Type 0
IsAdvice text (Ok image) = text ≡ codes "; --permissive lists the rest"
IsAdvice text (Err refusal) = text ≡ codes ""

-- the advice on an image that is refused in this mode: none in permissive mode, else by what permissive mode returns.
-- An allocation can fail only once the headers and the section headers are read
abbrev pub ReturnsAdvice : {E : Type 0} → List ℕ → ParseMode → Result (Bor (List ℕ)) E → Type 0
ReturnsAdvice b Permissive (Ok text) = text.now ≡ codes ""
ReturnsAdvice b Strict (Ok text) = (image : Result ImageView Refusal) × IsImage b permissive_options image × IsAdvice text.now image
ReturnsAdvice b mode (Err e) = (mode ≡ Strict) × IsOk (sections_read b permissive_options)
