-- The ways to read an image, by their numbers: a mode, and whether the image is a file or as loaded.
use Rattle.std.specs.Prelude.{ℕ, ◌/◌, ◌%◌, ◌==◌, Bool, if◌then◌else◌}
use Rattle.pe_core.specs.Options.{default_options}
use Rattle.pe_core.specs.declared.options.ParseMode.{ParseMode}
use Rattle.pe_core.specs.declared.options.ParseMode.TheVariants.{Strict, Permissive}
use Rattle.pe_core.specs.declared.options.ParseOptions.{ParseOptions}

-- bit 0: an even number is strict, an odd one permissive
abbrev pub mode_of_number : ℕ → ParseMode
mode_of_number n = if n % 2 == 0 then Strict else Permissive

-- bit 1: RVAs are mapped by the sections, as in a file, unless it is set; in an image as loaded they are offsets
abbrev pub resolves : ℕ → Bool
resolves n = (n / 2) % 2 == 0

-- the default options, read in the way with this number
abbrev pub options_of : ℕ → ParseOptions
options_of n = record default_options { resolve_rva = resolves n; parse_mode = mode_of_number n }
