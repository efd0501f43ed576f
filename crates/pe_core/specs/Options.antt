-- The options of reading. (This project's profile.)
use Rattle.std.specs.Prelude.{Bool, true, false}
use Rattle.pe_core.specs.declared.options.ParseMode.{ParseMode}
use Rattle.pe_core.specs.declared.options.ParseMode.TheVariants.{Strict, Permissive}
use Rattle.pe_core.specs.declared.options.ParseOptions.{ParseOptions}

-- all on, strict
abbrev pub default_options : ParseOptions
default_options = record { resolve_rva = true; parse_attribute_certificates = true; parse_imports = true; parse_resources = true; parse_mode = Strict }

-- all off, strict
abbrev pub te_options : ParseOptions
te_options = record { resolve_rva = false; parse_attribute_certificates = false; parse_imports = false; parse_resources = false; parse_mode = Strict }

-- the mode is permissive
abbrev pub is_permissive : ParseMode → Bool
is_permissive Strict = false
is_permissive Permissive = true
