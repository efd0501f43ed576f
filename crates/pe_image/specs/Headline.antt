-- The promise of permissive mode: an image is refused exactly if its core is, with the same refusal. Otherwise there is
-- an image, and each directory of it is read on its own. (This project's profile.)
use Rattle.std.specs.Prelude.{◌≡◌, ℕ, List, [], Result, Ok, Err, unwrap_or, option_and_then}
use Rattle.pe_core.specs.Refusals.{Refusal}
use Rattle.pe_core.specs.declared.options.ParseOptions.{ParseOptions}
use Rattle.pe_resource.specs.Resources.{ResourceView}
use Rattle.pe_image.specs.Core.{CoreView}
use Rattle.pe_image.specs.Fields.{Field, given_value}
use Rattle.pe_image.specs.Image.{ImageView, core_part, debug_of, exceptions_of, relocations_of, certificates_of, AreResourcesOf}
use Rattle.pe_image.specs.Layout.{is_64, entry_point, image_base, is_library}

-- the fields that repeat what the headers and the export directory of a core say
pub record AreDerived (c : CoreView) (x : ImageView) : Type 0 where
  pub name : x.name ≡ option_and_then (λ d. d.name) c.export_data
  pub library : x.is_lib ≡ is_library c.header
  pub pe32_plus : x.is_64 ≡ is_64 c.header.optional_header
  pub entry : x.entry ≡ entry_point c.header.optional_header
  pub base : x.image_base ≡ image_base c.header.optional_header
  pub size : x.size ≡ 0

-- the fields of the directories: each has the value of its own definition, and is empty if that is absent or refused
pub record AreAlone (b : List ℕ) (o : ParseOptions) (c : CoreView) (x : ImageView) : Type 0 where
  pub debug : x.debug_data ≡ given_value (debug_of b o c)
  pub exceptions : x.exception_data ≡ given_value (exceptions_of b o c)
  pub relocations : x.relocation_data ≡ given_value (relocations_of b o c)
  pub certificates : x.certificates ≡ unwrap_or (given_value (certificates_of b o c)) []
  pub resources : (f : Field ResourceView) × AreResourcesOf b o c f × (x.resource_data ≡ given_value f)

-- this is an image of a core: every field is defined
pub record IsOfCore (b : List ℕ) (o : ParseOptions) (c : CoreView) (x : ImageView) : Type 0 where
  pub core : core_part x ≡ c
  pub derived : AreDerived c x
  pub directories : AreAlone b o c x

-- the result of permissive mode for a core, or for the refusal of the core
abbrev pub IsPermissive : List ℕ → ParseOptions → Result CoreView Refusal → Result ImageView Refusal → Type 0
IsPermissive b o (Err refusal) answer = answer ≡ Err refusal
IsPermissive b o (Ok c) (Err refusal) = ⊥
IsPermissive b o (Ok c) (Ok x) = IsOfCore b o c x
