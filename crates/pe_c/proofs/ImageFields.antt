-- The image that `pe_c_image` returns says what the layout of pe_image says: the directories, the map of RVAs, the machine.
use Rattle.std.proofs.Common.{◌≡◌, ℕ, Bool, true, false, List, [], ◌∷◌, Option, Some, None, Result, Ok, ap, arith}
use Rattle.pe_c.proofs.Cited.{◌==◌, HeaderView, OptionalHeaderView, default_options, Refusal, outcome, ◌>>=◌, section_map}
use Rattle.pe_c.proofs.Cited.{DataDirectory, ParseOptions, SectionTable, Field, alignment, entry_point, image_base, is_64, mode_of}
use Rattle.pe_c.proofs.Cited.{directory, image_info_by, is_absent, map_of_image, or_absent, mode_of_number, options_of, Image}
use Rattle.pe_image.specs.Layout as layout

-- ---- options

-- what calls read of options
abbrev pub plain : ParseOptions → ParseOptions
plain o = record default_options { resolve_rva = o.resolve_rva; parse_mode = o.parse_mode }

pub same_options : (o : ParseOptions) → options_of (mode_of o) ≡ plain o
same_options o = grind arith

pub same_mode : (o : ParseOptions) → mode_of_number (mode_of o) ≡ o.parse_mode
same_mode o = ap (λ (p : ParseOptions). p.parse_mode) (same_options o)

-- ---- tests

passed : {X : Type 0} (test : Bool) (e : Refusal) (tests : List (Bool × Refusal)) (x y : X) → outcome ((test, e) ∷ tests) x ≡ Ok y → (test ≡ true) × (outcome tests x ≡ Ok y)
passed test e tests x y h = grind arith

pub all_passed : {X : Type 0} (tests : List (Bool × Refusal)) (x y : X) → outcome tests x ≡ Ok y → x ≡ y
all_passed [] x y h = cc
all_passed (t ∷ tests) x y h = all_passed tests x y (passed t.0 t.1 tests x y h).1

-- ---- directories

-- a directory that a header has is not absent
abbrev pub IsThere : Option DataDirectory → Type 0
IsThere None = Unit {0}
IsThere (Some d) = is_absent d ≡ false

pub there : (i : ℕ) (o : Option OptionalHeaderView) → IsThere (layout.directory i o)
there i o = grind arith

-- ---- the image

-- what an image says of an optional header, read with these options
pub record Says (o : ParseOptions) (machine characteristics : ℕ) (header : Option OptionalHeaderView) (image : Image) : Type 0 where
  pub reads : options_of image.mode ≡ plain o
  pub mode : image.mode ≡ mode_of o
  pub unit : image.file_alignment ≡ alignment header
  pub machine_is : image.machine ≡ machine
  pub flags : image.characteristics ≡ characteristics
  pub wide : (image.width == 64) ≡ is_64 header
  pub entry : image.entry ≡ entry_point header
  pub base : image.base ≡ image_base header
  pub exports : directory image 0 ≡ or_absent (layout.directory 0 header)
  pub imports : directory image 1 ≡ or_absent (layout.directory 1 header)
  pub resources : directory image 2 ≡ or_absent (layout.directory 2 header)
  pub exceptions : directory image 3 ≡ or_absent (layout.directory 3 header)
  pub certificates : directory image 4 ≡ or_absent (layout.directory 4 header)
  pub relocations : directory image 5 ≡ or_absent (layout.directory 5 header)
  pub debug : directory image 6 ≡ or_absent (layout.directory 6 header)

pub says : (o : ParseOptions) (h : HeaderView) → Says o h.coff_header.machine h.coff_header.characteristics h.optional_header (image_info_by (mode_of o) h h.optional_header)
says o h = grind (arith, same_options)

-- the map of RVAs
pub same_map : (o : ParseOptions) (machine flags : ℕ) (header : Option OptionalHeaderView) (image : Image) (sections : List SectionTable) → Says o machine flags header image →
    map_of_image image sections ≡ section_map o sections (alignment header)
same_map o machine flags header image sections s = grind arith

-- ---- parts

-- a field of an image as a part: absent, a value or a refusal
abbrev pub part_of : {X : Type 0} → Field X → Result (Option X) Refusal
part_of None = Ok None
part_of (Some q) = q >>= λ x. Ok (Some x)
