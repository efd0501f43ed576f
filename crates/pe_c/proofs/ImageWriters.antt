-- What the calls that write an image read of it are its headers, its section headers and its certificates.
use Rattle.std.proofs.Common.{◌≡◌, ℕ, true, List, Option, Ok, arith}
use Rattle.pe_c.proofs.Cited.{HeaderView, OptionalHeaderView, header_at, sections_at, sections_of, ParseOptions, certificate_field}
use Rattle.pe_c.proofs.Cited.{list_by_mode, ImageView, IsImage, mode_of, image_info_by, View, one_ok}
use Rattle.pe_image.specs.Writing.{certificates_written, image_length, image_written, whole_length, whole_written}
use Rattle.calls_write.specs.ImageWrites.{IsViewOf, certificates_written_at, image_length_at, image_written_at, parts_of, whole_length_at, whole_written_at}
use Rattle.pe_c.proofs.ImageFields.{same_mode}

-- the law of pe_image, for each part
pub record PartsLaw : Type 0 where
  pub header : (b : List ℕ) (o : ParseOptions) (x : ImageView) → IsImage b o (Ok x) → header_at b o.parse_mode ≡ Ok x.header
  pub sections : (b : List ℕ) (o : ParseOptions) (x : ImageView) → IsImage b o (Ok x) → sections_of b x.header ≡ Ok x.sections
  pub certificates : (b : List ℕ) (o : ParseOptions) (x : ImageView) → IsImage b o (Ok x) → list_by_mode o.parse_mode (certificate_field b o x.header.optional_header) ≡ Ok x.certificates

-- ---- what the view has

pub sections_in : (b : List ℕ) (mode : ℕ) (h : HeaderView) (optional : Option OptionalHeaderView) → sections_at b (image_info_by mode h optional).sections_offset (image_info_by mode h optional).number_of_sections ≡ sections_of b h
sections_in b mode h optional = grind arith

-- the view is that of an image: its headers, its mode, its section headers
record IsOfImage (b : List ℕ) (o : ParseOptions) (x : ImageView) (v : View) : Type 0 where
  pub bytes : v.bytes.now ≡ b
  pub mode : v.image.now.mode ≡ mode_of o
  pub sections : v.sections.now ≡ x.sections

is_of_image : PartsLaw → (b : List ℕ) (o : ParseOptions) (x : ImageView) (v : View) → IsImage b o (Ok x) → IsViewOf b (mode_of o) v → IsOfImage b o x v
is_of_image law b o x v is view = grind (arith, same_mode, one_ok, sections_in)

-- ---- what the calls read

parts_are : PartsLaw → (b : List ℕ) (o : ParseOptions) (x : ImageView) (v : View) → o.parse_attribute_certificates ≡ true → IsImage b o (Ok x) → IsOfImage b o x v → parts_of v ≡ Ok (x.header, x.certificates)
parts_are law b o x v all is view = grind (arith, same_mode)

pub certificates_is : PartsLaw → (b old : List ℕ) (o : ParseOptions) (x : ImageView) (v : View) → o.parse_attribute_certificates ≡ true → IsImage b o (Ok x) → IsViewOf b (mode_of o) v → certificates_written_at v old ≡ certificates_written x old
certificates_is law b old o x v all is view = grind (arith, is_of_image, parts_are)

pub image_is : PartsLaw → (b old : List ℕ) (o : ParseOptions) (x : ImageView) (v : View) → o.parse_attribute_certificates ≡ true → IsImage b o (Ok x) → IsViewOf b (mode_of o) v → image_written_at v old ≡ image_written b x old
image_is law b old o x v all is view = grind (arith, is_of_image, parts_are)

pub whole_is : PartsLaw → (b old : List ℕ) (o : ParseOptions) (x : ImageView) (v : View) → o.parse_attribute_certificates ≡ true → IsImage b o (Ok x) → IsViewOf b (mode_of o) v → whole_written_at v old ≡ whole_written b x old
whole_is law b old o x v all is view = grind (arith, is_of_image, parts_are)

pub image_length_is : PartsLaw → (b : List ℕ) (o : ParseOptions) (x : ImageView) (v : View) → o.parse_attribute_certificates ≡ true → IsImage b o (Ok x) → IsViewOf b (mode_of o) v → image_length_at v ≡ image_length b x
image_length_is law b o x v all is view = grind (arith, is_of_image, parts_are)

pub whole_length_is : PartsLaw → (b : List ℕ) (o : ParseOptions) (x : ImageView) (v : View) → o.parse_attribute_certificates ≡ true → IsImage b o (Ok x) → IsViewOf b (mode_of o) v → whole_length_at v ≡ whole_length b x
whole_length_is law b o x v all is view = grind (arith, is_of_image, parts_are)
