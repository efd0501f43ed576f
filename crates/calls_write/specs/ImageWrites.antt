-- What calls return that write an image. They read the headers and the certificates from the bytes, in the mode of the image that
-- is passed; the sections are those that are passed.
use Rattle.std.specs.Prelude.{◌≡◌, ℕ, List, Result, Ok, ◌==◌, Option, Some, None, if◌then◌else◌}
use Rattle.pe_core.specs.Header.{HeaderView}
use Rattle.pe_core.specs.Refusals.{Refusal, ◌>>=◌}
use Rattle.pe_core.specs.Sections.{sections_at}
use Rattle.pe_records.specs.Certificates.{CertificateView}
use Rattle.pe_image.specs.Fields.{certificate_field, list_by_mode}
use Rattle.pe_image.specs.Writing.{certificates_by, image_by, image_length_by, whole_by, whole_length_by, sections_written}
use Rattle.calls_base.specs.Images.{image_at}
use Rattle.calls_base.specs.Modes.{mode_of_number, options_of}
use Rattle.calls_write.specs.Signing.{headers_of}
use Rattle.calls_base.specs.declared.view.View.{View}

-- the certificates of an image with these headers: none without their directory. Strict mode refuses an invalid table, and
-- permissive mode takes no certificate of it
abbrev pub certificates_of : View → HeaderView → Result (List CertificateView) Refusal
certificates_of v h =
    list_by_mode (mode_of_number v.image.now.mode) (certificate_field v.bytes.now (options_of v.image.now.mode) h.optional_header)

-- what is read of the bytes: the headers, then the certificates
abbrev pub parts_of : View → Result (HeaderView × List CertificateView) Refusal
parts_of v = headers_of v.bytes.now v.image.now >>= λ h. certificates_of v h >>= λ cs. Ok (h, cs)

-- the certificates over the old bytes: as pe_image writes them
abbrev pub certificates_written_at : View → List ℕ → Result (ℕ × List ℕ) Refusal
certificates_written_at v old = parts_of v >>= λ p. certificates_by p.0.optional_header p.1 old

-- the image over the old bytes, and how many bytes it needs: as pe_image writes them
abbrev pub image_written_at : View → List ℕ → Result (ℕ × List ℕ) Refusal
image_written_at v old = parts_of v >>= λ p. image_by p.0.optional_header v.bytes.now p.0 v.sections.now p.1 old

abbrev pub image_length_at : View → Result ℕ Refusal
image_length_at v = parts_of v >>= λ p. image_length_by p.0.optional_header v.bytes.now p.0 v.sections.now p.1

-- the file with the image over the old bytes, and how many bytes it needs
abbrev pub whole_written_at : View → List ℕ → Result (ℕ × List ℕ) Refusal
whole_written_at v old = parts_of v >>= λ p. whole_by p.0.optional_header v.bytes.now p.0 v.sections.now p.1 old

abbrev pub whole_length_at : View → Result ℕ Refusal
whole_length_at v = parts_of v >>= λ p. whole_length_by p.0.optional_header v.bytes.now p.0 v.sections.now p.1

-- the view has these bytes, and what `pe_c_image` and `pe_c_sections` return of them in this mode
pub record IsViewOf (b : List ℕ) (mode : ℕ) (v : View) : Type 0 where
  pub bytes : v.bytes.now ≡ b
  pub image : image_at b mode ≡ Ok v.image.now
  pub sections : sections_at b v.image.now.sections_offset v.image.now.number_of_sections ≡ Ok v.sections.now

-- ---- what a call returns that writes sections

-- the unit of which the zeros after a section fill a multiple; none for 0
abbrev pub unit_of : ℕ → Option ℕ
unit_of n = if n == 0 then None else Some n

-- the sections of the view over the old bytes, with their headers from an offset on: as pe_image writes them
abbrev pub sections_written_at : View → ℕ → ℕ → List ℕ → Result (ℕ × List ℕ) Refusal
sections_written_at v unit offset old = sections_written v.bytes.now v.sections.now (unit_of unit) offset old
