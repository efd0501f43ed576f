-- What calls return that a signing tool makes. They read the headers from the bytes, in the mode of the image that is
-- passed.
use Rattle.std.specs.Prelude.{◌≡◌, ℕ, ◌%◌, ◌==◌, List, flat_map, map, Result, Ok, if◌then◌else◌}
use Rattle.pe_core.specs.Bytes.{range}
use Rattle.pe_core.specs.Header.{HeaderView, header_at}
use Rattle.pe_core.specs.Refusals.{Refusal, ◌>>=◌}
use Rattle.pe_sign.specs.Attaching.{attached_of, detached_of}
use Rattle.pe_sign.specs.Checksum.{checksum_of, checksum_range_of}
use Rattle.pe_sign.specs.Digest.{Covered, digest_of}
use Rattle.pe_sign.specs.DigestRanges.{digest_ranges_of}
use Rattle.pe_sign.specs.SignRefusals.{Image}
use Rattle.pe_sign.specs.declared.attachment.Placement.{Placement}
use Rattle.pe_sign.specs.declared.attachment.Placement.TheVariants.{After, InPlace}
use Rattle.pe_sign.specs.declared.file_ranges.DigestRanges.{DigestRanges}
use Rattle.calls_base.specs.HandsOut.{result_number}
use Rattle.calls_base.specs.Modes.{mode_of_number}
use Rattle.calls_base.specs.Ranges.{range_of}
use Rattle.calls_base.specs.WrittenFiles.{numbered}
use Rattle.calls_base.specs.declared.image.Image as images
use Rattle.calls_base.specs.declared.ranges.Range.{Range}
use Rattle.calls_write.specs.declared.signing.ChecksumField.{ChecksumField}
use Rattle.calls_write.specs.declared.signing.Digest.{Digest}
use Rattle.calls_base.specs.SignResults.{sign_number}

-- the headers of the bytes, in the mode of an image
abbrev pub headers_of : List ℕ → images.Image → Result HeaderView Refusal
headers_of b image = header_at b (mode_of_number image.mode)

-- the same, or the number of their refusal
abbrev pub headers_numbered : List ℕ → images.Image → Result HeaderView ℕ
headers_numbered b image = numbered result_number (headers_of b image)

-- the ranges of a digest as callers get them
abbrev pub digest_reported : DigestRanges → Digest
digest_reported r = record { ranges = map range_of r.ranges; zeros = r.zeros }

-- what the digest of an image covers
abbrev pub digest_at : List ℕ → images.Image → Result Digest Refusal
digest_at b image = headers_of b image >>= λ h. digest_ranges_of b h >>= λ r. Ok (digest_reported r)

-- the checksum that an image should have, and where its field is
abbrev pub checksum_at : List ℕ → images.Image → Result ChecksumField Refusal
checksum_at b image =
    headers_of b image >>= λ h. checksum_range_of h >>= λ field. Ok (record { offset = field.offset; value = checksum_of b field.offset; spare = 0 })

-- where a certificate is attached, by a number: after the others if it is even, else in their place
abbrev pub placement_of : ℕ → Placement
placement_of n = if n % 2 == 0 then After else InPlace

-- the image with a certificate
abbrev pub attached_at : ℕ → List ℕ → images.Image → List ℕ → Result (List ℕ) ℕ
attached_at placement b image certificate =
    headers_numbered b image >>= λ h. numbered sign_number (attached_of (placement_of placement) b h certificate)

-- the image without certificates
abbrev pub detached_at : List ℕ → images.Image → Result (List ℕ) ℕ
detached_at b image = headers_numbered b image >>= λ h. numbered sign_number (detached_of b h)

-- ---- the parts of a digest

-- the bytes of a range
abbrev pub part_at : List ℕ → Range → List ℕ
part_at b r = range b r.offset r.length

-- the bytes of the ranges, one after the other, and the zeros are what the digest of an image with these headers covers
pub record CoversDigest (b : List ℕ) (h : HeaderView) (d : Digest) : Type 0 where
  pub digest : Covered
  pub is_digest : digest_of b h ≡ Ok digest
  pub content : flat_map (part_at b) d.ranges ≡ digest.content
  pub zeros : d.zeros ≡ digest.zeros
