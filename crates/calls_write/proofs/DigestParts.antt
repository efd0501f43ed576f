-- The ranges of a digest as callers get them.
use Rattle.std.proofs.Common.{◌≡◌, ℕ, List, [], ◌∷◌, ◌++◌, length, map, flat_map, slice_index_or, Result, Ok, Err, refl, ap, sym, ◌∙◌}
use Rattle.pe_core.specs.Header.{HeaderView}
use Rattle.pe_core.specs.Offsets.{bytes_in}
use Rattle.pe_core.specs.Refusals.{Refusal, ◌>>=◌}
use Rattle.pe_core.specs.declared.byte_range.ByteRange.{ByteRange}
use Rattle.pe_sign.specs.Digest.{covered, digest_of, left_out_of}
use Rattle.pe_sign.specs.DigestRanges.{covered_ranges, digest_ranges_of}
use Rattle.pe_sign.specs.declared.digest.LeftOut.{LeftOut}
use Rattle.pe_sign.specs.declared.file_ranges.DigestRanges.{DigestRanges}
use Rattle.pe_sign.proofs.KeptRanges.{ranges_cover}
use Rattle.calls_base.specs.Ranges.{range_of}
use Rattle.calls_write.specs.Signing.{CoversDigest, digest_at, digest_reported, headers_of, part_at}
use Rattle.calls_base.specs.declared.image.Image.{Image}
use Rattle.calls_write.specs.declared.signing.Digest.{Digest}

-- the four entries of an array
pub four : (xs : List ByteRange) (d : ByteRange) → length xs ≡ 4 →
    range_of (slice_index_or xs 0 d) ∷ range_of (slice_index_or xs 1 d) ∷ range_of (slice_index_or xs 2 d) ∷ range_of (slice_index_or xs 3 d) ∷ [] ≡ map range_of xs
four [] d h = absurd cc
four (a ∷ []) d h = absurd cc
four (a ∷ b ∷ []) d h = absurd cc
four (a ∷ b ∷ c ∷ []) d h = absurd cc
four (a ∷ b ∷ c ∷ e ∷ []) d h = refl
four (a ∷ b ∷ c ∷ e ∷ f ∷ xs) d h = absurd cc

-- ---- their bytes are what the digest covers

same_parts : (b : List ℕ) (xs : List ByteRange) → flat_map (part_at b) (map range_of xs) ≡ flat_map (bytes_in b) xs
same_parts b [] = refl
same_parts b (x ∷ xs) = ap (λ (l : List ℕ). bytes_in b x ++ l) (same_parts b xs)

-- where a digest has ranges, it covers bytes
covers_by : (b : List ℕ) (h : HeaderView) (d : Digest) (r : DigestRanges) → digest_ranges_of b h ≡ Ok r → d ≡ digest_reported r → (x : Result LeftOut Refusal) → left_out_of h ≡ x → CoversDigest b h d
covers_by b h d r e i (Err refusal) f = absurd (let none : ◌≡◌ {A = Result DigestRanges Refusal} (Err refusal) (Ok r) = sym (ap (λ (x : Result LeftOut Refusal). x >>= λ l. Ok (covered_ranges l b)) f) ∙ e in cc)
covers_by b h d r e i (Ok l) f =
    let there : digest_of b h ≡ Ok (covered l b) = ap (λ (x : Result LeftOut Refusal). x >>= λ k. Ok (covered k b)) f in
    let same = ranges_cover b h r (covered l b) e there in
    record {
      digest = covered l b;
      is_digest = there;
      content = ap (λ (x : Digest). flat_map (part_at b) x.ranges) i ∙ same_parts b r.ranges ∙ same.0;
      zeros = ap (λ (x : Digest). x.zeros) i ∙ same.1;
    }

ranges_by : (b : List ℕ) (d : Digest) (h : HeaderView) (x : Result DigestRanges Refusal) → digest_ranges_of b h ≡ x → (x >>= λ r. Ok (digest_reported r)) ≡ Ok d → CoversDigest b h d
ranges_by b d h (Err refusal) e f = absurd cc
ranges_by b d h (Ok r) e f = let same : digest_reported r ≡ d = cc in covers_by b h d r e (sym same) (left_out_of h) refl

headers_by : (b : List ℕ) (d : Digest) (x : Result HeaderView Refusal) → (x >>= λ h. digest_ranges_of b h >>= λ r. Ok (digest_reported r)) ≡ Ok d → (h : HeaderView) × ((x ≡ Ok h) × CoversDigest b h d)
headers_by b d (Err refusal) e = absurd cc
headers_by b d (Ok h) e = (h, (refl, ranges_by b d h (digest_ranges_of b h) refl e))

pub digest_covers : (b : List ℕ) (image : Image) (d : Digest) → digest_at b image ≡ Ok d → (h : HeaderView) × ((headers_of b image ≡ Ok h) × CoversDigest b h d)
digest_covers b image d e = headers_by b d (headers_of b image) e
