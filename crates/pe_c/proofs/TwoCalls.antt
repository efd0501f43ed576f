-- What functions of pe.h return that make two calls.
use Rattle.std.proofs.Common.{◌≡◌, ℕ, Bool, true, false, List, Option, Some, None, Result, Ok, Err, refl, ◌==◌, arith}
use Rattle.pe_c.proofs.Cited.{option_map, IsWithin, Refusal, ◌>>=◌, ByteRange, SectionTable, IsContentRange, section_map, FirstDirectoryView, IsOfFirst, first_directory, VsFixedFileInfo, HandsOutIf, HandsOutBlocks, HandsOutFixed, HandsOutText, IsContentBy, IsContentOf, content_at, fixed_at, fixed_in, text_in, value_at, options_of, range_of, Image, Range}
use Rattle.pe_resource.specs.declared.version.VersionName.{VersionName}
use Rattle.pe_c.proofs.ImageResources.{content_is, content_within}
use Rattle.pe_c.specs.DebugLaws.{GoesOn, Joins}
use Rattle.calls_base.specs.Images.{resource_directory}

-- ---- version information

-- the content of a resource lies in the bytes
of_first : (b : List ℕ) (map : ℕ → Option ℕ) (first : Result (Option FirstDirectoryView) Refusal) (id : ℕ) (c : ByteRange) →
    IsOfFirst None (λ d. IsContentRange map b d.bytes d.entries id) first (Ok (Some c)) → IsWithin b c
of_first b map (Err e) id c h = absurd cc
of_first b map (Ok None) id c h = absurd cc
of_first b map (Ok (Some d)) id c h = content_within map b d.bytes h.0 c h.2

by_absence : (absent : Bool) (b : List ℕ) (image : Image) (may_map : ℕ → List SectionTable) (mode id : ℕ) (c : ByteRange) → IsContentBy absent (options_of mode) b image may_map id (Ok (Some c)) → IsWithin b c
by_absence true b image may_map mode id c h = absurd cc
by_absence false b image may_map mode id c h =
    let d = resource_directory image in
    of_first b (λ x. section_map (options_of mode) (may_map x) image.file_alignment x)
    (first_directory (options_of mode) b d (may_map d.virtual_address) image.file_alignment) id c h

-- what is read of version information whose range the first call writes
of_content : {Y : Type 0} (b : List ℕ) (c : Result (Option ByteRange) Refusal) (read : ByteRange → Result (Option Y) Refusal) (of : Option ByteRange → Result (Option Y) Refusal) (number n : ℕ) (old new : Y) (before found : Range) →
    of None ≡ Ok None → ((r : ByteRange) → of (Some r) ≡ read r) → ((r : ByteRange) → c ≡ Ok (Some r) → IsWithin b r) →
    HandsOutIf n before found (c >>= λ c. Ok (option_map range_of c)) →
    GoesOn (λ (content : Range) (n : ℕ) (k l : Y). HandsOutIf n k l (content_at b content >>= read)) (n == 0) n found number old new → HandsOutIf number old new (c >>= of)
of_content b c read of number n old new before found none some within out on = grind (arith, content_is)

inside_of : (b : List ℕ) (image : Image) (may_map : ℕ → List SectionTable) (mode : ℕ) (c : Result (Option ByteRange) Refusal) → IsContentOf b image may_map mode 16 c → (r : ByteRange) → c ≡ Ok (Some r) → IsWithin b r
inside_of b image may_map mode c h r e = grind (arith, by_absence)

pub fixed_joined : (b : List ℕ) (image : Image) (may_map : ℕ → List SectionTable) (mode number : ℕ) (old new : VsFixedFileInfo) →
    Joins (HandsOutBlocks b image may_map mode) (λ content n k l. HandsOutIf n k l (fixed_in b content)) number old new → HandsOutFixed b image may_map mode number old new
fixed_joined b image may_map mode number old new h =
    (h.3.0, h.3.1, of_content b h.3.0 (λ c. fixed_at b (Some c)) (fixed_at b) number h.0 old new h.1 h.2 refl (λ r. refl) (inside_of b image may_map mode h.3.0 h.3.1) h.3.2 h.4)

pub text_joined : (b : List ℕ) (image : Image) (may_map : ℕ → List SectionTable) (mode : ℕ) (name : VersionName) (number : ℕ) (old new : Range) →
    Joins (HandsOutBlocks b image may_map mode) (λ content n k l. HandsOutIf n k l (text_in b content (Some name))) number old new → HandsOutText b image may_map mode (Some name) number old new
text_joined b image may_map mode name number old new h =
    (h.3.0, h.3.1, of_content b h.3.0 (λ c. value_at b name (Some c)) (value_at b name) number h.0 old new h.1 h.2 refl (λ r. refl) (inside_of b image may_map mode h.3.0 h.3.1) h.3.2 h.4)
