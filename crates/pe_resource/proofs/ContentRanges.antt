-- What the ranges of contents hold.
use Rattle.std.proofs.Common.{◌≡◌, ℕ, List, Option, Some, None, Result, Ok, Err, refl, ap, sym, ◌∙◌, subst, arith}
use Rattle.pe_resource.proofs.Cited.{nat_tests, same_inside, IsWithin, Refusal, ◌>>=◌, ByteRange, DataDirectory, ParseOptions, SectionTable}
use Rattle.pe_resource.proofs.Cited.{ResourceEntry, map_of, IsThere, file_range, named_range, range_in, IsContentRange, content_of}
use Rattle.pe_resource.proofs.Cited.{IsContent, version_of_content, IsVersion, VersionView, file_strings, fixed_info_of, version_key}
use Rattle.pe_resource.proofs.Cited.{value_named, version_in, value_range_in, VersionString, strings, read, value_of, value_range}
use Rattle.pe_resource.specs.declared.version.VersionName.{VersionName}
use Rattle.pe_resource.specs.declared.version.VsFixedFileInfo.{VsFixedFileInfo}
use Rattle.pe_resource.specs.Resources.{ResourceView, no_resources, FirstDirectoryView, first_directory, IsOfFirst, AreResources, IsResource, IsResourceRange, IsManifestIn, IsVersionIn}
use Rattle.pe_resource.proofs.OneAnswer.{one_content}
use Rattle.pe_resource.proofs.ValueRanges.{value_there}

ok_not_refused : {X : Type 0} (x : X) (e : Refusal) → Path (Result X Refusal) (Ok x) (Err e) → ⊥
ok_not_refused x e h = cc

-- ---- a range that is found lies in the file

file_within : (f : List ℕ) (size : ℕ) (o : Option ℕ) (r : ByteRange) → file_range f size o ≡ Ok r → IsWithin f r
file_within f size o r h = grind (arith, nat_tests, same_inside)

named_within : (map : ℕ → Option ℕ) (f b : List ℕ) (p : ℕ) (r : ByteRange) → named_range map f b p ≡ Ok r → IsWithin f r
unfolding named_range
named_within map f b p r h = grind (arith, file_within)

given_some : (q : Result ByteRange Refusal) (r : ByteRange) → (q >>= λ r. Ok (Some r)) ≡ Ok (Some r) → q ≡ Ok r
given_some q r h = grind (arith, same_inside)

range_within : (map : ℕ → Option ℕ) (f b : List ℕ) (leaf : Result (Option ℕ) Refusal) (r : ByteRange) → Ok (Some r) ≡ (leaf >>= range_in map f b) → IsWithin f r
range_within map f b leaf r h = grind (arith, named_within, given_some)

-- ---- so what it holds is there

there : (map : ℕ → Option ℕ) (f b : List ℕ) (es : List ResourceEntry) (id : ℕ) (c : Option ByteRange) → IsContentRange map f b es id (Ok c) → IsThere f c (content_of f c)
there map f b es id None h = refl
there map f b es id (Some r) h = (range_within map f b h.0 r h.2, refl)

in_range : (map : ℕ → Option ℕ) (f b : List ℕ) (es : List ResourceEntry) (id : ℕ) (r : Result (Option ByteRange) Refusal) (m : Option (List ℕ)) → IsContentRange map f b es id r → IsContent map f b es id (Ok m) → IsManifestIn f r m
in_range map f b es id (Err e) m h k = absurd (ok_not_refused m e (one_content map f b es id (Ok m) (Err e) k (Err e, h, refl)))
in_range map f b es id (Ok c) m h k =
    let same : content_of f c ≡ m = same_inside (content_of f c) m (one_content map f b es id (Ok (content_of f c)) (Ok m) (Ok c, h, refl) k) in
    (c, refl, subst (IsThere f c) same (there map f b es id c h))

version_by : (map : ℕ → Option ℕ) (f b : List ℕ) (es : List ResourceEntry) (r : Result (Option ByteRange) Refusal) (c : Result (Option (List ℕ)) Refusal) (v : Option VersionView) → IsContentRange map f b es 16 r → IsContent map f b es 16 c → Ok v ≡ (c >>= version_of_content) → IsVersionIn f r v
version_by map f b es r (Err e) v h k is = absurd (ok_not_refused v e is)
version_by map f b es r (Ok m) v h k is = let found = in_range map f b es 16 r m h k in (found.0, m, found.1, found.2, sym is)

of_resources : (map : ℕ → Option ℕ) (f : List ℕ) (d : FirstDirectoryView) (x : ResourceView) → AreResources map f d (Ok x) → IsContent map f d.bytes d.entries 24 (Ok x.manifest) × IsVersion map f d.bytes d.entries (Ok x.version)
of_resources map f d x h = grind (arith, ok_not_refused, same_inside)

abbrev IsRangeOf : (ℕ → Option ℕ) → List ℕ → ℕ → FirstDirectoryView → Result (Option ByteRange) Refusal → Type 0
IsRangeOf map f id d r = IsContentRange map f d.bytes d.entries id r

manifest_of_first : (map : ℕ → Option ℕ) (f : List ℕ) (q : Result (Option FirstDirectoryView) Refusal) (x : ResourceView) (r : Result (Option ByteRange) Refusal) → IsOfFirst no_resources (AreResources map f) q (Ok x) → IsOfFirst None (IsRangeOf map f 24) q r → IsManifestIn f r x.manifest
manifest_of_first map f (Err e) x r h k = absurd (ok_not_refused x e h)
manifest_of_first map f (Ok None) x r h k = (None, k, ap (λ (y : ResourceView). y.manifest) (same_inside x no_resources h))
manifest_of_first map f (Ok (Some d)) x r h k = in_range map f d.bytes d.entries 24 r x.manifest k (of_resources map f d x h).0

version_of_first : (map : ℕ → Option ℕ) (f : List ℕ) (q : Result (Option FirstDirectoryView) Refusal) (x : ResourceView) (r : Result (Option ByteRange) Refusal) → IsOfFirst no_resources (AreResources map f) q (Ok x) → IsOfFirst None (IsRangeOf map f 16) q r → IsVersionIn f r x.version
version_of_first map f (Err e) x r h k = absurd (ok_not_refused x e h)
version_of_first map f (Ok None) x r h k = (None, None, k, refl, ap (λ (y : ResourceView). Ok y.version) (sym (same_inside x no_resources h)))
version_of_first map f (Ok (Some d)) x r h k =
    let is = (of_resources map f d x h).1 in
    version_by map f d.bytes d.entries r is.0 x.version k is.1 is.2

pub manifest_in : (o : ParseOptions) (f : List ℕ) (d : DataDirectory) (sections : List SectionTable) (alignment : ℕ) (x : ResourceView) (r : Result (Option ByteRange) Refusal) → IsResource o f d sections alignment (Ok x) → IsResourceRange o f d 24 sections alignment r → IsManifestIn f r x.manifest
manifest_in o f d sections alignment x r h k = manifest_of_first (map_of o sections alignment) f (first_directory o f d sections alignment) x r h k

pub version_in_range : (o : ParseOptions) (f : List ℕ) (d : DataDirectory) (sections : List SectionTable) (alignment : ℕ) (x : ResourceView) (r : Result (Option ByteRange) Refusal) → IsResource o f d sections alignment (Ok x) → IsResourceRange o f d 16 sections alignment r → IsVersionIn f r x.version
version_in_range o f d sections alignment x r h k = version_of_first (map_of o sections alignment) f (first_directory o f d sections alignment) x r h k

-- ---- version information by its parts

named : (name : VersionName) (ss : List VersionString) → value_of (version_key name) ss ≡ value_named name (file_strings ss)
named name ss = grind arith

parts_by : (b : List ℕ) (f : Result (Option VsFixedFileInfo) Refusal) (v : VersionView) → fixed_info_of b ≡ f → (f >>= λ f. Ok (record { fixed_info = f; strings = file_strings (read (strings b)) })) ≡ Ok v → (fixed_info_of b ≡ Ok v.fixed_info) × (file_strings (read (strings b)) ≡ v.strings)
parts_by b f v is h = grind (arith, same_inside)

pub version_fixed : (b : List ℕ) (v : VersionView) → version_in b ≡ Ok v → fixed_info_of b ≡ Ok v.fixed_info
unfolding version_in
version_fixed b v h = (parts_by b (fixed_info_of b) v refl h).0

version_strings : (b : List ℕ) (v : VersionView) → version_in b ≡ Ok v → file_strings (read (strings b)) ≡ v.strings
unfolding version_in
version_strings b v h = (parts_by b (fixed_info_of b) v refl h).1

pub version_named : (b : List ℕ) (v : VersionView) (name : VersionName) → version_in b ≡ Ok v → (r : Option ByteRange) × (value_range_in name b ≡ Ok r) × IsThere b r (value_named name v.strings)
unfolding value_range_in
version_named b v name h = (
  value_range (version_key name) 0 (read (strings b)),
  ap (λ (f : Result (Option VsFixedFileInfo) Refusal). f >>= λ _. Ok (value_range (version_key name) 0 (read (strings b)))) (version_fixed b v h),
  subst (IsThere b (value_range (version_key name) 0 (read (strings b)))) (named name (read (strings b)) ∙ ap (value_named name) (version_strings b v h)) (value_there (version_key name) b),
)
