-- What is reported of versions is what the resources hold.
use Rattle.std.proofs.Common.{◌≡◌, ℕ, Bool, false, List, Option, Some, None, Result, Ok, refl, sym, subst, arith}
use Rattle.calls_directories.proofs.Cited.{option_map, same_inside, Refusal, ◌>>=◌, ByteRange, SectionTable, IsThere, inner}
use Rattle.calls_directories.proofs.Cited.{version_of_content, ResourceView, IsResourceRange, HandsOutIf, is_absent}
use Rattle.calls_directories.proofs.Cited.{resource_directory, options_of, range_of, IsRange, IsContentBy, IsContentOf}
use Rattle.calls_directories.proofs.Cited.{HandsOutManifest, fixed_at, HandsOutFixed, value_at, HandsOutText, AreImageResources}
use Rattle.calls_directories.proofs.Cited.{ReportsRange, fixed_of, version_value, Range}
use Rattle.pe_core.specs.Offsets.{bytes_in, IsWithin}
use Rattle.pe_resource.specs.VersionFields.{VersionView, value_named, version_in}
use Rattle.pe_resource.specs.declared.version.VersionName.{VersionName}
use Rattle.pe_resource.specs.declared.version.VsFixedFileInfo.{VsFixedFileInfo}
use Rattle.pe_resource.proofs.ContentRanges.{manifest_in, version_in_range, version_fixed, version_named}
use Rattle.pe_resource.proofs.ValueRanges.{inner_bytes}
use Rattle.calls_base.specs.declared.image.Image.{Image}

content_range : (b : List ℕ) (image : Image) (sections : List SectionTable) (mode id : ℕ) (r : Result (Option ByteRange) Refusal) → is_absent (resource_directory image) ≡ false → IsContentOf b image (λ _. sections) mode id r → IsResourceRange (options_of mode) b (resource_directory image) id sections image.file_alignment r
content_range b image sections mode id r there h = subst (λ (t : Bool). IsContentBy t (options_of mode) b image (λ _. sections) id r) there h

-- ---- ranges

goes_out : (b : List ℕ) (r : ByteRange) (out : Range) → IsWithin b r → out ≡ range_of r → IsRange b out (bytes_in b r)
goes_out b r out h is = subst (λ (o : Range). IsRange b o (bytes_in b r)) (sym is) (record { inside = h; same = refl })

pub manifest_reported : (b : List ℕ) (image : Image) (sections : List SectionTable) (mode : ℕ) (x : ResourceView) (number : ℕ) (old new : Range) → AreImageResources b image sections mode x → HandsOutManifest b image (λ _. sections) mode number old new → ReportsRange b number new x.manifest
manifest_reported b image sections mode x number old new h k =
    let found = manifest_in (options_of mode) b (resource_directory image) sections image.file_alignment x k.0 h.1 (content_range b image sections mode 24 k.0 h.0 k.1) in
    grind (arith, goes_out, found.2, subst (λ (r : Result (Option ByteRange) Refusal). HandsOutIf number old new (r >>= λ c. Ok (option_map range_of c))) found.1 k.2)

-- ---- version information

no_version : (v : Option VersionView) (bytes : Option (List ℕ)) → bytes ≡ None → version_of_content bytes ≡ Ok v → v ≡ None
no_version v bytes is h = sym (same_inside None v (subst (λ (o : Option (List ℕ)). version_of_content o ≡ Ok v) is h))

a_version : (c : List ℕ) (v : Option VersionView) (bytes : Option (List ℕ)) → bytes ≡ Some c → version_of_content bytes ≡ Ok v → (w : VersionView) × (version_in c ≡ Ok w) × (v ≡ Some w)
a_version c v bytes is h = grind (arith, same_inside)

fixed_is : (b : List ℕ) (c : Option ByteRange) (bytes : Option (List ℕ)) (v : Option VersionView) → IsThere b c bytes → version_of_content bytes ≡ Ok v → fixed_at b c ≡ Ok (fixed_of v)
fixed_is b c bytes v h k = grind (arith, no_version, a_version, version_fixed)

pub fixed_reported : (b : List ℕ) (image : Image) (sections : List SectionTable) (mode : ℕ) (x : ResourceView) (number : ℕ) (old new : VsFixedFileInfo) → AreImageResources b image sections mode x → HandsOutFixed b image (λ _. sections) mode number old new → HandsOutIf number old new (Ok (fixed_of x.version))
fixed_reported b image sections mode x number old new h k =
    let found = version_in_range (options_of mode) b (resource_directory image) sections image.file_alignment x k.0 h.1 (content_range b image sections mode 16 k.0 h.0 k.1) in
    subst (HandsOutIf number old new) (fixed_is b found.0 found.1 x.version found.3 found.4)
    (subst (λ (r : Result (Option ByteRange) Refusal). HandsOutIf number old new (r >>= fixed_at b)) found.2 k.2)

there_inside : (b : List ℕ) (outer : ByteRange) (r : Option ByteRange) (m : Option (List ℕ)) (number : ℕ) (old new : Range) → IsWithin b outer → IsThere (bytes_in b outer) r m → HandsOutIf number old new (Ok (option_map (λ r. range_of (inner outer r)) r)) → ReportsRange b number new m
there_inside b outer r m number old new within h k = grind (arith, inner_bytes, goes_out)

value_is : (b : List ℕ) (name : VersionName) (c : Option ByteRange) (bytes : Option (List ℕ)) (v : Option VersionView) (number : ℕ) (old new : Range) → IsThere b c bytes → version_of_content bytes ≡ Ok v → HandsOutIf number old new (value_at b name c) → ReportsRange b number new (version_value name v)
value_is b name None bytes v number old new h k answers = grind (arith, no_version)
value_is b name (Some r) bytes v number old new h k answers =
    let reads = a_version (bytes_in b r) v bytes h.1 k in
    let found = version_named (bytes_in b r) reads.0 name reads.1 in
    subst (λ (o : Option VersionView). ReportsRange b number new (version_value name o)) (sym reads.2)
    (there_inside b r found.0 (value_named name reads.0.strings) number old new h.0 found.2
    (subst (λ (q : Result (Option ByteRange) Refusal). HandsOutIf number old new (q >>= λ v. Ok (option_map (λ v. range_of (inner r v)) v))) found.1 answers))

pub value_reported : (b : List ℕ) (image : Image) (sections : List SectionTable) (mode : ℕ) (name : VersionName) (x : ResourceView) (number : ℕ) (old new : Range) → AreImageResources b image sections mode x → HandsOutText b image (λ _. sections) mode (Some name) number old new → ReportsRange b number new (version_value name x.version)
value_reported b image sections mode name x number old new h k =
    let found = version_in_range (options_of mode) b (resource_directory image) sections image.file_alignment x k.0 h.1 (content_range b image sections mode 16 k.0 h.0 k.1) in
    value_is b name found.0 found.1 x.version number old new found.3 found.4
    (subst (λ (r : Result (Option ByteRange) Refusal). HandsOutIf number old new (r >>= value_at b name)) found.2 k.2)
