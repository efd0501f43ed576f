-- What entries lead to, put together.
use Rattle.std.proofs.Common.{◌≡◌, ℕ, List, Option, Some, Result, Ok, Err, refl, ap, ◌∙◌, subst, arith}
use Rattle.pe_resource.proofs.Cited.{Refusal, ReturnsAs, ◌>>=◌, answer_by, ByteRange, Error, ResourceEntry, IsLeaf, named_range, range_in}
use Rattle.pe_resource.proofs.Cited.{IsContentRange, content_of, IsContent, version_of_content, IsVersion, is_directory, data_offset, Walks}
use Rattle.pe_resource.proofs.Cited.{VersionView}
use Rattle.pe_resource.specs.Resources.{FirstDirectoryView, resources_with, AreResources}
use Rattle.pe_resource.proofs.SomeResource.{some_content}

pub given_answer : {X Y : Type 0} (view : X → Y) (r : Result X Error) (d : Result Y Refusal) → ReturnsAs view r d → answer_by view r ≡ d
given_answer view r d h = grind arith

pub leaf_given : (b : List ℕ) (o : Option ResourceEntry) (e v : ResourceEntry) (p : Option ℕ) → Some e ≡ o → Walks b is_directory e (Ok v) → p ≡ data_offset v → IsLeaf b o (Ok p)
leaf_given b o e v p is walks offset = subst (λ (x : Option ResourceEntry). IsLeaf b x (Ok p)) is (Ok v, walks, ap (λ (q : Option ℕ). Ok q) offset)

pub leaf_refusal : (b : List ℕ) (o : Option ResourceEntry) (e : ResourceEntry) (f : Refusal) → Some e ≡ o → Walks b is_directory e (Err f) → IsLeaf b o (Err f)
leaf_refusal b o e f is walks = subst (λ (x : Option ResourceEntry). IsLeaf b x (Err f)) is (Err f, walks, refl)

pub content_refusal : (map : ℕ → Option ℕ) (f b : List ℕ) (es : List ResourceEntry) (id : ℕ) (e : Refusal) → IsContentRange map f b es id (Err e) → IsContent map f b es id (Err e)
content_refusal map f b es id e h = (Err e, h, refl)

pub content_given : (map : ℕ → Option ℕ) (f b : List ℕ) (es : List ResourceEntry) (id : ℕ) (c : Option ByteRange) (r : Option (List ℕ)) → IsContentRange map f b es id (Ok c) → r ≡ content_of f c → IsContent map f b es id (Ok r)
content_given map f b es id c r h is = (Ok c, h, ap (λ (x : Option (List ℕ)). Ok x) is)

pub version_refusal : (map : ℕ → Option ℕ) (f b : List ℕ) (es : List ResourceEntry) (e : Refusal) → IsContent map f b es 16 (Err e) → IsVersion map f b es (Err e)
version_refusal map f b es e h = (Err e, h, refl)

pub version_given : (map : ℕ → Option ℕ) (f b : List ℕ) (es : List ResourceEntry) (c : Option (List ℕ)) (r : Result (Option VersionView) Refusal) → IsContent map f b es 16 (Ok c) → r ≡ version_of_content c → IsVersion map f b es r
version_given map f b es c r h is = (Ok c, h, is)

pub range_in_refusal : (map : ℕ → Option ℕ) (f b : List ℕ) (o : Option ℕ) (p : ℕ) (e : Refusal) → o ≡ Some p → named_range map f b p ≡ Err e → range_in map f b o ≡ Err e
range_in_refusal map f b o p e is refusal = ap (range_in map f b) is ∙ ap (λ (r : Result ByteRange Refusal). r >>= λ r. Ok (Some r)) refusal

pub range_in_given : (map : ℕ → Option ℕ) (f b : List ℕ) (o : Option ℕ) (p : ℕ) (c : ByteRange) → o ≡ Some p → named_range map f b p ≡ Ok c → range_in map f b o ≡ Ok (Some c)
range_in_given map f b o p c is there = ap (range_in map f b) is ∙ ap (λ (r : Result ByteRange Refusal). r >>= λ r. Ok (Some r)) there

-- the manifest has an answer even where the version information is refused before it is asked
pub resources_without_version : (map : ℕ → Option ℕ) (f : List ℕ) (d : FirstDirectoryView) (es : List ResourceEntry) (e : Refusal) → es ≡ d.entries → IsVersion map f d.bytes es (Err e) → AreResources map f d (Err e)
resources_without_version map f d es e is h =
    let (m, is_manifest) = some_content map f d.bytes d.entries 24 in
    (Err e, m, subst (λ (xs : List ResourceEntry). IsVersion map f d.bytes xs (Err e)) is h, is_manifest, refl)

pub resources_read : (map : ℕ → Option ℕ) (f : List ℕ) (d : FirstDirectoryView) (es : List ResourceEntry) (v : Option VersionView) (m : Result (Option (List ℕ)) Refusal) → es ≡ d.entries → IsVersion map f d.bytes es (Ok v) → IsContent map f d.bytes es 24 m → AreResources map f d (resources_with d (Ok v) m)
resources_read map f d es v m is h k = (
  Ok v,
  m,
  subst (λ (xs : List ResourceEntry). IsVersion map f d.bytes xs (Ok v)) is h,
  subst (λ (xs : List ResourceEntry). IsContent map f d.bytes xs 24 m) is k,
  refl,
)
