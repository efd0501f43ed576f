-- A walk has one answer, and so has what stands on it.
use Rattle.std.proofs.Common.{◌≡◌, ℕ, Bool, List, Option, Some, None, Result, Ok, Err, ap, sym, ◌∙◌, arith}
use Rattle.pe_resource.proofs.Cited.{Refusal, ◌>>=◌, ByteRange, DataDirectory, ParseOptions, SectionTable, stop_once, ResourceEntry, map_of}
use Rattle.pe_resource.proofs.Cited.{IsLeaf, IsContentRange, content_of, IsContent, version_of_content, IsVersion, Walks, VersionView}
use Rattle.pe_resource.specs.Resources.{ResourceView, no_resources, FirstDirectoryView, first_directory, IsOfFirst, AreResources, IsResource, IsResourceRange}
use Rattle.pe_resource.proofs.Walks.{none_from_decided, cycle_is_endless}

some_once : (r s : Result ResourceEntry Refusal) → Some r ≡ Some s → r ≡ s
some_once r s e = cc

pub one_walk : (b : List ℕ) (p : ResourceEntry → Bool) (e : ResourceEntry) (r s : Result ResourceEntry Refusal) → Walks b p e r → Walks b p e s → r ≡ s
one_walk b p e r s h k = grind (arith, cycle_is_endless, stop_once, none_from_decided, some_once)

one_leaf : (b : List ℕ) (o : Option ResourceEntry) (r s : Result (Option ℕ) Refusal) → IsLeaf b o r → IsLeaf b o s → r ≡ s
one_leaf b None r s h k = h ∙ sym k
one_leaf b (Some e) r s h k = grind (arith, one_walk)

one_content_range : (map : ℕ → Option ℕ) (f b : List ℕ) (es : List ResourceEntry) (id : ℕ) (r s : Result (Option ByteRange) Refusal) → IsContentRange map f b es id r → IsContentRange map f b es id s → r ≡ s
one_content_range map f b es id r s h k = grind (arith, one_leaf)

pub one_content : (map : ℕ → Option ℕ) (f b : List ℕ) (es : List ResourceEntry) (id : ℕ) (r s : Result (Option (List ℕ)) Refusal) → IsContent map f b es id r → IsContent map f b es id s → r ≡ s
one_content map f b es id r s h k =
    let same : h.0 ≡ k.0 = one_content_range map f b es id h.0 k.0 h.1 k.1 in
    h.2 ∙ ap (λ (c : Result (Option ByteRange) Refusal). c >>= λ c. Ok (content_of f c)) same ∙ sym k.2

one_version : (map : ℕ → Option ℕ) (f b : List ℕ) (es : List ResourceEntry) (r s : Result (Option VersionView) Refusal) → IsVersion map f b es r → IsVersion map f b es s → r ≡ s
one_version map f b es r s h k =
    let same : h.0 ≡ k.0 = one_content map f b es 16 h.0 k.0 h.1 k.1 in
    h.2 ∙ ap (λ (c : Result (Option (List ℕ)) Refusal). c >>= version_of_content) same ∙ sym k.2

one_resources : (map : ℕ → Option ℕ) (f : List ℕ) (d : FirstDirectoryView) (r s : Result ResourceView Refusal) → AreResources map f d r → AreResources map f d s → r ≡ s
one_resources map f d r s h k =
    let versions : h.0 ≡ k.0 = one_version map f d.bytes d.entries h.0 k.0 h.2 k.2 in
    let manifests : h.1 ≡ k.1 = one_content map f d.bytes d.entries 24 h.1 k.1 h.3 k.3 in
    grind (arith, h.4, versions, manifests, k.4)

one_of_first : {X : Type 0} (none : X) (Reads : FirstDirectoryView → Result X Refusal → Type 0) (q : Result (Option FirstDirectoryView) Refusal) (r s : Result X Refusal) → ((d : FirstDirectoryView) (r s : Result X Refusal) → Reads d r → Reads d s → r ≡ s) → IsOfFirst none Reads q r → IsOfFirst none Reads q s → r ≡ s
one_of_first none Reads (Err e) r s one h k = h ∙ sym k
one_of_first none Reads (Ok None) r s one h k = h ∙ sym k
one_of_first none Reads (Ok (Some d)) r s one h k = one d r s h k

pub one_resource : (o : ParseOptions) (f : List ℕ) (d : DataDirectory) (sections : List SectionTable) (alignment : ℕ) (r s : Result ResourceView Refusal) → IsResource o f d sections alignment r → IsResource o f d sections alignment s → r ≡ s
one_resource o f d sections alignment r s h k =
    one_of_first no_resources (AreResources (map_of o sections alignment) f) (first_directory o f d sections alignment) r s (one_resources (map_of o sections alignment) f) h k

pub one_range : (o : ParseOptions) (f : List ℕ) (d : DataDirectory) (id : ℕ) (sections : List SectionTable) (alignment : ℕ) (r s : Result (Option ByteRange) Refusal) → IsResourceRange o f d id sections alignment r → IsResourceRange o f d id sections alignment s → r ≡ s
one_range o f d id sections alignment r s h k =
    one_of_first None (λ (d : FirstDirectoryView). IsContentRange (map_of o sections alignment) f d.bytes d.entries id) (first_directory o f d sections alignment) r s
    (λ d r s. one_content_range (map_of o sections alignment) f d.bytes d.entries id r s) h k
