-- A walk has an answer, and so has what stands on it.
use Rattle.std.proofs.Common.{◌≡◌, ℕ, suc, ◌<◌, Bool, List, length, Option, Some, None, Result, Ok, Err, IsSome, ⊎_elim, refl, ap, ◌∙◌, rules, arith}
use Rattle.pe_resource.proofs.Cited.{StopsAfter, follows_from_decides, goes_or_stops, last_state, never_stops, after, Refusal, Short}
use Rattle.pe_resource.proofs.Cited.{ResourceCycle, ◌>>=◌, ByteRange, DataDirectory, ParseOptions, SectionTable, ResourceEntry, IsLeaf}
use Rattle.pe_resource.proofs.Cited.{range_in, IsContentRange, content_of, IsContent, version_of_content, IsVersion, directory_offset}
use Rattle.pe_resource.proofs.Cited.{with_id, is_directory, data_offset, step, decided, passed_on, passes, Walks, VersionView}
use Rattle.pe_resource.specs.Resources.{ResourceView, FirstDirectoryView, IsOfFirst, resources_with, AreResources, IsResource, IsResourceRange}
use Rattle.pe_resource.proofs.Walks.{only_short, offset_decides, offsets_below}

-- ---- walks

failing : (p : ResourceEntry → Bool) (v : ResourceEntry) (t : Bool) → p v ≡ t → passed_on p (Ok (Some v)) ≡ None → decided p v (Ok (Some v)) ≡ Some (Ok v)
failing p v t is none = grind arith

abbrev Walked : List ℕ → (ResourceEntry → Bool) → ResourceEntry → Type 0
Walked b p e = (r : Result ResourceEntry Refusal) × Walks b p e r

at_last : (b : List ℕ) (p : ResourceEntry → Bool) (e : ResourceEntry) (k : ℕ) (w : ResourceEntry) (s : Result (Option ResourceEntry) Refusal) → after (passes b p) k e ≡ Some w → step b w ≡ s → passed_on p s ≡ None → Walked b p e
at_last b p e k w (Err f) to is none =
    let short : f ≡ Short = only_short b (directory_offset w) f is in
    (Err Short, (k, w, to, ap (decided p w) (is ∙ ap (λ (f : Refusal). Err f) short)))
at_last b p e k w (Ok None) to is none = (Ok w, (k, w, to, ap (decided p w) is))
at_last b p e k w (Ok (Some v)) to is none = (Ok v, (k, w, to, ap (decided p w) is ∙ failing p v (p v) refl none))

pub some_walk : (b : List ℕ) (p : ResourceEntry → Bool) (e : ResourceEntry) → (r : Result ResourceEntry Refusal) × Walks b p e r
some_walk b p e =
    ⊎_elim
    (λ (more : IsSome (after (passes b p) (suc (length b)) e)).
    (Err ResourceCycle, never_stops (passes b p) directory_offset (length b) (follows_from_decides (passes b p) directory_offset (offset_decides b p)) (offsets_below b p) e more))
    (λ (stops : (j : ℕ) × (j < suc (length b)) × StopsAfter (passes b p) e j).
    let (w, to, none) = last_state (passes b p) stops.0 e stops.2 in at_last b p e stops.0 w (step b w) to refl none)
    (goes_or_stops (passes b p) (suc (length b)) e)

-- ---- contents

some_leaf : (b : List ℕ) (o : Option ResourceEntry) → (r : Result (Option ℕ) Refusal) × IsLeaf b o r
some_leaf b None = (Ok None, refl)
some_leaf b (Some e) = let (w, walks) = some_walk b is_directory e in (w >>= λ v. Ok (data_offset v), (w, walks, refl))

some_content_range : (map : ℕ → Option ℕ) (f b : List ℕ) (es : List ResourceEntry) (id : ℕ) → (r : Result (Option ByteRange) Refusal) × IsContentRange map f b es id r
some_content_range map f b es id = let (leaf, is) = some_leaf b (with_id id es) in (leaf >>= range_in map f b, (leaf, is, refl))

pub some_content : (map : ℕ → Option ℕ) (f b : List ℕ) (es : List ResourceEntry) (id : ℕ) → (r : Result (Option (List ℕ)) Refusal) × IsContent map f b es id r
some_content map f b es id = let (c, is) = some_content_range map f b es id in (c >>= λ c. Ok (content_of f c), (c, is, refl))

some_version : (map : ℕ → Option ℕ) (f b : List ℕ) (es : List ResourceEntry) → (r : Result (Option VersionView) Refusal) × IsVersion map f b es r
some_version map f b es = let (c, is) = some_content map f b es 16 in (c >>= version_of_content, (c, is, refl))

-- ---- resources

pub some_resources : (map : ℕ → Option ℕ) (f : List ℕ) (d : FirstDirectoryView) → (r : Result ResourceView Refusal) × AreResources map f d r
some_resources map f d =
    let (v, is_version) = some_version map f d.bytes d.entries in
    let (m, is_manifest) = some_content map f d.bytes d.entries 24 in
    (resources_with d v m, (v, m, is_version, is_manifest, refl))

some_of_first : {X : Type 0} (none : X) (Reads : FirstDirectoryView → Result X Refusal → Type 0) (q : Result (Option FirstDirectoryView) Refusal) → ((d : FirstDirectoryView) → (r : Result X Refusal) × Reads d r) → (r : Result X Refusal) × IsOfFirst none Reads q r
some_of_first none Reads (Err e) some = (Err e, refl)
some_of_first none Reads (Ok None) some = (Ok none, refl)
some_of_first none Reads (Ok (Some d)) some = some d

pub some_resource : (o : ParseOptions) (f : List ℕ) (d : DataDirectory) (sections : List SectionTable) (alignment : ℕ) → (r : Result ResourceView Refusal) × IsResource o f d sections alignment r
some_resource o f d sections alignment = search (rules, arith, some_of_first, some_resources)

pub some_range : (o : ParseOptions) (f : List ℕ) (d : DataDirectory) (id : ℕ) (sections : List SectionTable) (alignment : ℕ) → (r : Result (Option ByteRange) Refusal) × IsResourceRange o f d id sections alignment r
some_range o f d id sections alignment = search (rules, arith, some_of_first, some_content_range)
