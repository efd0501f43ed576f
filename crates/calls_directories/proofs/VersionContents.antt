-- The content of a resource, by its data entry.
use Rattle.std.proofs.Common.{◌≡◌, ℕ, Bool, true, false, List, Option, Some, None, Result, Ok, Err, ap, ◌∙◌, arith}
use Rattle.calls_directories.proofs.Cited.{Refusal, ◌>>=◌, ByteRange, SectionTable, IsContentRange, IsDataEntry, named_range}
use Rattle.calls_directories.proofs.Cited.{FirstDirectoryView, IsOfFirst, IsResourceEntry, first_directory, ResourceEntry}
use Rattle.calls_directories.proofs.Cited.{is_absent, map_by, resource_directory, options_of, IsContentBy, IsContentOf, entry_range}
use Rattle.pe_resource.specs.declared.content.ResourceDataEntry.{ResourceDataEntry}
use Rattle.calls_base.specs.declared.image.Image.{Image}

content_of_entry : (f b : List ℕ) (offset : ℕ → Option ℕ) (es : List ResourceEntry) (id : ℕ) (e : Result (Option ResourceDataEntry) Refusal) →
    IsDataEntry b es id e → IsContentRange offset f b es id (e >>= entry_range f offset)
unfolding named_range
content_of_entry f b offset es id e h = (h.0, h.1, ap (λ (x : Result (Option ResourceDataEntry) Refusal). x >>= entry_range f offset) h.2 ∙ (grind arith))

content_of_first : (f : List ℕ) (offset : ℕ → Option ℕ) (id : ℕ) (first : Result (Option FirstDirectoryView) Refusal) (e : Result (Option ResourceDataEntry) Refusal) →
    IsOfFirst None (λ d. IsDataEntry d.bytes d.entries id) first e → IsOfFirst None (λ d. IsContentRange offset f d.bytes d.entries id) first (e >>= entry_range f offset)
content_of_first f offset id (Err refusal) e h = ap (λ (x : Result (Option ResourceDataEntry) Refusal). x >>= entry_range f offset) h
content_of_first f offset id (Ok None) e h = ap (λ (x : Result (Option ResourceDataEntry) Refusal). x >>= entry_range f offset) h
content_of_first f offset id (Ok (Some d)) e h = content_of_entry f d.bytes offset d.entries id e h

by_absence : (absent : Bool) (b : List ℕ) (image : Image) (may_map : ℕ → List SectionTable) (id : ℕ) (e : Result (Option ResourceDataEntry) Refusal) → absent ≡ false →
    IsResourceEntry (options_of image.mode) b (resource_directory image) id (may_map (resource_directory image).virtual_address) image.file_alignment e →
    IsContentBy absent (options_of image.mode) b image may_map id (e >>= entry_range b (map_by image may_map))
by_absence true b image may_map id e there h = absurd cc
by_absence false b image may_map id e there h =
    content_of_first b (map_by image may_map) id (first_directory (options_of image.mode) b (resource_directory image) (may_map (resource_directory image).virtual_address) image.file_alignment) e h

pub content_from_entry : (b : List ℕ) (image : Image) (may_map : ℕ → List SectionTable) (id : ℕ) (e : Result (Option ResourceDataEntry) Refusal) (r : Result (Option ByteRange) Refusal) →
    is_absent (resource_directory image) ≡ false →
    IsResourceEntry (options_of image.mode) b (resource_directory image) id (may_map (resource_directory image).virtual_address) image.file_alignment e →
    r ≡ (e >>= entry_range b (map_by image may_map)) → IsContentOf b image may_map image.mode id r
content_from_entry b image may_map id e r there h is = grind (arith, by_absence)
