-- The walks that calls start for the directories of an image are over the tables that pe_directories defines.
use Rattle.std.proofs.Common.{◌≡◌, ℕ, ◌+◌, ◌≤◌, List, length, Some, Result, Ok, Err, refl, sym, ap, subst, ◌∙◌, arith}
use Rattle.calls_directories.proofs.Cited.{nat_tests, length_range, range, ◌>>=◌, ByteRange, SectionTable, Block, first_block}
use Rattle.calls_directories.proofs.Cited.{Bound, bound_table, first_bound_import, Metadata, Stream, clr_metadata, first_stream}
use Rattle.calls_directories.proofs.Cited.{metadata_of, first_delay_import, DirectoryRefusal, ImageView, record_of, table_of}
use Rattle.calls_directories.proofs.Cited.{walk_table, Items, DelayImport, bytes_of_range, bytes_there, bound_imports_at}
use Rattle.calls_directories.proofs.Cited.{clr_metadata_at, metadata_reported, library_of, StepsDelayLibraries, image_parts}
use Rattle.calls_directories.proofs.Cited.{directory, map_of_image, bytes_at, range_of, ReturnsItems, read_items, Range}
use Rattle.pe_directories.specs.declared.clr.ClrHeader.{ClrHeader}
use Rattle.calls_directories.proofs.DirectoryLists.{BlocksOf, BoundsOf, blocks_in_turn, bounds_in_turn, libraries_in_turn}
use Rattle.calls_directories.proofs.DirectoryParts.{headers_stand, metadata_stand}
use Rattle.calls_directories.proofs.StreamLists.{StreamsOf, streams_in_turn}
use Rattle.calls_directories.specs.Clr as clr
use Rattle.calls_base.specs.Directories.{table_at}
use Rattle.calls_directories.specs.declared.directories.clr.Metadata as reported
use Rattle.calls_base.specs.declared.image.Image as images

-- ---- a record of an image lies in its bytes

placed : (i : ImageView) (rva size p : ℕ) → record_of i rva size ≡ Ok p → p + size ≤ length i.bytes
placed i rva size p e = grind (arith, nat_tests)

-- ---- tables of directories

table_bytes : (index : ℕ) (b : List ℕ) (image : images.Image) (sections : List SectionTable) (w : Range) (table : List ℕ) → table_at index b image sections ≡ Ok (Some w) →
    (table_of (image_parts b image sections) (directory image index) >>= λ t. Ok (Some t)) ≡ Ok (Some table) → bytes_at b w ≡ Ok table
table_bytes index b image sections w table e f = grind (arith, placed, bytes_there)

pub blocks_of_image : (b : List ℕ) (image : images.Image) (sections : List SectionTable) (w : Range) (table : List ℕ) (items : List (Result Block DirectoryRefusal)) → table_at 5 b image sections ≡ Ok (Some w) →
    walk_table (image_parts b image sections) (directory image 5) ≡ Ok (Some table) → Items first_block table items → BlocksOf b w items
blocks_of_image b image sections w table items e f g = blocks_in_turn b w table items (table_bytes 5 b image sections w table e f) g

pub libraries_of_image : (b : List ℕ) (image : images.Image) (sections : List SectionTable) (w : Range) (table : List ℕ) (items : List (Result DelayImport DirectoryRefusal)) → table_at 13 b image sections ≡ Ok (Some w) →
    walk_table (image_parts b image sections) (directory image 13) ≡ Ok (Some table) → Items first_delay_import table items →
    ReturnsItems (StepsDelayLibraries (map_of_image image sections) b image) w (read_items (library_of (map_of_image image sections) b image) items)
libraries_of_image b image sections w table items e f g = grind (arith, libraries_in_turn, table_bytes)

-- ---- the directory of bound imports, whose RVA is a file offset

bound_bytes : (b : List ℕ) (image : images.Image) (w : Range) (table : List ℕ) → bound_imports_at b image ≡ Ok (Some w) → bound_table b (directory image 11) ≡ Ok table → bytes_at b w ≡ Ok table
bound_bytes b image w table e f = grind (arith, nat_tests, length_range, bytes_there)

pub bounds_of_image : (b : List ℕ) (image : images.Image) (w : Range) (table : List ℕ) (items : List (Result Bound DirectoryRefusal)) → bound_imports_at b image ≡ Ok (Some w) →
    bound_table b (directory image 11) ≡ Ok table → Items first_bound_import table items → BoundsOf b w table w items
bounds_of_image b image w table items e f g = let bytes = bound_bytes b image w table e f in bounds_in_turn b w table w table items bytes bytes g

-- ---- the metadata of a CLR header

root_by : (b : List ℕ) (r : ByteRange) (found : Result Metadata DirectoryRefusal) (root : reported.Metadata) (m : Metadata) (items : List (Result Stream DirectoryRefusal)) → r.offset + r.length ≤ length b → metadata_of (range b r.offset r.length) ≡ found →
    (found >>= λ x. Ok (Some (metadata_reported (range_of r) x))) ≡ Ok (Some root) → found ≡ Ok m → Items first_stream (m.number_of_streams, m.stream_headers) items → StreamsOf b m.bytes root.streams items
root_by b r (Err e) root m items inside h f g i = absurd (cc (g))
root_by b r (Ok x) root m items inside h f g i =
    let same : x ≡ m = cc (g) in
    let walk : metadata_reported (range_of r) x ≡ root = cc (f) in
    let it : metadata_of (range b r.offset r.length) ≡ Ok m = h ∙ g in
    subst (λ (y : reported.Metadata). StreamsOf b m.bytes y.streams items) (ap (metadata_reported (range_of r)) (sym same) ∙ walk)
    (streams_in_turn b (metadata_reported (range_of r) m).streams m.bytes m.stream_headers items
    (bytes_of_range b (metadata_reported (range_of r) m).streams.metadata m.bytes (metadata_stand b r m inside it))
    (bytes_of_range b (metadata_reported (range_of r) m).streams.headers m.stream_headers (headers_stand b r m inside it)) i)

metadata_by : (b : List ℕ) (size : ℕ) (at : Result ℕ DirectoryRefusal) (root : reported.Metadata) (m : Metadata) (items : List (Result Stream DirectoryRefusal)) → ((p : ℕ) → at ≡ Ok p → p + size ≤ length b) →
    ((at >>= λ p. Ok (record { offset = p; length = size })) >>= clr.metadata_in b) ≡ Ok (Some root) → ((at >>= λ p. Ok (range b p size)) >>= metadata_of) ≡ Ok m →
    Items first_stream (m.number_of_streams, m.stream_headers) items → StreamsOf b m.bytes root.streams items
metadata_by b size (Err r) root m items inside e f g = absurd (cc (f))
metadata_by b size (Ok p) root m items inside e f g = root_by b (record { offset = p; length = size }) (metadata_of (range b p size)) root m items (inside p refl) refl e f g

pub streams_of_image : (b : List ℕ) (image : images.Image) (sections : List SectionTable) (h : ClrHeader) (root : reported.Metadata) (m : Metadata) (items : List (Result Stream DirectoryRefusal)) →
    clr_metadata_at b image sections h ≡ Ok (Some root) → clr_metadata (image_parts b image sections) h ≡ Ok m → Items first_stream (m.number_of_streams, m.stream_headers) items → StreamsOf b m.bytes root.streams items
streams_of_image b image sections h root m items e f g =
    metadata_by b h.metadata.size (record_of (image_parts b image sections) h.metadata.virtual_address h.metadata.size) root m items
    (λ p i. placed (image_parts b image sections) h.metadata.virtual_address h.metadata.size p i) e f g
