-- The ranges that calls return of directories are parts of the bytes.
use Rattle.std.proofs.Common.{◌≡◌, ℕ, ◌+◌, ◌-◌, ◌≤◌, Bool, true, false, List, ◌<◌, length, take, drop, length-drop, length-take-le, Option, Some, None, Result, Ok, Err, refl, sym, subst, ap, ◌∙◌, arith}
use Rattle.calls_directories.proofs.Cited.{◌==◌, IfSome, position, if◌then◌else◌, position-Some, nat_tests, places, same_lists}
use Rattle.calls_directories.proofs.Cited.{length_range, range_in_range, rest_of_range, holds, le, range, Short, Refusal, ◌>>=◌}
use Rattle.calls_directories.proofs.Cited.{text_at, ByteRange, SectionTable, Metadata, Stream, first_stream, metadata_at}
use Rattle.calls_directories.proofs.Cited.{metadata_of, name_field, name_length, named, stream_of, Name, delay_dll, delay_name}
use Rattle.calls_directories.proofs.Cited.{hint_and_name, hint_offset, imported_by, name_or_refusal, offset_in_entry}
use Rattle.calls_directories.proofs.Cited.{DirectoryRefusal, Image, of_image, ImageView, DelayImport, text_stands, there}
use Rattle.calls_directories.proofs.Cited.{content_of, first_stream_in, metadata_reported, stream_reported, dll_range, function_of}
use Rattle.calls_directories.proofs.Cited.{dll_reported, map_of_image, IsRange, bytes_at, range_of, first_of, image_parts}
use Rattle.calls_directories.proofs.Cited.{MetadataStreams, DelayedFunction, Range}
use Rattle.calls_directories.proofs.DelayAddresses.{same_dll, same_function}
use Rattle.calls_base.specs.declared.image.Image as images

-- ---- the metadata root

version_of : (b : List ℕ) (o l n : ℕ) (m : Metadata) → o + l ≤ length b → 16 + (n + 4) ≤ length (range b o l) → m ≡ metadata_at (range b o l) n →
    IsRange b (record { offset = o + 16; length = length m.version }) m.version
unfolding metadata_at
version_of b o l n m h i e =
    let size : length (range b o l) ≡ l = length_range b o l h in
    let version : m.version ≡ range (range b o l) 16 n = ap (λ (x : Metadata). x.version) e in
    let count : length m.version ≡ n = ap length version ∙ length_range (range b o l) 16 n (omega (arith, i)) in
    record {
      inside = omega (arith, h, i, size, count);
      same = ap (λ (k : ℕ). range b (o + 16) k) count ∙ range_in_range b o l 16 n h (omega (arith, i, size)) ∙ sym version;
    }

headers_of : (b : List ℕ) (o l n : ℕ) (m : Metadata) → o + l ≤ length b → 16 + (n + 4) ≤ length (range b o l) → m ≡ metadata_at (range b o l) n →
    IsRange b (record { offset = o + (l - length m.stream_headers); length = length m.stream_headers }) m.stream_headers
unfolding metadata_at
headers_of b o l n m h i e =
    let size : length (range b o l) ≡ l = length_range b o l h in
    let headers : m.stream_headers ≡ drop (20 + n) (range b o l) = ap (λ (x : Metadata). x.stream_headers) e in
    let count : length m.stream_headers ≡ l - (20 + n) = ap length headers ∙ length-drop (20 + n) (range b o l) ∙ ap (λ (k : ℕ). k - (20 + n)) size in
    let offset : o + (l - length m.stream_headers) ≡ o + (20 + n) = omega (arith, i, size, count) in
    record {
      inside = omega (arith, h, i, size, count);
      same = ap (λ (p : ℕ). range b p (length m.stream_headers)) offset ∙ ap (λ (k : ℕ). range b (o + (20 + n)) k) count ∙ rest_of_range b o l (20 + n) h (omega (arith, i, size)) ∙ sym headers;
    }

root_there : (b : List ℕ) (m : Metadata) → metadata_of b ≡ Ok m → (16 + (le b 12 4 + 4) ≤ length b) × (m ≡ metadata_at b (le b 12 4))
unfolding metadata_of
root_there b m e = grind (arith, nat_tests)

pub version_stands : (b : List ℕ) (r : ByteRange) (m : Metadata) → r.offset + r.length ≤ length b → metadata_of (range b r.offset r.length) ≡ Ok m →
    IsRange b (metadata_reported (range_of r) m).version m.version
version_stands b r m h e =
    let root = root_there (range b r.offset r.length) m e in
    version_of b r.offset r.length (le (range b r.offset r.length) 12 4) m h root.0 root.1

pub headers_stand : (b : List ℕ) (r : ByteRange) (m : Metadata) → r.offset + r.length ≤ length b → metadata_of (range b r.offset r.length) ≡ Ok m →
    IsRange b (metadata_reported (range_of r) m).streams.headers m.stream_headers
headers_stand b r m h e =
    let root = root_there (range b r.offset r.length) m e in
    headers_of b r.offset r.length (le (range b r.offset r.length) 12 4) m h root.0 root.1

pub metadata_stand : (b : List ℕ) (r : ByteRange) (m : Metadata) → r.offset + r.length ≤ length b → metadata_of (range b r.offset r.length) ≡ Ok m →
    IsRange b (metadata_reported (range_of r) m).streams.metadata m.bytes
unfolding metadata_at
metadata_stand b r m h e =
    let root = root_there (range b r.offset r.length) m e in
    record { inside = h; same = sym (ap (λ (x : Metadata). x.bytes) root.1) }

-- ---- streams

within : (xs : List ℕ) (n k : ℕ) → n < length (take k xs) → (n < length xs) × (n ≤ k)
within xs n k h = (grind (arith, places), grind (arith, places))

front : (xs : List ℕ) (n k : ℕ) → n ≤ k → take n (take k xs) ≡ take n xs
front xs n k h = same_lists _ _ (grind (arith, places)) (λ j d lt. grind (arith, places))

front_of_part : (b : List ℕ) (p n q k : ℕ) → p + n ≤ length b → q + k ≤ n → range b (p + q) k ≡ take k (drop q (range b p n))
front_of_part b p n q k h i = same_lists _ _ (grind (arith, places)) (λ j d lt. grind (arith, places))

-- a name that ends in the field of 32 bytes
name_by : (b : List ℕ) (o l n : ℕ) (name : List ℕ) → o + l ≤ length b → n < length (take 32 (drop 8 (range b o l))) → name ≡ take n (take 32 (drop 8 (range b o l))) →
    IsRange b (record { offset = o + 8; length = length name }) name
name_by b o l n name h i e =
    let size : length (range b o l) ≡ l = length_range b o l h in
    let after : length (drop 8 (range b o l)) ≡ l - 8 = length-drop 8 (range b o l) ∙ ap (λ (k : ℕ). k - 8) size in
    let field : (n < length (drop 8 (range b o l))) × (n ≤ 32) = within (drop 8 (range b o l)) n 32 i in
    let count : length name ≡ n = ap length e ∙ length-take-le n (take 32 (drop 8 (range b o l))) (omega (arith, i)) in
    let short : 8 + n ≤ l = omega (arith, field.0, after) in
    record {
      inside = omega (arith, h, short, count);
      same = ap (λ (k : ℕ). range b (o + 8) k) count ∙ front_of_part b o l 8 n h short ∙ sym (front (drop 8 (range b o l)) n 32 field.1) ∙ sym e;
    }

named_by : (b : List ℕ) (o l : ℕ) (at : Option ℕ) (s : Stream) (left : List ℕ) → o + l ≤ length b →
    position (λ c. c == 0) (take 32 (drop 8 (range b o l))) ≡ at → named (range b o l) at ≡ Ok (s, left) →
    IsRange b (record { offset = o + 8; length = length s.name }) s.name
unfolding name_field
named_by b o l None s left h p e = absurd cc
named_by b o l (Some n) s left h p e =
    name_by b o l n s.name h (position-Some (λ c. c == 0) (take 32 (drop 8 (range b o l))) n 0 p).0 (grind arith)

stream_by : (b : List ℕ) (o l : ℕ) (there : Bool) (s : Stream) (left : List ℕ) → o + l ≤ length b →
    (if there then named (range b o l) (name_length (name_field (range b o l))) else Err (Image Short)) ≡ Ok (s, left) →
    IsRange b (record { offset = o + 8; length = length s.name }) s.name
unfolding name_length name_field
stream_by b o l false s left h e = absurd cc
stream_by b o l true s left h e = named_by b o l (position (λ c. c == 0) (take 32 (drop 8 (range b o l)))) s left h refl e

-- the first of so many streams, read from the bytes that a range has
read_by : (b : List ℕ) (o l : ℕ) (x : Result (Stream × List ℕ) DirectoryRefusal) (n : ℕ) (none : Bool) (s : Stream) (left : ℕ × List ℕ) → o + l ≤ length b → stream_of (range b o l) ≡ x →
    (if none then None else Some (◌>>=◌ {B = Stream × (ℕ × List ℕ)} x (λ y. Ok (y.0, (n, y.1))))) ≡ Some (Ok (s, left)) →
    IsRange b (record { offset = o + 8; length = length s.name }) s.name
unfolding stream_of
read_by b o l x n true s left h e f = absurd cc
read_by b o l (Err refusal) n false s left h e f = absurd cc
read_by b o l (Ok y) n false s left h e f = grind (arith, stream_by)

headers_by : (b : List ℕ) (w : MetadataStreams) (metadata headers : Result (List ℕ) Refusal) (s : Stream) (left : ℕ × List ℕ) →
    bytes_at b w.headers ≡ headers →
    first_of first_stream (of_image (metadata >>= λ m. headers >>= λ h. Ok (w.count, h))) ≡ Some (Ok (s, left)) →
    IsRange b (stream_reported w s).name s.name
headers_by b w (Err refusal) headers s left e f = absurd cc
headers_by b w (Ok metadata) (Err refusal) s left e f = absurd cc
headers_by b w (Ok metadata) (Ok headers) s left e f =
    let in_b = there b w.headers headers (holds b w.headers.offset w.headers.length) refl e in
    read_by b w.headers.offset w.headers.length (stream_of (range b w.headers.offset w.headers.length)) (w.count - 1) (w.count == 0) s left in_b.0 refl (rw (sym in_b.1) f)

pub name_of_stream_stands : (b : List ℕ) (w : MetadataStreams) (s : Stream) (left : ℕ × List ℕ) → first_stream_in b w ≡ Some (Ok (s, left)) → IsRange b (stream_reported w s).name s.name
name_of_stream_stands b w s left e = headers_by b w (bytes_at b w.metadata) (bytes_at b w.headers) s left refl e

pub content_stands : (b metadata : List ℕ) (w : MetadataStreams) (s : Stream) → bytes_at b w.metadata ≡ Ok metadata →
    IfSome (content_of w.metadata s) (λ r. IsRange b r (range metadata s.offset s.size))
content_stands b metadata w s e = grind (arith, there, nat_tests, range_in_range)

-- ---- names of delay imports

-- a name that is not refused stands where it is read
delay_by : (b : List ℕ) (p : ℕ) (text : Option (List ℕ)) (name : List ℕ) → text_at b p ≡ text → name_or_refusal text ≡ Ok name → IsRange b (record { offset = p; length = length name }) name
delay_by b p None name e f = absurd cc
delay_by b p (Some text) name e f = text_stands b p name (e ∙ cc)

delay_stands : (i : ImageView) (p : ℕ) (name : List ℕ) → delay_name i p ≡ Ok name → IsRange i.bytes (record { offset = p; length = length name }) name
unfolding delay_name
delay_stands i p name e = delay_by i.bytes p (text_at i.bytes p) name refl e

abbrev range_of_name : List ℕ → ℕ → Range
range_of_name name p = record { offset = p; length = length name }

dll_by : (i : ImageView) (at : Result ℕ DirectoryRefusal) (name : List ℕ) (r : Range) → (at >>= delay_name i) ≡ Ok name → (at >>= λ p. Ok (range_of_name name p)) ≡ Ok r → IsRange i.bytes r name
dll_by i (Err refusal) name r e f = absurd cc
dll_by i (Ok p) name r e f = let same : range_of_name name p ≡ r = cc in subst (λ (x : Range). IsRange i.bytes x name) same (delay_stands i p name e)

dll_stands : (i : ImageView) (e : DelayImport) (name : List ℕ) (r : Range) → delay_dll i e ≡ Ok name → dll_reported i e ≡ Ok r → IsRange i.bytes r name
dll_stands i e name r h f = dll_by i (offset_in_entry i e e.name) name r h (sym (rw h refl) ∙ f)

pub name_of_dll_stands : (b : List ℕ) (image : images.Image) (sections : List SectionTable) (e : DelayImport) (name : List ℕ) (r : Range) →
    delay_dll (image_parts b image sections) e ≡ Ok name → dll_range (map_of_image image sections) b image e ≡ Ok r → IsRange b r name
name_of_dll_stands b image sections e name r h f = dll_stands (image_parts b image sections) e name r h (sym (same_dll b image sections e) ∙ f)

-- a function's name follows its hint
abbrev function_named : ℕ → List ℕ → ℕ → DelayedFunction
function_named hint name p = record { name = range_of_name name (p + 2); ordinal = hint; has_name = 1 }

hint_stands : (i : ImageView) (p hint : ℕ) (name : List ℕ) → hint_and_name i p ≡ Ok (Name hint name) → IsRange i.bytes (range_of_name name (p + 2)) name
unfolding hint_and_name
hint_stands i p hint name e = delay_stands i (p + 2) name (grind arith)

named_function : (i : ImageView) (e : DelayImport) (number hint : ℕ) (name : List ℕ) (f : DelayedFunction) →
    imported_by i e number ≡ Ok (Name hint name) → (hint_offset i e number >>= λ p. Ok (function_named hint name p)) ≡ Ok f → IsRange i.bytes f.name name
unfolding imported_by
named_function i e number hint name f h g = grind (arith, hint_stands)

pub name_of_function_stands : (b : List ℕ) (image : images.Image) (sections : List SectionTable) (e : DelayImport) (number hint : ℕ) (name : List ℕ) (f : DelayedFunction) →
    imported_by (image_parts b image sections) e number ≡ Ok (Name hint name) → function_of (map_of_image image sections) b image e.attributes number ≡ Ok f → IsRange b f.name name
name_of_function_stands b image sections e number hint name f h g =
    named_function (image_parts b image sections) e number hint name f h
    (sym (rw h refl) ∙ (sym (same_function b image sections e number) ∙ g))
