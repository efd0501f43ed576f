-- The memory of a full dump: by its list, and by runs of it.
use Rattle.std.proofs.Common.{◌≡◌, ℕ, zero, suc, ◌+◌, ◌-◌, ◌/◌, ◌<◌, ◌≤◌, ◌^◌, ◌&&◌, ◌++◌, Bool, true, false, List, [], ◌∷◌, drop, length, map, min, Option, Some, None, Ok, refl, ap, sym, ◌∙◌, arith, nat_le, nat_lt, slice_index, if◌then◌else◌}
use Rattle.std.proofs.Math.Nat.{min-eq_left, min-le_right}
use Rattle.std.proofs.Math.Path.{fun_ext}
use Rattle.std.proofs.lemmas.Bool.Decides.{nat_tests}
use Rattle.std.proofs.lemmas.List.{length-drop, length-take}
use Rattle.std.specs.List.{find}
use Rattle.std.specs.Option.{option_and_then, option_map}
use Rattle.pe_core.specs.Bytes.{le}
use Rattle.pe_frame.specs.MemoryLists.{listed_byte, listed_word, lists_byte}
use Rattle.pe_frame.specs.MemoryPieces.{known_bytes, known_word}
use Rattle.pe_frame.specs.declared.memory_list.MemoryPiece.{MemoryPiece}
use Rattle.pe_lookup.proofs.Lookups.{is_within}
use Rattle.pe_minidump.proofs.Sums.{pieces_more, pieces_none}
use Rattle.pe_minidump.specs.Dumps.{DumpView, read_stream}
use Rattle.pe_minidump.specs.Memory64.{Listed64, memory64_of, piece64, pieces_from, size_of_piece}
use Rattle.pe_minidump.specs.Pieces.{bytes_from}
use Rattle.pe_minidump.specs.Streams.{memory_list}
use Rattle.pe_stacks.proofs.RunBytes.{below, by_offset}
use Rattle.pe_stacks.specs.DumpMemory.{IsFirst64, described_all, elements, has64, listed_all, listed_piece, offset64, pieces_of, start64}
use Rattle.pe_stacks.specs.MemoryRuns.{AreRuns}

-- ---- words

-- the bytes at addresses where two memories have the same
bytes_alike : (f g : ℕ → Option ℕ) (a n : ℕ) → ((i : ℕ) → i < n → f (a + i) ≡ g (a + i)) → known_bytes f a n ≡ known_bytes g a n
bytes_alike f g a zero h = refl
bytes_alike f g a (suc n) h =
    ap (λ (k : Option (List ℕ)). option_and_then (λ before. option_map (λ b. before ++ b ∷ []) (f (a + n))) k) (bytes_alike f g a n (λ i l. h i (omega (arith, l))))
    ∙ ap (λ (o : Option ℕ). option_and_then (λ before. option_map (λ b. before ++ b ∷ []) o) (known_bytes g a n)) (h n (omega arith))

word_by : (f g : ℕ → Option ℕ) (a : ℕ) (b : Bool) → (b ≡ true → (i : ℕ) → i < 8 → f (a + i) ≡ g (a + i)) → (if b then option_map (λ bytes. le bytes 0 8) (known_bytes f a 8) else None) ≡ (if b then option_map (λ bytes. le bytes 0 8) (known_bytes g a 8) else None)
word_by f g a true h = ap (option_map (λ bytes. le bytes 0 8)) (bytes_alike f g a 8 (h refl))
word_by f g a false h = refl

word_alike : (f g : ℕ → Option ℕ) (a : ℕ) → ((x : ℕ) → x < 2 ^ 64 → f x ≡ g x) → known_word f a ≡ known_word g a
word_alike f g a same = word_by f g a (nat_le (a + 8) (2 ^ 64)) (λ fits i l. let low : a + 8 ≤ 2 ^ 64 = grind (arith, nat_tests) in same (a + i) (omega (arith, low, l)))

-- the byte at an address by runs is that by the pieces that they are made of
byte_alike : (file : List ℕ) (pieces runs : List MemoryPiece) (x : ℕ) → AreRuns pieces runs → x < 2 ^ 64 → listed_byte file runs x ≡ listed_byte file pieces x
byte_alike file pieces runs x m small =
    by_offset file x (find (lists_byte x) runs)
    ∙ ap (option_map (slice_index file)) (sym (below runs x small) ∙ m.offsets x ∙ below pieces x small)
    ∙ sym (by_offset file x (find (lists_byte x) pieces))

-- so is each word
pub runs_word : (file : List ℕ) (pieces runs : List MemoryPiece) → AreRuns pieces runs → listed_word file runs ≡ listed_word file pieces
runs_word file pieces runs m = fun_ext (λ (a : ℕ). word_alike (listed_byte file runs) (listed_byte file pieces) a (λ x small. byte_alike file pieces runs x m small))

-- ---- the pieces of a full dump's list

-- how many bytes the file has of a piece
length_of_piece : (file : List ℕ) (l : Listed64) (i : ℕ) → length (bytes_from file (offset64 l i) (size_of_piece l.ranges i)) ≡ min (size_of_piece l.ranges i) (length file - offset64 l i)
length_of_piece file l i = length-take (size_of_piece l.ranges i) (drop (offset64 l i) file) ∙ ap (min (size_of_piece l.ranges i)) (length-drop (offset64 l i) file)

-- a piece of the list as walks take it
at64 : List ℕ → Listed64 → ℕ → MemoryPiece
at64 file l i = listed_piece file (piece64 file l.ranges l.base_rva i)

has_alike : (file : List ℕ) (l : Listed64) (x i : ℕ) → lists_byte x (at64 file l i) ≡ has64 file l x i
unfolding at64
has_alike file l x i = ap (λ (n : ℕ). nat_le (start64 l i) x && nat_lt x (start64 l i + n)) (length_of_piece file l i)

-- the pieces from an index on, as walks take them
all_from : List ℕ → Listed64 → ℕ → List MemoryPiece
all_from file l i = map (listed_piece file) (pieces_from file l.ranges l.base_rva i)

from_more : (file : List ℕ) (l : Listed64) (i : ℕ) → i < length l.ranges / 16 → all_from file l i ≡ at64 file l i ∷ all_from file l (i + 1)
unfolding all_from at64
from_more file l i h = ap (map (listed_piece file)) (pieces_more file l.ranges l.base_rva i h)

from_none : (file : List ℕ) (l : Listed64) (i : ℕ) → length l.ranges / 16 ≤ i → all_from file l i ≡ []
unfolding all_from
from_none file l i h = ap (map (listed_piece file)) (pieces_none file l.ranges l.base_rva i h)

find_next : (x : ℕ) (p : MemoryPiece) (ps : List MemoryPiece) → lists_byte x p ≡ false → find (lists_byte x) (p ∷ ps) ≡ find (lists_byte x) ps
find_next x p ps miss = rw miss refl

find_this : (x : ℕ) (p : MemoryPiece) (ps : List MemoryPiece) → lists_byte x p ≡ true → find (lists_byte x) (p ∷ ps) ≡ Some p
find_this x p ps hit = rw hit refl

-- of those from an index on, d before the first that has the address
found_from : (file : List ℕ) (l : Listed64) (x i k d : ℕ) → IsFirst64 file l x i → k + d ≡ i → find (lists_byte x) (all_from file l k) ≡ Some (at64 file l i)
found_from file l x i k zero f e =
    let same : k ≡ i = omega (arith, e) in
    ap (λ (j : ℕ). find (lists_byte x) (all_from file l j)) same
    ∙ ap (find (lists_byte x)) (from_more file l i f.within)
    ∙ find_this x (at64 file l i) (all_from file l (i + 1)) (has_alike file l x i ∙ f.has)
found_from file l x i k (suc d) f e =
    ap (find (lists_byte x)) (from_more file l k (omega (arith, e, f.within)))
    ∙ find_next x (at64 file l k) (all_from file l (k + 1)) (has_alike file l x k ∙ f.before k (omega (arith, e)))
    ∙ found_from file l x i (k + 1) d f (omega (arith, e))

-- of the d last pieces none has the address
none_from : (file : List ℕ) (l : Listed64) (x k d : ℕ) → ((i : ℕ) → i < length l.ranges / 16 → has64 file l x i ≡ false) → k + d ≡ length l.ranges / 16 → find (lists_byte x) (all_from file l k) ≡ None
none_from file l x k zero h e = ap (find (lists_byte x)) (from_none file l k (omega (arith, e)))
none_from file l x k (suc d) h e =
    ap (find (lists_byte x)) (from_more file l k (omega (arith, e)))
    ∙ find_next x (at64 file l k) (all_from file l (k + 1)) (has_alike file l x k ∙ h k (omega (arith, e)))
    ∙ none_from file l x (k + 1) d h (omega (arith, e))

-- where the byte at an address is that a piece has
place : (file : List ℕ) (l : Listed64) (x i : ℕ) → has64 file l x i ≡ true → (at64 file l i).offset + (x - (at64 file l i).start) ≡ offset64 l i + (x - start64 l i)
unfolding at64
place file l x i has =
    let w = is_within (start64 l i) (min (size_of_piece l.ranges i) (length file - offset64 l i)) x has in
    let some : min (size_of_piece l.ranges i) (length file - offset64 l i) ≤ length file - offset64 l i = min-le_right (size_of_piece l.ranges i) (length file - offset64 l i) in
    let low : offset64 l i ≤ length file = omega (arith, w.0, w.1, some) in
    let inside : min (offset64 l i) (length file) ≡ offset64 l i = min-eq_left low in
    ap (λ (o : ℕ). o + (x - start64 l i)) inside

pub sums_found : (file : List ℕ) (l : Listed64) (x i : ℕ) → IsFirst64 file l x i → listed_byte file (listed_all file l) x ≡ Some (slice_index file (offset64 l i + (x - start64 l i)))
unfolding all_from
sums_found file l x i f =
    ap (option_map (λ (p : MemoryPiece). slice_index file (p.offset + (x - p.start)))) (found_from file l x i 0 i f (omega arith))
    ∙ ap (λ (o : ℕ). Some (slice_index file o)) (place file l x i f.has)

pub sums_none : (file : List ℕ) (l : Listed64) (x : ℕ) → ((i : ℕ) → i < length l.ranges / 16 → has64 file l x i ≡ false) → listed_byte file (listed_all file l) x ≡ None
unfolding all_from
sums_none file l x h = ap (option_map (λ (p : MemoryPiece). slice_index file (p.offset + (x - p.start)))) (none_from file l x 0 (length l.ranges / 16) h (omega arith))

-- the pieces of a dump that has no other list
pub only_list : (d : DumpView) (l : Listed64) → memory_list d ≡ Ok None → read_stream memory64_of d 9 ≡ Ok (Some l) → pieces_of d ≡ listed_all d.bytes l
only_list d l none full =
    ap (λ r. elements (described_all d.bytes) r ++ elements (listed_all d.bytes) (read_stream memory64_of d 9)) none
    ∙ ap (λ r. elements (listed_all d.bytes) r) full
