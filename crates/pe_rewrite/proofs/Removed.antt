-- The file of an image without resources.
use Rattle.std.proofs.Common.{◌≡◌, ℕ, ◌+◌, ◌-◌, ◌*◌, ◌<◌, ◌≤◌, ◌==◌, true, List, length, take, drop, replicate, Result, Ok, Err, refl, ap, ◌∙◌, subst, arith, length-append}
use Rattle.pe_rewrite.proofs.Cited.{nat_lt, nat_tests, length-drop, length-replicate, length-take-le, bytes_of, splice, HeaderView}
use Rattle.pe_rewrite.proofs.Cited.{outcome, raw_end, sections_offset, positive, length-bytes_of, length-splice, splice-splice}
use Rattle.pe_rewrite.proofs.Cited.{FieldsLie, GoneLies, changed, cleared_file, cut, emptied_file, gone_file, room_changes}
use Rattle.pe_rewrite.proofs.Cited.{stayed_file, sum_of, with_sum, index_of, place_at, section_tests, emptied_of, ends_table}
use Rattle.pe_rewrite.proofs.Cited.{gone_at, gone_of, gone_tests, RewriteRefusal, own_section, room_at, room_beside, rvas_tests}
use Rattle.pe_rewrite.proofs.Cited.{Place, Target, LastSection, Room, wide, passed, value_is, both}
use Rattle.pe_rewrite.proofs.Placed.{HeadersLie, IndexIs, SectionIs, TargetIs, index_is, section_is_free}
use Rattle.pe_rewrite.proofs.Pointers.{lie_at}
use Rattle.pe_rewrite.proofs.Results.{first_ok}
use Rattle.pe_rewrite.proofs.RoomWrites.{changed_front, fields_fit}
use Rattle.pe_rewrite.proofs.Roomy.{IsLast, RoomFits, lies_at, own_is_last, room_fits}
use Rattle.pe_rewrite.proofs.Writes.{inner, length-changed, splice_over, start_of, sum_length, whole_front}

-- ---- bytes that are taken out

pub length_cut : (p n : ℕ) (b : List ℕ) → p + n ≤ length b → length (cut p n b) ≡ length b - n
unfolding cut
length_cut p n b h = length-append (take p b) (drop (p + n) b) ∙ omega (arith, length-take-le p b (omega (arith, h)), length-drop (p + n) b, h)

pub cut_set : (old b one two : List ℕ) (p n : ℕ) → p + n ≤ length b → one ≡ splice old 0 (take p b) → two ≡ splice one p (drop (p + n) b) → two ≡ splice old 0 (cut p n b)
unfolding cut
cut_set old b one two p n h i j =
    let x : List ℕ = take p b in
    let at : p ≡ 0 + length x = omega (arith, length-take-le p b (omega (arith, h))) in
    j ∙ ap (λ (o : List ℕ). splice o p (drop (p + n) b)) i ∙ ap (λ (k : ℕ). splice (splice old 0 x) k (drop (p + n) b)) at ∙ splice-splice old 0 x (drop (p + n) b) (omega arith)

-- ---- lengths

-- the fields lie in a file that has the bytes before the section
pub fields_before : (h : HeaderView) (m : Room) (n k : ℕ) → GoneLies h m n → m.end ≤ k → FieldsLie h m k
fields_before h m n k l from = record { sum = l.fields.sum; entry = l.fields.entry; row = omega (arith, l.fields.row, from); room = l.fields.room; name = l.fields.name }

pub fields_cut : (h : HeaderView) (m : Room) (b : List ℕ) → GoneLies h m (length b) → FieldsLie h m (length (cut m.end m.more b))
fields_cut h m b l = fields_before h m (length b) (length (cut m.end m.more b)) l (omega (arith, length_cut m.end m.more b l.end, l.end))

pub length_gone : (h : HeaderView) (m : Room) (b : List ℕ) → GoneLies h m (length b) → length (gone_file h m b) ≡ length b - m.more
length_gone h m b l =
    length-changed (room_changes h.dos_header.pe_pointer m) (cut m.end m.more b) (fields_fit h m (length (cut m.end m.more b)) (fields_cut h m b l)) ∙ length_cut m.end m.more b l.end

pub length_emptied : (p : Place) (b : List ℕ) → raw_end p.section ≤ length b → length (emptied_file p b) ≡ length b
length_emptied p b h = grind (arith, length-splice, length-replicate)

-- an entry of zeros
zeros_inside : (e : ℕ) (b : List ℕ) → e + 8 ≤ length b → e + length {A = ℕ} (replicate 8 0) ≤ length b
zeros_inside e b h = omega (arith, h, length-replicate {A = ℕ} 8 0)

pub length_zeroed : (e : ℕ) (b : List ℕ) → e + 8 ≤ length b → length (splice b e (replicate 8 0)) ≡ length b
length_zeroed e b h = length-splice b e (replicate 8 0) (zeros_inside e b h)

pub length_cleared : (h : HeaderView) (e : ℕ) (b : List ℕ) → h.dos_header.pe_pointer + 92 ≤ length b → e + 8 ≤ length b → length (cleared_file h e b) ≡ length b
length_cleared h e b sum entry = grind (arith, length_zeroed, sum_length)

-- ---- what is written

pub gone_set : (h : HeaderView) (m : Room) (old b one two : List ℕ) → GoneLies h m (length b) → one ≡ splice old 0 (cut m.end m.more b) → two ≡ changed (room_changes h.dos_header.pe_pointer m) one → two ≡ splice old 0 (gone_file h m b)
gone_set h m old b one two l i e =
    e ∙ changed_front (room_changes h.dos_header.pe_pointer m) old (cut m.end m.more b) one (fields_fit h m (length (cut m.end m.more b)) (fields_cut h m b l)) i

pub emptied_set : (p : Place) (old b one two : List ℕ) → raw_end p.section ≤ length b → one ≡ splice old 0 b → two ≡ splice one p.section.pointer_to_raw_data (replicate p.section.size_of_raw_data 0) → two ≡ splice old 0 (emptied_file p b)
emptied_set p old b one two h i e = grind (arith, inner, length-replicate)

pub cleared_set : (h : HeaderView) (old one two : List ℕ) (n e sum : ℕ) → n ≤ length old → h.dos_header.pe_pointer + 92 ≤ n → e + 8 ≤ n → one ≡ splice old e (replicate 8 0) → sum ≡ sum_of h (take n one) →
    two ≡ splice one (h.dos_header.pe_pointer + 88) (bytes_of 4 sum) → two ≡ splice old 0 (cleared_file h e (take n old))
unfolding with_sum
cleared_set h old one two n e sum room far entry i s j =
    grind (arith, length-take-le, length_zeroed, inner, whole_front, zeros_inside, start_of, length-bytes_of)

-- the same over a file at the start of a buffer
pub cleared_over : (h : HeaderView) (e : ℕ) (old b now new : List ℕ) (n : ℕ) → h.dos_header.pe_pointer + 92 ≤ length b → e + 8 ≤ length b → now ≡ splice old 0 b → length b ≡ n → new ≡ splice now 0 (cleared_file h e (take n now)) → new ≡ splice old 0 (cleared_file h e b)
cleared_over h e old b now new n sum entry i size is = grind (arith, start_of, splice_over, length_cleared)

-- a file at the start of a buffer leaves its length
pub length_front : (old f now : List ℕ) → now ≡ splice old 0 f → length f ≤ length old → length now ≡ length old
length_front old f now e h = ap length e ∙ length-splice old 0 f (omega (arith, h))

-- ---- the image

-- the section goes, and this changes
pub record IsGone (b : List ℕ) (h : HeaderView) (t : Target) (m : Room) : Type 0 where
  pub index : ℕ
  pub section : IndexIs b h t.rva index
  pub is : IsLast b h t.file_alignment 0 (own_section b h t 0 index)
  pub fits : RoomFits b h t 0 (own_section b h t 0 index)
  pub last : index + 1 ≡ h.coff_header.number_of_sections
  pub more : 0 < index
  pub value : gone_at h t (own_section b h t 0 index) ≡ m

pub is_gone : (b : List ℕ) (h : HeaderView) (t : Target) (m : Room) → HeadersLie b h t → gone_of b h t ≡ Ok m → IsGone b h t m
is_gone b h t m headers e =
    let i = first_ok (index_of b h t.rva) _ m e in
    let l : LastSection = own_section b h t 0 i.0 in
    let r = first_ok (room_beside b h t 0 l) _ m i.1.1 in
    let tests = first_ok (outcome {Y = Unit {0}} (rvas_tests b h t l) tt) _ r.0 r.1.0 in
    let at : IndexIs b h t.rva i.0 = index_is b h t.rva i.0 i.1.0 in
    let one = passed (ends_table h l) _ _ m r.1.1 in
    let last : (i.0 + 1 == h.coff_header.number_of_sections) ≡ true = (both (i.0 + 1 == h.coff_header.number_of_sections) (nat_lt 0 i.0) one.0).0 in
    let more : nat_lt 0 i.0 ≡ true = (both (i.0 + 1 == h.coff_header.number_of_sections) (nat_lt 0 i.0) one.0).1 in
    record {
      index = i.0;
      section = at;
      is = own_is_last b h t 0 i.0 headers.inside (positive t.file_alignment headers.power) at.below;
      fits = room_fits b h t 0 l (room_at h t 0 l) r.0 tests.1.1;
      last = grind (arith, nat_tests, last);
      more = grind (arith, nat_tests, more);
      value = value_is (gone_tests b h t l) (gone_at h t l) m r.1.1;
    }

-- the debug entries lie in the file
pub entries_inside : (b : List ℕ) (h : HeaderView) (t : Target) (l : LastSection) (m : Room) → room_beside b h t 0 l ≡ Ok m → 0 < l.debug.count → l.debug.offset + 28 * l.debug.count ≤ length b
entries_inside b h t l m e some =
    let tests = first_ok (outcome {Y = Unit {0}} (rvas_tests b h t l) tt) _ m e in
    let fits : RoomFits b h t 0 l = room_fits b h t 0 l (room_at h t 0 l) m tests.1.1 in
    let lie = lie_at h t 0 l fits.entries some in
    let to : l.debug.offset + 28 * l.debug.count ≤ l.section.pointer_to_raw_data = lie.1 in
    omega (arith, to, fits.inside)

pub gone_lies : (b : List ℕ) (h : HeaderView) (t : Target) (m : Room) → TargetIs h t → HeadersLie b h t → IsGone b h t m → GoneLies h m (length b)
gone_lies b h t m of headers x = grind (arith, lies_at)

-- the entry and the checksum lie in the headers
pub record EntryIn (h : HeaderView) (e n : ℕ) : Type 0 where
  pub sum : h.dos_header.pe_pointer + 92 ≤ e
  pub entry : e + 8 ≤ n

pub entry_before : (b : List ℕ) (h : HeaderView) (t : Target) → TargetIs h t → HeadersLie b h t → EntryIn h t.entry (sections_offset h)
entry_before b h t of headers = grind (arith, wide)

pub entry_in : (b : List ℕ) (h : HeaderView) (t : Target) → TargetIs h t → HeadersLie b h t → EntryIn h t.entry (length b)
entry_in b h t of headers = grind (arith, entry_before)

-- the place that becomes zeros
pub record IsEmptied (b : List ℕ) (h : HeaderView) (t : Target) (p : Place) : Type 0 where
  pub index : ℕ
  pub section : IndexIs b h t.rva index
  pub free : SectionIs b h t.file_alignment index 0
  pub value : place_at b h t 0 index ≡ p

pub is_emptied : (b : List ℕ) (h : HeaderView) (t : Target) (p : Place) → emptied_of b h t ≡ Ok p → IsEmptied b h t p
is_emptied b h t p e =
    let i = first_ok (index_of b h t.rva) _ p e in
    record {
      index = i.0;
      section = index_is b h t.rva i.0 i.1.0;
      free = section_is_free b h t i.0 0 (place_at b h t 0 i.0) p i.1.1;
      value = value_is (section_tests b h t i.0 0) (place_at b h t 0 i.0) p i.1.1;
    }

pub emptied_inside : (b : List ℕ) (h : HeaderView) (t : Target) (p : Place) → IsEmptied b h t p → raw_end p.section ≤ length b
emptied_inside b h t p x = subst (λ (q : Place). raw_end q.section ≤ length b) x.value x.free.inside

pub stayed_by : (b : List ℕ) (h : HeaderView) (t : Target) (p : Place) (old new : List ℕ) → emptied_of b h t ≡ Ok p → new ≡ splice old 0 (cleared_file h p.entry (emptied_file p b)) → new ≡ splice old 0 (cleared_file h t.entry (stayed_file (emptied_of b h t) b))
stayed_by b h t p old new e is = grind (arith, is_emptied)

pub length_stayed : (b : List ℕ) (h : HeaderView) (t : Target) (r : Result Place RewriteRefusal) → emptied_of b h t ≡ r → length (stayed_file r b) ≡ length b
length_stayed b h t (Ok p) e = length_emptied p b (emptied_inside b h t p (is_emptied b h t p e))
length_stayed b h t (Err k) e = refl
