-- The laws, of the file of an image without resources.
use Rattle.std.proofs.Common.{◌≡◌, ◌≢◌, ℕ, zero, suc, ◌+◌, ◌-◌, ◌*◌, ◌<◌, ◌≤◌, ◌==◌, ◌&&◌, Bool, true, false, List, [], length, get_or, take, replicate, Option, Some, None, Result, Ok, Err, refl, ap, sym, ◌∙◌, subst, arith}
use Rattle.pe_rewrite.proofs.Cited.{nat_le, nat_lt, if◌then◌else◌, option_map, cases_lt, nat_tests, ext_get_or, get_or-append_right}
use Rattle.pe_rewrite.proofs.Cited.{get_or-drop, get_or-replicate, get_or-take, get_or_append_left, length-replicate, length-set}
use Rattle.pe_rewrite.proofs.Cited.{length-take-le, take_all, AreBytes, le, splice, absent_directory, HeaderView}
use Rattle.pe_rewrite.proofs.Cited.{OptionalHeaderView, directories_offset, header_at, outcome, data_directory, each, covers}
use Rattle.pe_rewrite.proofs.Cited.{offset_by, offset_of, section_map, sections_offset, ParseMode, ParseOptions, SectionTable}
use Rattle.pe_rewrite.proofs.Cited.{get_or-each, length-each, positive, get_or-splice, directories_end, directories_end_after}
use Rattle.pe_rewrite.proofs.Cited.{headers_changed, range_below, range_past, headers_change, Stays, wide, FieldsLie, GoneLies}
use Rattle.pe_rewrite.proofs.Cited.{cleared_file, cut, edited_of, gone_file, removed_of, stayed_file, sum_of, header_tests}
use Rattle.pe_rewrite.proofs.Cited.{headers_end, index_of, is_outside, section_header, section_headers, target_of, emptied_of}
use Rattle.pe_rewrite.proofs.Cited.{ends_table, gone_at, gone_of, gone_tests, RewriteRefusal, is_before, is_before_or_same}
use Rattle.pe_rewrite.proofs.Cited.{own_section, room_beside, table_end, entry_of, headers_roomy, is_emptied_at, is_emptied_over}
use Rattle.pe_rewrite.proofs.Cited.{is_gone_over, optional_roomy, Place, Target, LastSection, Room, or_parts, same_some, same_ok}
use Rattle.pe_rewrite.proofs.Cited.{passed, value_is, both}
use Rattle.pe_rewrite.proofs.Calls.{Found, entry_found, found, gone_is, lies_gone, stayed_is, stayed_length}
use Rattle.pe_rewrite.proofs.Mapped.{Covered, by_each, covered_of, covers_none, first_some, found_each, maps_but_one, offset_none}
use Rattle.pe_rewrite.proofs.Placed.{TargetIs}
use Rattle.pe_rewrite.proofs.Removed.{EntryIn, IsEmptied, IsGone, emptied_inside, entry_before, length_stayed, fields_cut, is_emptied, is_gone, length_cleared, length_gone, length_zeroed}
use Rattle.pe_rewrite.proofs.RoomBytes.{fields_byte, fields_read}
use Rattle.pe_rewrite.proofs.RoomHeaders.{headers_with_room, same_by}
use Rattle.pe_rewrite.proofs.RoomImages.{file_roomy, six_of, sum_roomy}
use Rattle.pe_rewrite.proofs.Results.{first_ok, then_is}
use Rattle.pe_rewrite.proofs.RoomMapped.{within}
use Rattle.pe_rewrite.proofs.Stays.{Past, byte_past, sum_byte}
use Rattle.pe_rewrite.proofs.WrittenHeaders.{sum_read, sum_stays}
use Rattle.pe_rewrite.proofs.WrittenSections.{all_by, other_index, out_of, row_same}

-- ---- an entry of zeros

pub cleared_byte : (h : HeaderView) (e : ℕ) (b : List ℕ) (k : ℕ) → h.dos_header.pe_pointer + 92 ≤ length b → e + 8 ≤ length b → Past e 8 k → Past (h.dos_header.pe_pointer + 88) 4 k → get_or (cleared_file h e b) k 0 ≡ get_or b k 0
cleared_byte h e b k sum entry out past = grind (arith, sum_byte, length_zeroed, byte_past, length-replicate)

-- n bytes of zeros are the number 0
le_zeros : (f : List ℕ) (p n : ℕ) → ((k : ℕ) → p ≤ k → k < p + n → get_or f k 0 ≡ 0) → le f p n ≡ 0
unfolding le
le_zeros f p zero all = refl
le_zeros f p (suc n) all =
    let rest : le f p n ≡ 0 = le_zeros f p n (λ k from lt. all k from (omega (arith, lt))) in
    let last : get_or f (p + n) 0 ≡ 0 = all (p + n) (omega arith) (omega arith) in
    rw (rest, last) (omega arith)

zero_in : (b : List ℕ) (e n k : ℕ) → e + n ≤ length b → e ≤ k → k < e + n → get_or (splice b e (replicate n 0)) k 0 ≡ 0
zero_in b e n k h from lt = grind (arith, length-replicate, nat_tests, get_or-splice, get_or-replicate)

cleared_zero : (h : HeaderView) (e : ℕ) (b : List ℕ) (k : ℕ) → h.dos_header.pe_pointer + 92 ≤ e → e + 8 ≤ length b → e ≤ k → k < e + 8 → get_or (cleared_file h e b) k 0 ≡ 0
cleared_zero h e b k sum entry from lt =
    sum_byte h (splice b e (replicate 8 0)) k (omega (arith, length_zeroed e b entry, sum, entry)) (range_past (h.dos_header.pe_pointer + 88) 4 k (omega (arith, from, sum))) ∙ zero_in b e 8 k entry from lt

-- the headers of an image b are parsed in a file g with the same headers, with it
headers_cleared : (mode : ParseMode) (g b : List ℕ) (h : HeaderView) (o : OptionalHeaderView) (e : ℕ) → header_at b mode ≡ Ok h → h.optional_header ≡ Some o →
    e ≡ h.dos_header.pe_pointer + 24 + directories_offset (o.standard_fields.magic == 0x20B) + 8 * 2 → e + 8 ≤ directories_end h → directories_end h ≤ length b → directories_end h ≤ length g →
    ((k : ℕ) → k < directories_end h → get_or g k 0 ≡ get_or b k 0) → header_at (cleared_file h e g) mode ≡ Ok (headers_changed 2 absent_directory (sum_of h (cleared_file h e g)) h)
unfolding data_directory
headers_cleared mode g b h o e parsed some at inside end there head =
    let c : ℕ = h.dos_header.pe_pointer + 88 in
    let f : List ℕ = cleared_file h e g in
    let fields : 96 ≤ directories_offset (o.standard_fields.magic == 0x20B) = wide (o.standard_fields.magic == 0x20B) in
    let sum : h.dos_header.pe_pointer + 92 ≤ e = omega (arith, at, fields) in
    let entry : e + 8 ≤ length g = omega (arith, inside, there) in
    let far : h.dos_header.pe_pointer + 92 ≤ length g = omega (arith, sum, entry) in
    let size : length f ≡ length g = length_cleared h e g far entry in
    let stays : Stays f b c e (directories_end h) = record {
      apart = omega (arith, sum);
      entry = inside;
      inside = omega (arith, size, there);
      inside_before = end;
      before = λ k lt. cleared_byte h e g k far entry (range_below e 8 k (omega (arith, lt, sum))) (range_below c 4 k lt) ∙ head k (omega (arith, lt, sum, inside));
      between = λ k past lt. cleared_byte h e g k far entry (range_below e 8 k lt) (range_past c 4 k past) ∙ head k (omega (arith, lt, inside));
      after = λ k past lt. cleared_byte h e g k far entry (range_past e 8 k past) (range_past c 4 k (omega (arith, past, sum))) ∙ head k lt;
    } in
    let z : List ℕ = splice g e (replicate 8 0) in
    let room : h.dos_header.pe_pointer + 92 ≤ length z = omega (arith, length_zeroed e g entry, far) in
    headers_change f b mode h o 2 e absent_directory parsed some at stays (grind (arith, le_zeros, cleared_zero))
    ∙ ap (λ (n : ℕ). Ok (headers_changed 2 absent_directory n h)) (sum_read h z room ∙ sym (sum_stays h z room))

-- ---- bytes that are taken out

cut_before : (p n k : ℕ) (b : List ℕ) → p + n ≤ length b → k < p → get_or (cut p n b) k 0 ≡ get_or b k 0
unfolding cut
cut_before p n k b h lt = grind (arith, length-take-le, get_or_append_left, get_or-take)

-- ---- the file

found_by : (b : List ℕ) (h : HeaderView) (t : Target) (f : List ℕ) → target_of h ≡ Ok t → removed_of b h ≡ Ok f → Found b h t
found_by b h t f e i =
    let s = first_ok (outcome {Y = Unit {0}} (header_tests b h t) tt) _ f (sym (then_is (target_of h) _ t e) ∙ i) in
    found b h t s.0 e s.1.0

-- f is the file without the resource section
pub record IsAway (b : List ℕ) (h : HeaderView) (t : Target) (m : Room) (f : List ℕ) : Type 0 where
  pub found : Found b h t
  pub gone : IsGone b h t m
  pub lies : GoneLies h m (length b)
  pub file : cleared_file h m.place.entry (gone_file h m b) ≡ f

pub is_away : (b : List ℕ) (h : HeaderView) (t : Target) (m : Room) (f : List ℕ) → target_of h ≡ Ok t → gone_of b h t ≡ Ok m → edited_of b h [] ≡ Ok f → IsAway b h t m f
is_away b h t m f e g i =
    let x : Found b h t = found_by b h t f e i in
    record {
      found = x;
      gone = is_gone b h t m x.headers g;
      lies = lies_gone b h t m x g;
      file = same_ok (removed_of b h) (cleared_file h m.place.entry (gone_file h m b)) f (gone_is b h t m x g) i;
    }

-- the section that goes
pub record GoneIs (b : List ℕ) (h : HeaderView) (t : Target) (m : Room) : Type 0 where
  pub count : m.number_of_sections + 1 ≡ h.coff_header.number_of_sections
  pub row : m.place.row ≡ sections_offset h + 40 * m.number_of_sections
  pub start : headers_end h ≤ m.end
  pub pointer : m.end ≡ (section_header b h m.number_of_sections).pointer_to_raw_data
  pub size : m.more ≡ (section_header b h m.number_of_sections).size_of_raw_data
  pub entry : m.place.entry ≡ t.entry

pub gone_section : (b : List ℕ) (h : HeaderView) (t : Target) (m : Room) → IsGone b h t m → GoneIs b h t m
gone_section b h t m x = grind arith

-- the same by the definition alone
gone_value : (b : List ℕ) (h : HeaderView) (t : Target) (m : Room) → gone_of b h t ≡ Ok m → (i : ℕ) × ((i + 1 ≡ h.coff_header.number_of_sections) × (gone_at h t (own_section b h t 0 i) ≡ m))
gone_value b h t m e =
    let i = first_ok (index_of b h t.rva) _ m e in
    let l : LastSection = own_section b h t 0 i.0 in
    let r = first_ok (room_beside b h t 0 l) _ m i.1.1 in
    let one = passed (ends_table h l) _ _ m r.1.1 in
    let last : (i.0 + 1 == h.coff_header.number_of_sections) ≡ true = (both (i.0 + 1 == h.coff_header.number_of_sections) (nat_lt 0 i.0) one.0).0 in
    (i.0, (grind (arith, nat_tests, last), value_is (gone_tests b h t l) (gone_at h t l) m r.1.1))

pub gone_fields : (b : List ℕ) (h : HeaderView) (t : Target) (m : Room) → gone_of b h t ≡ Ok m → (m.number_of_sections + 1 ≡ h.coff_header.number_of_sections) × (m.size_of_image ≡ (section_header b h m.number_of_sections).virtual_address)
gone_fields b h t m e =
    let v = gone_value b h t m e in
    subst (λ (r : Room). (r.number_of_sections + 1 ≡ h.coff_header.number_of_sections) × (r.size_of_image ≡ (section_header b h r.number_of_sections).virtual_address)) v.1.1 (v.1.0, refl)

pub gone_data : (b : List ℕ) (h : HeaderView) (t : Target) (m : Room) → gone_of b h t ≡ Ok m → (m.end ≡ (section_header b h m.number_of_sections).pointer_to_raw_data) × (m.more ≡ (section_header b h m.number_of_sections).size_of_raw_data)
gone_data b h t m e =
    let v = gone_value b h t m e in
    subst (λ (r : Room). (r.end ≡ (section_header b h r.number_of_sections).pointer_to_raw_data) × (r.more ≡ (section_header b h r.number_of_sections).size_of_raw_data)) v.1.1 (refl, refl)

-- ---- its bytes

pub away_length : (b : List ℕ) (h : HeaderView) (t : Target) (m : Room) (f : List ℕ) → IsAway b h t m f → length f ≡ length b - m.more
away_length b h t m f y = grind (arith, length_gone, length_cleared)

-- a byte of the file, in no field that changes, is one of what was cut
away_byte : (b : List ℕ) (h : HeaderView) (t : Target) (m : Room) (f : List ℕ) (k : ℕ) → IsAway b h t m f → Past (h.dos_header.pe_pointer + 6) 2 k → Past (h.dos_header.pe_pointer + 12) 4 k → Past (h.dos_header.pe_pointer + 32) 4 k →
    Past (h.dos_header.pe_pointer + 80) 4 k → Past (h.dos_header.pe_pointer + 88) 4 k → Past m.place.entry 8 k → Past m.place.row 40 k → get_or f k 0 ≡ get_or (cut m.end m.more b) k 0
away_byte b h t m f k y count symbols initialized image sum entry row =
    let size : length (gone_file h m b) ≡ length b - m.more = length_gone h m b y.lies in
    let l : FieldsLie h m m.end = y.lies.fields in
    ap (λ (g : List ℕ). get_or g k 0) (sym y.file)
    ∙ cleared_byte h m.place.entry (gone_file h m b) k (omega (arith, size, l.sum, l.entry, l.row, y.lies.end)) (omega (arith, size, l.entry, l.row, y.lies.end)) entry sum
    ∙ fields_byte h m (cut m.end m.more b) k (fields_cut h m b y.lies) count symbols initialized image entry row

pub away_before : (b : List ℕ) (h : HeaderView) (t : Target) (m : Room) (f : List ℕ) (k : ℕ) → IsAway b h t m f → k < m.end → is_gone_over h m k ≡ false → get_or f k 0 ≡ get_or b k 0
away_before b h t m f k y lt over =
    let p : ℕ = h.dos_header.pe_pointer in
    let s = six_of (nat_le (p + 6) k && nat_lt k (p + 6 + 2)) (nat_le (p + 12) k && nat_lt k (p + 12 + 4)) (nat_le (p + 32) k && nat_lt k (p + 32 + 4)) (nat_le (p + 80) k && nat_lt k (p + 80 + 4)) (nat_le (p + 88) k && nat_lt k (p + 88 + 4)) _ over in
    let both = or_parts (nat_le m.place.entry k && nat_lt k (m.place.entry + 8)) (nat_le m.place.row k && nat_lt k (m.place.row + 40)) s.1.1.1.1.1 in
    away_byte b h t m f k y s.0 s.1.0 s.1.1.0 s.1.1.1.0 s.1.1.1.1.0 both.0 both.1 ∙ cut_before m.end m.more k b y.lies.end lt

pub away_after : (b : List ℕ) (h : HeaderView) (t : Target) (m : Room) (f : List ℕ) (k : ℕ) → IsAway b h t m f → m.end ≤ k → get_or f k 0 ≡ get_or b (k + m.more) 0
unfolding cut
away_after b h t m f k y from =
    let p : ℕ = h.dos_header.pe_pointer in
    let l : FieldsLie h m m.end = y.lies.fields in
    let past : (q w : ℕ) → q + w ≤ m.end → Past q w k = λ q w to. range_past q w k (omega (arith, to, from)) in
    away_byte b h t m f k y (past (p + 6) 2 (omega (arith, l.sum, l.entry, l.row))) (past (p + 12) 4 (omega (arith, l.sum, l.entry, l.row))) (past (p + 32) 4 (omega (arith, l.sum, l.entry, l.row)))
    (past (p + 80) 4 (omega (arith, l.sum, l.entry, l.row))) (past (p + 88) 4 (omega (arith, l.sum, l.entry, l.row))) (past m.place.entry 8 (omega (arith, l.entry, l.row))) (past m.place.row 40 l.row)
    ∙ grind (arith, length-take-le, get_or-append_right, get_or-drop, y.lies.end)

-- a byte between the directories and the section stays, unless it is of the section header
away_table : (b : List ℕ) (h : HeaderView) (t : Target) (m : Room) (f : List ℕ) (k : ℕ) → IsAway b h t m f → sections_offset h ≤ k → k < m.end → Past m.place.row 40 k → get_or f k 0 ≡ get_or b k 0
away_table b h t m f k y from lt row =
    let p : ℕ = h.dos_header.pe_pointer in
    let g : GoneIs b h t m = gone_section b h t m y.gone in
    let i : EntryIn h t.entry (sections_offset h) = entry_before b h t y.found.of y.found.headers in
    away_byte b h t m f k y (range_past (p + 6) 2 k (omega (arith, from, i.sum, i.entry))) (range_past (p + 12) 4 k (omega (arith, from, i.sum, i.entry))) (range_past (p + 32) 4 k (omega (arith, from, i.sum, i.entry)))
    (range_past (p + 80) 4 k (omega (arith, from, i.sum, i.entry))) (range_past (p + 88) 4 k (omega (arith, from, i.sum, i.entry))) (range_past m.place.entry 8 k (omega (arith, from, g.entry, i.entry))) row
    ∙ cut_before m.end m.more k b y.lies.end lt

-- ---- its headers

-- where the entry is, by the optional header
at_of : (h : HeaderView) (t : Target) (of : TargetIs h t) → t.entry ≡ h.dos_header.pe_pointer + 24 + directories_offset (of.optional.standard_fields.magic == 0x20B) + 8 * 2
at_of h t of = ap (λ (x : Target). x.entry) (sym of.value)

end_of : (h : HeaderView) (t : Target) (of : TargetIs h t) → directories_end h ≡ h.dos_header.pe_pointer + 24 + directories_offset (of.optional.standard_fields.magic == 0x20B) + 8 * length of.optional.data_directories
end_of h t of = ap (directories_end_after h.dos_header.pe_pointer) of.some

pub away_headers : (mode : ParseMode) (b : List ℕ) (h : HeaderView) (t : Target) (m : Room) (f : List ℕ) → AreBytes b → header_at b mode ≡ Ok h → IsAway b h t m f →
    header_at f mode ≡ Ok (headers_changed 2 absent_directory (sum_of h f) (headers_roomy m h))
away_headers mode b h t m f small parsed y =
    let q : ℕ = h.dos_header.pe_pointer in
    let of : TargetIs h t = y.found.of in
    let o : OptionalHeaderView = of.optional in
    let g : List ℕ = gone_file h m b in
    let h2 : HeaderView = headers_roomy m h in
    let e : ℕ = m.place.entry in
    let n : ℕ = directories_end h in
    let x : GoneIs b h t m = gone_section b h t m y.gone in
    let l : FieldsLie h m m.end = y.lies.fields in
    let at : e ≡ q + 24 + directories_offset (o.standard_fields.magic == 0x20B) + 8 * 2 = x.entry ∙ at_of h t of in
    let end : n ≡ q + 24 + directories_offset (o.standard_fields.magic == 0x20B) + 8 * length o.data_directories = end_of h t of in
    let inside : e + 8 ≤ n = omega (arith, at, end, of.many) in
    let to : n ≤ m.place.row = omega (arith, x.row, y.found.headers.directories) in
    let size : length g ≡ length b - m.more = length_gone h m b y.lies in
    let there : n ≤ length g = omega (arith, size, to, l.row, y.lies.end) in
    let same = same_by m g b q n
    (λ k lt a i d j f. fields_byte h m (cut m.end m.more b) k (fields_cut h m b y.lies) a i d j f (range_below m.place.row 40 k (omega (arith, lt, to))) ∙ cut_before m.end m.more k b y.lies.end (omega (arith, lt, to, l.row)))
    l.sum inside there (omega (arith, to, l.row, y.lies.end)) in
    let read = fields_read h m (cut m.end m.more b) (fields_cut h m b y.lies) (grind (arith, y.gone)) in
    let roomy : header_at g mode ≡ Ok h2 = headers_with_room g b mode h o m parsed of.some y.gone.fits.dos at same read in
    let some : h2.optional_header ≡ Some (optional_roomy m o) = ap (option_map (optional_roomy m)) of.some in
    let end_with : directories_end h2 ≡ n =
    ap (directories_end_after q) some ∙ ap (λ (k : ℕ). q + 24 + directories_offset (o.standard_fields.magic == 0x20B) + 8 * k) (length-set o.data_directories 2 (entry_of m.place)) ∙ sym end in
    let done = headers_cleared mode g g h2 (optional_roomy m o) e roomy some at (omega (arith, inside, end_with)) (omega (arith, there, end_with)) (omega (arith, there, end_with)) (λ k lt. refl) in
    let file : cleared_file h2 e g ≡ f = file_roomy h m (splice g e (replicate 8 0)) ∙ y.file in
    subst (λ (z : List ℕ). header_at z mode ≡ Ok (headers_changed 2 absent_directory (sum_of h2 z) h2)) file done
    ∙ ap (λ (k : ℕ). Ok (headers_changed 2 absent_directory k h2)) (sum_roomy q h.optional_header m f)

-- ---- its sections

away_row : (b : List ℕ) (h : HeaderView) (t : Target) (m : Room) (f : List ℕ) (k : ℕ) → IsAway b h t m f → k < m.number_of_sections → section_header f (headers_roomy m h) k ≡ section_header b h k
away_row b h t m f k y lt =
    let x : GoneIs b h t m = gone_section b h t m y.gone in
    let q : ℕ = sections_offset h + 40 * k in
    let last : q + 40 ≤ m.place.row = omega (arith, lt, x.row) in
    let byte : (j : ℕ) → q ≤ j → j < q + 40 → get_or f j 0 ≡ get_or b j 0 = λ j from to. away_table b h t m f j y (omega (arith, from)) (omega (arith, to, last, y.lies.fields.row)) (range_below m.place.row 40 j (omega (arith, to, last))) in
    row_same f b q (omega (arith, away_length b h t m f y, last, y.lies.fields.row, y.lies.end)) (omega (arith, last, y.lies.fields.row, y.lies.end)) byte

each_take : {X : Type 0} (f g : ℕ → X) (m n : ℕ) (d : X) → m ≤ n → ((k : ℕ) → k < m → f k ≡ g k) → each f m ≡ take m (each g n)
each_take f g m n d le same =
    let size : length (each f m) ≡ m = length-each f m in
    let rest : length (take m (each g n)) ≡ m = length-take-le m (each g n) (omega (arith, length-each g n, le)) in
    ext_get_or d (each f m) (take m (each g n)) (size ∙ sym rest)
    (λ k lt.
    let below : k < m = omega (arith, lt, size) in
    get_or-each f m k d below ∙ same k below ∙ sym (get_or-take m (each g n) k d below ∙ get_or-each g n k d (omega (arith, below, le))))

pub away_sections : (b : List ℕ) (h : HeaderView) (t : Target) (m : Room) (f : List ℕ) → IsAway b h t m f → section_headers f (headers_roomy m h) ≡ take m.number_of_sections (section_headers b h)
away_sections b h t m f y =
    let x : GoneIs b h t m = gone_section b h t m y.gone in
    each_take (section_header f (headers_roomy m h)) (section_header b h) m.number_of_sections h.coff_header.number_of_sections (section_header b h 0) (omega (arith, x.count)) (λ k lt. away_row b h t m f k y lt)

-- ---- its map

pub away_map : (b : List ℕ) (h : HeaderView) (t : Target) (m : Room) (f : List ℕ) (resolve : Bool) (alignment a : ℕ) → IsAway b h t m f → is_outside (section_header b h m.number_of_sections) a ≡ true →
    offset_of resolve alignment (section_headers f (headers_roomy m h)) a ≡ offset_of resolve alignment (section_headers b h) a
away_map b h t m f resolve alignment a y out =
    let x : GoneIs b h t m = gone_section b h t m y.gone in
    let i : ℕ = m.number_of_sections in
    let s : SectionTable = section_header b h i in
    sym
    (maps_but_one resolve alignment (section_header b h) (section_header f (headers_roomy m h)) h.coff_header.number_of_sections i i a (omega (arith, x.count)) (omega arith)
    (λ k lt other. ap (offset_by alignment a) (sym (away_row b h t m f k y lt))) (offset_none alignment a s (out_of s a out)) (λ lt. absurd (omega (arith, lt))))

pub away_mapped : (o : ParseOptions) (b : List ℕ) (h : HeaderView) (t : Target) (m : Room) (f : List ℕ) (w : OptionalHeaderView) (a q : ℕ) → IsAway b h t m f → h.optional_header ≡ Some w → o.resolve_rva ≡ true →
    is_outside (section_header b h m.number_of_sections) a ≡ true → section_map o (section_headers b h) w.windows_fields.file_alignment a ≡ Some q → get_or f q 0 ≡ get_or b q 0
away_mapped o b h t m f w a q y some resolves out e =
    let x : GoneIs b h t m = gone_section b h t m y.gone in
    let z : IsGone b h t m = y.gone in
    let l : LastSection = own_section b h t 0 z.index in
    let i : ℕ = z.index in
    let index : m.number_of_sections ≡ i = omega (arith, x.count, z.last) in
    let alignment : ℕ = t.file_alignment in
    let same : w.windows_fields.file_alignment ≡ alignment = ap (λ (v : OptionalHeaderView). v.windows_fields.file_alignment) (same_some w y.found.of.optional (sym some ∙ y.found.of.some)) ∙ ap (λ (v : Target). v.file_alignment) y.found.of.value in
    let n : ℕ = h.coff_header.number_of_sections in
    let g : ℕ → Option ℕ = λ k. offset_by alignment a (section_header b h k) in
    let resolved : offset_of true alignment (section_headers b h) a ≡ Some q = ap (λ (r : Bool). offset_of r alignment (section_headers b h) a) (sym resolves) ∙ ap (λ (u : ℕ). offset_of o.resolve_rva u (section_headers b h) a) (sym same) ∙ e in
    let there = found_each g n q (sym (by_each true alignment (section_header b h) n a ∙ ap (λ (r : Bool). if r then first_some (each g n) else None) y.found.headers.power) ∙ resolved) in
    let u : SectionTable = section_header b h there.index in
    let c : Covered alignment a q u = covered_of alignment a q u there.is in
    let other : there.index ≢ i = λ is.
    let own : u ≡ section_header b h m.number_of_sections = ap (section_header b h) (is ∙ sym index) in
    let no : covers alignment a u ≡ false = ap (covers alignment a) own ∙ covers_none alignment a (section_header b h m.number_of_sections) (out_of (section_header b h m.number_of_sections) a out) in
    let yes : covers alignment a u ≡ true = c.covers in
    cc in
    let before : is_before alignment (table_end h i) l.section u ≡ true =
    other_index there.index i (is_before alignment (table_end h i) l.section u) other (all_by (is_before_or_same b h t l there.index) (is_before_or_same b h t l) n there.index there.below refl z.fits.last) in
    let w = within (u.size_of_raw_data == 0) alignment (table_end h i) a q l.section u (positive alignment y.found.headers.power) refl before c in
    let end : l.section.pointer_to_raw_data ≡ m.end = ap (λ (k : ℕ). (section_header b h k).pointer_to_raw_data) (sym index) ∙ sym x.pointer in
    away_table b h t m f q y (omega (arith, w.0)) (omega (arith, w.1, end)) (range_past m.place.row 40 q (omega (arith, w.0, x.row, index)))

-- ---- the section stays

-- f is the file with the resource section
pub record IsStayed (b : List ℕ) (h : HeaderView) (t : Target) (f : List ℕ) : Type 0 where
  pub found : Found b h t
  pub file : cleared_file h t.entry (stayed_file (emptied_of b h t) b) ≡ f

pub is_stayed : (b : List ℕ) (h : HeaderView) (t : Target) (k : RewriteRefusal) (f : List ℕ) → target_of h ≡ Ok t → gone_of b h t ≡ Err k → edited_of b h [] ≡ Ok f → IsStayed b h t f
is_stayed b h t k f e g i =
    let x : Found b h t = found_by b h t f e i in
    record { found = x; file = same_ok (removed_of b h) (cleared_file h t.entry (stayed_file (emptied_of b h t) b)) f (stayed_is b h t k x g) i }

pub stayed_size : (b : List ℕ) (h : HeaderView) (t : Target) (f : List ℕ) → IsStayed b h t f → length f ≡ length b
stayed_size b h t f y = ap length (sym y.file) ∙ stayed_length b h t y.found

-- a byte that is not in the section's data
unemptied : (b : List ℕ) (h : HeaderView) (t : Target) (r : Result Place RewriteRefusal) (k : ℕ) → emptied_of b h t ≡ r → is_emptied_at r k ≡ false → get_or (stayed_file r b) k 0 ≡ get_or b k 0
unemptied b h t (Ok p) k e out =
    byte_past b p.section.pointer_to_raw_data (replicate p.section.size_of_raw_data 0) p.section.size_of_raw_data k (length-replicate {A = ℕ} p.section.size_of_raw_data 0) (emptied_inside b h t p (is_emptied b h t p e)) out
unemptied b h t (Err s) k e out = refl

-- one in its data
emptied : (b : List ℕ) (h : HeaderView) (t : Target) (r : Result Place RewriteRefusal) (k : ℕ) → emptied_of b h t ≡ r → is_emptied_at r k ≡ true → get_or (stayed_file r b) k 0 ≡ 0
emptied b h t (Ok p) k e in_data =
    let q : ℕ = p.section.pointer_to_raw_data in
    let n : ℕ = p.section.size_of_raw_data in
    let from : nat_le q k ≡ true = (both (nat_le q k) (nat_lt k (q + n)) in_data).0 in
    let to : nat_lt k (q + n) ≡ true = (both (nat_le q k) (nat_lt k (q + n)) in_data).1 in
    zero_in b q n k (emptied_inside b h t p (is_emptied b h t p e)) (grind (arith, nat_tests, from)) (grind (arith, nat_tests, to))
emptied b h t (Err s) k e in_data = absurd cc

-- its data are after the headers
emptied_from : (b : List ℕ) (h : HeaderView) (t : Target) (r : Result Place RewriteRefusal) (k : ℕ) → emptied_of b h t ≡ r → k < headers_end h → is_emptied_at r k ≡ false
emptied_from b h t (Ok p) k e lt =
    let x : IsEmptied b h t p = is_emptied b h t p e in
    let after : headers_end h ≤ p.section.pointer_to_raw_data = subst (λ (q : Place). headers_end h ≤ q.section.pointer_to_raw_data) x.value x.free.after in
    range_below p.section.pointer_to_raw_data p.section.size_of_raw_data k (omega (arith, lt, after))
emptied_from b h t (Err s) k e lt = refl

-- a byte that is in neither field
stayed_byte : (b : List ℕ) (h : HeaderView) (t : Target) (f : List ℕ) (k : ℕ) → IsStayed b h t f → Past t.entry 8 k → Past (h.dos_header.pe_pointer + 88) 4 k → get_or f k 0 ≡ get_or (stayed_file (emptied_of b h t) b) k 0
stayed_byte b h t f k y entry sum = grind (arith, cleared_byte, entry_found, length_stayed)

pub stayed_bytes : (b : List ℕ) (h : HeaderView) (t : Target) (f : List ℕ) (k : ℕ) → IsStayed b h t f → is_emptied_over h t (emptied_of b h t) k ≡ false → get_or f k 0 ≡ get_or b k 0
stayed_bytes b h t f k y over =
    let p : ℕ = h.dos_header.pe_pointer in
    let one = or_parts (is_emptied_at (emptied_of b h t) k) _ over in
    let two = or_parts (nat_le t.entry k && nat_lt k (t.entry + 8)) (nat_le (p + 88) k && nat_lt k (p + 88 + 4)) one.1 in
    stayed_byte b h t f k y two.0 two.1 ∙ unemptied b h t (emptied_of b h t) k refl one.0

-- the data are zeros
pub stayed_zeros : (b : List ℕ) (h : HeaderView) (t : Target) (f : List ℕ) (k : ℕ) → IsStayed b h t f → is_emptied_at (emptied_of b h t) k ≡ true → get_or f k 0 ≡ 0
stayed_zeros b h t f k y in_data =
    let p : ℕ = h.dos_header.pe_pointer in
    let i : EntryIn h t.entry (sections_offset h) = entry_before b h t y.found.of y.found.headers in
    let from : headers_end h ≤ k = grind (arith, emptied_from, cases_lt) in
    stayed_byte b h t f k y (range_past t.entry 8 k (omega (arith, from, i.entry))) (range_past (p + 88) 4 k (omega (arith, from, i.sum, i.entry))) ∙ emptied b h t (emptied_of b h t) k refl in_data

pub stayed_headers : (mode : ParseMode) (b : List ℕ) (h : HeaderView) (t : Target) (f : List ℕ) → header_at b mode ≡ Ok h → IsStayed b h t f → header_at f mode ≡ Ok (headers_changed 2 absent_directory (sum_of h f) h)
stayed_headers mode b h t f parsed y = grind (arith, length_stayed, headers_cleared, at_of, end_of, unemptied, emptied_from)

stayed_row : (b : List ℕ) (h : HeaderView) (t : Target) (f : List ℕ) (k : ℕ) → IsStayed b h t f → k < h.coff_header.number_of_sections → section_header f h k ≡ section_header b h k
stayed_row b h t f k y lt =
    let q : ℕ = sections_offset h + 40 * k in
    let p : ℕ = h.dos_header.pe_pointer in
    let i : EntryIn h t.entry (sections_offset h) = entry_before b h t y.found.of y.found.headers in
    let last : q + 40 ≤ headers_end h = omega (arith, lt) in
    row_same f b q (omega (arith, stayed_size b h t f y, last, y.found.headers.inside)) (omega (arith, last, y.found.headers.inside))
    (λ j from to. stayed_byte b h t f j y (range_past t.entry 8 j (omega (arith, from, i.entry))) (range_past (p + 88) 4 j (omega (arith, from, i.sum, i.entry)))
    ∙ unemptied b h t (emptied_of b h t) j refl (emptied_from b h t (emptied_of b h t) j refl (omega (arith, to, last))))

pub stayed_sections : (b : List ℕ) (h : HeaderView) (t : Target) (f : List ℕ) → IsStayed b h t f → section_headers f h ≡ section_headers b h
stayed_sections b h t f y =
    let n : ℕ = h.coff_header.number_of_sections in
    each_take (section_header f h) (section_header b h) n n (section_header b h 0) (omega arith) (λ k lt. stayed_row b h t f k y lt)
    ∙ take_all n (section_headers b h) (omega (arith, length-each (section_header b h) n))
