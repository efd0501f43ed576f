-- The image with the pointers of its debug entries moved: all else is as it was.
use Rattle.std.proofs.Common.{◌≡◌, ℕ, zero, suc, ◌+◌, ◌-◌, ◌*◌, ◌/◌, ◌^◌, ◌<◌, ◌≤◌, ◌==◌, ◌&&◌, ◌||◌, ◌⊎◌, Bool, true, false, List, ◌++◌, length, get_or, take, drop, replicate, refl, ap, sym, ◌∙◌, subst, ⊎_elim, arith}
use Rattle.pe_rewrite.proofs.Cited.{cases_lt, nat_tests, drop_at, take-append-drop, take_at, length-take-le, AreBytes, bytes_of, le}
use Rattle.pe_rewrite.proofs.Cited.{splice, HeaderView, section_table, raw_end, sections_offset, SectionTable, le_is, lt_is}
use Rattle.pe_rewrite.proofs.Cited.{each_same, le-same, get_or-splice, length-bytes_of, length-splice, Leaf, range_below}
use Rattle.pe_rewrite.proofs.Cited.{range_past, splice_first, CanMove, EntriesLie, PointersFit, RoomLies, is_pointer, moved_pointer}
use Rattle.pe_rewrite.proofs.Cited.{pointer_at, pointers_moved, with_pointers, with_zeros, section_header, section_headers}
use Rattle.pe_rewrite.proofs.Cited.{data_moves, entries_lie, entry_moves, is_before, is_before_or_same, is_last, moved, room_at}
use Rattle.pe_rewrite.proofs.Cited.{table_end, Target, DebugEntries, LastSection, Room, both}
use Rattle.std.proofs.lemmas.Nat.{mod-mul-add}
use Rattle.pe_rewrite.proofs.Placed.{HeadersLie}
use Rattle.pe_rewrite.proofs.Roomy.{HasDebug, HasRoom, IsLast, RoomFits, room_lies}
use Rattle.pe_rewrite.proofs.Stays.{Past, byte_past, number_stays, number_there}
use Rattle.pe_rewrite.proofs.Writes.{inner}
use Rattle.pe_rewrite.proofs.WrittenHeaders.{row_resized}
use Rattle.pe_rewrite.proofs.WrittenSections.{all_by, resized_same}
use Rattle.pe_rewrite.proofs.RoomPlaced.{all_each}
use Rattle.pe_rewrite.proofs.RoomWrites.{length_apart}

-- ---- lengths, bytes and numbers

pub length_pointers : (m : Room) (b : List ℕ) (n : ℕ) (f : List ℕ) → (0 < n → m.debug.offset + 28 * n ≤ length f) → length (pointers_moved m b n f) ≡ length f
unfolding pointers_moved
length_pointers m b zero f h = refl
length_pointers m b (suc n) f h =
    let before : length (pointers_moved m b n f) ≡ length f = length_pointers m b n f (λ some. omega (arith, h (omega arith))) in
    length-splice (pointers_moved m b n f) (pointer_at m.debug n) (bytes_of 4 (moved_pointer m b n)) (omega (arith, before, h (omega arith), length-bytes_of 4 (moved_pointer m b n))) ∙ before

-- a byte that is of no pointer
pub byte_pointers : (m : Room) (b : List ℕ) (n : ℕ) (f : List ℕ) (k : ℕ) → (0 < n → m.debug.offset + 28 * n ≤ length f) → ((j : ℕ) → j < n → Past (pointer_at m.debug j) 4 k) → get_or (pointers_moved m b n f) k 0 ≡ get_or f k 0
unfolding pointers_moved
byte_pointers m b zero f k h past = refl
byte_pointers m b (suc n) f k h past =
    let less : 0 < n → m.debug.offset + 28 * n ≤ length f = λ some. omega (arith, h (omega arith)) in
    byte_past (pointers_moved m b n f) (pointer_at m.debug n) (bytes_of 4 (moved_pointer m b n)) 4 k (length-bytes_of 4 (moved_pointer m b n)) (omega (arith, length_pointers m b n f less, h (omega arith))) (past n (omega arith))
    ∙ byte_pointers m b n f k less (λ j lt. past j (omega (arith, lt)))

byte_small : (n v k : ℕ) → get_or (bytes_of n v) k 0 < 256
unfolding bytes_of
byte_small zero v k = omega arith
byte_small (suc n) v zero = omega arith
byte_small (suc n) v (suc k) = byte_small n (v / 256) k

pub small_pointers : (m : Room) (b : List ℕ) (n : ℕ) (f : List ℕ) → (0 < n → m.debug.offset + 28 * n ≤ length f) → AreBytes f → AreBytes (pointers_moved m b n f)
unfolding pointers_moved
small_pointers m b zero f h small k = small k
small_pointers m b (suc n) f h small k =
    let less : 0 < n → m.debug.offset + 28 * n ≤ length f = λ some. omega (arith, h (omega arith)) in
    let g : List ℕ = pointers_moved m b n f in
    let p : ℕ = pointer_at m.debug n in
    let s : List ℕ = bytes_of 4 (moved_pointer m b n) in
    subst (λ (v : ℕ). v < 256) (sym (get_or-splice g p s k (omega (arith, length_pointers m b n f less, h (omega arith), length-bytes_of 4 (moved_pointer m b n)))))
    (grind (arith, byte_small 4 (moved_pointer m b n) (k - p), small_pointers m b n f less small k))

-- what is read of a pointer
pub pointer_read : (m : Room) (b : List ℕ) (n : ℕ) (f : List ℕ) (k : ℕ) → (0 < n → m.debug.offset + 28 * n ≤ length f) → moved_pointer m b k < 2 ^ 32 → k < n → le (pointers_moved m b n f) (pointer_at m.debug k) 4 ≡ moved_pointer m b k
unfolding pointers_moved
pointer_read m b zero f k h fit lt = absurd (omega (arith, lt))
pointer_read m b (suc n) f k h fit lt =
    let less : 0 < n → m.debug.offset + 28 * n ≤ length f = λ some. omega (arith, h (omega arith)) in
    let g : List ℕ = pointers_moved m b n f in
    let size : length g ≡ length f = length_pointers m b n f less in
    let s : List ℕ = bytes_of 4 (moved_pointer m b n) in ⊎_elim
    (λ (below : k < n).
    le-same (splice g (pointer_at m.debug n) s) g (pointer_at m.debug k) (pointer_at m.debug k) 4
    (λ j small. byte_past g (pointer_at m.debug n) s 4 (pointer_at m.debug k + j) (length-bytes_of 4 (moved_pointer m b n)) (omega (arith, size, h (omega arith))) (range_below (pointer_at m.debug n) 4 (pointer_at m.debug k + j) (omega (arith, below, small))))
    ∙ pointer_read m b n f k less fit below)
    (λ (from : n ≤ k).
    let is : k ≡ n = omega (arith, from, lt) in
    subst (λ (j : ℕ). le (splice g (pointer_at m.debug n) s) (pointer_at m.debug j) 4 ≡ moved_pointer m b j) (sym is)
    (number_there g (pointer_at m.debug n) 4 (moved_pointer m b n) (subst (λ (j : ℕ). moved_pointer m b j < 2 ^ 32) is fit) (omega (arith, size, h (omega arith)))))
    (cases_lt k n)

-- ---- by the test of a file offset

pub pointer_missed : (d : DebugEntries) (k : ℕ) → is_pointer d k ≡ false → (j : ℕ) → j < d.count → Past (pointer_at d j) 4 k
pointer_missed d k out j lt = grind (arith, range_below, range_past, cases_lt, mod-mul-add, le_is, lt_is)

-- ---- zeros put in after them

zeros_splice : (e d q : ℕ) (g s : List ℕ) → e ≤ length g → q + length s ≤ e → splice (with_zeros e d g) q s ≡ with_zeros e d (splice g q s)
unfolding with_zeros
zeros_splice e d q g s h fits =
    let x : List ℕ = take e g in
    let y : List ℕ = drop e g in
    let z : List ℕ = replicate d 0 in
    let size : length x ≡ e = length-take-le e g h in
    let room : q + length s ≤ length x = omega (arith, size, fits) in
    let long : length (splice x q s) ≡ e = length-splice x q s room ∙ size in
    let whole : splice g q s ≡ splice x q s ++ y = ap (λ (l : List ℕ). splice l q s) (sym (take-append-drop e g)) ∙ splice_first x y q s room in
    let front : take e (splice g q s) ≡ splice x q s = ap (take e) whole ∙ take_at (splice x q s) y e long in
    let back : drop e (splice g q s) ≡ y = ap (drop e) whole ∙ drop_at (splice x q s) y e long in
    splice_first x (z ++ y) q s room ∙ ap (λ (l : List ℕ). l ++ (z ++ y)) (sym front) ∙ ap (λ (l : List ℕ). take e (splice g q s) ++ (z ++ l)) (sym back)

pub pointers_front : (m : Room) (b old f : List ℕ) (n e d : ℕ) → e ≤ length f → (0 < n → m.debug.offset + 28 * n ≤ e) → pointers_moved m b n (splice old 0 (with_zeros e d f)) ≡ splice old 0 (with_zeros e d (pointers_moved m b n f))
unfolding pointers_moved
pointers_front m b old f zero e d h lie = refl
pointers_front m b old f (suc n) e d h lie =
    let less : 0 < n → m.debug.offset + 28 * n ≤ e = λ some. omega (arith, lie (omega arith)) in
    let g : List ℕ = pointers_moved m b n f in
    let size : length g ≡ length f = length_pointers m b n f (λ some. omega (arith, less some, h)) in
    let p : ℕ = pointer_at m.debug n in
    let s : List ℕ = bytes_of 4 (moved_pointer m b n) in
    let four : length s ≡ 4 = length-bytes_of 4 (moved_pointer m b n) in
    let inside : e ≤ length g = omega (arith, size, h) in
    let room : p + length s ≤ e = omega (arith, four, lie (omega arith)) in
    inner old (with_zeros e d g) (pointers_moved m b n (splice old 0 (with_zeros e d f))) (splice (pointers_moved m b n (splice old 0 (with_zeros e d f))) p s) s p (pointers_front m b old f n e d h less) refl
    (omega (arith, length_apart e d g inside, room, inside))
    ∙ ap (splice old 0) (zeros_splice e d p g s inside room)

-- ---- the image

pub lie_by : (t u v : Bool) → (t || (u && v)) ≡ true → t ≡ false → (u ≡ true) × (v ≡ true)
lie_by t u v e f = grind arith

pub lie_at : (h : HeaderView) (t : Target) (n : ℕ) (l : LastSection) → entries_lie h l ≡ true → EntriesLie h (room_at h t n l)
lie_at h t n l e = grind (arith, nat_tests, both, lie_by)

pub entries_in : (b : List ℕ) (h : HeaderView) (xs : List Leaf) (m : Room) → HasRoom b h xs m → EntriesLie h m
entries_in b h xs m x = subst (λ (r : Room). EntriesLie h r) x.value (lie_at h x.target x.length_of x.section x.fits.entries)

pub data_before_end : (b : List ℕ) (h : HeaderView) (xs : List Leaf) (m : Room) → HasRoom b h xs m → m.place.section.pointer_to_raw_data ≤ m.end
data_before_end b h xs m x = subst (λ (r : Room). r.place.section.pointer_to_raw_data ≤ r.end) x.value (omega arith)

pub entries_end : (b : List ℕ) (h : HeaderView) (xs : List Leaf) (m : Room) → HasRoom b h xs m → 0 < m.debug.count → m.debug.offset + 28 * m.debug.count ≤ length b
entries_end b h xs m x some = omega (arith, (entries_in b h xs m x some).1, data_before_end b h xs m x, (room_lies b h xs m x).end)

pub or_of : (t u : Bool) → (t || u) ≡ true → (t ≡ true) ⊎ (u ≡ true)
or_of t u e = grind arith

entry_fits : (b : List ℕ) (l : LastSection) (e : ℕ) → raw_end l.section + l.more < 256 ^ 4 → data_moves b l e ≡ true → moved (raw_end l.section) l.more (le b (e + 24) 4) < 2 ^ 32
entry_fits b l e end h = grind (arith, both, nat_tests, or_of)

pub pointers_fit : (b : List ℕ) (h : HeaderView) (m : Room) → HasDebug b h m → PointersFit m b
pointers_fit b h m d k lt =
    let l : LastSection = d.section in
    let below : k < l.debug.count = subst (λ (e : DebugEntries). k < e.count) d.debug lt in
    let one : entry_moves b l k ≡ true = all_by (entry_moves b l k) (entry_moves b l) l.debug.count k below refl d.fit.all in
    let there = entry_fits b l (l.debug.offset + 28 * k) d.fit.end one in
    rw (d.end, d.more, d.debug) there

pub can_move : (b : List ℕ) (h : HeaderView) (xs : List Leaf) (m : Room) → HasRoom b h xs m → HasDebug b h m → CanMove h m b
can_move b h xs m x d = record { lies = room_lies b h xs m x; entries = entries_in b h xs m x; before = data_before_end b h xs m x; fit = pointers_fit b h m d }

-- ---- it has the same room

pub length_with : (b : List ℕ) (h : HeaderView) (xs : List Leaf) (m : Room) → HasRoom b h xs m → length (with_pointers m b) ≡ length b
length_with b h xs m x = length_pointers m b m.debug.count b (entries_end b h xs m x)

pub small_with : (b : List ℕ) (h : HeaderView) (xs : List Leaf) (m : Room) → HasRoom b h xs m → AreBytes b → AreBytes (with_pointers m b)
small_with b h xs m x small = small_pointers m b m.debug.count b (entries_end b h xs m x) small

pub byte_with : (b : List ℕ) (h : HeaderView) (xs : List Leaf) (m : Room) (k : ℕ) → HasRoom b h xs m → ((j : ℕ) → j < m.debug.count → Past (pointer_at m.debug j) 4 k) → get_or (with_pointers m b) k 0 ≡ get_or b k 0
byte_with b h xs m k x past = byte_pointers m b m.debug.count b k (entries_end b h xs m x) past

-- the bytes of the headers, and those after the entries
pub head_with : (b : List ℕ) (h : HeaderView) (xs : List Leaf) (m : Room) (k : ℕ) → HasRoom b h xs m → k < sections_offset h + 40 * m.number_of_sections → get_or (with_pointers m b) k 0 ≡ get_or b k 0
head_with b h xs m k x lt = byte_with b h xs m k x (λ j below. range_below (pointer_at m.debug j) 4 k (omega (arith, lt, (entries_in b h xs m x (omega (arith, below))).0)))

pub tail_with : (b : List ℕ) (h : HeaderView) (xs : List Leaf) (m : Room) (k : ℕ) → HasRoom b h xs m → m.end ≤ k → get_or (with_pointers m b) k 0 ≡ get_or b k 0
tail_with b h xs m k x from =
    byte_with b h xs m k x (λ j below. range_past (pointer_at m.debug j) 4 k (omega (arith, from, below, (entries_in b h xs m x (omega (arith, below))).1, data_before_end b h xs m x)))

more_sections : (b : List ℕ) (h : HeaderView) (xs : List Leaf) (m : Room) → HasRoom b h xs m → h.coff_header.number_of_sections ≤ m.number_of_sections
more_sections b h xs m x = subst (λ (r : Room). h.coff_header.number_of_sections ≤ r.number_of_sections) x.value (omega arith)

pub row_with : (b : List ℕ) (h : HeaderView) (xs : List Leaf) (m : Room) (k : ℕ) → HasRoom b h xs m → k < h.coff_header.number_of_sections → section_header (with_pointers m b) h k ≡ section_header b h k
unfolding section_table
row_with b h xs m k x lt =
    let f : List ℕ = with_pointers m b in
    let q : ℕ = sections_offset h + 40 * k in
    let size : length f ≡ length b = length_with b h xs m x in
    let inside : q + 40 ≤ length b = omega (arith, lt, x.headers.inside) in
    let byte : (j : ℕ) → j < q + 40 → get_or f j 0 ≡ get_or b j 0 = λ j to. head_with b h xs m j x (omega (arith, to, lt, more_sections b h xs m x)) in
    row_resized f b q (omega (arith, size, inside)) inside (λ j from to out. byte j to)
    ∙ resized_same (le f (q + 8) 4) (section_table b q) (number_stays f b (q + 8) (λ j from to. byte j (omega (arith, to))))

-- so all section headers
pub rows_with : (b : List ℕ) (h : HeaderView) (xs : List Leaf) (m : Room) → HasRoom b h xs m → section_headers (with_pointers m b) h ≡ section_headers b h
rows_with b h xs m x = each_same (section_header (with_pointers m b) h) (section_header b h) h.coff_header.number_of_sections (λ k lt. row_with b h xs m k x lt)

same_before : (f b : List ℕ) (h : HeaderView) (t : Target) (l : LastSection) (k : ℕ) → section_header f h k ≡ section_header b h k → is_before_or_same f h t l k ≡ is_before_or_same b h t l k
same_before f b h t l k e = ap (λ (s : SectionTable). k == l.index || is_before t.file_alignment (table_end h l.index) l.section s) e

last_with : (b : List ℕ) (h : HeaderView) (xs : List Leaf) (m : Room) (x : HasRoom b h xs m) → is_last (with_pointers m b) h x.target x.section ≡ true
last_with b h xs m x =
    let n : ℕ = h.coff_header.number_of_sections in
    let old : ℕ → Bool = is_before_or_same b h x.target x.section in
    all_each (is_before_or_same (with_pointers m b) h x.target x.section) n
    (λ k lt. same_before (with_pointers m b) b h x.target x.section k (row_with b h xs m k x lt) ∙ all_by (old k) old n k lt refl x.fits.last)

pub room_with : (b : List ℕ) (h : HeaderView) (xs : List Leaf) (m : Room) → AreBytes b → HasRoom b h xs m → HasRoom (with_pointers m b) h xs m
room_with b h xs m small x =
    let size : length (with_pointers m b) ≡ length b = length_with b h xs m x in
    let headers : HeadersLie (with_pointers m b) h x.target = record {
      directories = x.headers.directories;
      inside = omega (arith, size, x.headers.inside);
      sector = x.headers.sector;
      power = x.headers.power;
    } in
    let is : IsLast (with_pointers m b) h x.target.file_alignment x.length_of x.section = record {
      index = x.is.index;
      name = x.is.name;
      row = λ lt. row_with b h xs m x.section.index x lt ∙ x.is.row lt;
      small = λ s. x.is.small small;
      room = x.is.room;
      multiple = x.is.multiple;
    } in
    let fits : RoomFits (with_pointers m b) h x.target x.length_of x.section = record {
      count = x.fits.count;
      dos = x.fits.dos;
      end = x.fits.end;
      symbols = x.fits.symbols;
      initialized = x.fits.initialized;
      image = x.fits.image;
      start = x.fits.start;
      sector = x.fits.sector;
      inside = omega (arith, size, x.fits.inside);
      last = last_with b h xs m x;
      entries = x.fits.entries;
    } in
    record { target = x.target; length_of = x.length_of; section = x.section; of = x.of; headers = headers; leaves = x.leaves; is = is; fits = fits; value = x.value }

-- ---- written into a buffer

inside_of : (h : HeaderView) (m : Room) (b : List ℕ) → CanMove h m b → 0 < m.debug.count → m.debug.offset + 28 * m.debug.count ≤ m.end
inside_of h m b c some = omega (arith, (c.entries some).1, c.before)

pub length_can : (h : HeaderView) (m : Room) (b : List ℕ) → CanMove h m b → length (with_pointers m b) ≡ length b
length_can h m b c = length_pointers m b m.debug.count b (λ some. omega (arith, inside_of h m b c some, c.lies.end))

pub lies_with : (h : HeaderView) (m : Room) (b : List ℕ) → CanMove h m b → RoomLies h m (length (with_pointers m b))
lies_with h m b c = subst (λ (n : ℕ). RoomLies h m n) (sym (length_can h m b c)) c.lies

pub pointers_set : (h : HeaderView) (m : Room) (b old one two : List ℕ) → CanMove h m b → one ≡ splice old 0 (with_zeros m.end m.more b) → two ≡ pointers_moved m b m.debug.count one → two ≡ splice old 0 (with_zeros m.end m.more (with_pointers m b))
pointers_set h m b old one two c e i = i ∙ ap (pointers_moved m b m.debug.count) e ∙ pointers_front m b old b m.debug.count m.end m.more c.lies.end (inside_of h m b c)

pub no_pointers : (m : Room) (b f : List ℕ) → f ≡ pointers_moved m b 0 f
unfolding pointers_moved
no_pointers m b f = refl

pub one_pointer : (m : Room) (b : List ℕ) (n v w : ℕ) (old out new : List ℕ) → out ≡ pointers_moved m b n old → w ≡ le b (pointer_at m.debug n) 4 → v ≡ moved m.end m.more w → new ≡ splice out (pointer_at m.debug n) (bytes_of 4 v) →
    new ≡ pointers_moved m b (n + 1) old
unfolding pointers_moved
one_pointer m b n v w old out new so read is set = grind arith

pub one_length : (m : Room) (b old out new : List ℕ) (n v : ℕ) → new ≡ splice out (pointer_at m.debug n) (bytes_of 4 v) → n < m.debug.count → (0 < m.debug.count → m.debug.offset + 28 * m.debug.count ≤ length b) → length b ≤ length old → length out ≡ length old → length new ≡ length old
one_length m b old out new n v set lt inside room so = grind (arith, length-splice, length-bytes_of)
