-- The bytes of a file with room for resources: what stays, what moves, and what is written.
use Rattle.std.proofs.Common.{◌≡◌, ℕ, ◌+◌, ◌^◌, ◌<◌, ◌≤◌, List, [], ◌∷◌, ◌++◌, length, get_or, take, drop, refl, sym, ◌∙◌, subst, arith, length-append}
use Rattle.pe_rewrite.proofs.Cited.{get_or_append_left, get_or-append_right, get_or-drop, get_or-take, length-replicate}
use Rattle.pe_rewrite.proofs.Cited.{length-take-le, bytes_of, le, splice, HeaderView, section_table, spell_section, SectionTable}
use Rattle.pe_rewrite.proofs.Cited.{le-same, length-bytes_of, length-splice, Stands, left, number, part, right, range_below}
use Rattle.pe_rewrite.proofs.Cited.{range_past, FieldsLie, RoomLies, changed, room_changes, roomy_file, with_zeros, Room}
use Rattle.pe_rewrite.proofs.Roomy.{SmallRow}
use Rattle.pe_rewrite.proofs.RoomWrites.{fields_fit, fields_of, length_apart, length_row, room_fit}
use Rattle.pe_rewrite.proofs.Stays.{Misses, Past, byte_changed, number_there, both_halves}
use Rattle.pe_rewrite.proofs.Writes.{Fit}

-- ---- the headers

roomy_fit : (h : HeaderView) (m : Room) (b : List ℕ) → RoomLies h m (length b) → Fit (length (with_zeros m.end m.more b)) (room_changes h.dos_header.pe_pointer m)
roomy_fit h m b l = subst (λ (n : ℕ). Fit n (room_changes h.dos_header.pe_pointer m)) (sym (length_apart m.end m.more b l.end)) (room_fit h m (length b) l)

room_misses : (h : HeaderView) (m : Room) (k : ℕ) → length m.place.section.name ≡ 8 → Past (h.dos_header.pe_pointer + 6) 2 k → Past (h.dos_header.pe_pointer + 12) 4 k → Past (h.dos_header.pe_pointer + 32) 4 k → Past (h.dos_header.pe_pointer + 80) 4 k →
    Past m.place.entry 8 k → Past m.place.row 40 k → Misses k (room_changes h.dos_header.pe_pointer m)
room_misses h m k name count symbols initialized image entry row = grind (arith, both_halves, length-bytes_of, length_row)

-- a byte in no field that changes stays
pub fields_byte : (h : HeaderView) (m : Room) (z : List ℕ) (k : ℕ) → FieldsLie h m (length z) → Past (h.dos_header.pe_pointer + 6) 2 k → Past (h.dos_header.pe_pointer + 12) 4 k → Past (h.dos_header.pe_pointer + 32) 4 k →
    Past (h.dos_header.pe_pointer + 80) 4 k → Past m.place.entry 8 k → Past m.place.row 40 k → get_or (changed (room_changes h.dos_header.pe_pointer m) z) k 0 ≡ get_or z k 0
fields_byte h m z k l count symbols initialized image entry row =
    byte_changed (room_changes h.dos_header.pe_pointer m) z k (fields_fit h m (length z) l) (room_misses h m k l.name count symbols initialized image entry row)

-- the same of a byte before the end of the data
pub roomy_byte : (h : HeaderView) (m : Room) (b : List ℕ) (k : ℕ) → RoomLies h m (length b) → k < m.end → Past (h.dos_header.pe_pointer + 6) 2 k → Past (h.dos_header.pe_pointer + 12) 4 k → Past (h.dos_header.pe_pointer + 32) 4 k →
    Past (h.dos_header.pe_pointer + 80) 4 k → Past m.place.entry 8 k → Past m.place.row 40 k → get_or (roomy_file h m b) k 0 ≡ get_or b k 0
unfolding roomy_file with_zeros
roomy_byte h m b k l lt count symbols initialized image entry row =
    byte_changed (room_changes h.dos_header.pe_pointer m) (with_zeros m.end m.more b) k (roomy_fit h m b l) (room_misses h m k l.name count symbols initialized image entry row)
    ∙ grind (arith, length-take-le, get_or_append_left, get_or-take, l.end)

-- a byte after it moves
pub roomy_byte_after : (h : HeaderView) (m : Room) (b : List ℕ) (k : ℕ) → RoomLies h m (length b) → m.end ≤ k → get_or (roomy_file h m b) (k + m.more) 0 ≡ get_or b k 0
unfolding roomy_file with_zeros
roomy_byte_after h m b k l from =
    let past : (p w : ℕ) → p + w ≤ m.end → Past p w (k + m.more) = λ p w to. range_past p w (k + m.more) (omega (arith, to, from)) in
    let q : ℕ = h.dos_header.pe_pointer in
    byte_changed (room_changes q m) (with_zeros m.end m.more b) (k + m.more) (roomy_fit h m b l)
    (room_misses h m (k + m.more) l.name (past (q + 6) 2 (omega (arith, l.sum, l.entry, l.row))) (past (q + 12) 4 (omega (arith, l.sum, l.entry, l.row))) (past (q + 32) 4 (omega (arith, l.sum, l.entry, l.row)))
    (past (q + 80) 4 (omega (arith, l.sum, l.entry, l.row))) (past m.place.entry 8 (omega (arith, l.entry, l.row))) (past m.place.row 40 l.row))
    ∙ grind (arith, length-take-le, get_or-append_right, length-replicate, get_or-drop, l.end)

-- ---- numbers that are written

-- changes from q on
abbrev From : ℕ → List (ℕ × List ℕ) → Type 0
From q [] = Unit {0}
From q (c ∷ cs) = (q ≤ c.0) × From q cs

misses_before : (cs : List (ℕ × List ℕ)) (k q : ℕ) → From q cs → k < q → Misses k cs
misses_before [] k q f lt = tt
misses_before (c ∷ cs) k q f lt = (range_below c.0 (length c.1) k (omega (arith, lt, f.0)), misses_before cs k q f.1 lt)

number_kept : (cs : List (ℕ × List ℕ)) (z : List ℕ) (p n v : ℕ) → v < 256 ^ n → p + n ≤ length z → Fit (length z) cs → From (p + n) cs → le (changed cs (splice z p (bytes_of n v))) p n ≡ v
number_kept cs z p n v small room fit from =
    let s : List ℕ = splice z p (bytes_of n v) in
    let size : length s ≡ length z = length-splice z p (bytes_of n v) (omega (arith, room, length-bytes_of n v)) in
    le-same (changed cs s) s p p n (λ k lt. byte_changed cs s (p + k) (subst (λ (j : ℕ). Fit j cs) (sym size) fit) (misses_before cs (p + k) (p + n) from (omega (arith, lt))))
    ∙ number_there z p n v small (omega (arith, room))

-- the numbers of a section header that is written
section_read : (f : List ℕ) (p : ℕ) (s : SectionTable) → Stands f p (spell_section s) → length s.name ≡ 8 → SmallRow s → s.size_of_raw_data < 256 ^ 4 → section_table f p ≡ s
unfolding spell_section section_table
section_read f p s a e small size =
    let x12 : List ℕ = s.name ++ bytes_of 4 s.virtual_size in
    let l12 : length x12 ≡ 12 = length-append s.name (bytes_of 4 s.virtual_size) ∙ omega (arith, e, length-bytes_of 4 s.virtual_size) in
    let x16 : List ℕ = x12 ++ bytes_of 4 s.virtual_address in
    let l16 : length x16 ≡ 16 = length-append x12 (bytes_of 4 s.virtual_address) ∙ omega (arith, l12, length-bytes_of 4 s.virtual_address) in
    let x20 : List ℕ = x16 ++ bytes_of 4 s.size_of_raw_data in
    let l20 : length x20 ≡ 20 = length-append x16 (bytes_of 4 s.size_of_raw_data) ∙ omega (arith, l16, length-bytes_of 4 s.size_of_raw_data) in
    let x24 : List ℕ = x20 ++ bytes_of 4 s.pointer_to_raw_data in
    let l24 : length x24 ≡ 24 = length-append x20 (bytes_of 4 s.pointer_to_raw_data) ∙ omega (arith, l20, length-bytes_of 4 s.pointer_to_raw_data) in
    let x28 : List ℕ = x24 ++ bytes_of 4 s.pointer_to_relocations in
    let l28 : length x28 ≡ 28 = length-append x24 (bytes_of 4 s.pointer_to_relocations) ∙ omega (arith, l24, length-bytes_of 4 s.pointer_to_relocations) in
    let x32 : List ℕ = x28 ++ bytes_of 4 s.pointer_to_linenumbers in
    let l32 : length x32 ≡ 32 = length-append x28 (bytes_of 4 s.pointer_to_linenumbers) ∙ omega (arith, l28, length-bytes_of 4 s.pointer_to_linenumbers) in
    let x34 : List ℕ = x32 ++ bytes_of 2 s.number_of_relocations in
    let l34 : length x34 ≡ 34 = length-append x32 (bytes_of 2 s.number_of_relocations) ∙ omega (arith, l32, length-bytes_of 2 s.number_of_relocations) in
    let x36 : List ℕ = x34 ++ bytes_of 2 s.number_of_linenumbers in
    let l36 : length x36 ≡ 36 = length-append x34 (bytes_of 2 s.number_of_linenumbers) ∙ omega (arith, l34, length-bytes_of 2 s.number_of_linenumbers) in
    let a36 : Stands f p x36 = left f p x36 (bytes_of 4 s.characteristics) a in
    let a34 : Stands f p x34 = left f p x34 (bytes_of 2 s.number_of_linenumbers) a36 in
    let a32 : Stands f p x32 = left f p x32 (bytes_of 2 s.number_of_relocations) a34 in
    let a28 : Stands f p x28 = left f p x28 (bytes_of 4 s.pointer_to_linenumbers) a32 in
    let a24 : Stands f p x24 = left f p x24 (bytes_of 4 s.pointer_to_relocations) a28 in
    let a20 : Stands f p x20 = left f p x20 (bytes_of 4 s.pointer_to_raw_data) a24 in
    let a16 : Stands f p x16 = left f p x16 (bytes_of 4 s.size_of_raw_data) a20 in
    let a12 : Stands f p x12 = left f p x12 (bytes_of 4 s.virtual_address) a16 in
    let a8 : Stands f p s.name = left f p s.name (bytes_of 4 s.virtual_size) a12 in
    rw (
      part f p 8 s.name e a8,
      number f (p + 8) 4 s.virtual_size small.virtual_size (right f p 8 s.name (bytes_of 4 s.virtual_size) e a12),
      number f (p + 12) 4 s.virtual_address small.virtual_address (right f p 12 x12 (bytes_of 4 s.virtual_address) l12 a16),
      number f (p + 16) 4 s.size_of_raw_data size (right f p 16 x16 (bytes_of 4 s.size_of_raw_data) l16 a20),
      number f (p + 20) 4 s.pointer_to_raw_data small.pointer_to_raw_data (right f p 20 x20 (bytes_of 4 s.pointer_to_raw_data) l20 a24),
      number f (p + 24) 4 s.pointer_to_relocations small.pointer_to_relocations (right f p 24 x24 (bytes_of 4 s.pointer_to_relocations) l24 a28),
      number f (p + 28) 4 s.pointer_to_linenumbers small.pointer_to_linenumbers (right f p 28 x28 (bytes_of 4 s.pointer_to_linenumbers) l28 a32),
      number f (p + 32) 2 s.number_of_relocations small.number_of_relocations (right f p 32 x32 (bytes_of 2 s.number_of_relocations) l32 a34),
      number f (p + 34) 2 s.number_of_linenumbers small.number_of_linenumbers (right f p 34 x34 (bytes_of 2 s.number_of_linenumbers) l34 a36),
      number f (p + 36) 4 s.characteristics small.characteristics (right f p 36 x36 (bytes_of 4 s.characteristics) l36 a),
    ) refl

pub here : (b : List ℕ) (p : ℕ) (s : List ℕ) → p ≤ length b → Stands (splice b p s) p s
unfolding splice
here b p s h = record { front = take p b; back = drop (p + length s) b; is = refl; size = length-take-le p b h }

-- what is read of the fields
pub record RoomRead (f : List ℕ) (q : ℕ) (m : Room) : Type 0 where
  pub count : le f (q + 6) 2 ≡ m.number_of_sections
  pub symbols : le f (q + 12) 4 ≡ m.pointer_to_symbol_table
  pub initialized : le f (q + 32) 4 ≡ m.size_of_initialized_data
  pub image : le f (q + 80) 4 ≡ m.size_of_image
  pub address : le f m.place.entry 4 ≡ m.place.section.virtual_address
  pub size : le f (m.place.entry + 4) 4 ≡ m.place.length
  pub row : section_table f m.place.row ≡ m.place.section

-- its numbers are small
pub record SmallRoom (m : Room) : Type 0 where
  pub count : m.number_of_sections < 256 ^ 2
  pub symbols : m.pointer_to_symbol_table < 256 ^ 4
  pub initialized : m.size_of_initialized_data < 256 ^ 4
  pub image : m.size_of_image < 256 ^ 4
  pub length_of : m.place.length < 256 ^ 4
  pub row : SmallRow m.place.section
  pub raw : m.place.section.size_of_raw_data < 256 ^ 4

pub fields_read : (h : HeaderView) (m : Room) (z : List ℕ) → FieldsLie h m (length z) → SmallRoom m → RoomRead (changed (room_changes h.dos_header.pe_pointer m) z) h.dos_header.pe_pointer m
fields_read h m z l s =
    let q : ℕ = h.dos_header.pe_pointer in
    let fit : Fit (length z) (room_changes q m) = fields_fit h m (length z) l in
    let z1 : List ℕ = splice z (q + 6) (bytes_of 2 m.number_of_sections) in
    let s1 : length z1 ≡ length z = length-splice z (q + 6) (bytes_of 2 m.number_of_sections) fit.0 in
    let z2 : List ℕ = splice z1 (q + 12) (bytes_of 4 m.pointer_to_symbol_table) in
    let s2 : length z2 ≡ length z = length-splice z1 (q + 12) (bytes_of 4 m.pointer_to_symbol_table) (omega (arith, s1, fit.1.0)) ∙ s1 in
    let z3 : List ℕ = splice z2 (q + 32) (bytes_of 4 m.size_of_initialized_data) in
    let s3 : length z3 ≡ length z = length-splice z2 (q + 32) (bytes_of 4 m.size_of_initialized_data) (omega (arith, s2, fit.1.1.0)) ∙ s2 in
    let z4 : List ℕ = splice z3 (q + 80) (bytes_of 4 m.size_of_image) in
    let s4 : length z4 ≡ length z = length-splice z3 (q + 80) (bytes_of 4 m.size_of_image) (omega (arith, s3, fit.1.1.1.0)) ∙ s3 in
    let z5 : List ℕ = splice z4 m.place.entry (bytes_of 4 m.place.section.virtual_address) in
    let s5 : length z5 ≡ length z = length-splice z4 m.place.entry (bytes_of 4 m.place.section.virtual_address) (omega (arith, s4, fit.1.1.1.1.0)) ∙ s4 in
    let z6 : List ℕ = splice z5 (m.place.entry + 4) (bytes_of 4 m.place.length) in
    let s6 : length z6 ≡ length z = length-splice z5 (m.place.entry + 4) (bytes_of 4 m.place.length) (omega (arith, s5, fit.1.1.1.1.1.0)) ∙ s5 in
    let to : (n : ℕ) (cs : List (ℕ × List ℕ)) → n ≡ length z → Fit (length z) cs → Fit n cs = λ n cs e f. subst (λ (j : ℕ). Fit j cs) (sym e) f in
    let c7 : List (ℕ × List ℕ) = (m.place.row, spell_section m.place.section) ∷ [] in
    let c6 : List (ℕ × List ℕ) = (m.place.entry + 4, bytes_of 4 m.place.length) ∷ c7 in
    let c5 : List (ℕ × List ℕ) = (m.place.entry, bytes_of 4 m.place.section.virtual_address) ∷ c6 in
    let c4 : List (ℕ × List ℕ) = (q + 80, bytes_of 4 m.size_of_image) ∷ c5 in
    let c3 : List (ℕ × List ℕ) = (q + 32, bytes_of 4 m.size_of_initialized_data) ∷ c4 in
    let c2 : List (ℕ × List ℕ) = (q + 12, bytes_of 4 m.pointer_to_symbol_table) ∷ c3 in
    let all : m.place.row + 40 ≤ length z = l.row in
    record {
      count = number_kept c2 z (q + 6) 2 m.number_of_sections s.count (omega (arith, all, l.sum, l.entry)) fit.1
          (omega arith, (omega arith, (omega arith, (omega (arith, l.sum), (omega (arith, l.sum), (omega (arith, l.sum, l.entry), tt))))));
      symbols = number_kept c3 z1 (q + 12) 4 m.pointer_to_symbol_table s.symbols (omega (arith, s1, all, l.sum, l.entry)) (to (length z1) c3 s1 fit.1.1)
          (omega arith, (omega arith, (omega (arith, l.sum), (omega (arith, l.sum), (omega (arith, l.sum, l.entry), tt)))));
      initialized = number_kept c4 z2 (q + 32) 4 m.size_of_initialized_data s.initialized (omega (arith, s2, all, l.sum, l.entry)) (to (length z2) c4 s2 fit.1.1.1)
          (omega arith, (omega (arith, l.sum), (omega (arith, l.sum), (omega (arith, l.sum, l.entry), tt))));
      image = number_kept c5 z3 (q + 80) 4 m.size_of_image s.image (omega (arith, s3, all, l.sum, l.entry)) (to (length z3) c5 s3 fit.1.1.1.1)
          (omega (arith, l.sum), (omega (arith, l.sum), (omega (arith, l.sum, l.entry), tt)));
      address = number_kept c6 z4 m.place.entry 4 m.place.section.virtual_address s.row.virtual_address (omega (arith, s4, all, l.entry)) (to (length z4) c6 s4 fit.1.1.1.1.1)
          (omega arith, (omega (arith, l.entry), tt));
      size = number_kept c7 z5 (m.place.entry + 4) 4 m.place.length s.length_of (omega (arith, s5, all, l.entry)) (to (length z5) c7 s5 fit.1.1.1.1.1.1) (omega (arith, l.entry), tt);
      row = section_read (splice z6 m.place.row (spell_section m.place.section)) m.place.row m.place.section (here z6 m.place.row (spell_section m.place.section) (omega (arith, s6, all))) l.name s.row s.raw;
    }

pub room_read : (h : HeaderView) (m : Room) (b : List ℕ) → RoomLies h m (length b) → SmallRoom m → RoomRead (roomy_file h m b) h.dos_header.pe_pointer m
unfolding roomy_file
room_read h m b l s =
    let z : List ℕ = with_zeros m.end m.more b in
    let size : length z ≡ length b + m.more = length_apart m.end m.more b l.end in
    fields_read h m z (fields_of h m (length b) (length z) l (omega (arith, size, l.end))) s
