-- Sections as pieces.
use Rattle.std.proofs.Common.{◌≡◌, ℕ, zero, suc, ◌+◌, ◌-◌, ◌≤◌, ◌<◌, ◌&&◌, true, List, [], ◌∷◌, length, get_or, take, drop, replicate, refl, ap, length-drop, ◌∙◌, arith, ◌^◌, ◌||◌, Bool, false, cond, ◌++◌, sym, length-take}
use Rattle.pe_image.proofs.Cited.{Option, nat_le, ◌==◌, min, nat_lt, slice_index, drop_all, length-replicate, take_all, ext_get_or}
use Rattle.pe_image.proofs.Cited.{places, length-between, nat_tests, or_right, and_true, holds, range, splice, raw_end}
use Rattle.pe_image.proofs.Cited.{spell_section, SectionTable, all_fit, Piece, byte_after, has_byte, piece, all_section_pieces}
use Rattle.pe_image.proofs.Cited.{header_width, lacking, section_pieces, all_in_source, covered, parts_outside, put_in_turn}
use Rattle.pe_image.proofs.Cited.{section_parts, next_range}
use Rattle.pe_image.proofs.Clashes.{by_cases}
use Rattle.pe_image.proofs.Overlays.{byte_after_cons, get_or-put, length-put}
use Rattle.pe_image.proofs.Rows.{Goes, goes_fits, goes_next, goes_last, and_right, rest_at, and_left, all_fit_append}
use Rattle.pe_image.proofs.Laid.{length_section}

-- Pieces that later ones cover: what is written there does not matter. So a section is written outside the range of the
-- next one with data alone.
-- ---- the byte before pieces that cover it does not matter

-- some piece covers offset q
abbrev has_piece : ℕ → List Piece → Bool
has_piece q [] = false
has_piece q (x ∷ xs) = has_byte q x || has_piece q xs

first : (t u : Bool) (v a b : ℕ) (r : ℕ → ℕ) → (t || u) ≡ true → (u ≡ true → r a ≡ r b) → r (cond t v a) ≡ r (cond t v b)
first t u v a b r h f = grind arith

any_byte : (xs : List Piece) (q a b : ℕ) → has_piece q xs ≡ true → byte_after xs q a ≡ byte_after xs q b
any_byte [] q a b h = absurd cc
any_byte (x ∷ xs) q a b h =
    sym (byte_after_cons x xs q a)
    ∙ (first (has_byte q x) (has_piece q xs) (slice_index x.content (q - x.offset)) a b (byte_after xs q) h (any_byte xs q a b)
    ∙ byte_after_cons x xs q b)

has_piece_right : (xs ys : List Piece) (q : ℕ) → has_piece q ys ≡ true → has_piece q (xs ++ ys) ≡ true
has_piece_right [] ys q h = h
has_piece_right (x ∷ xs) ys q h = or_right (has_byte q x) (has_piece q (xs ++ ys)) (has_piece_right xs ys q h)

-- ---- bytes after some pieces and others

byte_after_append : (xs ys : List Piece) (q old : ℕ) → byte_after (xs ++ ys) q old ≡ byte_after ys q (byte_after xs q old)
byte_after_append [] ys q old = unfold byte_after in refl
byte_after_append (x ∷ xs) ys q old =
    let one : ℕ = cond (has_byte q x) (slice_index x.content (q - x.offset)) old in
    sym (byte_after_cons x (xs ++ ys) q old) ∙ (byte_after_append xs ys q one ∙ ap (byte_after ys q) (byte_after_cons x xs q old))

byte_after_one : (x : Piece) (q old : ℕ) → byte_after (x ∷ []) q old ≡ cond (has_byte q x) (slice_index x.content (q - x.offset)) old
byte_after_one x q old = sym (byte_after_cons x [] q old) ∙ (unfold byte_after in refl)

-- the range covers offset q
abbrev in_range : ℕ × ℕ → ℕ → Bool
in_range (start, end) q = nat_le start q && nat_lt q end

-- what is before one offset of a piece and after another is as if it were written whole
byte_of_parts : (p : ℕ) (s : List ℕ) (n m q old : ℕ) → n ≤ m → m ≤ length s → (nat_lt q p || (nat_lt q (p + n) || nat_le (p + m) q)) ≡ true → byte_after (piece p (take n s) ∷ piece (p + m) (drop m s) ∷ []) q old ≡ byte_after (piece p s ∷ []) q old
byte_of_parts p s n m q old h k e =
    let one : ℕ = byte_after (piece p (take n s) ∷ []) q old in
    byte_after_append (piece p (take n s) ∷ []) (piece (p + m) (drop m s) ∷ []) q old
    ∙ (byte_after_one (piece (p + m) (drop m s)) q one
    ∙ (rw (byte_after_one (piece p (take n s)) q old, byte_after_one (piece p s) q old) (grind (arith, nat_tests, places))))

-- outside the range the parts leave what the piece leaves
byte_outside : (c : ℕ × ℕ) (p : ℕ) (s : List ℕ) (q old : ℕ) → in_range c q ≡ false → byte_after (parts_outside c p s) q old ≡ byte_after (piece p s ∷ []) q old
byte_outside c p s q old h = grind (arith, byte_of_parts, nat_tests)

byte_of_section : (c : ℕ × ℕ) (b : List ℕ) (unit : Option ℕ) (offset : ℕ) (s : SectionTable) (q old : ℕ) → in_range c q ≡ false → byte_after (section_parts c b unit offset s) q old ≡ byte_after (section_pieces b unit offset s) q old
unfolding section_parts section_pieces
byte_of_section c b unit offset s q old h =
    let raw : List ℕ = range b s.pointer_to_raw_data s.size_of_raw_data in
    let zeros : List ℕ = replicate (lacking s.size_of_raw_data unit) 0 in
    let header : Piece = piece offset (spell_section s) in
    let x : List Piece = parts_outside c s.pointer_to_raw_data raw in
    let z : List Piece = parts_outside c (raw_end s) zeros in
    let first_ones : byte_after x q old ≡ byte_after (piece s.pointer_to_raw_data raw ∷ []) q old = byte_outside c s.pointer_to_raw_data raw q old h in
    let middle : ℕ = byte_after (piece s.pointer_to_raw_data raw ∷ header ∷ []) q old in
    byte_after_append x (header ∷ z) q old
    ∙ (ap (byte_after (header ∷ z) q) first_ones
    ∙ (sym (byte_after_append (piece s.pointer_to_raw_data raw ∷ []) (header ∷ z) q old)
    ∙ (byte_after_append (piece s.pointer_to_raw_data raw ∷ header ∷ []) z q old
    ∙ (byte_outside c (raw_end s) zeros q middle h
    ∙ sym (byte_after_append (piece s.pointer_to_raw_data raw ∷ header ∷ []) (piece (raw_end s) zeros ∷ []) q old)))))

-- ---- what the next section covers

in_data : (b : List ℕ) (unit : Option ℕ) (offset : ℕ) (s : SectionTable) (q : ℕ) → holds b s.pointer_to_raw_data s.size_of_raw_data ≡ true → in_range (s.pointer_to_raw_data, min (raw_end s + lacking s.size_of_raw_data unit) (2 ^ 64 - 1)) q ≡ true → has_piece q (section_pieces b unit offset s) ≡ true
unfolding section_pieces
in_data b unit offset s q i h = grind (arith, nat_tests, length-between, length-replicate)

has_piece_left : (xs ys : List Piece) (q : ℕ) → has_piece q xs ≡ true → has_piece q (xs ++ ys) ≡ true
has_piece_left [] ys q h = absurd cc
has_piece_left (x ∷ xs) ys q h = grind (arith, has_piece_left xs ys q)

in_next : (b : List ℕ) (unit : Option ℕ) (offset : ℕ) (after : List SectionTable) (q : ℕ) → all_in_source b after ≡ true → in_range (next_range unit after) q ≡ true → has_piece q (all_section_pieces b unit offset after) ≡ true
in_next b unit offset [] q i h = absurd (grind (arith, nat_tests))
in_next b unit offset (s ∷ after) q i h =
    by_cases (s.size_of_raw_data == 0)
    (λ e. has_piece_right (section_pieces b unit offset s) (all_section_pieces b unit (offset + 40) after) q
    (in_next b unit (offset + 40) after q (and_right _ _ i) (rw e at h)))
    (λ e. has_piece_left (section_pieces b unit offset s) (all_section_pieces b unit (offset + 40) after) q
    (in_data b unit offset s q (and_left _ _ i) (rw e at h)))

-- ---- later pieces leave the same

-- bytes that differ where later pieces cover them alone are the same after these
same_later : (xs : List Piece) (a b : List ℕ) (t : ℕ → Bool) → length a ≡ length b → all_fit (length b) xs ≡ true → ((q : ℕ) → t q ≡ true → has_piece q xs ≡ true) → ((q : ℕ) → t q ≡ false → get_or a q 0 ≡ get_or b q 0) → put_in_turn a xs ≡ put_in_turn b xs
same_later xs a b t l h f g =
    let k : all_fit (length a) xs ≡ true = rw l h in
    ext_get_or 0 (put_in_turn a xs) (put_in_turn b xs) (length-put xs a k ∙ (l ∙ sym (length-put xs b h)))
    (λ q lt. get_or-put xs a q k ∙ ((grind (arith, any_byte, f q, g q)) ∙ sym (get_or-put xs b q h)))

-- after the later sections a section may as well be written outside what the next of them covers
pub later_sections : (now b : List ℕ) (unit : Option ℕ) (offset : ℕ) (s : SectionTable) (after : List SectionTable) → all_in_source b after ≡ true → all_fit (length now) (section_pieces b unit offset s) ≡ true → all_fit (length now) (all_section_pieces b unit (offset + 40) after) ≡ true → put_in_turn (put_in_turn now (section_parts (covered unit s after) b unit offset s)) (all_section_pieces b unit (offset + 40) after) ≡ put_in_turn (put_in_turn now (section_pieces b unit offset s)) (all_section_pieces b unit (offset + 40) after)
unfolding section_parts section_pieces
later_sections now b unit offset s after i h k =
    let c : ℕ × ℕ = covered unit s after in
    let parts : List Piece = section_parts c b unit offset s in
    let whole : List Piece = section_pieces b unit offset s in
    let j : all_fit (length now) parts ≡ true =
    grind (arith, nat_tests, and_left, and_right, all_fit_append, and_true, length-take, length-drop) in
    let l : length (put_in_turn now parts) ≡ length now = length-put parts now j in
    let m : length (put_in_turn now whole) ≡ length now = length-put whole now h in
    same_later (all_section_pieces b unit (offset + 40) after) (put_in_turn now parts) (put_in_turn now whole) (in_range c) (l ∙ sym m) (rw m k)
    (λ q e. grind (arith, by_cases, nat_tests, in_next))
    (λ q e. get_or-put parts now q j ∙ (byte_of_section c b unit offset s q (get_or now q 0) e ∙ sym (get_or-put whole now q h)))

-- the pieces of a section fit exactly if its data, its header and its zeros do
pub section_fit : (n : ℕ) (b : List ℕ) (unit : Option ℕ) (offset : ℕ) (s : SectionTable) → length s.name ≡ 8 → holds b s.pointer_to_raw_data s.size_of_raw_data ≡ true → all_fit n (section_pieces b unit offset s) ≡ (nat_le (raw_end s) n && (nat_le (offset + 40) n && nat_le (raw_end s + lacking s.size_of_raw_data unit) n))
unfolding section_pieces
section_fit n b unit offset s h i = grind (arith, nat_tests, length-between, length-replicate, length_section)

abbrev pub no_section : SectionTable
no_section = record { name = []; virtual_size = 0; virtual_address = 0; size_of_raw_data = 0; pointer_to_raw_data = 0; pointer_to_relocations = 0; pointer_to_linenumbers = 0; number_of_relocations = 0; number_of_linenumbers = 0; characteristics = 0 }

all_inside : (b : List ℕ) (i : ℕ) (sections : List SectionTable) → all_in_source b sections ≡ true → all_in_source b (drop i sections) ≡ true
all_inside b zero sections h = h
all_inside b (suc i) [] h = h
all_inside b (suc i) (s ∷ sections) h = all_inside b i sections (and_right _ _ h)

-- ---- the writing, section by section

abbrev pub GoesSections : List ℕ → List ℕ → Option ℕ → ℕ → List SectionTable → List ℕ → ℕ → ℕ → Type 0
GoesSections old b unit start sections now offset i = Goes (section_pieces b unit) header_width old start sections now offset (drop i sections)

pub next_fits : (old b : List ℕ) (unit : Option ℕ) (start : ℕ) (sections : List SectionTable) (now : List ℕ) (offset i : ℕ) (d : SectionTable) → i < length sections → length now ≡ length old → GoesSections old b unit start sections now offset i → all_fit (length now) (section_pieces b unit offset (get_or sections i d)) ≡ true
next_fits old b unit start sections now offset i d h l g =
    rw l (goes_fits (section_pieces b unit) header_width old start sections now offset (get_or sections i d) (drop (i + 1) sections) (rw (rest_at sections i d h) at g))

pub next_goes : (old b : List ℕ) (unit : Option ℕ) (start : ℕ) (sections : List SectionTable) (now next : List ℕ) (offset i : ℕ) (d : SectionTable) (c : ℕ × ℕ) → i < length sections → length now ≡ length old → all_in_source b sections ≡ true → GoesSections old b unit start sections now offset i → c ≡ covered unit (get_or sections i d) (take (length sections - (i + 1)) (drop (i + 1) sections)) → next ≡ put_in_turn now (section_parts c b unit offset (get_or sections i d)) → GoesSections old b unit start sections next (offset + 40) (i + 1)
next_goes old b unit start sections now next offset i d c h l inside g k e =
    let s : SectionTable = get_or sections i d in
    let after : List SectionTable = drop (i + 1) sections in
    let count : length after ≡ length sections - (i + 1) = length-drop (i + 1) sections in
    let all : take (length sections - (i + 1)) after ≡ after = take_all (length sections - (i + 1)) after (omega arith) in
    let range_is : c ≡ covered unit s after = k ∙ ap (covered unit s) all in
    let here : Goes (section_pieces b unit) header_width old start sections now offset (s ∷ after) = rw (rest_at sections i d h) at g in
    let whole : Goes (section_pieces b unit) header_width old start sections (put_in_turn now (section_pieces b unit offset s)) (offset + 40) after = goes_next (section_pieces b unit) header_width old start sections now (put_in_turn now (section_pieces b unit offset s)) offset s after here refl in
    let first : all_fit (length now) (section_pieces b unit offset s) ≡ true = rw l (goes_fits (section_pieces b unit) header_width old start sections now offset s after here) in
    record {
      same = rw (e, range_is) (later_sections now b unit offset s after (all_inside b (i + 1) sections inside) first (rw l whole.fit) ∙ whole.same);
      fit = whole.fit;
      ends = whole.ends;
    }

pub all_gone : (old b : List ℕ) (unit : Option ℕ) (start : ℕ) (sections : List SectionTable) (now : List ℕ) (offset i : ℕ) → length sections ≤ i → GoesSections old b unit start sections now offset i → now ≡ put_in_turn old (all_section_pieces b unit start sections)
all_gone old b unit start sections now offset i h g = grind (arith, goes_last, drop_all)

pub offset_inside : (old b : List ℕ) (unit : Option ℕ) (start : ℕ) (sections : List SectionTable) (now : List ℕ) (offset i : ℕ) (d : SectionTable) → i < length sections → length now ≡ length old → GoesSections old b unit start sections now offset i → offset ≤ length now
unfolding section_pieces
offset_inside old b unit start sections now offset i d h l g =
    grind (arith, nat_tests, next_fits old b unit start sections now offset i d h l g)

-- ---- parts of a section

-- the parts of the data, the header and the parts of the zeros, one after the other
pub parts_in_turn : (c : ℕ × ℕ) (b : List ℕ) (unit : Option ℕ) (offset : ℕ) (s : SectionTable) (old one two three : List ℕ) → one ≡ put_in_turn old (parts_outside c s.pointer_to_raw_data (range b s.pointer_to_raw_data s.size_of_raw_data)) → two ≡ splice one offset (spell_section s) → three ≡ put_in_turn two (parts_outside c (raw_end s) (replicate (lacking s.size_of_raw_data unit) 0)) → three ≡ put_in_turn old (section_parts c b unit offset s)
unfolding section_parts put_in_turn
parts_in_turn c b unit offset s old one two three e f g = rw (g, f, e) refl
