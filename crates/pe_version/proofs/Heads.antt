-- Blocks that are written one inside the other: what a block has first, then its head.
use Rattle.std.proofs.Common.{◌≡◌, ℕ, zero, suc, ◌+◌, ◌-◌, ◌*◌, ◌/◌, ◌%◌, ◌<◌, ◌≤◌, Bool, true, false, List, [], ◌∷◌, ◌++◌, length, map, drop, get_or, replicate, refl, ap, sym, ◌∙◌, subst, arith, length-append, length-take}
use Rattle.pe_version.proofs.Cited.{codes, flat_map, append-nil, append_assoc, drop_all, drop_at, drop_more, length-replicate}
use Rattle.pe_version.proofs.Cited.{take-append-le, take-take, bytes_of, splice, length-bytes_of, splice-splice, up_to_four}
use Rattle.pe_version.proofs.Cited.{Written, all_written, last_written, more_written, nothing_written, room_for, head_bytes, AllFit}
use Rattle.pe_version.proofs.Cited.{BlockValue, Fits, block_bytes, block_length, blocks_bytes, padded_block, padded_length}
use Rattle.pe_version.proofs.Cited.{type_number, value_length, TableValue, TextValue, Value, all_blocks, blocks_of_table}
use Rattle.pe_version.proofs.Cited.{fixed_bytes, parent, root_block, strings_block, table_block, table_blocks, text_block}
use Rattle.pe_version.proofs.Cited.{text_blocks, translation_block, translation_bytes, utf16, variables_block, Translation}
use Rattle.pe_version.proofs.Calls.{padded_size}
use Rattle.pe_version.proofs.Flat.{length_blocks}
use Rattle.pe_version.proofs.Measures.{before_four, length_fixed, length_pairs}
use Rattle.pe_version.proofs.VersionsRead.{left_fit, table_blocks_fit, tables_fit}

-- ---- a head

pub length_head : (size value : ℕ) (t : Bool) (key : List ℕ) → length (head_bytes size value t key) ≡ up_to_four (8 + length key)
unfolding head_bytes
length_head size value t key = grind (arith, length-append, length-replicate, length-bytes_of)

pub head_set : (old n1 n2 n3 n4 n5 key : List ℕ) (at size value w none : ℕ) (t : Bool) → at + up_to_four (8 + length key) ≤ length old → w ≡ type_number t → none ≡ up_to_four (8 + length key) - (6 + length key) →
    n1 ≡ splice old at (bytes_of 2 size) → n2 ≡ splice n1 (at + 2) (bytes_of 2 value) → n3 ≡ splice n2 (at + 4) (bytes_of 2 w) → n4 ≡ splice n3 (at + 6) key → n5 ≡ splice n4 (at + (6 + length key)) (replicate none 0) →
    n5 ≡ splice old at (head_bytes size value t key)
unfolding head_bytes
head_set old n1 n2 n3 n4 n5 key at size value w none t room type is e1 e2 e3 e4 e5 =
    let x5 : List ℕ = replicate (up_to_four (8 + length key) - (6 + length key)) 0 in
    let x4 : List ℕ = key ++ x5 in
    let x3 : List ℕ = bytes_of 2 (type_number t) ++ x4 in
    let x2 : List ℕ = bytes_of 2 value ++ x3 in
    let x1 : List ℕ = bytes_of 2 size ++ x2 in
    let w0 : Written old old at at x1 x1 = nothing_written old at x1 (omega (arith, room, length_head size value t key)) in
    let w1 : Written old n1 at (at + 2) x1 x2 = more_written old old n1 at at (at + 2) x1 (bytes_of 2 size) x2 w0 e1 (omega (arith, length-bytes_of 2 size)) in
    let w2 : Written old n2 at (at + 4) x1 x3 = more_written old n1 n2 at (at + 2) (at + 4) x1 (bytes_of 2 value) x3 w1 e2 (omega (arith, length-bytes_of 2 value)) in
    let w3 : Written old n3 at (at + 6) x1 x4 = more_written old n2 n3 at (at + 4) (at + 6) x1 (bytes_of 2 (type_number t)) x4 w2 (e3 ∙ ap (λ (n : ℕ). splice n2 (at + 4) (bytes_of 2 n)) type) (omega (arith, length-bytes_of 2 (type_number t))) in
    let w4 : Written old n4 at (at + (6 + length key)) x1 x5 = more_written old n3 n4 at (at + 6) (at + (6 + length key)) x1 key x5 w3 e4 (omega arith) in
    last_written old n4 n5 at (at + (6 + length key)) x1 x5 w4 (e5 ∙ ap (λ (n : ℕ). splice n4 (at + (6 + length key)) (replicate n 0)) is)

-- ---- a block by its head

four : (n : ℕ) → up_to_four n % 4 ≡ 0
four n = omega arith

pub by_head : (k : BlockValue) → length k.children % 4 ≡ 0 → padded_block k ≡ head_bytes (block_length k) (value_length k) k.is_text k.key ++ (k.value ++ (replicate (up_to_four (length k.value) - length k.value) 0 ++ k.children))
unfolding padded_block block_bytes head_bytes
by_head k e = grind (arith, four, append_assoc, append-nil)

-- ---- what stands behind is written first

pub inside_out : (old one two h c : List ℕ) (at mid : ℕ) → mid ≡ at + length h → mid + length c ≤ length old → one ≡ splice old mid c → two ≡ splice one at h → two ≡ splice old at (h ++ c)
unfolding splice
inside_out old one two h c at mid is room e f =
    grind (arith, length-take, take-append-le, take-take, drop_at, length-append, append_assoc)

-- ---- elements, one after the other

abbrev pub PutTo : {X : Type 0} → (X → List ℕ) → List ℕ → List ℕ → ℕ → ℕ → ℕ → List X → Type 0
PutTo bytes old now at end i xs = Written old now at end (flat_map bytes xs) (flat_map bytes (drop i xs))

at_index : {X : Type 0} (bytes : X → List ℕ) (xs : List X) (i : ℕ) (d : X) → i < length xs → flat_map bytes (drop i xs) ≡ bytes (get_or xs i d) ++ flat_map bytes (drop (i + 1) xs)
at_index bytes xs i d h = ap (flat_map bytes) (drop_more xs i d h)

pub put_none : {X : Type 0} (bytes : X → List ℕ) (old : List ℕ) (at : ℕ) (xs : List X) → at + length (flat_map bytes xs) ≤ length old → PutTo bytes old old at at 0 xs
put_none bytes old at xs h = nothing_written old at (flat_map bytes xs) h

pub put_room : {X : Type 0} (bytes : X → List ℕ) (old now : List ℕ) (at end i : ℕ) (xs : List X) (d : X) → i < length xs → PutTo bytes old now at end i xs → end + length (bytes (get_or xs i d)) ≤ length now
put_room bytes old now at end i xs d h w =
    room_for old now at end (flat_map bytes xs) (bytes (get_or xs i d)) (flat_map bytes (drop (i + 1) xs))
    (subst (λ (r : List ℕ). Written old now at end (flat_map bytes xs) r) (at_index bytes xs i d h) w)

pub put_more : {X : Type 0} (bytes : X → List ℕ) (old now next : List ℕ) (at end after i : ℕ) (xs : List X) (d : X) → i < length xs → PutTo bytes old now at end i xs →
    next ≡ splice now end (bytes (get_or xs i d)) → after ≡ end + length (bytes (get_or xs i d)) → PutTo bytes old next at after (i + 1) xs
put_more bytes old now next at end after i xs d h w e f =
    more_written old now next at end after (flat_map bytes xs) (bytes (get_or xs i d)) (flat_map bytes (drop (i + 1) xs))
    (subst (λ (r : List ℕ). Written old now at end (flat_map bytes xs) r) (at_index bytes xs i d h) w) e f

none_left : {X : Type 0} (bytes : X → List ℕ) (xs : List X) (i : ℕ) → length xs ≤ i → flat_map bytes (drop i xs) ≡ []
none_left bytes xs i h = ap (flat_map bytes) (drop_all i xs h)

pub put_all : {X : Type 0} (bytes : X → List ℕ) (old now : List ℕ) (at end i : ℕ) (xs : List X) → length xs ≤ i → PutTo bytes old now at end i xs → now ≡ splice old at (flat_map bytes xs)
put_all bytes old now at end i xs h w = all_written old now at end (flat_map bytes xs) (flat_map bytes (drop i xs)) (none_left bytes xs i h) w

pub put_end : {X : Type 0} (bytes : X → List ℕ) (old now : List ℕ) (at end i : ℕ) (xs : List X) → length xs ≤ i → PutTo bytes old now at end i xs → end ≡ at + length (flat_map bytes xs)
put_end bytes old now at end i xs h w = grind (arith, none_left, append-nil)

-- ---- strings and tables that fit

pub text_fits : {X : Type 0} (f : X → TextValue) (xs : List X) (i : ℕ) (d : X) → i < length xs → AllFit (map text_block (map f xs)) → Fits (text_block (f (get_or xs i d)))
text_fits f [] i d h a = absurd (omega (arith, h))
text_fits f (x ∷ xs) zero d h a = a.0
text_fits f (x ∷ xs) (suc i) d h a = text_fits f xs i d (omega (arith, h)) a.1

pub table_fits : {X : Type 0} (g : X → TableValue) (xs : List X) (i : ℕ) (d : X) → i < length xs → AllFit (flat_map blocks_of_table (map g xs)) → AllFit (blocks_of_table (g (get_or xs i d)))
table_fits g [] i d h a = absurd (omega (arith, h))
table_fits g (x ∷ xs) zero d h a = (left_fit (blocks_of_table (g x)) (flat_map blocks_of_table (map g xs)) a).0
table_fits g (x ∷ xs) (suc i) d h a = table_fits g xs i d (omega (arith, h)) (left_fit (blocks_of_table (g x)) (flat_map blocks_of_table (map g xs)) a).1

-- ---- the block of a string

pub text_put : (s : TextValue) (old one two three : List ℕ) (at start end : ℕ) → at + padded_length (text_block s) ≤ length old → start ≡ up_to_four (8 + length s.name) → end ≡ up_to_four (length s.text) →
    one ≡ splice old at (head_bytes (start + length s.text) (length s.text / 2) true s.name) → two ≡ splice one (at + start) s.text → three ≡ splice two (at + start + length s.text) (replicate (end - length s.text) 0) →
    three ≡ splice old at (padded_block (text_block s))
text_put s old one two three at start end room is up e f g =
    let k : BlockValue = text_block s in
    let size : start + length s.text ≡ block_length k = omega (arith, is) in
    let zeros : List ℕ = replicate (up_to_four (length s.text) - length s.text) 0 in
    let head : List ℕ = head_bytes (block_length k) (length s.text / 2) true s.name in
    let whole : List ℕ = head ++ (s.text ++ zeros) in
    let by : padded_block k ≡ whole = by_head k refl ∙ ap (λ (l : List ℕ). head ++ (s.text ++ l)) (append-nil zeros) in
    let long : length whole ≡ start + up_to_four (length s.text) = length-append head (s.text ++ zeros) ∙ omega (arith, is, length_head (block_length k) (length s.text / 2) true s.name, length-append s.text zeros, length-replicate {A = ℕ} (up_to_four (length s.text) - length s.text) 0) in
    let w0 : Written old old at at whole whole = nothing_written old at whole (omega (arith, room, long, is)) in
    let w1 : Written old one at (at + start) whole (s.text ++ zeros) = more_written old old one at at (at + start) whole head (s.text ++ zeros) w0 (e ∙ ap (λ (n : ℕ). splice old at (head_bytes n (length s.text / 2) true s.name)) size) (omega (arith, is, length_head (block_length k) (length s.text / 2) true s.name)) in
    let w2 : Written old two at (at + start + length s.text) whole zeros = more_written old one two at (at + start) (at + start + length s.text) whole s.text zeros w1 f refl in
    last_written old two three at (at + start + length s.text) whole zeros w2 (g ∙ ap (λ (n : ℕ). splice two (at + start + length s.text) (replicate (n - length s.text) 0)) up) ∙ ap (splice old at) (sym by)

-- ---- a block of others

pub parent_put : (old one two key given c : List ℕ) (at mid size : ℕ) → length c % 4 ≡ 0 → given ≡ key → mid ≡ at + up_to_four (8 + length key) → mid + length c ≤ length old → size ≡ up_to_four (8 + length key) + length c →
    one ≡ splice old mid c → two ≡ splice one at (head_bytes size 0 true given) → two ≡ splice old at (padded_block (parent key c))
parent_put old one two key given c at mid size four same is room long e f =
    grind (arith, before_four, inside_out, length_head, by_head, four)

pub texts_four : (ss : List TextValue) → AllFit (map text_block ss) → length (text_blocks ss) % 4 ≡ 0
texts_four ss a = length_blocks (map text_block ss) a

pub tables_four : (ts : List TableValue) → AllFit (flat_map blocks_of_table ts) → length (table_blocks ts) % 4 ≡ 0
tables_four ts a = length_blocks (map table_block ts) (table_blocks_fit ts (tables_fit ts a))

-- ---- numbers and pairs

pub length_numbers : (ns : List ℕ) → length (flat_map (bytes_of 4) ns) ≡ 4 * length ns
length_numbers [] = refl
length_numbers (n ∷ ns) = length-append (bytes_of 4 n) (flat_map (bytes_of 4) ns) ∙ omega (arith, length-bytes_of 4 n, length_numbers ns)

pub two_put : (b one two : List ℕ) (p x y : ℕ) → p ≤ length b → one ≡ splice b p (bytes_of 2 x) → two ≡ splice one (p + 2) (bytes_of 2 y) → two ≡ splice b p (bytes_of 2 x ++ bytes_of 2 y)
two_put b one two p x y h e f =
    let size : p + 2 ≡ p + length (bytes_of 2 x) = omega (arith, length-bytes_of 2 x) in
    f ∙ ap (λ (l : List ℕ). splice l (p + 2) (bytes_of 2 y)) e ∙ ap (λ (n : ℕ). splice (splice b p (bytes_of 2 x)) n (bytes_of 2 y)) size ∙ splice-splice b p (bytes_of 2 x) (bytes_of 2 y) h

-- ---- sizes

pub table_whole : (t : TableValue) → AllFit (blocks_of_table t) → Fits (table_block t)
table_whole t a = (left_fit (map text_block t.strings) (table_block t ∷ []) a).1.0

pub table_texts : (t : TableValue) → AllFit (blocks_of_table t) → AllFit (map text_block t.strings)
table_texts t a = (left_fit (map text_block t.strings) (table_block t ∷ []) a).0

pub variables_length : (ps : List Translation) → Fits (translation_block ps) → block_length (variables_block ps) ≡ 64 + 4 * length ps
unfolding blocks_bytes
variables_length ps f = grind (arith, before_four, append-nil, padded_size, length_pairs)

pub variables_size : (ps : List Translation) → Fits (translation_block ps) → padded_length (variables_block ps) ≡ 64 + 4 * length ps
variables_size ps f = omega (arith, variables_length ps f)

pub variables_short : (ps : List Translation) → Fits (translation_block ps) → Fits (variables_block ps) → 64 + 4 * length ps < 65536
variables_short ps f g = omega (arith, variables_length ps f, g.short)

pub variables_put : (ps : List Translation) (old one two three inner outer : List ℕ) (at size : ℕ) → Fits (translation_block ps) → inner ≡ utf16 (codes "Translation") → outer ≡ utf16 (codes "VarFileInfo") → size ≡ 4 * length ps →
    at + 64 + size ≤ length old → one ≡ splice old (at + 32 + 32) (flat_map translation_bytes ps) → two ≡ splice one (at + 32) (head_bytes (32 + size) size false inner) → three ≡ splice two at (head_bytes (64 + size) 0 true outer) →
    three ≡ splice old at (padded_block (variables_block ps))
unfolding blocks_bytes
variables_put ps old one two three inner outer at size f i o is room e g h =
    grind (arith, append-nil, padded_size, length_pairs, parent_put, by_head, inside_out, length_head)

-- ---- all

pub record PartsFit (v : Value) : Type 0 where
  pub tables : AllFit (flat_map blocks_of_table v.tables)
  pub strings : Fits (strings_block v.tables)
  pub pairs : Fits (translation_block v.translations)
  pub variables : Fits (variables_block v.translations)
  pub root : Fits (root_block v)

pub parts_fit : (v : Value) → AllFit (all_blocks v) → PartsFit v
unfolding all_blocks
parts_fit v a = grind (arith, left_fit)

children_size : (v : Value) → PartsFit v → length (padded_block (strings_block v.tables) ++ (padded_block (variables_block v.translations) ++ [])) ≡ padded_length (strings_block v.tables) + padded_length (variables_block v.translations)
children_size v p = grind (arith, length-append, append-nil, padded_size)

pub root_length : (v : Value) → PartsFit v → block_length (root_block v) ≡ 92 + (padded_length (strings_block v.tables) + padded_length (variables_block v.translations))
unfolding root_block blocks_bytes
root_length v p = grind (arith, before_four, length_fixed, children_size)

pub root_size : (v : Value) → PartsFit v → padded_length (root_block v) ≡ 92 + (padded_length (strings_block v.tables) + padded_length (variables_block v.translations))
root_size v p = omega (arith, root_length v p)

pub version_put : (v : Value) (old one two three last given : List ℕ) (middle end : ℕ) → PartsFit v → padded_length (root_block v) ≤ length old → one ≡ splice old 92 (padded_block (strings_block v.tables)) →
    middle ≡ 92 + padded_length (strings_block v.tables) → two ≡ splice one middle (padded_block (variables_block v.translations)) → end ≡ middle + padded_length (variables_block v.translations) →
    three ≡ splice two 40 (fixed_bytes v.fixed) → given ≡ utf16 (codes "VS_VERSION_INFO") → last ≡ splice three 0 (head_bytes end 52 false given) → last ≡ splice old 0 (padded_block (root_block v))
unfolding root_block blocks_bytes
version_put v old one two three last given middle end p room e m f n g k h =
    let s : List ℕ = padded_block (strings_block v.tables) in
    let w : List ℕ = padded_block (variables_block v.translations) in
    let x : List ℕ = fixed_bytes v.fixed in
    let key : List ℕ = utf16 (codes "VS_VERSION_INFO") in
    let size : ℕ = block_length (root_block v) in
    let head : List ℕ = head_bytes size 52 false key in
    let all : 92 + (length s + length w) ≤ length old = omega (arith, room, root_size v p, padded_size (strings_block v.tables) p.strings, padded_size (variables_block v.translations) p.variables) in
    let at : middle ≡ 92 + length s = omega (arith, m, padded_size (strings_block v.tables) p.strings) in
    let both : two ≡ splice old 92 (s ++ w) = f ∙ ap (λ (l : List ℕ). splice l middle w) e ∙ ap (λ (i : ℕ). splice (splice old 92 s) i w) at ∙ splice-splice old 92 s w (omega (arith, all)) in
    let fixed : three ≡ splice old 40 (x ++ (s ++ w)) = inside_out old two three x (s ++ w) 40 92 (omega (arith, length_fixed v)) (omega (arith, all, length-append s w)) both g in
    let whole : end ≡ size = omega (arith, n, m, root_length v p) in
    let done : last ≡ splice old 0 (head ++ (x ++ (s ++ w))) =
    inside_out old three last head (x ++ (s ++ w)) 0 40 (omega (arith, length_head size 52 false key)) (omega (arith, all, length-append x (s ++ w), length-append s w, length_fixed v)) fixed
    (h ∙ ap (λ (i : ℕ). splice three 0 (head_bytes i 52 false given)) whole ∙ ap (λ (l : List ℕ). splice three 0 (head_bytes size 52 false l)) k) in
    let four : length (s ++ (w ++ [])) % 4 ≡ 0 = omega (arith, children_size v p) in
    let none : up_to_four (length x) - length x ≡ 0 = omega (arith, length_fixed v) in
    let by : padded_block (root_block v) ≡ head ++ (x ++ (s ++ w)) =
    by_head (root_block v) four ∙ ap (λ (i : ℕ). head_bytes size i false key ++ (x ++ (replicate (up_to_four (length x) - length x) 0 ++ (s ++ (w ++ []))))) (length_fixed v)
    ∙ ap (λ (i : ℕ). head ++ (x ++ (replicate i 0 ++ (s ++ (w ++ []))))) none ∙ ap (λ (l : List ℕ). head ++ (x ++ (s ++ l))) (append-nil w) in
    done ∙ ap (splice old 0) (sym by)
