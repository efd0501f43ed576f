-- Version information that is written is read string by string.
use Rattle.std.proofs.Common.{◌≡◌, ◌≢◌, ℕ, ◌+◌, ◌-◌, ◌%◌, List, [], ◌∷◌, ◌++◌, length, drop, map, replicate, Some, Result, Ok, refl, ap, sym, ◌∙◌, arith, length-append, rules}
use Rattle.pe_version.proofs.Cited.{flat_map, append_assoc, append-nil, drop-drop, drop_at, length-replicate, take_at, nat_tests}
use Rattle.pe_version.proofs.Cited.{Refusal, VersionString, lengthened, string_and_next, strings, then_more, up_to_four}
use Rattle.pe_version.proofs.Cited.{value_offset, version_string_at, whole_string_at, flat, flat_blocks, flat_table, padded}
use Rattle.pe_version.proofs.Cited.{TableValue, TextValue, Value, all_blocks, root_block, strings_block, table_block, table_blocks}
use Rattle.pe_version.proofs.Cited.{text_block, text_blocks, translation_block, variables_block, version_of, AllFit, BlockValue}
use Rattle.pe_version.proofs.Cited.{Fits, block_bytes, block_length, blocks_bytes, padded_block, padded_length, value_start}
use Rattle.pe_resource.proofs.StringLists.{strings_empty, strings_start}
use Rattle.pe_version.proofs.Blocks.{bytes_by, head_parts, length_value, parts, with_head}
use Rattle.pe_version.proofs.VersionsRead.{TablesFit, all_fit, left_fit, table_blocks_fit, tables_fit, value_is}

-- ---- a block and what follows it

-- after the value with its zeros come the blocks, with zeros, and what follows
abbrev pub after_value : BlockValue → List ℕ → List ℕ
after_value k more = k.children ++ (replicate (up_to_four (length k.children) - length k.children) 0 ++ more)

-- ---- one string

length_padded : (x : List ℕ) → length (padded x) ≡ up_to_four (length x)
length_padded x = length-append x (replicate (up_to_four (length x) - length x) 0) ∙ omega (arith, length-replicate {A = ℕ} (up_to_four (length x) - length x) 0)

string_first : (k : BlockValue) (rest : List ℕ) → Fits k → version_string_at (with_head k (padded k.value ++ rest)) 0 ≡ Ok (Some (flat k), value_start k + up_to_four (length k.value))
unfolding whole_string_at string_and_next lengthened value_offset
string_first k rest f =
    grind (arith, with_head, head_parts, length-append, length_padded, bytes_by, nat_tests, take_at, length_value)

some_bytes : (k : BlockValue) (tail : List ℕ) → Fits k → with_head k tail ≢ []
some_bytes k tail f e =
    let size : length (with_head k tail) ≡ value_start k + length tail = (head_parts k tail f).size in
    let none : length (with_head k tail) ≡ 0 = ap length e in
    absurd (omega (arith, size, none))

-- a block is a string, and then come those in it and those after it
pub first_string : (k : BlockValue) (more : List ℕ) → Fits k → strings (padded_block k ++ more) ≡ Ok (flat k) ∷ strings (after_value k more)
unfolding padded_block block_bytes
first_string k more f =
    let rest : List ℕ = after_value k more in
    let tail : List ℕ = padded k.value ++ rest in
    let b : List ℕ = with_head k tail in
    let v : ℕ = up_to_four (length k.value) in
    let left : drop (value_start k + v) b ≡ rest = ap (λ (n : ℕ). drop n b) (omega arith) ∙ sym (drop-drop v (value_start k) b) ∙ ap (drop v) (head_parts k tail f).rest ∙ drop_at (padded k.value) rest v (length_padded k.value) in
    ap strings (search (rules, arith, append_assoc, with_head, append-nil)) ∙ strings_start b (some_bytes k tail f)
    ∙ ap (then_more strings b) (string_first k rest f) ∙ ap (λ (l : List ℕ). Ok (flat k) ∷ strings l) left

-- ---- blocks one after the other

abbrev Item : Type 0
Item = Result VersionString Refusal

abbrev items : List BlockValue → List Item
items ks = map (λ k. Ok (flat k)) ks

length_block : (k : BlockValue) → Fits k → length (padded_block k) % 4 ≡ 0
unfolding padded_block
length_block k f = omega (arith, length-append (block_bytes k) (replicate (padded_length k - block_length k) 0), length-replicate {A = ℕ} (padded_length k - block_length k) 0, (parts k f).size)

pub length_blocks : (ks : List BlockValue) → AllFit ks → length (blocks_bytes ks) % 4 ≡ 0
unfolding blocks_bytes
length_blocks [] f = refl
length_blocks (k ∷ ks) f =
    ap (λ (n : ℕ). n % 4) (length-append (padded_block k) (blocks_bytes ks)) ∙ omega (arith, length_block k f.0, length_blocks ks f.1)

-- after blocks there are no zeros
no_zeros : (k : BlockValue) (more : List ℕ) → length k.children % 4 ≡ 0 → after_value k more ≡ k.children ++ more
no_zeros k more e = grind arith

append_items : (xs ys : List Item) (more : List Item) → xs ++ (ys ++ more) ≡ (xs ++ ys) ++ more
append_items xs ys more = sym (append_assoc xs ys more)

-- texts have no blocks
texts_flat : (ss : List TextValue) (more : List ℕ) → AllFit (map text_block ss) → strings (text_blocks ss ++ more) ≡ items (map text_block ss) ++ strings more
unfolding blocks_bytes
texts_flat [] more f = refl
texts_flat (s ∷ ss) more f = grind (arith, append_assoc, first_string, texts_flat ss more f.1)

table_flat : (t : TableValue) (more : List ℕ) → AllFit (map text_block t.strings) → Fits (table_block t) → strings (padded_block (table_block t) ++ more) ≡ items (flat_table t) ++ strings more
table_flat t more f fits = search (rules, arith, first_string, no_zeros, length_blocks, texts_flat)

map_items : (xs ys : List BlockValue) → items (xs ++ ys) ≡ items xs ++ items ys
map_items [] ys = refl
map_items (x ∷ xs) ys = ap (λ (l : List Item). Ok (flat x) ∷ l) (map_items xs ys)

tables_flat : (ts : List TableValue) (more : List ℕ) → TablesFit ts → strings (table_blocks ts ++ more) ≡ items (flat_map flat_table ts) ++ strings more
unfolding blocks_bytes
tables_flat [] more f = refl
tables_flat (t ∷ ts) more f = grind (arith, append_assoc, table_flat, append_items, map_items, tables_flat ts more f.2)

-- ---- all of it

-- a block that has others alone
parent_flat : (k : BlockValue) (more : List ℕ) → Fits k → length k.children % 4 ≡ 0 → strings (padded_block k ++ more) ≡ Ok (flat k) ∷ strings (k.children ++ more)
parent_flat k more f e = first_string k more f ∙ ap (λ (l : List ℕ). Ok (flat k) ∷ strings l) (no_zeros k more e)

-- the last two
variables_flat : (v : Value) → Fits (variables_block v.translations) → Fits (translation_block v.translations) →
    strings (blocks_bytes (variables_block v.translations ∷ [])) ≡ items (variables_block v.translations ∷ translation_block v.translations ∷ [])
unfolding blocks_bytes
variables_flat v f g =
    parent_flat (variables_block v.translations) [] f (length_blocks (translation_block v.translations ∷ []) (g, tt))
    ∙ ap (λ (l : List ℕ). Ok (flat (variables_block v.translations)) ∷ strings l) (append-nil (padded_block (translation_block v.translations) ++ []))
    ∙ ap (λ (l : List Item). Ok (flat (variables_block v.translations)) ∷ l) (first_string (translation_block v.translations) [] g ∙ ap (λ (l : List Item). Ok (flat (translation_block v.translations)) ∷ l) strings_empty)

root_flat : (v : Value) → Fits (root_block v) → Fits (strings_block v.tables) → Fits (variables_block v.translations) → Fits (translation_block v.translations) → TablesFit v.tables → AllFit (map table_block v.tables) →
    strings (padded_block (root_block v)) ≡ items (flat_blocks v)
unfolding root_block flat_blocks blocks_bytes
root_flat v r s x t f all =
    let k : BlockValue = root_block v in
    let last : List ℕ = blocks_bytes (variables_block v.translations ∷ []) in
    let inner : List ℕ = padded_block (strings_block v.tables) ++ last in
    ap strings (sym (append-nil (padded_block k))) ∙ parent_flat k [] r (length_blocks (strings_block v.tables ∷ variables_block v.translations ∷ []) (s, (x, tt)))
    ∙ ap (λ (l : List ℕ). Ok (flat k) ∷ strings l) (append-nil inner)
    ∙ ap (λ (l : List Item). Ok (flat k) ∷ l) (grind (arith, parent_flat, length_blocks, tables_flat))
    ∙ ap (λ (l : List Item). Ok (flat k) ∷ Ok (flat (strings_block v.tables)) ∷ (items (flat_map flat_table v.tables) ++ l)) (variables_flat v x t)
    ∙ ap (λ (l : List Item). Ok (flat k) ∷ Ok (flat (strings_block v.tables)) ∷ l) (sym (map_items (flat_map flat_table v.tables) (variables_block v.translations ∷ translation_block v.translations ∷ [])))

pub strings_are : (v : Value) (s : List ℕ) → version_of v ≡ Ok s → strings s ≡ map (λ k. Ok (flat k)) (flat_blocks v)
unfolding version_of all_blocks
strings_are v s e = grind (arith, all_fit, left_fit, tables_fit, value_is, root_flat, table_blocks_fit)
