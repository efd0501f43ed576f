-- The names of the symbols of a table, read from the front.
use Rattle.std.proofs.Common.{◌≡◌, ℕ, zero, suc, ◌+◌, ◌^◌, ◌<◌, ◌≤◌, Bool, true, false, cond, List, [], ◌∷◌, ◌++◌, map, length, get_or, drop, Option, Some, None, Result, Ok, Err, refl, sym, ap, subst, ◌∙◌, arith, ⊎_elim, length-append}
use Rattle.std.specs.Prelude.{nat_le, ◌==◌, slice_index, ◌&&◌}
use Rattle.std.specs.Borrow.{Bor}
use Rattle.std.specs.Option.{option_map, option_and_then}
use Rattle.std.proofs.lemmas.Bool.{cases_lt}
use Rattle.std.proofs.lemmas.Bool.Decides.{nat_tests}
use Rattle.std.proofs.lemmas.List.{get_or-map, length-map, map-append}
use Rattle.pe_core.proofs.EntryItems.{get_or-each}
use Rattle.pe_core.specs.declared.error.Error.{Error}
use Rattle.pe_core.specs.Gathered.{all_or_refusal, with_rest, up_to_none}
use Rattle.pe_core.specs.Refusals.{Refusal, UnlessMemory, kind_of, ◌>>=◌}
use Rattle.pe_core.specs.Rows.{each}
use Rattle.pe_core.specs.SectionIndex.{offset_or_end}
use Rattle.pe_core.specs.Symbols.{AreSymbols, SymbolItem, inline_name, name_in, or_no_text, row_after, row_count, row_of, string_offset, symbol_in, symbol_name, symbol_names}
use Rattle.pe_core.specs.SymbolSteps.{AreStringOffsets, name_by_text, named_at}
use Rattle.pe_core.specs.Text.{text_at, texts_of}
use Rattle.pe_core.specs.declared.symbol.Symbol.{Symbol}
use Rattle.pe_core.proofs.ExportLists.{text_or_end}
use Rattle.pe_core.proofs.Gathering.{Gathered, drop-each, gathered-start, gathered-more, gathered-done, gathered-refused}
use Rattle.pe_core.proofs.ImportLists.{unless_memory}
use Rattle.pe_core.proofs.SymbolRows.{first, row_of-next}

-- a table without an entry has none
pub no_names : (b table : List ℕ) → length b < 18 → symbol_names b table ≡ Ok []
unfolding symbol_names each row_of
no_names b table few =
    let none : row_count b ≡ 0 = omega (arith, few) in rw none refl

-- ---- the offsets of the names

-- the offset of the name of symbol k
abbrev offset_in : List ℕ → ℕ → ℕ
offset_in b k = offset_or_end (named_at (symbol_in b (row_of b k)))

-- these are the offsets of the names of the first symbols, and symbol k, the next one, is in this entry
pub record OffsetsRead (b : List ℕ) (offsets : List ℕ) (row : ℕ) : Type 0 where
  pub are : offsets ≡ each (offset_in b) (length offsets)
  pub there : (k : ℕ) → k < length offsets → row_of b k < row_count b
  pub next : row ≡ row_of b (length offsets)

none-read : (b : List ℕ) → OffsetsRead b [] 0
unfolding each
none-read b = record { are = refl; there = λ k lt. absurd (omega arith); next = sym (first b) }

pub offsets-start : (b offsets : List ℕ) → offsets ≡ [] → OffsetsRead b offsets 0
offsets-start b offsets none = subst (λ l. OffsetsRead b l 0) (sym none) (none-read b)

pub offsets-pushed : (b offsets pushed : List ℕ) (row after offset : ℕ) (s : Symbol) → OffsetsRead b offsets row → row < row_count b → s ≡ symbol_in b row
    → after ≡ row + 1 + s.number_of_aux_symbols → offset ≡ offset_or_end (named_at s) → pushed ≡ offsets ++ offset ∷ [] → OffsetsRead b pushed after
unfolding each
offsets-pushed b offsets pushed row after offset s r lt is step named more =
    let n : ℕ = length offsets in
    let push : pushed ≡ offsets ++ offset_or_end (named_at s) ∷ [] = more ∙ ap (λ p. offsets ++ p ∷ []) named in
    let at : s ≡ symbol_in b (row_of b n) = is ∙ ap (symbol_in b) r.next in
    let many : length pushed ≡ suc n = ap length push ∙ length-append offsets (offset_or_end (named_at s) ∷ []) ∙ (omega arith) in
    record {
      are = push ∙ ap (λ l. l ++ offset_or_end (named_at s) ∷ []) r.are ∙ ap (λ x. each (offset_in b) n ++ offset_or_end (named_at x) ∷ []) at ∙ ap (each (offset_in b)) (sym many);
      there = λ k below. ⊎_elim (r.there k) (λ (h : n ≤ k). let same : n ≡ k = omega (arith, h, below, many) in subst (λ i. row_of b i < row_count b) same (subst (λ i. i < row_count b) r.next lt)) (cases_lt k n);
      next =
          let more : length pushed ≡ n + 1 = omega (arith, many) in
          step ∙ ap (λ i. row + 1 + i.number_of_aux_symbols) is ∙ ap (row_after b) r.next ∙ sym (row_of-next b n) ∙ ap (row_of b) (sym more);
    }

pub offsets-done : (b offsets : List ℕ) (row : ℕ) → OffsetsRead b offsets row → row_count b ≤ row → AreStringOffsets b offsets
offsets-done b offsets row r over = record { are = r.are; there = r.there; all = subst (λ i. row_count b ≤ i) r.next over }

pub ruleset offsets_read = (offsets-start, offsets-pushed, offsets-done)

-- ---- the names

-- the entries rise
rises : (b : List ℕ) (k : ℕ) → k ≤ row_of b k
rises b zero = omega arith
rises b (suc k) =
    let next : suc k ≡ k + 1 = omega arith in
    let more : row_of b (suc k) ≡ row_after b (row_of b k) = ap (row_of b) next ∙ row_of-next b k in
    omega (arith, more, rises b k)

-- these are the names of the first k symbols, and the next one is in this entry
pub record NamesRead (b table : List ℕ) (k row : ℕ) (names : List (List ℕ)) : Type 0 where
  pub next : row ≡ row_of b k
  pub gathered : Gathered (each (λ k. name_in b table (row_of b k)) (suc (row_count b))) k names

pub names-start : (b table : List ℕ) (items : List (Bor (List ℕ))) → items ≡ [] → NamesRead b table 0 0 (map (λ s. s.now) items)
names-start b table items none = record { next = sym (first b); gathered = subst (λ (l : List (Bor (List ℕ))). Gathered (each (λ k. name_in b table (row_of b k)) (suc (row_count b))) 0 (map (λ s. s.now) l)) (sym none) (gathered-start _) }

named : (b table : List ℕ) (row : ℕ) → row < row_count b → name_in b table row ≡ (symbol_name (symbol_in b row) table >>= λ name. Ok (Some name))
named b table row lt = grind (arith, nat_tests)

named-none : (b table : List ℕ) (row : ℕ) → row_count b ≤ row → name_in b table row ≡ Ok None
named-none b table row le = grind (arith, nat_tests)

pub names-more : (b table : List ℕ) (k row after : ℕ) (s : Symbol) (names : List (List ℕ)) (name : List ℕ) → NamesRead b table k row names → row < row_count b
    → s ≡ symbol_in b row → symbol_name s table ≡ Ok name → after ≡ row + 1 + s.number_of_aux_symbols → NamesRead b table (k + 1) after (names ++ name ∷ [])
names-more b table k row after s names name r lt at is step =
    let below : k < suc (row_count b) = omega (arith, r.next, rises b k, lt) in
    let here : name_in b table (row_of b k) ≡ Ok (Some name) = ap (name_in b table) (sym r.next) ∙ named b table row lt ∙ ap (λ (r : Result (List ℕ) Refusal). r >>= λ (name : List ℕ). Ok (Some name)) (ap (λ x. symbol_name x table) (sym at) ∙ is) in
    record {
      next = step ∙ ap (λ i. row + 1 + i.number_of_aux_symbols) at ∙ ap (row_after b) r.next ∙ sym (row_of-next b k);
      gathered = gathered-more (λ k. name_in b table (row_of b k)) (suc (row_count b)) k names name r.gathered below here;
    }

pub names-refused : (b table : List ℕ) (k row : ℕ) (s : Symbol) (names : List (List ℕ)) (e : Refusal) → NamesRead b table k row names → row < row_count b
    → s ≡ symbol_in b row → symbol_name s table ≡ Err e → symbol_names b table ≡ Err e
unfolding symbol_names
names-refused b table k row s names e r lt at is =
    let below : k < suc (row_count b) = omega (arith, r.next, rises b k, lt) in
    let here : name_in b table (row_of b k) ≡ Err e = ap (name_in b table) (sym r.next) ∙ named b table row lt ∙ ap (λ (r : Result (List ℕ) Refusal). r >>= λ (name : List ℕ). Ok (Some name)) (ap (λ x. symbol_name x table) (sym at) ∙ is) in
    gathered-refused (λ k. name_in b table (row_of b k)) (suc (row_count b)) k names e r.gathered below here

-- the entry of each symbol is there, and so there are no more symbols than entries
few : (b offsets : List ℕ) → AreStringOffsets b offsets → length offsets ≤ row_count b
few b offsets a = ⊎_elim
    (λ (h : row_count b < length offsets). absurd (let over : row_of b (row_count b) < row_count b = a.there (row_count b) h in omega (arith, over, rises b (row_count b))))
    (λ (h : length offsets ≤ row_count b). h)
    (cases_lt (row_count b) (length offsets))

pub names-done : (b table offsets : List ℕ) (k row : ℕ) (names : List (List ℕ)) → AreStringOffsets b offsets → k ≡ length offsets → NamesRead b table k row names → symbol_names b table ≡ Ok names
unfolding symbol_names
names-done b table offsets k row names a end r =
    let below : k < suc (row_count b) = omega (arith, few b offsets a, end) in
    gathered-done (λ k. name_in b table (row_of b k)) (suc (row_count b)) k names r.gathered below (named-none b table (row_of b k) (subst (λ i. row_count b ≤ row_of b i) (sym end) a.all))

-- ---- the name of one symbol by its text

by_tests : (z l : Bool) (t inline : Option (List ℕ)) (f : ℕ → Option (List ℕ)) (p : ℕ) → t ≡ option_and_then f (cond (z && l) (Some p) None) → or_no_text (cond z t inline) ≡ or_no_text (cond z (cond l (f p) None) inline)
by_tests true true t inline f p e = ap or_no_text e
by_tests true false t inline f p e = ap or_no_text e
by_tests false l t inline f p e = refl

text_there : (b table offsets : List ℕ) (texts : List (Option (Bor (List ℕ)))) (k : ℕ) (d : Option (Bor (List ℕ))) → length table < 2 ^ 64 → AreStringOffsets b offsets
    → texts_of texts ≡ map (text_at table) offsets → k < length offsets → option_map (λ s. s.now) (get_or texts k d) ≡ option_and_then (text_at table) (named_at (symbol_in b (row_of b k)))
text_there b table offsets texts k d small a are lt =
    let many : length texts ≡ length offsets = sym (length-map texts (option_map (λ (s : Bor (List ℕ)). s.now))) ∙ ap length are ∙ length-map offsets (text_at table) in
    sym (get_or-map (option_map (λ (s : Bor (List ℕ)). s.now)) texts k d None (omega (arith, lt, many)))
    ∙ ap (λ (l : List (Option (List ℕ))). get_or l k None) are
    ∙ get_or-map (text_at table) offsets k 0 None lt
    ∙ ap (text_at table) (ap (λ l. get_or l k 0) a.are ∙ get_or-each (offset_in b) (length offsets) k 0 lt)
    ∙ text_or_end table (named_at (symbol_in b (row_of b k))) small

-- the name of a symbol, by the text at the offset of its name
pub name_is : (b table offsets : List ℕ) (texts : List (Option (Bor (List ℕ)))) (k row : ℕ) (d : Option (Bor (List ℕ))) → length table < 2 ^ 64 → AreStringOffsets b offsets
    → texts_of texts ≡ map (text_at table) offsets → k < length offsets → row ≡ row_of b k
    → or_no_text (name_by_text (symbol_in b row) (option_map (λ s. s.now) (get_or texts k d))) ≡ symbol_name (symbol_in b row) table
unfolding symbol_name
name_is b table offsets texts k row d small a are lt at =
    let s : Symbol = symbol_in b row in
    let there : option_map (λ s. s.now) (get_or texts k d) ≡ option_and_then (text_at table) (named_at s) = text_there b table offsets texts k d small a are lt ∙ ap (λ i. option_and_then (text_at table) (named_at (symbol_in b i))) (sym at) in
    by_tests (slice_index s.name 0 == 0) (nat_le 4 (string_offset s)) _ (inline_name s.name) (text_at table) (string_offset s) there

-- ---- one step

-- what is known of symbol k
pub record IsNext (b table : List ℕ) (k row : ℕ) (name : Result (List ℕ) Refusal) : Type 0 where
  pub inside : row < row_count b
  pub is : name ≡ symbol_name (symbol_in b row) table

pub next_is : (b table offsets : List ℕ) (texts : List (Option (Bor (List ℕ)))) (k row : ℕ) (text d : Option (Bor (List ℕ))) (names : List (List ℕ)) → length table < 2 ^ 64 → AreStringOffsets b offsets
    → texts_of texts ≡ map (text_at table) offsets → k < length offsets → text ≡ get_or texts k d → NamesRead b table k row names
    → IsNext b table k row (or_no_text (name_by_text (symbol_in b row) (option_map (λ s. s.now) text)))
next_is b table offsets texts k row text d names small a are lt at r = record {
  inside = subst (λ i. i < row_count b) (sym r.next) (a.there k lt);
  is = ap (λ t. or_no_text (name_by_text (symbol_in b row) (option_map (λ (s : Bor (List ℕ)). s.now) t))) at ∙ name_is b table offsets texts k row d small a are lt r.next;
}

pub names-pushed : (b table : List ℕ) (k row after : ℕ) (s : Symbol) (items pushed : List (Bor (List ℕ))) (name : Bor (List ℕ)) (found : Result (List ℕ) Refusal)
    → NamesRead b table k row (map (λ s. s.now) items) → IsNext b table k row found → s ≡ symbol_in b row → found ≡ Ok name.now
    → after ≡ row + 1 + s.number_of_aux_symbols → pushed ≡ items ++ name ∷ [] → NamesRead b table (k + 1) after (map (λ s. s.now) pushed)
names-pushed b table k row after s items pushed name found r n at is step push =
    let named : symbol_name s table ≡ Ok name.now = ap (λ x. symbol_name x table) at ∙ sym n.is ∙ is in
    let more : map (λ (s : Bor (List ℕ)). s.now) pushed ≡ map (λ (s : Bor (List ℕ)). s.now) items ++ name.now ∷ [] = ap (map (λ (s : Bor (List ℕ)). s.now)) push ∙ map-append (λ (s : Bor (List ℕ)). s.now) items (name ∷ []) in
    subst (NamesRead b table (k + 1) after) (sym more) (names-more b table k row after s (map (λ s. s.now) items) name.now r n.inside at named step)

pub names-failed : (b table : List ℕ) (k row : ℕ) (names : List (List ℕ)) (e : Error) (found : Result (List ℕ) Refusal)
    → NamesRead b table k row names → IsNext b table k row found → found ≡ Err (kind_of e) → UnlessMemory e (symbol_names b table ≡ Err (kind_of e))
names-failed b table k row names e found r n is = unless_memory e _ (names-refused b table k row (symbol_in b row) names (kind_of e) r n.inside refl (sym n.is ∙ is))

pub ruleset names_read = (names-start, names-done)

-- ---- the names are those of the symbols, one by one

by_one : (r : Result (List ℕ) Refusal) (rest : List (Result (Option (List ℕ)) Refusal)) (names : List (Result (List ℕ) Refusal)) → up_to_none rest ≡ all_or_refusal names
    → up_to_none ((r >>= λ name. Ok (Some name)) ∷ rest) ≡ all_or_refusal (r ∷ names)
by_one (Ok name) rest names e = ap (with_rest (name ∷ [])) e
by_one (Err refusal) rest names e = refl

names-from : (b table : List ℕ) (k : ℕ) (xs : List SymbolItem) → k ≤ row_count b → AreSymbols b (row_of b k) xs
    → up_to_none (drop k (each (λ k. name_in b table (row_of b k)) (suc (row_count b)))) ≡ all_or_refusal (map (λ item. symbol_name item.symbol table) xs)
names-from b table k [] few h =
    let f : ℕ → Result (Option (List ℕ)) Refusal = λ k. name_in b table (row_of b k) in
    ap up_to_none (drop-each f (suc (row_count b)) k (omega arith) ∙ ap (λ r. r ∷ drop (suc k) (each f (suc (row_count b)))) (named-none b table (row_of b k) h))
names-from b table k (x ∷ xs) few h =
    let f : ℕ → Result (Option (List ℕ)) Refusal = λ k. name_in b table (row_of b k) in
    let next : suc k ≡ k + 1 = omega arith in
    let room : k + 1 ≤ row_count b = omega (arith, h.0, rises b k) in
    let more = names-from b table (k + 1) xs room (subst (λ row. AreSymbols b row xs) (sym (row_of-next b k)) h.2) in
    let is : f k ≡ (symbol_name x.symbol table >>= λ name. Ok (Some name)) = named b table (row_of b k) h.0 ∙ ap (λ (i : SymbolItem). symbol_name i.symbol table >>= λ (name : List ℕ). Ok (Some name)) (sym h.1) in
    ap up_to_none (drop-each f (suc (row_count b)) k (omega (arith, room)) ∙ ap (λ r. r ∷ drop (suc k) (each f (suc (row_count b)))) is)
    ∙ by_one (symbol_name x.symbol table) _ _ (ap (λ i. up_to_none (drop i (each f (suc (row_count b))))) next ∙ more)

pub names_one_by_one : (b table : List ℕ) (xs : List SymbolItem) → AreSymbols b 0 xs → symbol_names b table ≡ all_or_refusal (map (λ item. symbol_name item.symbol table) xs)
unfolding symbol_names
names_one_by_one b table xs h = names-from b table 0 xs (omega arith) (subst (λ row. AreSymbols b row xs) (sym (first b)) h)
