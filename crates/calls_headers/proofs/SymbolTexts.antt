-- The range of a symbol's name is the name.
use Rattle.std.proofs.Common.{◌≡◌, ℕ, zero, suc, ◌+◌, ◌-◌, ◌*◌, ◌<◌, ◌≤◌, Bool, true, false, List, [], ◌∷◌, length, get_or, take, drop, Option, Some, None, Result, Ok, Err, refl, sym, ap, subst, ◌∙◌, arith}
use Rattle.std.specs.Prelude.{◌==◌, ◌&&◌, nat_le, nat_lt, position, slice_index, if◌then◌else◌}
use Rattle.std.specs.List.{before_first, list_all, position_or_len}
use Rattle.std.specs.Str.{is_utf8}
use Rattle.std.proofs.lemmas.Bool.Decides.{nat_tests}
use Rattle.std.proofs.lemmas.List.{length-take-le, places, take_all}
use Rattle.std.proofs.lemmas.List.Quantifiers.{position-Some}
use Rattle.std.proofs.lemmas.Str.{IsUtf8-from_ascii}
use Rattle.pe_core.proofs.Ranges.{range_in_range}
use Rattle.pe_core.proofs.TextEnds.{text_of-text}
use Rattle.pe_core.proofs.Texts.{before_first-found, before_first-missing}
use Rattle.pe_core.specs.Bytes.{holds, range}
use Rattle.pe_core.specs.Refusals.{Refusal, StringTable, ◌>>=◌}
use Rattle.pe_core.specs.Symbols.{or_no_text, row_count, string_at, string_offset, symbol, symbol_in, symbol_name}
use Rattle.pe_core.specs.Text.{text_at, text_of}
use Rattle.pe_core.specs.declared.symbol.Symbol.{Symbol}
use Rattle.calls_base.proofs.TextRanges.{text_stands}
use Rattle.calls_base.proofs.LeftBytes.{size_of, there}
use Rattle.calls_headers.specs.Coff.{IsNameOf, name_range, name_range_by, symbol_name_at, symbol_name_in}
use Rattle.calls_base.specs.Ranges.{IsRange, bytes_at}
use Rattle.calls_base.specs.declared.ranges.Range.{Range}

-- a part of the bytes of a range is a part of all bytes
within : (b : List ℕ) (r : Range) (t part : List ℕ) (q : ℕ) → bytes_at b r ≡ Ok t → IsRange t (record { offset = q; length = length part }) part →
    IsRange b (record { offset = r.offset + q; length = length part }) part
within b r t part q e is =
    let in_b = there b r t (holds b r.offset r.length) refl e in
    let size : length t ≡ r.length = size_of b r t e in
    let fits : q + length part ≤ length t = is.inside in
    record {
      inside = omega (arith, in_b.0, size, fits);
      same =
          range_in_range b r.offset r.length q (length part) in_b.0 (omega (arith, size, fits))
          ∙ ap (λ (d : List ℕ). range d q (length part)) (sym in_b.1)
          ∙ is.same;
    }

-- ---- a name in the 8 bytes of an entry

prefix : (xs : List ℕ) (m n : ℕ) → take (length (take m (take n xs))) xs ≡ take m (take n xs)
prefix xs zero n = refl
prefix xs (suc m) zero = refl
prefix [] (suc m) (suc n) = refl
prefix (x ∷ xs) (suc m) (suc n) = ap (λ (ys : List ℕ). x ∷ ys) (prefix xs m n)

front : (b : List ℕ) (p n m : ℕ) → range b p (length (take m (range b p n))) ≡ take m (range b p n)
front b p n m =
    let size : p + length (take m (range b p n)) - p ≡ length (take m (range b p n)) = omega arith in
    ap (λ (k : ℕ). take k (drop p b)) size ∙ prefix (drop p b) m (p + n - p)

shorter : (b : List ℕ) (p n m : ℕ) → p + n ≤ length b → length (take m (range b p n)) ≤ n
shorter b p n m h = grind (arith, places)

-- a text that is returned is the one that was tested
tested : (xs name : List ℕ) (is_text : Bool) → is_utf8 xs ≡ is_text → or_no_text (text_of xs) ≡ Ok name → xs ≡ name
tested xs name true h e = let same : ◌≡◌ {A = Result (List ℕ) Refusal} (Ok xs) (Ok name) = sym (rw h refl) ∙ e in cc
tested xs name false h e = absurd (let same : ◌≡◌ {A = Result (List ℕ) Refusal} (Err StringTable) (Ok name) = sym (rw h refl) ∙ e in cc)

inline : (t : List ℕ) (p : ℕ) (name : List ℕ) → p + 8 ≤ length t → or_no_text (text_of (before_first (λ c. c == 0) (range t p 8))) ≡ Ok name →
    IsRange t (record { offset = p; length = length name }) name
inline t p name h e =
    let m = position_or_len (λ c. c == 0) (range t p 8) in
    let is : take m (range t p 8) ≡ name = tested (before_first (λ c. c == 0) (range t p 8)) name (is_utf8 (before_first (λ c. c == 0) (range t p 8))) refl e in
    subst (λ (x : List ℕ). IsRange t (record { offset = p; length = length x }) x) is
    (record { inside = (let short : length (take m (range t p 8)) ≤ 8 = shorter t p 8 m h in omega (arith, h, short)); same = front t p 8 m })

-- ---- a name in the string table

found : (text : Option (List ℕ)) (name : List ℕ) → or_no_text text ≡ Ok name → text ≡ Some name
found None name e = absurd cc
found (Some x) name e = ap (λ (y : List ℕ). Some y) (let same : ◌≡◌ {A = Result (List ℕ) Refusal} (Ok x) (Ok name) = e in cc)

long : (s : List ℕ) (q : ℕ) (name : List ℕ) (past : Bool) → nat_le 4 q ≡ past → or_no_text (if past then text_at s q else None) ≡ Ok name → IsRange s (record { offset = q; length = length name }) name
long s q name true h e = text_stands s q name (found (text_at s q) name e)
long s q name false h e = absurd cc

-- ---- either

by_first : (b : List ℕ) (table strings : Range) (index : ℕ) (t s name : List ℕ) (x : Symbol) (zero : Bool) → bytes_at b table ≡ Ok t → bytes_at b strings ≡ Ok s → 18 * index + 8 ≤ length t →
    x.name ≡ range t (18 * index) 8 → (slice_index x.name 0 == 0) ≡ zero →
    or_no_text (if zero then string_at s (string_offset x) else (if zero then None else text_of (before_first (λ c. c == 0) x.name))) ≡ Ok name →
    IsRange b (record { offset = if zero then strings.offset + string_offset x else table.offset + 18 * index; length = length name }) name
by_first b table strings index t s name x true e f h is z given = within b strings s name (string_offset x) f (long s (string_offset x) name (nat_le 4 (string_offset x)) refl given)
by_first b table strings index t s name x false e f h is z given =
    within b table t name (18 * index) e (inline t (18 * index) name h (subst (λ (d : List ℕ). or_no_text (text_of (before_first (λ c. c == 0) d)) ≡ Ok name) is given))

named : (b : List ℕ) (table strings : Range) (index : ℕ) (t s name : List ℕ) → bytes_at b table ≡ Ok t → bytes_at b strings ≡ Ok s → index < row_count t → symbol_name (symbol_in t index) s ≡ Ok name →
    IsRange b (name_range table strings index (symbol_in t index) name) name
unfolding symbol_name symbol
named b table strings index t s name e f h given =
    by_first b table strings index t s name (symbol_in t index) (slice_index (range t (18 * index) 8) 0 == 0) e f (omega (arith, h)) refl refl given

by_result : (b : List ℕ) (table strings : Range) (index : ℕ) (t s : List ℕ) (r : Range) (given : Result (List ℕ) Refusal) → bytes_at b table ≡ Ok t → bytes_at b strings ≡ Ok s → index < row_count t →
    symbol_name (symbol_in t index) s ≡ given → (given >>= λ name. Ok (Some (name_range table strings index (symbol_in t index) name))) ≡ Ok (Some r) →
    (name : List ℕ) × (symbol_name (symbol_in t index) s ≡ Ok name) × IsRange b r name
by_result b table strings index t s r (Ok name) e f h given is =
    let same : name_range table strings index (symbol_in t index) name ≡ r = cc in
    (name, given, subst (λ (q : Range). IsRange b q name) same (named b table strings index t s name e f h given))
by_result b table strings index t s r (Err refusal) e f h given is = absurd cc

by_index : (b : List ℕ) (table strings : Range) (index : ℕ) (t s : List ℕ) (r : Range) (inside : Bool) → bytes_at b table ≡ Ok t → bytes_at b strings ≡ Ok s → nat_lt index (row_count t) ≡ inside →
    (if inside then (symbol_name (symbol_in t index) s >>= λ name. Ok (Some (name_range table strings index (symbol_in t index) name))) else Ok None) ≡ Ok (Some r) →
    (name : List ℕ) × (symbol_name (symbol_in t index) s ≡ Ok name) × IsRange b r name
by_index b table strings index t s r true e f h is = by_result b table strings index t s r (symbol_name (symbol_in t index) s) e f (grind (arith, nat_tests)) refl is
by_index b table strings index t s r false e f h is = absurd cc

pub names_are_parts : (b : List ℕ) (table strings : Range) (index : ℕ) (t s : List ℕ) (r : Range) → bytes_at b table ≡ Ok t → bytes_at b strings ≡ Ok s → symbol_name_at b table strings index ≡ Ok (Some r) →
    (name : List ℕ) × (symbol_name (symbol_in t index) s ≡ Ok name) × IsRange b r name
names_are_parts b table strings index t s r e f is =
    let there : symbol_name_at b table strings index ≡ symbol_name_in table strings index t s = rw e (rw f refl) in
    by_index b table strings index t s r (nat_lt index (row_count t)) e f refl (sym there ∙ is)

-- ---- a name that is ASCII

byte_is : (c : ℕ) (rest low : Bool) → nat_lt c 128 ≡ low → (low && rest) ≡ true → (c < 128) × (rest ≡ true)
byte_is c rest true h e = (grind (arith, nat_tests), e)
byte_is c rest false h e = absurd cc

front_low : (xs : List ℕ) (n i : ℕ) → list_all (λ c. nat_lt c 128) xs ≡ true → get_or (take n xs) i 0 < 128
front_low xs zero i e = omega arith
front_low [] (suc n) i e = omega arith
front_low (x ∷ xs) (suc n) zero e = (byte_is x (list_all (λ c. nat_lt c 128) xs) (nat_lt x 128) refl e).0
front_low (x ∷ xs) (suc n) (suc i) e = front_low xs n i (byte_is x (list_all (λ c. nat_lt c 128) xs) (nat_lt x 128) refl e).1

front_text : (xs : List ℕ) (n : ℕ) → list_all (λ c. nat_lt c 128) xs ≡ true → text_of (take n xs) ≡ Some (take n xs)
front_text xs n e = text_of-text (take n xs) (IsUtf8-from_ascii (take n xs) (λ i. front_low xs n i e))

pub ascii_to_zero : (xs : List ℕ) (n : ℕ) → list_all (λ c. nat_lt c 128) xs ≡ true → position (λ c. c == 0) xs ≡ Some n → IsNameOf xs n
ascii_to_zero xs n e found =
    let inside : (n < length xs) × ((get_or xs n 0 == 0) ≡ true) × ((k : ℕ) → k < n → (get_or xs k 0 == 0) ≡ false) = position-Some (λ c. c == 0) xs n 0 found in
    let same : before_first (λ c. c == 0) xs ≡ take n xs = sym (before_first-found (λ c. c == 0) xs n found) in
    (take n xs, ap text_of same ∙ front_text xs n e, length-take-le n xs (omega (arith, inside.0)))

pub ascii_alone : (xs : List ℕ) → list_all (λ c. nat_lt c 128) xs ≡ true → position (λ c. c == 0) xs ≡ None → IsNameOf xs (length xs)
ascii_alone xs e none =
    let all : take (length xs) xs ≡ xs = take_all (length xs) xs (omega arith) in
    let same : before_first (λ c. c == 0) xs ≡ xs = sym (before_first-missing (λ c. c == 0) xs none) in
    (xs, ap text_of same ∙ ap text_of (sym all) ∙ front_text xs (length xs) e ∙ ap (λ (ys : List ℕ). Some ys) all, refl)

-- the range of such a name
abbrev range_if : Range → Range → ℕ → Symbol → Bool → List ℕ → Range
range_if table strings index x is_long name = record { offset = if is_long then strings.offset + string_offset x else table.offset + 18 * index; length = length name }

by_name : (table strings : Range) (index n : ℕ) (x : Symbol) (s : List ℕ) (is_long : Bool) → is_long ≡ false → IsNameOf x.name n →
    ((or_no_text (if is_long then string_at s (string_offset x) else (if is_long then None else text_of (before_first (λ c. c == 0) x.name)))) >>= λ name. Ok (Some (range_if table strings index x is_long name)))
    ≡ Ok (Some (record { offset = table.offset + 18 * index; length = n }))
by_name table strings index n x s false e (text, is, size) = rw is (rw size refl)
by_name table strings index n x s true e short = absurd cc

name_ranged : (table strings : Range) (index n : ℕ) (x : Symbol) (s : List ℕ) → (slice_index x.name 0 == 0) ≡ false → IsNameOf x.name n →
    name_range_by table strings index x s ≡ Ok (Some (record { offset = table.offset + 18 * index; length = n }))
unfolding symbol_name
name_ranged table strings index n x s e short = by_name table strings index n x s (slice_index x.name 0 == 0) e short

not_zero : (n : ℕ) → (n ≡ 0 → ⊥) → (n == 0) ≡ false
not_zero n h = grind (arith, nat_tests, h)

pub ascii_found : (table strings : Range) (index : ℕ) (x y : Symbol) (s : List ℕ) (r : Range) → (slice_index x.name 0 ≡ 0 → ⊥) → x ≡ y → IsNameOf y.name r.length → r.offset ≡ table.offset + 18 * index →
    Ok (Some r) ≡ name_range_by table strings index x s
ascii_found table strings index x y s r first same short offset =
    ap (λ (p : ℕ). Ok (Some (record { offset = p; length = r.length }))) offset ∙ sym (name_ranged table strings index r.length x s (not_zero (slice_index x.name 0) first) (subst (λ (z : Symbol). IsNameOf z.name r.length) (sym same) short))
