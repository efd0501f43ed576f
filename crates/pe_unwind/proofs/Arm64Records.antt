-- An ARM64 unwind record that is returned is the concatenation of its parts.
use Rattle.std.proofs.Common.{◌≡◌, ℕ, ◌+◌, ◌-◌, ◌*◌, ◌≤◌, Bool, true, false, List, ◌++◌, length, take, drop, Option, Some, None, Ok, refl, ap, sym, ◌∙◌, subst, arith, rules}
use Rattle.std.specs.Prelude.{if◌then◌else◌, is_some, IfSome}
use Rattle.std.specs.Option.{option_map}
use Rattle.std.proofs.lemmas.List.{take-append-drop, drop-drop}
use Rattle.pe_core.proofs.Ranges.{length_range, inside_if_held, held_if_inside}
use Rattle.pe_core.proofs.NumberBytes.{bytes_of-le}
use Rattle.pe_core.specs.Bytes.{AreBytes, le, bytes_of, holds, range}
use Rattle.std.proofs.lemmas.Bool.{eqb-true}
use Rattle.pe_core.specs.Refusals.{outcome}
use Rattle.pe_unwind.specs.Arm64Record.{Arm64HandlerView, Arm64InfoView, extension_size, extension_at, scope_count, code_words, handler_size, handler_at, scopes_offset, record_size, info_with, info_tests, info_at, size_at, word_bytes, AreRecord}
use Rattle.pe_unwind.specs.Arm64Words.{bits, has_handler, has_extension}
use Rattle.pe_core.specs.Offsets.{StandAt}
use Rattle.pe_unwind.specs.Offsets.{StandLast, Arm64PartsStand}
use Rattle.pe_unwind.proofs.Offsets.{range_stands, tail_stands}

-- where the codes and the handler of a record at offset p are
abbrev codes_offset : ℕ → ℕ → Option ℕ → ℕ
codes_offset p header extension = scopes_offset p header + 4 * scope_count header extension

abbrev handler_offset : ℕ → ℕ → Option ℕ → ℕ
handler_offset p header extension = codes_offset p header extension + 4 * code_words header extension

-- the bytes from p on are n of them, and those after
next_range : (b : List ℕ) (p n : ℕ) → drop p b ≡ range b p n ++ drop (p + n) b
next_range b p n =
    let count : p + n - p ≡ n = omega arith in
    rw count (sym (take-append-drop n (drop p b)) ∙ ap (λ (rest : List ℕ). take n (drop p b) ++ rest) (drop-drop n p b))

next_word : (b : List ℕ) (p : ℕ) → AreBytes b → p + 4 ≤ length b → drop p b ≡ bytes_of 4 (le b p 4) ++ drop (p + 4) b
next_word b p small h = next_range b p 4 ∙ ap (λ (word : List ℕ). word ++ drop (p + 4) b) (sym (bytes_of-le b p 4 small h))

-- a word that may be left out
next_extension : (t : Bool) (b : List ℕ) (p : ℕ) → AreBytes b → p + (if t then 4 else 0) ≤ length b → drop p b ≡ word_bytes (if t then Some (le b p 4) else None) ++ drop (p + (if t then 4 else 0)) b
next_extension t b p small h = grind (arith, next_word)

abbrev handler_if : Bool → List ℕ → ℕ → Option Arm64HandlerView
handler_if t b q = if t then Some (record { rva = le b q 4; bytes = drop (q + 4) b }) else None

next_handler : (t : Bool) (b : List ℕ) (p : ℕ) → AreBytes b → p + (if t then 4 else 0) ≤ length b → drop p b ≡ word_bytes (option_map (λ h. h.rva) (handler_if t b p)) ++ drop (p + (if t then 4 else 0)) b
next_handler t b p small h = grind (arith, next_word)

data_after : (t : Bool) (b : List ℕ) (q : ℕ) → IfSome (handler_if t b q) (λ h. h.bytes ≡ drop (q + (if t then 4 else 0)) b)
data_after true b q = refl
data_after false b q = tt

there_if : {X : Type 0} (t : Bool) (x : X) → is_some (if t then Some x else None) ≡ t
there_if t x = grind arith

-- the sum of the sizes, from p on
end : (p x s c h : ℕ) → p + 4 + x + s + c + h ≡ p + (4 + x + s + c + h)
end p x s c h = omega arith

-- one part after the other
chain : {a b c d e f g : List ℕ} (v w x y z : List ℕ) → a ≡ v ++ b → b ≡ w ++ c → c ≡ x ++ d → d ≡ y ++ e → e ≡ z ++ f → f ≡ g → a ≡ v ++ (w ++ (x ++ (y ++ (z ++ g))))
chain v w x y z h i j k l m = simp (h, i, j, k, l, m) refl

parts : (b : List ℕ) (p header : ℕ) (extension : Option ℕ) → AreBytes b → header ≡ le b p 4 → extension ≡ extension_at b (p + 4) header →
    p + 4 ≤ length b → bits header 18 2 ≡ 0 → p + 4 + extension_size header ≤ length b → scopes_offset p header + 4 * scope_count header extension ≤ length b →
    codes_offset p header extension + 4 * code_words header extension ≤ length b → handler_offset p header extension + handler_size header ≤ length b →
    AreRecord (drop p b) (info_with b p header extension) (drop (p + record_size header extension) b)
parts b p header extension small first second h v hx hs hc hh =
    let x : ℕ = extension_size header in
    let s : ℕ = 4 * scope_count header extension in
    let c : ℕ = 4 * code_words header extension in
    let n : ℕ = handler_size header in
    let i : Arm64InfoView = info_with b p header extension in
    let rva : List ℕ = word_bytes (option_map (λ h. h.rva) i.handler) in
    let sum : p + 4 + x + s + c + n ≡ p + record_size header extension = end p x s c n in
    let rest : drop (p + 4 + x + s + c + n) b ≡ drop (p + record_size header extension) b = ap (λ (k : ℕ). drop k b) sum in
    let e : drop p b ≡ bytes_of 4 header ++ drop (p + 4) b = next_word b p small h ∙ ap (λ (word : ℕ). bytes_of 4 word ++ drop (p + 4) b) (sym first) in
    let f : drop (p + 4) b ≡ word_bytes extension ++ drop (p + 4 + x) b =
    next_extension (has_extension header) b (p + 4) small hx ∙ ap (λ (word : Option ℕ). word_bytes word ++ drop (p + 4 + x) b) (sym second) in
    let g : drop (p + 4 + x) b ≡ i.scopes ++ drop (p + 4 + x + s) b = next_range b (p + 4 + x) s in
    let k : drop (p + 4 + x + s) b ≡ i.codes ++ drop (p + 4 + x + s + c) b = next_range b (p + 4 + x + s) c in
    let l : drop (p + 4 + x + s + c) b ≡ rva ++ drop (p + 4 + x + s + c + n) b = next_handler (has_handler header) b (p + 4 + x + s + c) small hh in
    record {
      joined = chain (bytes_of 4 header) (word_bytes extension) i.scopes i.codes rva e f g k l rest;
      version = v;
      extension = ap (λ (word : Option ℕ). is_some word) second ∙ there_if (has_extension header) (le b (p + 4) 4);
      scopes = length_range b (p + 4 + x) s hs;
      codes = length_range b (p + 4 + x + s) c hc;
      handler = there_if (has_handler header) (record { rva = le b (p + 4 + x + s + c) 4; bytes = drop (p + 4 + x + s + c + 4) b });
      after = subst (λ (d : List ℕ). IfSome i.handler (λ h. h.bytes ≡ d)) rest (data_after (has_handler header) b (p + 4 + x + s + c));
    }

-- the facts of a record that is returned
record Given (b : List ℕ) (p header : ℕ) (extension : Option ℕ) (i : Arm64InfoView) : Type 0 where
  first : p + 4 ≤ length b
  version : bits header 18 2 ≡ 0
  second : p + 4 + extension_size header ≤ length b
  scopes : scopes_offset p header + 4 * scope_count header extension ≤ length b
  codes : codes_offset p header extension + 4 * code_words header extension ≤ length b
  handler : handler_offset p header extension + handler_size header ≤ length b
  value : info_with b p header extension ≡ i

facts : (b : List ℕ) (p header : ℕ) (extension : Option ℕ) (i : Arm64InfoView) → outcome (info_tests b p header extension) (info_with b p header extension) ≡ Ok i → Given b p header extension i
facts b p header extension i e = search (rules, arith, inside_if_held, eqb-true)

-- the record that stands at an offset is the concatenation of its parts
pub concatenated : (b : List ℕ) (p : ℕ) (i : Arm64InfoView) → AreBytes b → info_at b p ≡ Ok i → AreRecord (drop p b) i (drop (p + record_size i.header i.extension) b)
unfolding info_at
concatenated b p i small given =
    let header : ℕ = le b p 4 in
    let extension : Option ℕ = extension_at b (p + 4) header in
    let g = facts b p header extension i given in
    subst (λ (j : Arm64InfoView). AreRecord (drop p b) j (drop (p + record_size j.header j.extension) b)) g.value
    (parts b p header extension small refl refl g.first g.version g.second g.scopes g.codes g.handler)

-- the size of a record that is returned
pub sized : (b : List ℕ) (i : Arm64InfoView) → info_at b 0 ≡ Ok i → size_at b ≡ Ok (record_size i.header i.extension)
unfolding info_at size_at
sized b i given =
    let header : ℕ = le b 0 4 in
    let extension : Option ℕ = extension_at b 4 header in
    let g = facts b 0 header extension i given in
    let first : holds b 0 4 ≡ true = held_if_inside b 0 4 g.first in
    let second : holds b 4 (extension_size header) ≡ true = held_if_inside b 4 (extension_size header) g.second in
    subst (λ (j : Arm64InfoView). size_at b ≡ Ok (record_size j.header j.extension)) g.value (rw (first, second) refl)

-- it lies in the bytes
pub inside : (b : List ℕ) (p : ℕ) (i : Arm64InfoView) → info_at b p ≡ Ok i → p + record_size i.header i.extension ≤ length b
unfolding info_at
inside b p i given =
    let header : ℕ = le b p 4 in
    let extension : Option ℕ = extension_at b (p + 4) header in
    let g = facts b p header extension i given in
    let sum = end p (extension_size header) (4 * scope_count header extension) (4 * code_words header extension) (handler_size header) in
    subst (λ (j : Arm64InfoView). p + record_size j.header j.extension ≤ length b) g.value (subst (λ (k : ℕ). k ≤ length b) sum g.handler)

-- and a handler's data are the bytes after it
pub after_record : (b : List ℕ) (p : ℕ) (i : Arm64InfoView) → info_at b p ≡ Ok i → IfSome i.handler (λ h. h.bytes ≡ drop (p + record_size i.header i.extension) b)
unfolding info_at
after_record b p i given =
    let header : ℕ = le b p 4 in
    let extension : Option ℕ = extension_at b (p + 4) header in
    let q : ℕ = handler_offset p header extension in
    let g = facts b p header extension i given in
    let sum : q + handler_size header ≡ p + record_size header extension = end p (extension_size header) (4 * scope_count header extension) (4 * code_words header extension) (handler_size header) in
    subst (λ (j : Arm64InfoView). IfSome j.handler (λ h. h.bytes ≡ drop (p + record_size j.header j.extension) b)) g.value
    (subst (λ (k : ℕ). IfSome (handler_at b q header) (λ h. h.bytes ≡ drop k b)) sum (data_after (has_handler header) b q))

-- and its parts are ranges of the bytes
data_stands : (t : Bool) (b : List ℕ) (q : ℕ) → IfSome (handler_if t b q) (λ h. StandLast b h.bytes)
data_stands true b q = tail_stands b (q + 4)
data_stands false b q = tt

pub parts_stand : (b : List ℕ) (p : ℕ) (i : Arm64InfoView) → info_at b p ≡ Ok i → Arm64PartsStand b p i
unfolding info_at
parts_stand b p i given =
    let header : ℕ = le b p 4 in
    let extension : Option ℕ = extension_at b (p + 4) header in
    let g = facts b p header extension i given in
    let s : ℕ = 4 * scope_count header extension in
    let count : length (range b (scopes_offset p header) s) ≡ s = length_range b (scopes_offset p header) s g.scopes in
    let codes : StandAt b (codes_offset p header extension) (range b (codes_offset p header extension) (4 * code_words header extension)) =
    range_stands b (codes_offset p header extension) (4 * code_words header extension) g.codes in
    subst (λ (j : Arm64InfoView). Arm64PartsStand b p j) g.value record {
      scopes = range_stands b (scopes_offset p header) s g.scopes;
      codes = rw count codes;
      tail = data_stands (has_handler header) b (handler_offset p header extension);
    }
