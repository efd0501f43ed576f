use Rattle.std.proofs.Common.{rules, ◌≡◌, ℕ, ◌+◌, ◌*◌, ◌^◌, ◌<◌, Bool, true, false, List, [], ◌∷◌, ◌++◌, length, take, drop, Option, Some, None, Ok, refl, ap, sym, ◌∙◌, subst, arith, append_assoc, length-append}
use Rattle.std.specs.Prelude.{if◌then◌else◌, is_some, IfSome, ◌==◌}
use Rattle.std.specs.Option.{option_map}
use Rattle.std.proofs.lemmas.List.{length-drop, length-take-le, places, same_lists, take-append-drop}
use Rattle.std.proofs.Math.Seq.{drop-append_seam}
use Rattle.pe_core.proofs.Ranges.{held_if_inside}
use Rattle.pe_core.proofs.PutNumbers.{le-after}
use Rattle.pe_core.proofs.Splices.{length-bytes_of}
use Rattle.pe_core.specs.Bytes.{le, bytes_of, holds, range}
use Rattle.pe_core.specs.Refusals.{Refusal, Short, Arm64Version, outcome}
use Rattle.pe_unwind.specs.Arm64Record.{Arm64HandlerView, Arm64InfoView, extension_size, extension_at, scope_count, code_words, handler_size, handler_at, info_with, info_tests, info_at, word_bytes, AreRecord, HasWords}
use Rattle.pe_unwind.specs.Arm64Words.{bits, has_handler, has_extension}
use Rattle.pe_unwind.proofs.Arm64Records.{concatenated}
use Rattle.pe_unwind.proofs.laws.arm64.arm64_records_are_concatenations.Goals as goal

-- Bytes that are the concatenation of a record's parts, from an offset on, are read as that record.
length_word : (t : Bool) (o : Option ℕ) → is_some o ≡ t → length (word_bytes o) ≡ (if t then 4 else 0)
length_word true (Some w) e = length-bytes_of 4 w
length_word true None e = absurd cc
length_word false (Some w) e = absurd cc
length_word false None e = refl

some_map : (o : Option Arm64HandlerView) → is_some (option_map (λ h. h.rva) o) ≡ is_some o
some_map (Some h) = refl
some_map None = refl

-- the parts at their offsets
read_word : (t : Bool) (o : Option ℕ) (front rest : List ℕ) (p : ℕ) → is_some o ≡ t → IfSome o (λ w. w < 2 ^ 32) → length front ≡ p →
    (if t then Some (le (front ++ (word_bytes o ++ rest)) p 4) else None) ≡ o
read_word true (Some w) front rest p e small at = ap (λ (n : ℕ). Some n) (le-after 4 w front rest p at small)
read_word true None front rest p e small at = absurd cc
read_word false (Some w) front rest p e small at = absurd cc
read_word false None front rest p e small at = refl

dropped : (front rest : List ℕ) (p : ℕ) → length front ≡ p → drop p (front ++ rest) ≡ rest
dropped front rest p e = subst (λ (k : ℕ). drop k (front ++ rest) ≡ rest) e (drop-append_seam front rest)

read_handler : (t : Bool) (o : Option Arm64HandlerView) (front rest : List ℕ) (p : ℕ) → is_some o ≡ t → IfSome o (λ h. h.rva < 2 ^ 32) → IfSome o (λ h. h.bytes ≡ rest) → length front ≡ p →
    (let b : List ℕ = front ++ (word_bytes (option_map (λ h. h.rva) o) ++ rest) in if t then Some (record { rva = le b p 4; bytes = drop (p + 4) b }) else None) ≡ o
read_handler true (Some h) front rest p e small same at =
    let word : List ℕ = bytes_of 4 h.rva in
    let count : length (front ++ word) ≡ p + 4 = omega (arith, length-append front word, length-bytes_of 4 h.rva) in
    let number : le (front ++ (word ++ rest)) p 4 ≡ h.rva = le-after 4 h.rva front rest p at small in
    let data_at : drop (p + 4) (front ++ (word ++ rest)) ≡ h.bytes = ap (drop (p + 4)) (sym (append_assoc front word rest)) ∙ dropped (front ++ word) rest (p + 4) count ∙ sym same in
    ap (λ (n : ℕ). Some (record { rva = n; bytes = drop (p + 4) (front ++ (word ++ rest)) })) number ∙ ap (λ (d : List ℕ). Some (record { rva = h.rva; bytes = d })) data_at
read_handler true None front rest p e small same at = absurd cc
read_handler false (Some h) front rest p e small same at = absurd cc
read_handler false None front rest p e small same at = refl

read_range : (front part rest : List ℕ) (p n : ℕ) → length front ≡ p → length part ≡ n → range (front ++ (part ++ rest)) p n ≡ part
read_range front part rest p n e f = same_lists _ _ (search (rules, places)) (λ k d lt. grind (arith, places))

all_pass : {Y : Type 0} (s t u v w x : Bool) (i j k l m n : Refusal) (y : Y) → s ≡ true → t ≡ true → u ≡ true → v ≡ true → w ≡ true → x ≡ true →
    outcome ((s, i) ∷ (t, j) ∷ (u, k) ∷ (v, l) ∷ (w, m) ∷ (x, n) ∷ []) y ≡ Ok y
all_pass s t u v w x i j k l m n y a b c d e f = rw (a, b, c, d, e, f) refl

-- a record with these scopes, codes and handler
same_info : (i : Arm64InfoView) (s c : List ℕ) (h : Option Arm64HandlerView) → s ≡ i.scopes → c ≡ i.codes → h ≡ i.handler →
    (let j : Arm64InfoView = record { header = i.header; extension = i.extension; scopes = s; codes = c; handler = h } in j) ≡ i
same_info i s c h e f g =
    ap (λ (part : List ℕ). let j : Arm64InfoView = record { header = i.header; extension = i.extension; scopes = part; codes = c; handler = h } in j) e
    ∙ ap (λ (part : List ℕ). let j : Arm64InfoView = record { header = i.header; extension = i.extension; scopes = i.scopes; codes = part; handler = h } in j) f
    ∙ ap (λ (o : Option Arm64HandlerView). let j : Arm64InfoView = record { header = i.header; extension = i.extension; scopes = i.scopes; codes = i.codes; handler = o } in j) g

-- with the words that the bytes start with
by_words : (b : List ℕ) (p : ℕ) (i : Arm64InfoView) (header : ℕ) (extension : Option ℕ) → header ≡ i.header → extension ≡ i.extension →
    outcome (info_tests b p i.header i.extension) (info_with b p i.header i.extension) ≡ Ok i → outcome (info_tests b p header extension) (info_with b p header extension) ≡ Ok i
by_words b p i header extension e f h =
    subst (λ (w : ℕ). outcome (info_tests b p w extension) (info_with b p w extension) ≡ Ok i) (sym e)
    (subst (λ (w : Option ℕ). outcome (info_tests b p i.header w) (info_with b p i.header w) ≡ Ok i) (sym f) h)

length_of_parts : (h x s c r rest : List ℕ) → length (h ++ (x ++ (s ++ (c ++ (r ++ rest))))) ≡ length h + length x + length s + length c + length r + length rest
length_of_parts h x s c r rest = simp length-append (omega arith)

-- bytes that are, from an offset on, the parts of a record, one after the other, are read as that record
read : (b rest : List ℕ) (p : ℕ) (i : Arm64InfoView) → AreRecord (drop p b) i rest → HasWords i → info_at b p ≡ Ok i
unfolding info_at
read b rest p i are words =
    let x : ℕ = extension_size i.header in
    let s : ℕ = 4 * scope_count i.header i.extension in
    let c : ℕ = 4 * code_words i.header i.extension in
    let n : ℕ = handler_size i.header in
    let f : List ℕ = take p b in
    let h : List ℕ = bytes_of 4 i.header in
    let w : List ℕ = word_bytes i.extension in
    let r : List ℕ = word_bytes (option_map (λ h. h.rva) i.handler) in
    let size_h : length h ≡ 4 = length-bytes_of 4 i.header in
    let size_w : length w ≡ x = length_word (has_extension i.header) i.extension are.extension in
    let some_r : is_some (option_map (λ h. h.rva) i.handler) ≡ has_handler i.header = some_map i.handler ∙ are.handler in
    let size_r : length r ≡ n = length_word (has_handler i.header) (option_map (λ h. h.rva) i.handler) some_r in
    let after : length (drop p b) ≡ 4 + x + s + c + n + length rest = ap (λ (l : List ℕ). length l) are.joined ∙ length_of_parts h w i.scopes i.codes r rest ∙ omega (arith, size_h, size_w, size_r, are.scopes, are.codes) in
    let total : length b ≡ p + 4 + x + s + c + n + length rest = omega (arith, after, length-drop p b) in
    let size_f : length f ≡ p = length-take-le p b (omega (arith, total)) in
    let at_header : b ≡ f ++ (h ++ (w ++ (i.scopes ++ (i.codes ++ (r ++ rest))))) = sym (take-append-drop p b) ∙ ap (λ (l : List ℕ). f ++ l) are.joined in
    let at_extension : b ≡ (f ++ h) ++ (w ++ (i.scopes ++ (i.codes ++ (r ++ rest)))) = at_header ∙ sym (append_assoc f h (w ++ (i.scopes ++ (i.codes ++ (r ++ rest))))) in
    let at_scopes : b ≡ ((f ++ h) ++ w) ++ (i.scopes ++ (i.codes ++ (r ++ rest))) = at_extension ∙ sym (append_assoc (f ++ h) w (i.scopes ++ (i.codes ++ (r ++ rest)))) in
    let at_codes : b ≡ (((f ++ h) ++ w) ++ i.scopes) ++ (i.codes ++ (r ++ rest)) = at_scopes ∙ sym (append_assoc ((f ++ h) ++ w) i.scopes (i.codes ++ (r ++ rest))) in
    let at_handler : b ≡ ((((f ++ h) ++ w) ++ i.scopes) ++ i.codes) ++ (r ++ rest) = at_codes ∙ sym (append_assoc (((f ++ h) ++ w) ++ i.scopes) i.codes (r ++ rest)) in
    let before_extension : length (f ++ h) ≡ p + 4 = omega (arith, length-append f h, size_f, size_h) in
    let before_scopes : length ((f ++ h) ++ w) ≡ p + 4 + x = omega (arith, length-append (f ++ h) w, before_extension, size_w) in
    let before_codes : length (((f ++ h) ++ w) ++ i.scopes) ≡ p + 4 + x + s = omega (arith, length-append ((f ++ h) ++ w) i.scopes, before_scopes, are.scopes) in
    let before_handler : length ((((f ++ h) ++ w) ++ i.scopes) ++ i.codes) ≡ p + 4 + x + s + c = omega (arith, length-append (((f ++ h) ++ w) ++ i.scopes) i.codes, before_codes, are.codes) in
    let first : le b p 4 ≡ i.header = ap (λ (l : List ℕ). le l p 4) at_header ∙ le-after 4 i.header f (w ++ (i.scopes ++ (i.codes ++ (r ++ rest)))) p size_f words.header in
    let second : extension_at b (p + 4) i.header ≡ i.extension = ap (λ (l : List ℕ). extension_at l (p + 4) i.header) at_extension ∙ read_word (has_extension i.header) i.extension (f ++ h) (i.scopes ++ (i.codes ++ (r ++ rest))) (p + 4) are.extension words.extension before_extension in
    let scopes : range b (p + 4 + x) s ≡ i.scopes = ap (λ (l : List ℕ). range l (p + 4 + x) s) at_scopes ∙ read_range ((f ++ h) ++ w) i.scopes (i.codes ++ (r ++ rest)) (p + 4 + x) s before_scopes are.scopes in
    let codes : range b (p + 4 + x + s) c ≡ i.codes = ap (λ (l : List ℕ). range l (p + 4 + x + s) c) at_codes ∙ read_range (((f ++ h) ++ w) ++ i.scopes) i.codes (r ++ rest) (p + 4 + x + s) c before_codes are.codes in
    let handler : handler_at b (p + 4 + x + s + c) i.header ≡ i.handler = ap (λ (l : List ℕ). handler_at l (p + 4 + x + s + c) i.header) at_handler ∙ read_handler (has_handler i.header) i.handler ((((f ++ h) ++ w) ++ i.scopes) ++ i.codes) rest (p + 4 + x + s + c) are.handler words.handler are.after before_handler in
    let value : info_with b p i.header i.extension ≡ i = same_info i (range b (p + 4 + x) s) (range b (p + 4 + x + s) c) (handler_at b (p + 4 + x + s + c) i.header) scopes codes handler in
    by_words b p i (le b p 4) (extension_at b (p + 4) (le b p 4)) first (ap (extension_at b (p + 4)) first ∙ second)
    (all_pass (holds b p 4) (bits i.header 18 2 == 0) (holds b (p + 4) x) (holds b (p + 4 + x) s) (holds b (p + 4 + x + s) c) (holds b (p + 4 + x + s + c) n) Short Arm64Version Short Short Short Short (info_with b p i.header i.extension) (held_if_inside b p 4 (omega (arith, total))) (ap (λ (k : ℕ). k == 0) are.version) (held_if_inside b (p + 4) x (omega (arith, total))) (held_if_inside b (p + 4 + x) s (omega (arith, total))) (held_if_inside b (p + 4 + x + s) c (omega (arith, total))) (held_if_inside b (p + 4 + x + s + c) n (omega (arith, total)))
    ∙ ap (λ (j : Arm64InfoView). Ok j) value)

pub returns-clause-given : goal.returns-clause-given
returns-clause-given c = concatenated

pub returns-clause-read : goal.returns-clause-read
returns-clause-read c = read
