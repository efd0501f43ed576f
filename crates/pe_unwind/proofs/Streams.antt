-- The items of a stream of unwind codes, and that there is one reading of it.
use Rattle.std.proofs.Common.{◌≡◌, ℕ, zero, suc, ◌+◌, ◌-◌, ◌*◌, ◌%◌, ◌/◌, ◌<◌, ◌≤◌, ◌⊎◌, inl, inr, ⊎_elim, Bool, true, false, List, [], ◌∷◌, length, drop, take, map, Option, Some, None, Result, Ok, Err, refl, ap, sym, ◌∙◌, subst, arith}
use Rattle.std.specs.Prelude.{nat_lt}
use Rattle.std.specs.Iterator.{Yields}
use Rattle.std.proofs.lemmas.Bool.Decides.{nat_tests}
use Rattle.std.proofs.lemmas.List.{length-drop, length-take-le}
use Rattle.pe_core.specs.Refusals.{Refusal, kind_of, answer_of}
use Rattle.pe_core.specs.declared.error.Error.{Error}
use Rattle.pe_core.specs.declared.error.Error.TheVariants.{Malformed, Short as TooShort}
use Rattle.pe_core.specs.declared.error.Reason.TheVariants as reasons
use Rattle.pe_unwind.specs.declared.unwind_code.UnwindCode.{UnwindCode}
use Rattle.pe_unwind.specs.declared.unwind_code.UnwindCodeIterator.{UnwindCodeIterator}
use Rattle.pe_unwind.specs.declared.unwind_code.UnwindOperation.{UnwindOperation}
use Rattle.pe_unwind.specs.CodeStream.{CodeStream, AreItems, ReturnsCode, stream_of, with_left}
use Rattle.pe_unwind.specs.CodeSlots.{slots_at}
use Rattle.pe_unwind.specs.UnwindCodes.{SpellsOperation, StartsWithCode, StartsWithNoCode, IsCodeRefusal}
use Rattle.pe_unwind.proofs.SpellingLengths.{all_spelled, starts_slots, cut_one, cut_slots, no_slots-not_cut, none-cut, none-no_slots}

abbrev pub Next : UnwindCodeIterator → Option (Result UnwindCode Error) → UnwindCodeIterator → Type 0
Next s r t = ReturnsCode (stream_of s) r (stream_of t)

pub starts_some : (v f : ℕ) (b : List ℕ) (code : UnwindCode) (n : ℕ) → StartsWithCode v f b code n → 0 < length b
starts_some v f b code n h = grind arith

nothing_left : (s : CodeStream) (xs : List (Result UnwindCode Error)) → s.content ≡ [] → AreItems s xs → xs ≡ []
nothing_left s [] e h = refl
nothing_left s (Ok code ∷ xs) e h = absurd (omega (arith, starts_some s.version s.frame s.content code h.0 h.1, ap (λ (b : List ℕ). length b) e))
nothing_left s (Err x ∷ xs) e h = absurd (omega (arith, h.0, ap (λ (b : List ℕ). length b) e))

pub items_from_yields : (s t u : UnwindCodeIterator) (xs : List (Result UnwindCode Error)) → Yields Next s xs t → Next t None u → AreItems (stream_of s) xs
items_from_yields s t u [] y end = subst (λ (r : UnwindCodeIterator). r.bytes.now ≡ []) (sym y) end.0
items_from_yields s t u (Ok code ∷ xs) y end =
    let j : UnwindCodeIterator = y.0 in
    let rest : AreItems (stream_of j) xs = items_from_yields j t u xs y.2 end in
    (y.1.0, y.1.1, subst (λ (r : CodeStream). AreItems r xs) y.1.3 rest)
items_from_yields s t u (Err e ∷ xs) y end =
    let j : UnwindCodeIterator = y.0 in
    let rest : AreItems (stream_of j) xs = items_from_yields j t u xs y.2 end in
    (y.1.0, y.1.1, y.1.2, nothing_left (stream_of j) xs (ap (λ (r : CodeStream). r.content) y.1.3) rest)

-- one line spells one operation
one_operation : (v f offset op info : ℕ) (more : List ℕ) (o r : UnwindOperation) → SpellsOperation v f offset op info more o → SpellsOperation v f offset op info more r → o ≡ r
one_operation v f offset op info [] o r h k = grind arith
one_operation v f offset op info (a ∷ []) o r h k = absurd h
one_operation v f offset op info (a ∷ b ∷ []) o r h k = grind arith
one_operation v f offset op info (a ∷ b ∷ c ∷ []) o r h k = absurd h
one_operation v f offset op info (a ∷ b ∷ c ∷ d ∷ []) o r h k = grind arith
one_operation v f offset op info (a ∷ b ∷ c ∷ d ∷ e ∷ more) o r h k = absurd h

-- bytes start with one code at most
pub one_code : (v f : ℕ) (b : List ℕ) (c d : UnwindCode) (m n : ℕ) → StartsWithCode v f b c m → StartsWithCode v f b d n → (c ≡ d) × (m ≡ n)
one_code v f b c d m n h k = grind (arith, starts_slots, one_operation)

one_refusal : (v f : ℕ) (b : List ℕ) (i j : Refusal) → IsCodeRefusal v f b i → IsCodeRefusal v f b j → i ≡ j
one_refusal v f b i j h k = grind arith

-- a stream has one list of items, up to the numbers in its refusal
pub one_reading : (s : CodeStream) (xs ys : List (Result UnwindCode Error)) → AreItems s xs → AreItems s ys → map answer_of xs ≡ map answer_of ys
one_reading s [] ys h k = sym (ap (map answer_of) (nothing_left s ys h k))
one_reading s (Ok c ∷ xs) [] h k = absurd (omega (arith, starts_some s.version s.frame s.content c h.0 h.1, ap (λ (b : List ℕ). length b) k))
one_reading s (Ok c ∷ xs) (Err e ∷ ys) h k = absurd (k.1 c h.0 h.1)
one_reading s (Ok c ∷ xs) (Ok d ∷ ys) h k =
    let same = one_code s.version s.frame s.content c d h.0 k.0 h.1 k.1 in
    let rest : AreItems (with_left s (drop k.0 s.content)) xs = subst (λ (n : ℕ). AreItems (with_left s (drop n s.content)) xs) same.1 h.2 in
    ap (λ (x : UnwindCode). Ok x ∷ map answer_of xs) same.0
    ∙ ap (λ (zs : List (Result UnwindCode Refusal)). Ok d ∷ zs) (one_reading (with_left s (drop k.0 s.content)) xs ys rest k.2)
one_reading s (Err e ∷ xs) [] h k = absurd (omega (arith, h.0, ap (λ (b : List ℕ). length b) k))
one_reading s (Err e ∷ xs) (Ok d ∷ ys) h k = absurd (h.1 d k.0 k.1)
one_reading s (Err e ∷ xs) (Err x ∷ ys) h k = grind (arith, one_refusal)

-- ---- a stream has a list of items

-- a code that the bytes start with, or that they start with none, and what refuses them
abbrev FirstItem : ℕ → ℕ → List ℕ → Type 0
FirstItem v f b =
    ((code : UnwindCode) × (n : ℕ) × StartsWithCode v f b code n × (0 < n)) ⊎ (StartsWithNoCode v f b × (e : Error) × IsCodeRefusal v f b (kind_of e))

none_in_one : (v f a : ℕ) (code : UnwindCode) (n : ℕ) → StartsWithCode v f (a ∷ []) code n → ⊥
none_in_one v f a code n h = grind arith

by_room : (v f a b : ℕ) (more : List ℕ) (k : ℕ) (short : Bool) → slots_at v (b % 16) (b / 16) ≡ Some k → nat_lt (2 + length more) (2 * k) ≡ short → FirstItem v f (a ∷ b ∷ more)
by_room v f a b more k true is e =
    let less : 2 + length more < 2 * k = grind (arith, nat_tests) in
    inr (λ code n h. none-cut v f (a ∷ b ∷ more) code n k is (omega (arith, less)) h, TooShort 0 0, cut_slots v f (a ∷ b ∷ more) k (omega arith) is (omega (arith, less)))
by_room v f a b more k false is e =
    let enough : 2 * k ≤ 2 + length more = grind (arith, nat_tests) in
    let some : 1 ≤ k = grind (arith, nat_tests) in
    let m : ℕ = 2 * k - 2 in
    let size : length (take m more) ≡ m = length-take-le m more (omega (arith, enough)) in
    let spelled = all_spelled v f a (b % 16) (b / 16) k (take m more) is (omega (arith, size, some)) in
    inl (record { code_offset = a; operation = spelled.0 }, suc (suc m), (omega (arith, enough, some), (refl, spelled.1)), omega arith)

by_slots : (v f a b : ℕ) (more : List ℕ) (slots : Option ℕ) → slots_at v (b % 16) (b / 16) ≡ slots → FirstItem v f (a ∷ b ∷ more)
by_slots v f a b more None is =
    inr (λ code n h. none-no_slots v f (a ∷ b ∷ more) code n is h, Malformed (reasons.UnwindCode b), λ cut. no_slots-not_cut v f (a ∷ b ∷ more) (omega arith) is cut)
by_slots v f a b more (Some k) is = by_room v f a b more k (nat_lt (2 + length more) (2 * k)) is refl

first_item : (v f : ℕ) (b : List ℕ) → 0 < length b → FirstItem v f b
first_item v f [] some = absurd (omega (arith, some))
first_item v f (a ∷ []) some = inr (λ code n h. none_in_one v f a code n h, TooShort 0 0, cut_one v f (a ∷ []) (omega arith) (omega arith))
first_item v f (a ∷ b ∷ more) some = by_slots v f a b more (slots_at v (b % 16) (b / 16)) refl

abbrev HasItems : ℕ → ℕ → List ℕ → Type 0
HasItems v f b = (xs : List (Result UnwindCode Error)) × AreItems (record { content = b; version = v; frame = f }) xs

items_by : (v f k : ℕ) (b : List ℕ) → length b ≤ suc k → ((d : List ℕ) → length d ≤ k → HasItems v f d) → 0 < length b → HasItems v f b
items_by v f k b le more some =
    ⊎_elim
    (λ (found : (code : UnwindCode) × (n : ℕ) × StartsWithCode v f b code n × (0 < n)).
    let rest : HasItems v f (drop found.1 b) = more (drop found.1 b) (omega (arith, le, found.3, found.2.0, length-drop found.1 b)) in
    (Ok found.0 ∷ rest.0, (found.1, found.2, rest.1)))
    (λ (none : StartsWithNoCode v f b × (e : Error) × IsCodeRefusal v f b (kind_of e)). (Err none.1 ∷ [], (some, none.0, none.2, refl)))
    (first_item v f b some)

has_items : (v f k : ℕ) (b : List ℕ) → length b ≤ k → HasItems v f b
has_items v f k [] le = ([], refl)
has_items v f zero (x ∷ b) le = absurd (omega (arith, le))
has_items v f (suc k) (x ∷ b) le = items_by v f k (x ∷ b) le (λ d short. has_items v f k d short) (omega arith)

pub some_items : (s : CodeStream) → (xs : List (Result UnwindCode Error)) × AreItems s xs
some_items s = has_items s.version s.frame (length s.content) s.content (omega arith)
