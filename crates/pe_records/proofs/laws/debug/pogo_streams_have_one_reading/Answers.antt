use Rattle.std.proofs.Common.{◌≡◌, ℕ, List, [], ◌∷◌, map, drop, Option, Some, None, Result, Ok, Err, refl, ap, sym, ◌∙◌, subst, ◌≢◌, zero, suc, ◌+◌, ◌<◌, ◌≤◌, ◌⊎◌, inl, inr, length, take, get_or, length-drop, arith}
use Rattle.std.proofs.lemmas.Bool.{cases_lt}
use Rattle.pe_core.specs.Bytes.{le}
use Rattle.pe_core.specs.Refusals.{Refusal}
use Rattle.pe_core.specs.SectionMap.{rounded_up}
use Rattle.pe_records.specs.Pogo.{Entry, Entries, ReturnsPogoEntry, pogo_bytes_left, stream_item_of, StartsWith, StartsWithNone, refusal}
use Rattle.pe_records.proofs.PogoNames.{starts_once, starts_from, none_short, none_unterminated, none_truncated}
use Rattle.std.specs.Iterator.{Yields}
use Rattle.pe_core.specs.declared.error.Error.{Error}
use Rattle.pe_records.specs.declared.debug.pogo.POGOInfoEntry.{POGOInfoEntry}
use Rattle.pe_records.specs.declared.debug.pogo.POGOEntryIterator.{POGOEntryIterator}
use Rattle.pe_records.proofs.laws.debug.pogo_streams_have_one_reading.Goals as goal

-- Every byte string is a stream of POGO entries, to its end or to one error.

-- ---- the first zero of some bytes, if they have one

abbrev NoZeroBefore : List ℕ → ℕ → Type 0
NoZeroBefore b k = (j : ℕ) → j < k → get_or b j 0 ≢ 0

record FirstZero (b : List ℕ) : Type 0 where
  offset : ℕ
  within : offset < length b
  here : get_or b offset 0 ≡ 0
  before : NoZeroBefore b offset

after : (x k : ℕ) (b : List ℕ) → NoZeroBefore b k → NoZeroBefore (suc x ∷ b) (suc k)
after x k b h zero lt = λ e. omega (arith, e)
after x k b h (suc j) lt = h j (omega (arith, lt))

zero_or_none : (b : List ℕ) → FirstZero b ⊎ NoZeroBefore b (length b)
zero_or_none [] = inr (λ j h. absurd (omega (arith, h)))
zero_or_none (zero ∷ b) = inl (record { offset = 0; within = omega arith; here = refl; before = λ j h. absurd (omega (arith, h)) })
zero_or_none (suc x ∷ b) = elim (zero_or_none b) [
  | inl z ↦ inl (record { offset = suc z.offset; within = omega (arith, z.within); here = z.here; before = after x z.offset b z.before })
  | inr h ↦ inr (after x (length b) b h)
]

-- ---- the entry at the front, if there is one

abbrev Front : List ℕ → Type 0
Front b = ((e : Entry) × (n : ℕ) × StartsWith b e n) ⊎ StartsWithNone b

front_from : (b : List ℕ) → FirstZero (drop 8 b) → Front b
front_from b z =
    let n : ℕ = rounded_up (8 + z.offset + 1) 4 in
    elim (cases_lt (length b) n) [
      | inl h ↦ inr (none_truncated b (drop 8 b) z.offset refl z.within z.here z.before h)
      | inr h ↦ inl (
        record { rva = le b 0 4; size = le b 4 4; name = take (z.offset + 1) (drop 8 b) },
        n,
        starts_from b (drop 8 b) (take (z.offset + 1) (drop 8 b)) (le b 0 4) (le b 4 4) z.offset n refl z.within z.here z.before refl refl refl refl h,
      )
    ]

front : (b : List ℕ) → Front b
front b = elim (cases_lt (length b) 8) [
  | inl h ↦ inr (none_short b h)
  | inr h ↦ elim (zero_or_none (drop 8 b)) [
    | inl z ↦ front_from b z
    | inr none ↦ inr (none_unterminated b (drop 8 b) refl none)
  ]
]

-- ---- all entries

abbrev Reading : List ℕ → Type 0
Reading b = (xs : List (Result Entry Refusal)) × Entries b xs

some_bytes : (b : List ℕ) (e : Entry) (n : ℕ) → StartsWith b e n → 0 < n
some_bytes b e n h = let padded : n ≡ rounded_up (8 + length e.name) 4 = h.padded in omega arith

-- the entry at the front, and those after it
reading_step : (b : List ℕ) → b ≢ [] → ((n : ℕ) → 0 < n → Reading (drop n b)) → Reading b
reading_step b some more = elim (front b) [
  | inl e ↦
      let rest = more e.1 (some_bytes b e.0 e.1 e.2) in
      (Ok e.0 ∷ rest.0, (some, e.1, e.2, rest.1))
  | inr none ↦ (Err (refusal b) ∷ [], (some, none, refl, refl))
]

reading_of : (n : ℕ) (b : List ℕ) → length b ≤ n → Reading b
reading_of n [] few = ([], refl)
reading_of zero (x ∷ b) few = absurd (omega (arith, few))
reading_of (suc n) (x ∷ b) few =
    reading_step (x ∷ b) (λ e. cc)
    (λ k some. reading_of n (drop k (x ∷ b)) (omega (arith, few, some, length-drop k (x ∷ b))))

some_reading : (b : List ℕ) → Reading b
some_reading b = reading_of (length b) b (omega arith)

abbrev Next : POGOEntryIterator → Option (Result POGOInfoEntry Error) → POGOEntryIterator → Type 0
Next s r t = ReturnsPogoEntry (pogo_bytes_left s) r (pogo_bytes_left t)

nothing_left : (b : List ℕ) (xs : List (Result Entry Refusal)) → b ≡ [] → Entries b xs → xs ≡ []
nothing_left b [] e h = refl
nothing_left b (Ok s ∷ xs) e h = absurd (h.0 e)
nothing_left b (Err r ∷ xs) e h = absurd (h.0 e)

entries_from_yields : (s t u : POGOEntryIterator) (xs : List (Result POGOInfoEntry Error)) → Yields Next s xs t → Next t None u → Entries (pogo_bytes_left s) (map stream_item_of xs)
entries_from_yields s t u [] y end = subst (λ (r : POGOEntryIterator). pogo_bytes_left r ≡ []) (sym y) end.0
entries_from_yields s t u (Ok v ∷ xs) y end =
    (y.1.0, y.1.1, y.1.2, subst (λ (r : List ℕ). Entries r (map stream_item_of xs)) y.1.3 (entries_from_yields y.0 t u xs y.2 end))
entries_from_yields s t u (Err e ∷ xs) y end =
    (y.1.0, y.1.1, y.1.2, nothing_left (pogo_bytes_left y.0) (map stream_item_of xs) y.1.3 (entries_from_yields y.0 t u xs y.2 end))

entries_once : (b : List ℕ) (xs ys : List (Result Entry Refusal)) → Entries b xs → Entries b ys → xs ≡ ys
entries_once b [] [] h k = refl
entries_once b [] (Ok d ∷ ys) h k = absurd (k.0 h)
entries_once b [] (Err e ∷ ys) h k = absurd (k.0 h)
entries_once b (Ok c ∷ xs) [] h k = absurd (h.0 k)
entries_once b (Ok c ∷ xs) (Ok d ∷ ys) h k =
    let same = starts_once b c d h.1 k.1 h.2 k.2 in
    let rest : xs ≡ ys = entries_once (drop h.1 b) xs ys h.3 (subst (λ (n : ℕ). Entries (drop n b) ys) (sym same.1) k.3) in
    ap (λ (x : Entry). Ok x ∷ xs) same.0 ∙ ap (λ (zs : List (Result Entry Refusal)). Ok d ∷ zs) rest
entries_once b (Ok c ∷ xs) (Err f ∷ ys) h k = absurd (k.1 c h.1 h.2)
entries_once b (Err e ∷ xs) [] h k = absurd (h.0 k)
entries_once b (Err e ∷ xs) (Ok d ∷ ys) h k = absurd (h.1 d k.1 k.2)
entries_once b (Err e ∷ xs) (Err f ∷ ys) h k =
    ap (λ (r : Refusal). Err r ∷ xs) (h.2 ∙ sym k.2) ∙ ap (λ (zs : List (Result Entry Refusal)). Err f ∷ zs) (h.3 ∙ sym k.3)

nothing_more : (b left : List ℕ) (r : Option (Result POGOInfoEntry Error)) → b ≡ [] → ReturnsPogoEntry b r left → r ≡ None
nothing_more b left None h y = refl
nothing_more b left (Some (Ok e)) h y = absurd (y.0 h)
nothing_more b left (Some (Err e)) h y = absurd (y.0 h)

over_after_none : (s t u : POGOEntryIterator) (r : Option (Result POGOInfoEntry Error)) → Next s None t → Next t r u → r ≡ None
over_after_none s t u r h k = nothing_more (pogo_bytes_left t) (pogo_bytes_left u) r h.1 k

over_after_refusal : (s t u : POGOEntryIterator) (e : Error) (r : Option (Result POGOInfoEntry Error)) → Next s (Some (Err e)) t → Next t r u → r ≡ None
over_after_refusal s t u e r h k = nothing_more (pogo_bytes_left t) (pogo_bytes_left u) r h.3 k

pub returns : goal.returns
returns c = record {
  items = λ s xs d. entries_from_yields s d.1.0 d.0 xs d.1.1 d.1.2;
  exists = some_reading;
  once = entries_once;
  refusal = over_after_refusal;
  none = over_after_none;
}
