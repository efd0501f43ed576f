-- The items of a stream of ARM64 codes, and that there is one tiling of it.
use Rattle.std.proofs.Common.{◌≡◌, zero, suc, ◌<◌, ◌≤◌, ◌+◌, ◌-◌, ◌/◌, ℕ, All, List, [], ◌∷◌, ◌++◌, length, drop, map, Option, None, Result, Ok, Err, refl, ap, sym, ◌∙◌, subst, arith, append_assoc, inl, inr}
use Rattle.std.proofs.lemmas.Grind.{common_steps}
use Rattle.std.proofs.lemmas.List.{length-append, length-drop, drop_all, drop-drop}
use Rattle.std.proofs.lemmas.List.Elements.{All-drop}
use Rattle.std.specs.Iterator.{Yields}
use Rattle.pe_core.specs.Refusals.{Refusal, answer_of}
use Rattle.pe_core.specs.declared.error.Error.{Error}
use Rattle.pe_core.specs.declared.error.Error.TheVariants.{Malformed}
use Rattle.pe_core.specs.declared.error.Reason.TheVariants as reasons
use Rattle.pe_unwind.specs.declared.arm64.codes.Arm64UnwindCode.{Arm64UnwindCode}
use Rattle.pe_unwind.specs.declared.arm64.codes.Arm64UnwindCodeData.{Arm64UnwindCodeData}
use Rattle.pe_unwind.specs.declared.arm64.codes.Arm64UnwindCodeIterator.{Arm64UnwindCodeIterator}
use Rattle.pe_unwind.specs.Arm64Encoding.{encoding, Legal, StartsWithArm64Code, StartsWithNoArm64Code}
use Rattle.pe_unwind.specs.Arm64Tiling.{CodeOffset, stream_offset, IsItem, Tiles, ReturnsArm64Code, codes_of, Joins}
use Rattle.pe_unwind.proofs.Arm64OneCode.{starts_once, cut_starts_none}
use Rattle.pe_unwind.proofs.Arm64Whole.{code_or_cut}
use Rattle.pe_unwind.proofs.Arm64Equality.{same_fields}

abbrev pub Next : Arm64UnwindCodeIterator → Option (Result Arm64UnwindCodeData Error) → Arm64UnwindCodeIterator → Type 0
Next s r t = ReturnsArm64Code (stream_offset s) r (stream_offset t)

abbrev pub TilesFrom : CodeOffset → List (Result Arm64UnwindCodeData Error) → Type 0
TilesFrom s xs = Tiles s.content s.at xs

nothing_left : (bytes : List ℕ) (at : ℕ) (xs : List (Result Arm64UnwindCodeData Error)) → length bytes ≤ at → Tiles bytes at xs → xs ≡ []
nothing_left bytes at [] over h = refl
nothing_left bytes at (Ok item ∷ xs) over h = absurd (omega (arith, over, h.0))
nothing_left bytes at (Err e ∷ xs) over h = absurd (omega (arith, over, h.0))

-- the items of a whole run tile the bytes from where the iterator stood
pub tiles_from_yields : (s t u : Arm64UnwindCodeIterator) (xs : List (Result Arm64UnwindCodeData Error)) → Yields Next s xs t → Next t None u → TilesFrom (stream_offset s) xs
tiles_from_yields s t u [] y end = subst (λ (r : Arm64UnwindCodeIterator). TilesFrom (stream_offset r) []) (sym y) end.0
tiles_from_yields s t u (Ok item ∷ xs) y end =
    let j : Arm64UnwindCodeIterator = y.0 in
    let rest : TilesFrom (stream_offset j) xs = tiles_from_yields j t u xs y.2 end in
    (y.1.0, y.1.1, subst (λ (p : CodeOffset). TilesFrom p xs) y.1.2 rest)
tiles_from_yields s t u (Err e ∷ xs) y end =
    let j : Arm64UnwindCodeIterator = y.0 in
    let rest : TilesFrom (stream_offset j) xs = tiles_from_yields j t u xs y.2 end in
    let over : Tiles (stream_offset s).content (length (stream_offset s).content) xs = subst (λ (p : CodeOffset). TilesFrom p xs) y.1.2 rest in
    (y.1.0, y.1.1, nothing_left (stream_offset s).content (length (stream_offset s).content) xs (omega arith) over)

-- at one offset of the bytes is one code
one_item : (bytes : List ℕ) (at : ℕ) (d e : Arm64UnwindCodeData) → IsItem bytes at (Ok d) → IsItem bytes at (Ok e) → d ≡ e
one_item bytes at d e h k = grind (arith, starts_once, same_fields)

-- one list of items tiles the bytes, up to the numbers in a refusal
pub one_tiling : (bytes : List ℕ) (at : ℕ) (xs ys : List (Result Arm64UnwindCodeData Error)) → Tiles bytes at xs → Tiles bytes at ys → map answer_of xs ≡ map answer_of ys
one_tiling bytes at [] ys h k = sym (ap (map answer_of) (nothing_left bytes at ys h k))
one_tiling bytes at (x ∷ xs) [] h k = ap (map answer_of) (nothing_left bytes at (x ∷ xs) k h)
one_tiling bytes at (Ok d ∷ xs) (Err e ∷ ys) h k = absurd (k.1.0 d.code h.1.0)
one_tiling bytes at (Err e ∷ xs) (Ok d ∷ ys) h k = absurd (h.1.0 d.code k.1.0)
one_tiling bytes at (Err e ∷ xs) (Err f ∷ ys) h k = grind (arith)
one_tiling bytes at (Ok d ∷ xs) (Ok e ∷ ys) h k =
    let same : d ≡ e = one_item bytes at d e h.1 k.1 in
    let from_e : Tiles bytes (at + e.len) xs = subst (λ (i : Arm64UnwindCodeData). Tiles bytes (at + i.len) xs) same h.2 in
    ap (λ (i : Arm64UnwindCodeData). Ok i ∷ map answer_of xs) same
    ∙ ap (λ (zs : List (Result Arm64UnwindCodeData Refusal)). Ok e ∷ zs) (one_tiling bytes (at + e.len) xs ys from_e k.2)

some_bytes : (c : Arm64UnwindCode) → Legal c → (1 ≤ length (encoding c)) × (length (encoding c) ≤ 5)
some_bytes c legal = grind (arith, common_steps)

pub starts_some : (bytes : List ℕ) (c : Arm64UnwindCode) → StartsWithArm64Code bytes c → 0 < length bytes
starts_some bytes c h = grind (arith, some_bytes, length-append)

none_of_no_bytes : StartsWithNoArm64Code []
none_of_no_bytes c h = absurd (omega (arith, starts_some [] c h))

-- after a code at an offset stand the bytes from the offset of the next on
code_then_rest : (bytes : List ℕ) (at : ℕ) (item : Arm64UnwindCodeData) → IsItem bytes at (Ok item) → drop at bytes ≡ encoding item.code ++ drop (at + item.len) bytes
code_then_rest bytes at item h = grind (arith, drop-drop)

-- a tiling's codes are the bytes, one after the other, up to a rest
pub joined : (bytes : List ℕ) (at : ℕ) (xs : List (Result Arm64UnwindCodeData Error)) → Tiles bytes at xs → Joins (drop at bytes) xs
joined bytes at [] h = record {
  rest = [];
  joined = drop_all at bytes h;
  none = none_of_no_bytes;
  cut = ((λ f. absurd (grind (arith, common_steps, f))), λ some. absurd (omega (arith, some)));
}
joined bytes at (Ok item ∷ xs) h =
    let more : Joins (drop (at + item.len) bytes) xs = joined bytes (at + item.len) xs h.2 in
    record {
      rest = more.rest;
      joined = code_then_rest bytes at item h.1 ∙ ap (λ (x : List ℕ). encoding item.code ++ x) more.joined ∙ sym (append_assoc (encoding item.code) (codes_of xs) more.rest);
      none = more.none;
      cut = more.cut;
    }
joined bytes at (Err e ∷ xs) h = record {
  rest = drop at bytes;
  joined = ap (λ (ys : List (Result Arm64UnwindCodeData Error)). codes_of ys ++ drop at bytes) (sym h.2);
  none = h.1.0;
  cut = ((λ _. omega (arith, length-drop at bytes, h.0)), λ _. refl);
}

-- what starts with no code has fewer than five bytes
short_rest : (bytes : List ℕ) → 0 < length bytes → All (λ x. x < 256) bytes → StartsWithNoArm64Code bytes → length bytes < 5
short_rest bytes some all none =
    elim (code_or_cut bytes some all) [
      | inl code ↦ absurd (none code.0 code.1)
      | inr cut ↦
          let bound = some_bytes cut.code cut.legal in
          omega (arith, bound.1, cut.some, ap (λ (x : List ℕ). length x) cut.spelled, length-append bytes cut.missing)
    ]

-- a tiling has an item for each five bytes at least, and for each byte at most
pub item_counts : (bytes : List ℕ) (at : ℕ) (xs : List (Result Arm64UnwindCodeData Error)) → All (λ x. x < 256) bytes → Tiles bytes at xs → ((length bytes - at + 4) / 5 ≤ length xs) × (length xs ≤ length bytes - at)
item_counts bytes at [] all h = (omega (arith, h), omega (arith, h))
item_counts bytes at (Ok item ∷ xs) all h =
    let more = item_counts bytes (at + item.len) xs all h.2 in
    let bound = some_bytes item.code h.1.0.legal in
    (omega (arith, h.0, h.1.2, bound.0, bound.1, more.0), omega (arith, h.0, h.1.2, bound.0, bound.1, more.1))
item_counts bytes at (Err e ∷ xs) all h =
    let short = short_rest (drop at bytes) (omega (arith, length-drop at bytes, h.0)) (All-drop (λ x. x < 256) at bytes all) h.1.0 in
    let over : length xs ≡ 0 = ap (λ (ys : List (Result Arm64UnwindCodeData Error)). length ys) h.2 in
    (omega (arith, length-drop at bytes, short, over), omega (arith, h.0, over))

-- a list of items that tiles the bytes from an offset on
abbrev pub Tiling : List ℕ → ℕ → Type 0
Tiling bytes at = (xs : List (Result Arm64UnwindCodeData Error)) × Tiles bytes at xs

-- the item at an offset, and those after it
tiling_step : (bytes left : List ℕ) (at : ℕ) → drop at bytes ≡ left → All (λ x. x < 256) bytes → ((n : ℕ) → 1 ≤ n → Tiling bytes (at + n)) → Tiling bytes at
tiling_step bytes [] at here all more = ([], omega (arith, length-drop at bytes, ap (λ (x : List ℕ). length x) here))
tiling_step bytes (x ∷ left) at here all more =
    let some : at < length bytes = omega (arith, length-drop at bytes, ap (λ (y : List ℕ). length y) here) in
    elim (code_or_cut (drop at bytes) (omega (arith, length-drop at bytes, some)) (All-drop (λ x. x < 256) at bytes all)) [
      | inl code ↦
          let bound = some_bytes code.0 code.1.legal in
          let after = more (length (encoding code.0)) bound.0 in
          (Ok (record { offset = at; code = code.0; len = length (encoding code.0) }) ∷ after.0, (some, (code.1, refl, refl), after.1))
      | inr cut ↦ (Err (Malformed (reasons.Arm64Cut at)) ∷ [], (some, (cut_starts_none (drop at bytes) cut, refl), refl))
    ]

tiling_of_left : (n : ℕ) (bytes : List ℕ) (at : ℕ) → length bytes ≤ at + n → All (λ x. x < 256) bytes → Tiling bytes at
tiling_of_left zero bytes at few all = ([], omega (arith, few))
tiling_of_left (suc n) bytes at few all =
    tiling_step bytes (drop at bytes) at refl all (λ k some. tiling_of_left n bytes (at + k) (omega (arith, few, some)) all)

-- every byte string has a tiling
pub some_tiling : (bytes : List ℕ) (at : ℕ) → All (λ x. x < 256) bytes → Tiling bytes at
some_tiling bytes at all = tiling_of_left (length bytes) bytes at (omega arith) all
