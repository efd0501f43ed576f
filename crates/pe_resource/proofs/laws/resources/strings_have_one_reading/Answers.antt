use Rattle.std.proofs.Common.{◌≡◌, ◌≢◌, ℕ, zero, suc, ◌<◌, ◌≤◌, ◌↔◌, length, length-drop, arith, ◌⊎◌, inl, inr, List, [], ◌∷◌, map, drop, Option, Some, None, Result, Ok, Err, refl, ap, sym, ◌∙◌, subst}
use Rattle.pe_resource.proofs.Cited.{Yields, one_ok, one_err, not_both, Refusal, Error, ResourceString, VersionString, version_string_at}
use Rattle.pe_resource.proofs.Cited.{Strings, ReturnsString, item_of, then_more, strings}
use Rattle.pe_core.proofs.Map.{same_some}
use Rattle.pe_resource.specs.declared.string.ResourceStringIterator.{ResourceStringIterator}
use Rattle.pe_resource.specs.VersionStrings.{rest_of}
use Rattle.pe_resource.proofs.StringLists.{further, strings_start, strings_empty}
use Rattle.pe_resource.proofs.laws.resources.strings_have_one_reading.Goals as goal

-- The strings of a byte string.
abbrev Next : ResourceStringIterator → Option (Result ResourceString Error) → ResourceStringIterator → Type 0
Next s r t = ReturnsString (rest_of s) r (rest_of t)

nothing_left : (b : List ℕ) (xs : List (Result VersionString Refusal)) → b ≡ [] → Strings b xs → xs ≡ []
nothing_left b [] e h = refl
nothing_left b (Ok s ∷ xs) e h = absurd (h.0 e)
nothing_left b (Err r ∷ xs) e h = absurd (h.0 e)

strings_from_yields : (s t u : ResourceStringIterator) (xs : List (Result ResourceString Error)) → Yields Next s xs t → Next t None u → Strings (rest_of s) (map item_of xs)
strings_from_yields s t u [] y end =
    subst (λ (r : ResourceStringIterator). (rest_of r ≡ []) ⊎ ((q : ℕ) × (version_string_at (rest_of r) 0 ≡ Ok (None, q)))) (sym y) end.0
strings_from_yields s t u (Ok v ∷ xs) y end =
    (y.1.0, y.1.1, y.1.2, subst (λ (r : List ℕ). Strings r (map item_of xs)) y.1.3 (strings_from_yields y.0 t u xs y.2 end))
strings_from_yields s t u (Err e ∷ xs) y end =
    (y.1.0, y.1.1, nothing_left (rest_of y.0) (map item_of xs) y.1.2 (strings_from_yields y.0 t u xs y.2 end))

not_none : {X : Type 0} (x : X) → None ≡ Some x → ⊥
not_none x e = cc

abbrev Pair : Type 0
Pair = Option VersionString × ℕ

ends_not : (b : List ℕ) (s : VersionString) (q : ℕ) → (b ≡ []) ⊎ ((r : ℕ) × (version_string_at b 0 ≡ Ok (None, r))) → (b ≡ [] → ⊥) → version_string_at b 0 ≡ Ok (Some s, q) → ⊥
ends_not b s q (inl h) ne e = ne h
ends_not b s q (inr h) ne e = not_none s (ap (λ (p : Pair). p.0) (one_ok (version_string_at b 0) (None, h.0) (Some s, q) h.1 e))

ends_not_refused : (b : List ℕ) (x : Refusal) → (b ≡ []) ⊎ ((r : ℕ) × (version_string_at b 0 ≡ Ok (None, r))) → (b ≡ [] → ⊥) → version_string_at b 0 ≡ Err x → ⊥
ends_not_refused b x (inl h) ne e = ne h
ends_not_refused b x (inr h) ne e = not_both (version_string_at b 0) (None, h.0) x h.1 e

strings_once : (b : List ℕ) (xs ys : List (Result VersionString Refusal)) → Strings b xs → Strings b ys → xs ≡ ys
strings_once b [] [] h k = refl
strings_once b [] (Ok d ∷ ys) h k = absurd (ends_not b d k.1 h k.0 k.2)
strings_once b [] (Err e ∷ ys) h k = absurd (ends_not_refused b e h k.0 k.1)
strings_once b (Ok c ∷ xs) [] h k = absurd (ends_not b c h.1 k h.0 h.2)
strings_once b (Ok c ∷ xs) (Ok d ∷ ys) h k =
    let e = one_ok (version_string_at b 0) (Some c, h.1) (Some d, k.1) h.2 k.2 in
    let first : c ≡ d = same_some c d (ap (λ (p : Pair). p.0) e) in
    let next : h.1 ≡ k.1 = ap (λ (p : Pair). p.1) e in
    let rest : xs ≡ ys = strings_once (drop h.1 b) xs ys h.3 (subst (λ (n : ℕ). Strings (drop n b) ys) (sym next) k.3) in
    ap (λ (x : VersionString). Ok x ∷ xs) first ∙ ap (λ (zs : List (Result VersionString Refusal)). Ok d ∷ zs) rest
strings_once b (Ok c ∷ xs) (Err f ∷ ys) h k = absurd (not_both (version_string_at b 0) (Some c, h.1) f h.2 k.1)
strings_once b (Err e ∷ xs) [] h k = absurd (ends_not_refused b e k h.0 h.1)
strings_once b (Err e ∷ xs) (Ok d ∷ ys) h k = absurd (not_both (version_string_at b 0) (Some d, k.1) e k.2 h.1)
strings_once b (Err e ∷ xs) (Err f ∷ ys) h k =
    ap (λ (r : Refusal). Err r ∷ xs) (one_err (version_string_at b 0) e f h.1 k.1) ∙ ap (λ (zs : List (Result VersionString Refusal)). Err f ∷ zs) (h.2 ∙ sym k.2)

-- the function of the bytes has the strings
strings_at : (b : List ℕ) (r : Result (Option VersionString × ℕ) Refusal) → b ≢ [] → version_string_at b 0 ≡ r → ((q : ℕ) → 0 < q → Strings (drop q b) (strings (drop q b))) → Strings b (then_more strings b r)
strings_at b (Err e) ne is later = (ne, is, refl)
strings_at b (Ok (None, q)) ne is later = inr (q, is)
strings_at b (Ok (Some s, q)) ne is later = (ne, q, is, later q (further b s q is))

strings_within : (n : ℕ) (b : List ℕ) → length b ≤ n → Strings b (strings b)
strings_within n [] h = subst (Strings []) (sym strings_empty) (inl refl)
strings_within zero (x ∷ xs) h = absurd (omega arith)
strings_within (suc n) (x ∷ xs) h =
    subst (Strings (x ∷ xs)) (sym (strings_start (x ∷ xs) (λ e. cc)))
    (strings_at (x ∷ xs) (version_string_at (x ∷ xs) 0) (λ e. cc) refl (λ q some. strings_within n (drop q (x ∷ xs)) (grind (arith, length-drop {A = ℕ}))))

one_reading : (b : List ℕ) (xs : List (Result VersionString Refusal)) → Strings b xs ↔ (xs ≡ strings b)
one_reading b xs = (
  λ h. strings_once b xs (strings b) h (strings_within (length b) b (omega arith)),
  λ e. subst (Strings b) (sym e) (strings_within (length b) b (omega arith)),
)

pub returns-clause-items : goal.returns-clause-items
returns-clause-items c = λ s xs d. strings_from_yields s d.1.0 d.0 xs d.1.1 d.1.2

pub returns-clause-once : goal.returns-clause-once
returns-clause-once c = one_reading
