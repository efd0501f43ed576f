-- A walk over the elements of a range returns the elements that it has.
use Rattle.std.proofs.Common.{◌≡◌, ℕ, ◌+◌, ◌-◌, ◌≤◌, ◌==◌, Bool, true, false, List, [], ◌∷◌, length, take, map, Option, Some, None, Result, Ok, Err, refl, sym, ap, subst, ◌∙◌, if◌then◌else◌, arith}
use Rattle.std.proofs.lemmas.Bool.Decides.{nat_tests}
use Rattle.std.proofs.lemmas.List.{length-take}
use Rattle.std.specs.Prelude.{nat_lt, not}
use Rattle.pe_core.specs.Bytes.{holds}
use Rattle.pe_core.specs.Refusals.{◌>>=◌}
use Rattle.pe_pkcs7.proofs.Reading.{within}
use Rattle.pe_pkcs7.specs.Der as der
use Rattle.pe_pkcs7.specs.Fields.{first_element}
use Rattle.pe_pkcs7.specs.Walks.{First, Items}
use Rattle.pe_pkcs7.specs.declared.der.Element.{Element}
use Rattle.pe_pkcs7.specs.declared.error.SignatureError.{SignatureError}
use Rattle.calls_base.proofs.Runs.{gives_first, gives_nothing, gives_refusal}
use Rattle.calls_base.specs.Ranges.{no_bytes}
use Rattle.calls_base.specs.Runs.{IsOver, ReturnsItems}
use Rattle.calls_signatures.specs.SignatureParts.{StepsElements, elements_after, left_from, left_place, next_element, parsed, refused, up_to_range}
use Rattle.calls_base.specs.declared.ranges.Range.{Range}
use Rattle.calls_signatures.specs.declared.refused.SignatureFailure.{SignatureFailure}

abbrev Place : Type 0
Place = List ℕ × ℕ

-- what a step returns where this stands first
abbrev by_first : First Element Place → Result (Option Element) SignatureFailure
by_first None = Ok None
by_first (Some (Ok x)) = Ok (Some x.0)
by_first (Some (Err e)) = Err (refused e)

next_by : (b : List ℕ) (w : Range) (empty : Bool) (read : Result Element SignatureError) → holds b w.offset w.length ≡ true → (w.length == 0) ≡ empty → nat_lt w.offset (length (take (w.offset + w.length) b)) ≡ not empty →
    der.element_at (take (w.offset + w.length) b) w.offset ≡ read → next_element b w ≡ by_first (first_element (left_place b w))
unfolding next_element up_to_range first_element
next_by b w true read h e t r = rw h (rw e (rw t refl))
next_by b w false (Ok x) h e t r = rw h (rw e (rw t (rw r refl)))
next_by b w false (Err f) h e t r = rw h (rw e (rw t (rw r refl)))

next_is : (b : List ℕ) (w : Range) → w.offset + w.length ≤ length b → next_element b w ≡ by_first (first_element (left_place b w))
next_is b w inside =
    let h : holds b w.offset w.length ≡ true = grind (arith, nat_tests) in
    let t : nat_lt w.offset (length (take (w.offset + w.length) b)) ≡ not (w.length == 0) = grind (arith, nat_tests, length-take) in
    next_by b w (w.length == 0) (der.element_at (take (w.offset + w.length) b) w.offset) h refl t refl

nothing_first : (b : List ℕ) → by_first (first_element (left_place b no_bytes)) ≡ Ok None
unfolding first_element
nothing_first b = refl

over_there : (b : List ℕ) → IsOver (StepsElements b) no_bytes
over_there b =
    let e : next_element b no_bytes ≡ Ok None = next_is b no_bytes (omega arith) ∙ nothing_first b in
    λ answer v s. (s.0 ∙ e, s.1 ∙ ap (elements_after no_bytes) e)

goes_by : (b : List ℕ) (w : Range) (test : Bool) (read : Result Element SignatureError) (x : Element) (t : Place) → w.offset + w.length ≤ length b → der.element_at (take (w.offset + w.length) b) w.offset ≡ read →
    (if test then Some (◌>>=◌ {B = Element × Place} read (λ x. Ok (x, (take (w.offset + w.length) b, x.end)))) else None) ≡ Some (Ok (x, t)) →
    ((left_from w x.end).offset + (left_from w x.end).length ≤ length b) × (t ≡ left_place b (left_from w x.end))
goes_by b w false read x t inside e h = absurd (cc h)
goes_by b w true (Err f) x t inside e h = absurd (cc h)
goes_by b w true (Ok y) x t inside e h =
    let pair : (y, (take (w.offset + w.length) b, y.end)) ≡ (x, t) = cc h in
    let same : y ≡ x = ap (λ (z : Element × Place). z.0) pair in
    let left : (take (w.offset + w.length) b, y.end) ≡ t = ap (λ (z : Element × Place). z.1) pair in
    let end : y.end ≡ x.end = ap (λ (z : Element). z.end) same in
    let k = within (take (w.offset + w.length) b) w.offset y e in
    let size : length (take (w.offset + w.length) b) ≡ w.offset + w.length = grind (arith, length-take) in
    let all : x.end + (w.length - (x.end - w.offset)) ≡ w.offset + w.length = omega (arith, k.1, k.2, size, end) in
    (omega (arith, all, inside), sym left ∙ ap (λ (p : ℕ). (take (w.offset + w.length) b, p)) end ∙ ap (λ (n : ℕ). (take n b, x.end)) (sym all))

goes_on : (b : List ℕ) (w : Range) (x : Element) (t : Place) → w.offset + w.length ≤ length b → first_element (left_place b w) ≡ Some (Ok (x, t)) →
    ((left_from w x.end).offset + (left_from w x.end).length ≤ length b) × (t ≡ left_place b (left_from w x.end))
unfolding first_element
goes_on b w x t inside h =
    goes_by b w (nat_lt w.offset (length (take (w.offset + w.length) b))) (der.element_at (take (w.offset + w.length) b) w.offset) x t inside refl h

pub in_turn : (b : List ℕ) (w : Range) (items : List (Result Element SignatureError)) → w.offset + w.length ≤ length b → Items first_element (left_place b w) items → ReturnsItems (StepsElements b) w (map parsed items)
in_turn b w [] inside f =
    let e : next_element b w ≡ Ok None = next_is b w inside ∙ ap by_first f in
    let over : IsOver (StepsElements b) w = λ answer v s. (s.0 ∙ e, s.1 ∙ ap (elements_after w) e) in
    gives_nothing (StepsElements b) w w over over
in_turn b w (Ok x ∷ items) inside f =
    let e : next_element b w ≡ Ok (Some x) = next_is b w inside ∙ ap by_first f.1 in
    let on = goes_on b w x f.0 inside f.1 in
    let more : ReturnsItems (StepsElements b) (left_from w x.end) (map parsed items) = in_turn b (left_from w x.end) items on.0 (subst (λ (t : Place). Items first_element t items) on.1 f.2) in
    gives_first (StepsElements b) w (left_from w x.end) x (map parsed items) (λ answer v s. (s.0 ∙ e, s.1 ∙ ap (elements_after w) e)) more
in_turn b w (Err r ∷ items) inside f =
    let e : next_element b w ≡ Err (refused r) = next_is b w inside ∙ ap by_first f.0 in
    let last : ReturnsItems (StepsElements b) w (Err (refused r) ∷ []) = gives_refusal (StepsElements b) w no_bytes (refused r) (λ answer v s. (s.0 ∙ e, s.1 ∙ ap (elements_after w) e)) (over_there b) in
    subst (λ (more : List (Result Element SignatureError)). ReturnsItems (StepsElements b) w (Err (refused r) ∷ map parsed more)) (sym f.1) last
