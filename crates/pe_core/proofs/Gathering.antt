-- Lists of results, read from the front.
use Rattle.std.proofs.Common.{◌≡◌, ℕ, suc, ◌+◌, ◌<◌, List, [], ◌∷◌, ◌++◌, drop, Option, Some, None, Result, Ok, Err, refl, sym, ap, ◌∙◌, arith, append_assoc}
use Rattle.std.proofs.Math.Seq.{drop-cons}
use Rattle.std.proofs.lemmas.List.{append-nil}
use Rattle.pe_core.proofs.EntryItems.{length-each, get_or-each}
use Rattle.pe_core.specs.Gathered.{with_rest, up_to_none}
use Rattle.pe_core.specs.Refusals.{Refusal}
use Rattle.pe_core.specs.Rows.{each}

pub drop-each : {X : Type 0} (f : ℕ → X) (n i : ℕ) → i < n → drop i (each f n) ≡ f i ∷ drop (suc i) (each f n)
drop-each f n i lt = drop-cons (each f n) i (f i) (omega (arith, lt, length-each f n)) ∙ ap (λ x. x ∷ drop (suc i) (each f n)) (get_or-each f n i (f i) lt)

pub with_none : {X R : Type 0} (r : Result (List X) R) → with_rest [] r ≡ r
with_none (Ok xs) = refl
with_none (Err e) = refl

pub with_one : {X R : Type 0} (xs : List X) (x : X) (r : Result (List X) R) → with_rest (xs ++ x ∷ []) r ≡ with_rest xs (with_rest (x ∷ []) r)
with_one xs x (Ok ys) = ap (λ (l : List _). Ok l) (append_assoc xs (x ∷ []) ys)
with_one xs x (Err e) = refl

-- these are the values of the first i rows, and none of them ends the list
pub record Gathered {X : Type 0} (rows : List (Result (Option X) Refusal)) (i : ℕ) (xs : List X) : Type 0 where
  pub rest : with_rest xs (up_to_none (drop i rows)) ≡ up_to_none rows

pub gathered-start : {X : Type 0} (rows : List (Result (Option X) Refusal)) → Gathered rows 0 []
gathered-start rows = record { rest = with_none (up_to_none rows) }

pub gathered-more : {X : Type 0} (f : ℕ → Result (Option X) Refusal) (n i : ℕ) (xs : List X) (x : X) → Gathered (each f n) i xs → i < n → f i ≡ Ok (Some x) → Gathered (each f n) (i + 1) (xs ++ x ∷ [])
gathered-more f n i xs x g lt is =
    let after : suc i ≡ i + 1 = omega arith in
    let next : drop i (each f n) ≡ Ok (Some x) ∷ drop (i + 1) (each f n) = drop-each f n i lt ∙ ap (λ r. r ∷ drop (suc i) (each f n)) is ∙ ap (λ k. Ok (Some x) ∷ drop k (each f n)) after in
    record { rest = with_one xs x (up_to_none (drop (i + 1) (each f n))) ∙ ap (λ rows. with_rest xs (up_to_none rows)) (sym next) ∙ g.rest }

pub gathered-done : {X : Type 0} (f : ℕ → Result (Option X) Refusal) (n i : ℕ) (xs : List X) → Gathered (each f n) i xs → i < n → f i ≡ Ok None → up_to_none (each f n) ≡ Ok xs
gathered-done f n i xs g lt is =
    let next : drop i (each f n) ≡ Ok None ∷ drop (suc i) (each f n) = drop-each f n i lt ∙ ap (λ r. r ∷ drop (suc i) (each f n)) is in
    sym g.rest ∙ ap (λ rows. with_rest xs (up_to_none rows)) next ∙ ap (λ (l : List _). Ok l) (append-nil xs)

pub gathered-refused : {X : Type 0} (f : ℕ → Result (Option X) Refusal) (n i : ℕ) (xs : List X) (e : Refusal) → Gathered (each f n) i xs → i < n → f i ≡ Err e → up_to_none (each f n) ≡ Err e
gathered-refused f n i xs e g lt is =
    let next : drop i (each f n) ≡ Err e ∷ drop (suc i) (each f n) = drop-each f n i lt ∙ ap (λ r. r ∷ drop (suc i) (each f n)) is in
    sym g.rest ∙ ap (λ rows. with_rest xs (up_to_none rows)) next
