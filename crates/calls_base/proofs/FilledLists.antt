-- Lists that are filled by the steps of a walk.
use Rattle.std.proofs.Common.{◌≡◌, ℕ, ◌+◌, ◌<◌, ◌≤◌, Bool, true, false, List, [], ◌∷◌, ◌++◌, length, take, drop, slice_set, Option, Some, Result, Ok, Err, refl, sym, ap, subst, ◌∙◌, arith}
use Rattle.calls_base.proofs.Cited.{drop_more_same, drop-set-lt, length-take-le, take-append-drop, take_more_set}
use Rattle.calls_base.specs.Lists.{HandsOutListIf, Lists, Numbered, PutsList, Stops, Takes}

-- ---- the loop

-- one more step
takes_more : {W X E : Type 0} (Steps : W → Result (Option X) E → W → Type 0) (w u v : W) (xs : List X) (x : X) → Takes Steps w xs u → Steps u (Ok (Some x)) v → Takes Steps w (xs ++ x ∷ []) v
takes_more {W} Steps w u v [] x t s = (v, subst (λ (p : W). Steps p (Ok (Some x)) v) t s, refl)
takes_more Steps w u v (y ∷ xs) x t s = (t.0, t.1, takes_more Steps t.0 u v xs x t.2 s)

pub written_more : {W X E : Type 0} (Steps : W → Result (Option X) E → W → Type 0) (w u v : W) (entries : List X) (n : ℕ) (x : X) → n < length entries →
    Takes Steps w (take n entries) u → Steps u (Ok (Some x)) v → Takes Steps w (take (n + 1) (slice_set entries n x)) v
written_more Steps w u v entries n x lt t s = grind (arith, take_more_set, takes_more)

-- what is kept of the array, and how long it is
pub kept_more : {X : Type 0} (xs ys : List X) (i : ℕ) (y : X) → drop i xs ≡ drop i ys → drop (i + 1) (slice_set xs i y) ≡ drop (i + 1) ys
kept_more xs ys i y e = rw (drop-set-lt (i + 1) xs i y (omega arith)) (drop_more_same xs ys i e)

-- a list that ends before there is no more room: the walk is at its end, or the next step is an error
pub ends_list : {W X : Type 0} (Steps : W → Result (Option X) ℕ → W → Type 0) (w u v : W) (entries initial : List X) (n : ℕ) → n ≤ length entries → drop n entries ≡ drop n initial →
    Takes Steps w (take n entries) u → Stops Steps (length initial) (take n entries) u v → PutsList Steps w v initial entries (Ok n)
ends_list Steps w u v entries initial n inside kept t stops = grind (arith, length-take-le, take-append-drop)

-- ---- what a call hands out

pub hands_out_if : {W X : Type 0} (Steps : W → Result (Option X) ℕ → W → Type 0) (empty : Bool) (w v : W) (old new : List X) (before n : ℕ) → false ≡ empty →
    PutsList Steps w v old new (Ok n) → HandsOutListIf empty Steps 0 w v old new before n
hands_out_if Steps true w v old new before n e p = absurd cc
hands_out_if {X = X} Steps false w v old new before n e p = (Ok p.0, p.1, (refl, p.3 ∙ ap (λ (k : ℕ). p.0 ++ drop k old) p.2, p.2))

pub refused_if : {W X : Type 0} (Steps : W → Result (Option X) ℕ → W → Type 0) (empty : Bool) (w v : W) (old new : List X) (before e : ℕ) → false ≡ empty →
    PutsList Steps w v old new (Err e) → HandsOutListIf empty Steps e w v old new before before
refused_if Steps true w v old new before e same p = absurd cc
refused_if Steps false w v old new before e same p = (Err e, p.0, (refl, p.1, refl))

-- ---- lists by steps over something else, which are steps of a walk that it stands for

-- what is known of it stays known, and what it stands for steps
abbrev pub StepsAs : {S W X E : Type 0} → (S → Type 0) → (S → W) → (S → Result (Option X) E → S → Type 0) → (W → Result (Option X) E → W → Type 0) → Type 0
StepsAs {S} {W} {X} {E} Known f Near Steps = (s t : S) (answer : Result (Option X) E) → Known s → Near s answer t → Known t × Steps (f s) answer (f t)

pub numbered_as : {S W X R : Type 0} (number : R → ℕ) (Known : S → Type 0) (f : S → W) (Near : S → Result (Option X) R → S → Type 0) (Steps : W → Result (Option X) R → W → Type 0) →
    StepsAs Known f Near Steps → StepsAs Known f (Numbered number Near) (Numbered number Steps)
numbered_as number Known f Near Steps same s t answer k h = let one = same s t h.0 k h.1 in (one.0, (h.0, one.1, h.2))

pub takes_as : {S W X E : Type 0} (Known : S → Type 0) (f : S → W) (Near : S → Result (Option X) E → S → Type 0) (Steps : W → Result (Option X) E → W → Type 0) →
    StepsAs Known f Near Steps → (s t : S) (xs : List X) → Known s → Takes Near s xs t → Known t × Takes Steps (f s) xs (f t)
takes_as Known f Near Steps same s t [] k h = (subst Known (sym h) k, ap f h)
takes_as Known f Near Steps same s t (x ∷ xs) k h =
    let one = same s h.0 (Ok (Some x)) k h.1 in
    let more = takes_as Known f Near Steps same h.0 t xs one.0 h.2 in
    (more.0, (f h.0, one.1, more.1))

stops_as : {S W X E : Type 0} (Known : S → Type 0) (f : S → W) (Near : S → Result (Option X) E → S → Type 0) (Steps : W → Result (Option X) E → W → Type 0) →
    StepsAs Known f Near Steps → (n : ℕ) (s t : S) (xs : List X) → Known s → Stops Near n xs s t → Known t × Stops Steps n xs (f s) (f t)
stops_as Known f Near Steps same n s t xs k e = grind arith

lists_as : {S W X E : Type 0} (Known : S → Type 0) (f : S → W) (Near : S → Result (Option X) E → S → Type 0) (Steps : W → Result (Option X) E → W → Type 0) →
    StepsAs Known f Near Steps → (n : ℕ) (s t : S) (answer : Result (List X) E) → Known s → Lists Near n s answer t → Known t × Lists Steps n (f s) answer (f t)
lists_as Known f Near Steps same n s t (Ok xs) k h =
    let taken = takes_as Known f Near Steps same s h.0 xs k h.1 in
    let stopped = stops_as Known f Near Steps same n h.0 t xs taken.0 h.2 in
    (stopped.0, (f h.0, taken.1, stopped.1))
lists_as Known f Near Steps same n s t (Err e) k h = same s t (Err e) k h

pub hands_out_as : {S W X : Type 0} (Known : S → Type 0) (f : S → W) (Near : S → Result (Option X) ℕ → S → Type 0) (Steps : W → Result (Option X) ℕ → W → Type 0) →
    StepsAs Known f Near Steps → (empty : Bool) (number : ℕ) (s t : S) (old new : List X) (before written : ℕ) → Known s → HandsOutListIf empty Near number s t old new before written →
    Known t × HandsOutListIf empty Steps number (f s) (f t) old new before written
hands_out_as Known f Near Steps same true number s t old new before written k h = (subst Known (sym h.1) k, (h.0, ap f h.1, h.2, h.3))
hands_out_as Known f Near Steps same false number s t old new before written k h =
    let listed = lists_as Known f Near Steps same (length old) s t h.0 k h.1 in
    (listed.0, (h.0, listed.1, h.2))
