-- What a walk returns is decided by its steps: there is one list of items.
use Rattle.std.proofs.Common.{◌≡◌, List, [], ◌∷◌, ◌++◌, map, Option, Some, None, Result, Ok, Err, refl, sym, ap, ◌∙◌}
use Rattle.std.specs.List.{AllZip}
use Rattle.pe_core.specs.Refusals.{Refusal}
use Rattle.calls_failures.specs.ImageParts.{HasOption, HasResult}
use Rattle.calls_base.specs.Runs.{ReturnsItems, ReturnsReported}

-- a step is made of every walk
abbrev pub Moves : {W X R : Type 0} → (W → Result (Option X) R → W → Type 0) → Type 0
Moves {W} {X} {R} Steps = (w : W) → (answer : Result (Option X) R) × (next : W) × Steps w answer next

one_value : {X R : Type 0} (a : Result (Option X) R) (x y : X) → a ≡ Ok (Some x) → a ≡ Ok (Some y) → x ≡ y
one_value a x y e f = cc

one_error : {X R : Type 0} (a : Result (Option X) R) (x y : R) → a ≡ Err x → a ≡ Err y → x ≡ y
one_error a x y e f = cc

value_or_end : {X R : Type 0} (a : Result (Option X) R) (x : X) → a ≡ Ok (Some x) → a ≡ Ok None → ⊥
value_or_end a x e f = cc

error_or_end : {X R : Type 0} (a : Result (Option X) R) (x : R) → a ≡ Err x → a ≡ Ok None → ⊥
error_or_end a x e f = cc

value_or_error : {X R : Type 0} (a : Result (Option X) R) (x : X) (y : R) → a ≡ Ok (Some x) → a ≡ Err y → ⊥
value_or_error a x y e f = cc

pub one_run : {W X R : Type 0} (Steps : W → Result (Option X) R → W → Type 0) → Moves Steps → (w : W) (xs ys : List (Result X R)) → ReturnsItems Steps w xs → ReturnsItems Steps w ys → xs ≡ ys
one_run Steps moves w [] [] g h = refl
one_run Steps moves w [] (Ok y ∷ ys) g h = let m = moves w in absurd (value_or_end m.0 y (h m.0 m.1 m.2).0 (g m.0 m.1 m.2).0)
one_run Steps moves w [] (Err e ∷ ys) g h = let m = moves w in absurd (error_or_end m.0 e (h.1 m.0 m.1 m.2).0 (g m.0 m.1 m.2).0)
one_run Steps moves w (Ok x ∷ xs) [] g h = let m = moves w in absurd (value_or_end m.0 x (g m.0 m.1 m.2).0 (h m.0 m.1 m.2).0)
one_run {W} {X} {R} Steps moves w (Ok x ∷ xs) (Ok y ∷ ys) g h =
    let m = moves w in
    let a = g m.0 m.1 m.2 in
    let c = h m.0 m.1 m.2 in
    ap (λ (z : X). Ok z ∷ xs) (one_value m.0 x y a.0 c.0) ∙ ap (λ (zs : List (Result X R)). Ok y ∷ zs) (one_run Steps moves m.1 xs ys a.1 c.1)
one_run Steps moves w (Ok x ∷ xs) (Err e ∷ ys) g h = let m = moves w in absurd (value_or_error m.0 x e (g m.0 m.1 m.2).0 (h.1 m.0 m.1 m.2).0)
one_run Steps moves w (Err e ∷ xs) [] g h = let m = moves w in absurd (error_or_end m.0 e (g.1 m.0 m.1 m.2).0 (h m.0 m.1 m.2).0)
one_run Steps moves w (Err e ∷ xs) (Ok y ∷ ys) g h = let m = moves w in absurd (value_or_error m.0 y e (h m.0 m.1 m.2).0 (g.1 m.0 m.1 m.2).0)
one_run {W} {X} {R} Steps moves w (Err e ∷ xs) (Err f ∷ ys) g h =
    let m = moves w in
    ap (λ (r : R). Err r ∷ xs) (one_error m.0 e f (g.1 m.0 m.1 m.2).0 (h.1 m.0 m.1 m.2).0) ∙ ap (λ (zs : List (Result X R)). Err f ∷ zs) (g.0 ∙ sym h.0)

-- ---- lists

-- what reports one value reports no other
abbrev pub ReportsOne : {X Y : Type 0} → (X → Y → Type 0) → Type 0
ReportsOne {X} {Y} Has = (x : X) (y z : Y) → Has x y → Has x z → y ≡ z

-- values, as items
abbrev items : {X : Type 0} → List X → List (Result X Refusal)
items xs = map (λ x. Ok x) xs

pub same_values : {X : Type 0} (xs ys : List X) → items xs ≡ items ys → xs ≡ ys
same_values [] [] e = refl
same_values [] (y ∷ ys) e = absurd cc
same_values (x ∷ xs) [] e = absurd cc
same_values {X} (x ∷ xs) (y ∷ ys) e =
    let first : x ≡ y = cc in
    let rest : items xs ≡ items ys = cc in
    ap (λ (z : X). z ∷ xs) first ∙ ap (λ (zs : List X). y ∷ zs) (same_values xs ys rest)

pub no_refusal : {X : Type 0} (xs ys : List X) (e : Refusal) → items xs ≡ items ys ++ Err e ∷ [] → ⊥
no_refusal [] [] e h = cc
no_refusal [] (y ∷ ys) e h = cc
no_refusal (x ∷ xs) [] e h = cc
no_refusal (x ∷ xs) (y ∷ ys) e h = let rest : items xs ≡ items ys ++ Err e ∷ [] = cc in no_refusal xs ys e rest

one_refusal : {X : Type 0} (xs ys : List X) (e f : Refusal) → items xs ++ Err e ∷ [] ≡ items ys ++ Err f ∷ [] → e ≡ f
one_refusal [] [] e f h = cc
one_refusal [] (y ∷ ys) e f h = absurd cc
one_refusal (x ∷ xs) [] e f h = absurd cc
one_refusal (x ∷ xs) (y ∷ ys) e f h = let rest : items xs ++ Err e ∷ [] ≡ items ys ++ Err f ∷ [] = cc in one_refusal xs ys e f rest

pub one_zip : {X Y : Type 0} (Has : X → Y → Type 0) → ReportsOne Has → (xs : List X) (ys zs : List Y) → AllZip Has xs ys → AllZip Has xs zs → ys ≡ zs
one_zip Has one [] [] [] g h = refl
one_zip Has one [] [] (z ∷ zs) g h = absurd h
one_zip Has one [] (y ∷ ys) zs g h = absurd g
one_zip Has one (x ∷ xs) [] zs g h = absurd g
one_zip Has one (x ∷ xs) (y ∷ ys) [] g h = absurd h
one_zip {Y = Y} Has one (x ∷ xs) (y ∷ ys) (z ∷ zs) g h = ap (λ (v : Y). v ∷ ys) (one x y z g.0 h.0) ∙ ap (λ (vs : List Y). z ∷ vs) (one_zip Has one xs ys zs g.1 h.1)

pub one_list : {W X Y : Type 0} (Steps : W → Result (Option X) Refusal → W → Type 0) (Has : X → Y → Type 0) → Moves Steps → ReportsOne Has → (w : W) (l k : Result (List Y) Refusal) →
    ReturnsReported Steps Has w l → ReturnsReported Steps Has w k → l ≡ k
one_list {X = X} {Y = Y} Steps Has moves one w (Ok ys) (Ok zs) g h =
    let same : g.0 ≡ h.0 = same_values g.0 h.0 (one_run Steps moves w (items g.0) (items h.0) g.1 h.1) in
    ap (λ (vs : List Y). Ok vs) (one_zip Has one g.0 ys zs g.2 (rw same h.2))
one_list Steps Has moves one w (Ok ys) (Err e) g h = absurd (no_refusal g.0 h.0 e (one_run Steps moves w (items g.0) (items h.0 ++ Err e ∷ []) g.1 h.2))
one_list Steps Has moves one w (Err e) (Ok zs) g h = absurd (no_refusal h.0 g.0 e (one_run Steps moves w (items h.0) (items g.0 ++ Err e ∷ []) h.1 g.2))
one_list Steps Has moves one w (Err e) (Err f) g h = ap (λ (r : Refusal). Err r) (one_refusal g.0 h.0 e f (one_run Steps moves w (items g.0 ++ Err e ∷ []) (items h.0 ++ Err f ∷ []) g.2 h.2))

-- ---- what calls return

pub one_option : {X Y : Type 0} (Has : Y → X → Type 0) → ReportsOne Has → ReportsOne (HasOption Has)
one_option Has one None None None g h = refl
one_option Has one None None (Some z) g h = absurd h
one_option Has one None (Some x) z g h = absurd g
one_option Has one (Some y) None z g h = absurd g
one_option Has one (Some y) (Some x) None g h = absurd h
one_option {X} Has one (Some y) (Some x) (Some z) g h = ap (λ (v : X). Some v) (one y x z g h)

pub one_result : {X Y R : Type 0} (Has : Y → X → Type 0) → ReportsOne Has → ReportsOne (HasResult {R = R} Has)
one_result {X} {R = R} Has one (Ok y) (Ok x) (Ok z) g h = ap (λ (v : X). Ok v) (one y x z g h)
one_result Has one (Ok y) (Ok x) (Err f) g h = absurd h
one_result Has one (Ok y) (Err e) z g h = absurd g
one_result Has one (Err r) (Ok x) z g h = absurd g
one_result Has one (Err r) (Err e) (Ok z) g h = absurd h
one_result {R = R} Has one (Err r) (Err e) (Err f) g h = ap (λ (v : R). Err v) (sym g ∙ h)
