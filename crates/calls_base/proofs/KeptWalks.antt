-- Whole walks by the sections that they keep.
use Rattle.std.proofs.Common.{◌≡◌, ℕ, List, [], ◌∷◌, Option, Result, Ok, Err, subst}
use Rattle.calls_base.proofs.KeptSections.{same_map}
use Rattle.calls_base.proofs.Cited.{ChangeNothing, StepsKept, IsOver, ReturnsItems, map_of, KeptSections, View}

-- a step by what changes no offset is one by the map of the view
by_view : {W P X R : Type 0} (place : W → P) (kept : W → KeptSections) (Steps : (ℕ → Option ℕ) → P → Result (Option X) R → P → Type 0) (v : View) (w u : W) (answer : Result (Option X) R) →
    ChangeNothing v (kept w) → StepsKept place kept Steps v w answer u → Steps (map_of v) (place w) answer (place u)
by_view place kept Steps v w u answer h s = subst (λ (m : ℕ → Option ℕ). Steps m (place w) answer (place u)) (same_map v (kept w) h) s.steps

over_too : {W P X R : Type 0} (place : W → P) (kept : W → KeptSections) (Steps : (ℕ → Option ℕ) → P → Result (Option X) R → P → Type 0) → ((a b : W) → place a ≡ place b → kept a ≡ kept b → a ≡ b) →
    (v : View) (w : W) → ChangeNothing v (kept w) → IsOver (Steps (map_of v)) (place w) → IsOver (StepsKept place kept Steps v) w
over_too place kept Steps alike v w h over answer u s =
    let r = over answer (place u) (by_view place kept Steps v w u answer h s) in
    (r.0, alike u w r.1 (s.same r.0))

pub returns_too : {W P X R : Type 0} (place : W → P) (kept : W → KeptSections) (Steps : (ℕ → Option ℕ) → P → Result (Option X) R → P → Type 0) → ((a b : W) → place a ≡ place b → kept a ≡ kept b → a ≡ b) →
    (v : View) (w : W) (items : List (Result X R)) → ChangeNothing v (kept w) → ReturnsItems (Steps (map_of v)) (place w) items → ReturnsItems (StepsKept place kept Steps v) w items
returns_too place kept Steps alike v w [] h returns =
    λ answer u s. let r = returns answer (place u) (by_view place kept Steps v w u answer h s) in (r.0, over_too place kept Steps alike v u (s.right h) r.1)
returns_too place kept Steps alike v w (Ok x ∷ items) h returns =
    λ answer u s. let r = returns answer (place u) (by_view place kept Steps v w u answer h s) in (r.0, returns_too place kept Steps alike v u items (s.right h) r.1)
returns_too place kept Steps alike v w (Err refusal ∷ items) h returns =
    (returns.0, λ answer u s. let r = returns.1 answer (place u) (by_view place kept Steps v w u answer h s) in (r.0, over_too place kept Steps alike v u (s.right h) r.1))
