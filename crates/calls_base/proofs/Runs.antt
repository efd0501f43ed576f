-- What whole runs of any walk tell.
use Rattle.std.proofs.Common.{◌≡◌, List, [], ◌∷◌, ◌++◌, map, Option, Some, None, Result, Ok, Err, ap, ◌∙◌, arith}
use Rattle.pe_core.specs.Gathered.{with_rest}
use Rattle.calls_base.proofs.Cited.{Refusal, ReturnsItems, ReturnsReported, IsOver}

-- whatever step is made returns this, and leaves the walk there
abbrev pub Makes : {W X R : Type 0} → (W → Result (Option X) R → W → Type 0) → W → Result (Option X) R → W → Type 0
Makes {W} {X} {R} Steps walk given next = (answer : Result (Option X) R) (v : W) → Steps walk answer v → (answer ≡ given) × (v ≡ next)

-- a step that a function makes
pub makes_by : {W X : Type 0} (step : W → Result (Option X) Refusal × W) (walk next : W) (given : Result (Option X) Refusal) → step walk ≡ (given, next) → Makes (λ old answer new. (answer, new) ≡ step old) walk given next
makes_by {W} {X} step walk next given is answer v s = (ap (λ (p : Result (Option X) Refusal × W). p.0) (s ∙ is), ap (λ (p : Result (Option X) Refusal × W). p.1) (s ∙ is))

pub gives_first : {W X R : Type 0} (Steps : W → Result (Option X) R → W → Type 0) (walk next : W) (x : X) (items : List (Result X R)) → Makes Steps walk (Ok (Some x)) next →
    ReturnsItems Steps next items → ReturnsItems Steps walk (Ok x ∷ items)
gives_first Steps walk next x items makes more = grind arith

pub gives_nothing : {W X R : Type 0} (Steps : W → Result (Option X) R → W → Type 0) (walk next : W) → Makes Steps walk (Ok None) next → IsOver Steps next → ReturnsItems Steps walk []
gives_nothing Steps walk next makes over = grind arith

pub gives_refusal : {W X R : Type 0} (Steps : W → Result (Option X) R → W → Type 0) (walk next : W) (e : R) → Makes Steps walk (Err e) next → IsOver Steps next → ReturnsItems Steps walk (Err e ∷ [])
gives_refusal Steps walk next e makes over = grind arith

pub reports_more : {W X Y : Type 0} (Steps : W → Result (Option X) Refusal → W → Type 0) (Reports : X → Y → Type 0) (walk next : W) (x : X) (y : Y) (rest : Result (List Y) Refusal) →
    Makes Steps walk (Ok (Some x)) next → Reports x y → ReturnsReported Steps Reports next rest → ReturnsReported Steps Reports walk (with_rest (y ∷ []) rest)
reports_more Steps Reports walk next x y (Ok ys) makes reports more = (x ∷ more.0, gives_first Steps walk next x (map (λ z. Ok z) more.0) makes more.1, (reports, more.2))
reports_more Steps Reports walk next x y (Err e) makes reports more = (x ∷ more.0, y ∷ more.1, gives_first Steps walk next x (map (λ z. Ok z) more.0 ++ Err e ∷ []) makes more.2, (reports, more.3))

pub reports_none : {W X Y : Type 0} (Steps : W → Result (Option X) Refusal → W → Type 0) (Reports : X → Y → Type 0) (walk next : W) → Makes Steps walk (Ok None) next → IsOver Steps next → ReturnsReported Steps Reports walk (Ok [])
reports_none Steps Reports walk next makes over = ([], gives_nothing Steps walk next makes over, tt)

pub reports_refused : {W X Y : Type 0} (Steps : W → Result (Option X) Refusal → W → Type 0) (Reports : X → Y → Type 0) (walk next : W) (e : Refusal) → Makes Steps walk (Err e) next → IsOver Steps next → ReturnsReported Steps Reports walk (Err e)
reports_refused Steps Reports walk next e makes over = ([], [], gives_refusal Steps walk next e makes over, tt)
