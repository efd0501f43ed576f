-- Whole walks over the frames of any machine: what all calls of `next` return, that there is a walk, and only one.
use Rattle.std.proofs.Common.{◌≡◌, ℕ, zero, suc, ◌≤◌, Bool, true, false, List, ◌∷◌, ◌++◌, length, Option, Some, None, Result, Ok, Err, refl, ap, sym, ◌∙◌, subst, arith, []}
use Rattle.pe_frame.proofs.Cited.{Yields, AllByRecursion, FrameWalk, Follows, FollowsBy, Advances, AdvancesBy, IsWalk, IsWalkBy}
use Rattle.pe_frame.proofs.Cited.{returned_frame, walk_after, by_end_kind, end_kind, WalkEnd}
use Rattle.pe_frame.specs.declared.walk.WalkEnd.TheVariants as ends

module _ {P F : Type 0} (Calls : P → F → Result F WalkEnd → Type 0) where
  -- the step of a walk that is not over
  pub advanced : (n : ℕ) (w : FrameWalk P F) (found : Result F WalkEnd) → (n ≡ 0 → ⊥) → Follows Calls w found → AdvancesBy Calls n w (returned_frame found) (walk_after w found)
  advanced zero w found some follows = absurd (some refl)
  advanced (suc n) w found some follows = (found, follows, refl, refl)

  -- ---- the call that returns nothing

  ended_by : (n : ℕ) (w new : FrameWalk P F) (found : Result F WalkEnd) → Follows Calls w found → None ≡ returned_frame found → new ≡ walk_after w found → IsWalkBy Calls (suc n) w [] new.end × (new.remaining ≡ 0)
  ended_by n w new (Ok s) follows none is = absurd (cc none)
  ended_by n w new (Err e) follows none is = (
    subst (λ (end : WalkEnd). Follows Calls w (Err end)) (sym (ap (λ (v : FrameWalk P F). v.end) is)) follows,
    ap (λ (v : FrameWalk P F). v.remaining) is,
  )

  ended : (n : ℕ) (w new : FrameWalk P F) → w.remaining ≡ n → AdvancesBy Calls n w None new → IsWalkBy Calls n w [] new.end × (new.remaining ≡ 0)
  ended zero w new left h =
      ((refl, ap (λ (v : FrameWalk P F). v.end) h.1), ap (λ (v : FrameWalk P F). v.remaining) h.1 ∙ left)
  ended (suc n) w new left h = ended_by n w new h.0 h.1 h.2 h.3

  -- ---- a call that returns a frame

  more_by : (n : ℕ) (w new : FrameWalk P F) (x : F) (xs : List F) (end : WalkEnd) (found : Result F WalkEnd) → w.remaining ≡ suc n → Follows Calls w found → Some x ≡ returned_frame found → new ≡ walk_after w found → IsWalk Calls new xs end → length xs ≤ new.remaining → IsWalkBy Calls (suc n) w (x ∷ xs) end × (length (x ∷ xs) ≤ suc n)
  more_by n w new x xs end (Ok s) left follows some is rest few =
      let same : s ≡ x = cc some in
      let after : new ≡ walk_after w (Ok x) = is ∙ ap (λ (f : F). walk_after w (Ok f)) same in
      let fewer : new.remaining ≡ n = ap (λ (v : FrameWalk P F). v.remaining) after ∙ omega (arith, left) in
      let walk = subst (λ (k : ℕ). IsWalkBy Calls k new xs end) fewer rest in (
        (
          subst (λ (f : F). Follows Calls w (Ok f)) same follows,
          subst (λ (v : FrameWalk P F). IsWalkBy Calls n v xs end) after walk,
        ),
        omega (arith, few, fewer),
      )
  more_by n w new x xs end (Err e) left follows some is rest few = absurd (cc some)

  more : (n : ℕ) (w new : FrameWalk P F) (x : F) (xs : List F) (end : WalkEnd) → w.remaining ≡ n → AdvancesBy Calls n w (Some x) new → IsWalk Calls new xs end → length xs ≤ new.remaining → IsWalkBy Calls n w (x ∷ xs) end × (length (x ∷ xs) ≤ n)
  more zero w new x xs end left h rest few = absurd (cc h.0)
  more (suc n) w new x xs end left h rest few = more_by n w new x xs end h.0 left h.1 h.2 h.3 rest few

  -- ---- all calls

  module _ {I : Type 0} (at : I → FrameWalk P F) (steps : I → Option F → I → Type 0) where
    abbrev pub AreAdvances : Type 0
    AreAdvances = (s : I) (r : Option F) (t : I) → steps s r t → Advances Calls (at s) r (at t)

    pub whole : AreAdvances → (s t u : I) (xs : List F) → Yields steps s xs t → steps t None u → IsWalk Calls (at s) xs (at u).end × (length xs ≤ (at s).remaining) × ((at u).remaining ≡ 0)
    whole is s t u [] same end =
        let over = ended (at t).remaining (at t) (at u) refl (is t None u end) in
        (subst (λ (v : I). IsWalk Calls (at v) [] (at u).end) (sym same) over.0, omega arith, over.1)
    whole is s t u (x ∷ xs) y end =
        let rest = whole is y.0 t u xs y.2 end in
        let one = more (at s).remaining (at s) (at y.0) x xs (at u).end refl (is s (Some x) y.0 y.1) rest.0 rest.1 in
        (one.0, one.1, rest.2)

  -- ---- there is a walk from each state, where each frame has a caller or a reason why not

  abbrev pub HasCallers : P → Type 0
  HasCallers p = (s : F) → (answer : Result F WalkEnd) × Calls p s answer

  some_following : (returned : Bool) (w : FrameWalk P F) → HasCallers w.process → (answer : Result F WalkEnd) × FollowsBy Calls returned w answer
  some_following true w has = has w.frame
  some_following false w has = (Ok w.frame, refl)

  abbrev Walk : ℕ → FrameWalk P F → Type 0
  Walk n w = (frames : List F) × (end : WalkEnd) × IsWalkBy Calls n w frames end

  by_following : (n : ℕ) (w : FrameWalk P F) → ((s : F) → Walk n (walk_after w (Ok s))) → (answer : Result F WalkEnd) → Follows Calls w answer → Walk (suc n) w
  by_following n w more (Ok s) follows =
      let rest = more s in
      (s ∷ rest.0, rest.1, (follows, rest.2))
  by_following n w more (Err end) follows = ([], end, follows)

  from : (n : ℕ) (w : FrameWalk P F) → HasCallers w.process → Walk n w
  from zero w has = ([], w.end, (refl, refl))
  from (suc n) w has =
      let next = some_following w.has_returned w has in
      by_following n w (λ s. from n (walk_after w (Ok s)) has) next.0 next.1

  pub some_walk : (w : FrameWalk P F) → HasCallers w.process → (frames : List F) × (end : WalkEnd) × IsWalk Calls w frames end
  some_walk w has = from w.remaining w has

  -- ---- and one alone, up to the numbers in a refusal, where each frame has one caller

  abbrev pub HasOneCaller : P → Type 0
  HasOneCaller p = (s : F) (x y : Result F WalkEnd) → Calls p s x → Calls p s y → by_end_kind x ≡ by_end_kind y

  one_following : (returned : Bool) (w : FrameWalk P F) (x y : Result F WalkEnd) → HasOneCaller w.process → FollowsBy Calls returned w x → FollowsBy Calls returned w y → by_end_kind x ≡ by_end_kind y
  one_following true w x y one h k = one w.frame x y h k
  one_following false w x y one h k = ap by_end_kind (h ∙ sym k)

  one_walk_by : (n : ℕ) (w : FrameWalk P F) (frames others : List F) (end other : WalkEnd) → HasOneCaller w.process → IsWalkBy Calls n w frames end → IsWalkBy Calls n w others other → (frames ≡ others) × (end_kind end ≡ end_kind other)
  one_walk_by zero w frames others end other one h k =
      (h.0 ∙ sym k.0, ap end_kind (h.1 ∙ sym k.1))
  one_walk_by (suc n) w [] [] end other one h k =
      let same = one_following w.has_returned w (Err end) (Err other) one h k in
      (refl, cc same)
  one_walk_by (suc n) w [] (y ∷ ys) end other one h k =
      let same = one_following w.has_returned w (Err end) (Ok y) one h k.0 in
      absurd (cc same)
  one_walk_by (suc n) w (x ∷ xs) [] end other one h k =
      let same = one_following w.has_returned w (Ok x) (Err other) one h.0 k in
      absurd (cc same)
  one_walk_by (suc n) w (x ∷ xs) (y ∷ ys) end other one h k =
      let both = one_following w.has_returned w (Ok x) (Ok y) one h.0 k.0 in
      let same : x ≡ y = cc both in
      let here = subst (λ (s : F). IsWalkBy Calls n (walk_after w (Ok s)) xs end) same h.1 in
      let rest = one_walk_by n (walk_after w (Ok y)) xs ys end other one here k.1 in
      (ap (λ (s : F). s ∷ xs) same ∙ ap (λ (fs : List F). y ∷ fs) rest.0, rest.1)

  pub one_walk : (w : FrameWalk P F) (frames others : List F) (end other : WalkEnd) → HasOneCaller w.process → IsWalk Calls w frames end → IsWalk Calls w others other → (frames ≡ others) × (end_kind end ≡ end_kind other)
  one_walk w frames others end other one h k = one_walk_by w.remaining w frames others end other one h k

  -- ---- a walk that ends at the bottom has no frame that is a guess, where what follows a guess is one

  module _ (guess : F → Bool) where
    abbrev Stays : Type 0
    Stays = (p : P) (s t : F) → Calls p s (Ok t) → guess s ≡ true → guess t ≡ true

    abbrev IsSure : Type 0
    IsSure = (p : P) (s : F) → Calls p s (Err ends.Bottom) → guess s ≡ false

    not_true : (a b : Bool) → (a ≡ true → b ≡ true) → b ≡ false → a ≡ false
    not_true false b stays sure = refl
    not_true true b stays sure = absurd (cc (sym (stays refl) ∙ sure))

    sure_end : IsSure → (returned : Bool) (w : FrameWalk P F) → FollowsBy Calls returned w (Err ends.Bottom) → returned ≡ true → guess w.frame ≡ false
    sure_end sure true w h is = sure w.process w.frame h
    sure_end sure false w h is = absurd (cc is)

    sure_next : Stays → (returned : Bool) (w : FrameWalk P F) (s : F) → FollowsBy Calls returned w (Ok s) → guess s ≡ false → returned ≡ true → guess w.frame ≡ false
    sure_next stays true w s h next is = not_true (guess w.frame) (guess s) (stays w.process w.frame s h) next
    sure_next stays false w s h next is = absurd (cc is)

    pub sure_frames : Stays → IsSure → (n : ℕ) (w : FrameWalk P F) (frames : List F) → (ends.Bottom ≡ w.end → ⊥) → IsWalkBy Calls n w frames ends.Bottom → (w.has_returned ≡ true → guess w.frame ≡ false) × AllByRecursion (λ s. guess s ≡ false) frames
    sure_frames stays sure zero w frames other h = absurd (other h.1)
    sure_frames stays sure (suc n) w [] other h = (sure_end sure w.has_returned w h, tt)
    sure_frames stays sure (suc n) w (s ∷ frames) other h =
        let rest = sure_frames stays sure n (walk_after w (Ok s)) frames other h.1 in
        (sure_next stays w.has_returned w s h.0 (rest.0 refl), (rest.0 refl, rest.1))

  -- ---- where each of the first frames has what the frame before it has, by what it is, the first frames have it

  module _ (guess : F → Bool) (Is : F → Type 0) where
    abbrev Keeps : Type 0
    Keeps = (p : P) (s t : F) → Calls p s (Ok t) → Is t → guess t ≡ guess s

    kept_next : Keeps → (returned : Bool) (w : FrameWalk P F) (s : F) → FollowsBy Calls returned w (Ok s) → Is s → guess s ≡ guess w.frame
    kept_next keeps true w s h is = keeps w.process w.frame s h is
    kept_next keeps false w s h is = let same : s ≡ w.frame = cc h in ap guess same

    pub frames_keep : Keeps → (n : ℕ) (w : FrameWalk P F) (first rest : List F) (end : WalkEnd) → IsWalkBy Calls n w (first ++ rest) end → guess w.frame ≡ false → AllByRecursion Is first → AllByRecursion (λ s. guess s ≡ false) first
    frames_keep keeps n w [] rest end h sure all = tt
    frames_keep keeps zero w (s ∷ first) rest end h sure all = absurd (cc h.0)
    frames_keep keeps (suc n) w (s ∷ first) rest end h sure all =
        let here = kept_next keeps w.has_returned w s h.0 all.0 ∙ sure in
        (here, frames_keep keeps n (walk_after w (Ok s)) first rest end h.1 here all.1)
