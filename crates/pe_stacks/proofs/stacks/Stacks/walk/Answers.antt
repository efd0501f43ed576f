use Rattle.std.proofs.Common.{ℕ, ◌<◌, subst, arith, ◌≡◌, zero, suc, ◌≤◌, List, [], ◌∷◌, length, Option, Some, None, Result, Ok, Err, sym}
use Rattle.std.specs.Iterator.{Yields}
use Rattle.std.specs.Result.{IfErr}
use Rattle.pe_frame.specs.FrameWalks.{IsWalk, Process, starting_walk, Advances, AdvancesBy, FrameWalk}
use Rattle.pe_frame.specs.declared.walk.WalkEnd.{WalkEnd}
use Rattle.pe_frame.proofs.FrameWalks.{whole}
use Rattle.std.proofs.Math.Nat.{min-le_right}
use Rattle.std.specs.Prelude.{min}
use Rattle.pe_stacks.specs.ThreadWalks.{process_of, walk_at}
use Rattle.pe_stacks.proofs.stacks.Stacks.walk.Goals as goal

-- All frames of a walk, as the calls of `next` return them.
walked : {F I : Type 0} (Calls : Process → F → Result F WalkEnd → Type 0) (at : I → FrameWalk Process F) (steps : I → Option F → I → Type 0) → ((s : I) (r : Option F) (t : I) → steps s r t → Advances Calls (at s) r (at t)) → (s t u : I) (p : Process) (top : F) (n : ℕ) (xs ys : List F) → at s ≡ starting_walk p top n → xs ≡ ys → Yields steps s ys t → steps t None u → IsWalk Calls (starting_walk p top n) xs (at u).end × (length xs ≤ n)
walked {F} Calls at steps are s t u p top n xs ys is same yields none =
    let all = whole Calls at steps are s t u ys yields none in
    let few : length ys ≤ n = subst (λ (w : FrameWalk Process F). length ys ≤ w.remaining) is all.1 in (
      subst (λ (zs : List F). IsWalk Calls (starting_walk p top n) zs (at u).end) (sym same) (subst (λ (w : FrameWalk Process F). IsWalk Calls w ys (at u).end) is all.0),
      subst (λ (zs : List F). length zs ≤ n) (sym same) few,
    )

-- a walk that returns a frame may return one
one_left : {F : Type 0} (Calls : Process → F → Result F WalkEnd → Type 0) (n : ℕ) (w new : FrameWalk Process F) (x : F) → AdvancesBy Calls n w (Some x) new → 0 < n
one_left Calls zero w new x h = absurd (cc h.0)
one_left Calls (suc n) w new x h = omega arith

some_left : {F I : Type 0} (Calls : Process → F → Result F WalkEnd → Type 0) (at : I → FrameWalk Process F) (steps : I → Option F → I → Type 0) → ((s : I) (r : Option F) (t : I) → steps s r t → Advances Calls (at s) r (at t)) → (s t u : I) (p : Process) (top x : F) (n : ℕ) (xs : List F) → at s ≡ starting_walk p top n → Yields steps s xs t → steps t (Some x) u → 0 < n
some_left {F} {I} Calls at steps are s t u p top x n [] is same some =
    subst (λ (w : FrameWalk Process F). 0 < w.remaining) is (one_left Calls (at s).remaining (at s) (at u) x (are s (Some x) u (subst (λ (v : I). steps v (Some x) u) (sym same) some)))
some_left {F} {I} Calls at steps are s t u p top x n (y ∷ ys) is h some =
    subst (λ (w : FrameWalk Process F). 0 < w.remaining) is (one_left Calls (at s).remaining (at s) (at h.0) y (are s (Some y) h.0 h.1))

-- what holds of any error
of_errors : {T E : Type 0} (r : Result T E) (P : Type 0) → P → IfErr r (λ e. P)
of_errors (Ok x) P p = tt
of_errors (Err e) P p = p

pub overflow_sub-self : goal.overflow_sub-self
overflow_sub-self g c =
    let p : Process = process_of g.L.LoadedModules.modules g.M.Memory.word c.args.self.now.modules.now c.args.self.now.memory.now in
    let all = walked g.F.WalkFrame.Calls (walk_at g.L.LoadedModules.modules g.M.Memory.word) _ (λ s r t step. step) c.new-walk.result _ c.next.new.self p c.args.top c.min.result c.loop-frame.frames.items c.loop-frame.yielded c.new-walk.ensures c.loop-frame.invariant c.loop-frame.yielded_by c.in_default.ensures.steps in
    omega (arith, all.1, c.min.ensures, c.len.ensures, min-le_right c.args.most c.args.self.now.left)

pub returns-clause-walk : goal.returns-clause-walk
returns-clause-walk g c =
    let p : Process = process_of g.L.LoadedModules.modules g.M.Memory.word c.args.self.now.modules.now c.args.self.now.memory.now in
    let all = walked g.F.WalkFrame.Calls (walk_at g.L.LoadedModules.modules g.M.Memory.word) _ (λ s r t step. step) c.new-walk.result _ c.next.new.self p c.args.top c.min.result c.loop-frame.frames.items c.loop-frame.yielded c.new-walk.ensures c.loop-frame.invariant c.loop-frame.yielded_by c.in_default.ensures.steps in
    subst (λ (n : ℕ). IsWalk g.F.WalkFrame.Calls (starting_walk p c.args.top n) c.loop-frame.frames.items c.next.new.self.position.end) c.min.ensures all.0

pub returns-clause-left : goal.returns-clause-left
returns-clause-left g c =
    let p : Process = process_of g.L.LoadedModules.modules g.M.Memory.word c.args.self.now.modules.now c.args.self.now.memory.now in
    let all = walked g.F.WalkFrame.Calls (walk_at g.L.LoadedModules.modules g.M.Memory.word) _ (λ s r t step. step) c.new-walk.result _ c.next.new.self p c.args.top c.min.result c.loop-frame.frames.items c.loop-frame.yielded c.new-walk.ensures c.loop-frame.invariant c.loop-frame.yielded_by c.in_default.ensures.steps in
    omega (arith, all.1, c.min.ensures, c.len.ensures, min-le_right c.args.most c.args.self.now.left)

pub returns-in_err-push-clause-refused : goal.returns-in_err-push-clause-refused
returns-in_err-push-clause-refused g c =
    let p : Process = process_of g.L.LoadedModules.modules g.M.Memory.word c.args.self.now.modules.now c.args.self.now.memory.now in
    let some = some_left g.F.WalkFrame.Calls (walk_at g.L.LoadedModules.modules g.M.Memory.word) _ (λ s r t step. step) c.new-walk.result _ c.next.new.self p c.args.top c.in-Some.frame c.min.result c.loop-frame.yielded c.new-walk.ensures c.loop-frame.yielded_by c.in-Some.ensures.steps in
    of_errors c.from_residual.result (0 < min c.args.most c.args.self.now.left) (subst (λ (n : ℕ). 0 < n) c.min.ensures some)
