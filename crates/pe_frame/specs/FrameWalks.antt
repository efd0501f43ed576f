-- Walks over the frames of any machine: the first frame as it is, and then the caller of each, by a relation between a frame of a
-- process and its caller, or the reason why it has none.
use Rattle.std.specs.Prelude.{◌≡◌, ℕ, zero, suc, ◌-◌, ◌==◌, Bool, true, false, if◌then◌else◌, List, [], ◌∷◌, Option, Some, None, Result, Ok, Err}
use Rattle.pe_frame.specs.declared.modules.Module.{Module}
use Rattle.pe_frame.specs.declared.position.WalkPosition.{WalkPosition}
use Rattle.pe_frame.specs.declared.walk.WalkEnd.{WalkEnd}
use Rattle.pe_frame.specs.declared.walk.WalkEnd.TheVariants as ends

-- what is known of a process: its memory and its modules
pub record Process : Type 0 where
  pub memory : ℕ → Option ℕ
  pub modules : List Module

-- where a walk is: what is known of the process; a frame, and whether it was returned; how many frames it returns at most,
-- none once it is over; and why it is over then
pub record FrameWalk (P F : Type 0) : Type 0 where
  pub process : P
  pub frame : F
  pub has_returned : Bool
  pub remaining : ℕ
  pub end : WalkEnd

-- the same of a position in a process
abbrev pub state_of : {P F : Type 0} → P → WalkPosition F → FrameWalk P F
state_of p w = record { process = p; frame = w.frame; has_returned = w.has_returned; remaining = w.remaining; end = w.end }

-- a walk of at most so many frames, from the top frame on
abbrev pub starting_walk : {P F : Type 0} → P → F → ℕ → FrameWalk P F
starting_walk p top most = record { process = p; frame = top; has_returned = false; remaining = most; end = ends.Bound }

-- the frame that follows: the first as it is, and then the caller of each
abbrev pub FollowsBy : {P F : Type 0} → (P → F → Result F WalkEnd → Type 0) → Bool → FrameWalk P F → Result F WalkEnd → Type 0
FollowsBy Calls true w answer = Calls w.process w.frame answer
FollowsBy Calls false w answer = answer ≡ Ok w.frame

abbrev pub Follows : {P F : Type 0} → (P → F → Result F WalkEnd → Type 0) → FrameWalk P F → Result F WalkEnd → Type 0
Follows Calls w answer = FollowsBy Calls w.has_returned w answer

-- what a call leaves that makes a frame that of its caller: the caller, or why there is none
abbrev pub frame_left : {F : Type 0} → Result Unit WalkEnd → F → Result F WalkEnd
frame_left (Ok u) s = Ok s
frame_left (Err e) s = Err e

-- the walk after it
abbrev pub walk_after : {P F : Type 0} → FrameWalk P F → Result F WalkEnd → FrameWalk P F
walk_after w (Ok s) = record { process = w.process; frame = s; has_returned = true; remaining = w.remaining - 1; end = w.end }
walk_after w (Err e) = record { process = w.process; frame = w.frame; has_returned = w.has_returned; remaining = 0; end = e }

-- what it returns
abbrev pub returned_frame : {F : Type 0} → Result F WalkEnd → Option F
returned_frame (Ok s) = Some s
returned_frame (Err e) = None

-- a call of `next`, by how many frames it may return: nothing changes once the walk is over
abbrev pub AdvancesBy : {P F : Type 0} → (P → F → Result F WalkEnd → Type 0) → ℕ → FrameWalk P F → Option F → FrameWalk P F → Type 0
AdvancesBy Calls zero w answer new = (answer ≡ None) × (new ≡ w)
AdvancesBy {P} {F} Calls (suc n) w answer new =
    (found : Result F WalkEnd) × Follows Calls w found × (answer ≡ returned_frame found) × (new ≡ walk_after w found)

abbrev pub Advances : {P F : Type 0} → (P → F → Result F WalkEnd → Type 0) → FrameWalk P F → Option F → FrameWalk P F → Type 0
Advances Calls w answer new = AdvancesBy Calls w.remaining w answer new

-- these are the frames that a walk returns, at most so many, and then it is over for this reason
abbrev pub IsWalkBy : {P F : Type 0} → (P → F → Result F WalkEnd → Type 0) → ℕ → FrameWalk P F → List F → WalkEnd → Type 0
IsWalkBy Calls zero w frames end = (frames ≡ []) × (end ≡ w.end)
IsWalkBy Calls (suc n) w [] end = Follows Calls w (Err end)
IsWalkBy Calls (suc n) w (s ∷ frames) end =
    Follows Calls w (Ok s) × IsWalkBy Calls n (walk_after w (Ok s)) frames end

abbrev pub IsWalk : {P F : Type 0} → (P → F → Result F WalkEnd → Type 0) → FrameWalk P F → List F → WalkEnd → Type 0
IsWalk Calls w frames end = IsWalkBy Calls w.remaining w frames end

-- why it is over, once it is
abbrev pub end_of : {P F : Type 0} → FrameWalk P F → Option WalkEnd
end_of w = if w.remaining == 0 then Some w.end else None
