-- Walks of a stack, a frame a call, on any machine: the walk of pe_frame, with its state in a record of the caller.
use Rattle.std.specs.Prelude.{◌≡◌, ◌<◌, ◌≤◌, ◌⊎◌, ℕ, zero, suc, ◌==◌, nat_lt, length, slice_index_or, take, drop, Bool, true, false, if◌then◌else◌, List, [], ◌∷◌, Option, None, Result, Ok, Err}
use Rattle.std.specs.Option.{unwrap_or}
use Rattle.pe_core.specs.Refusals.{Refusal, kind_of}
use Rattle.pe_frame.specs.FrameWalks.{FrameWalk, Follows, Process}
use Rattle.pe_frame.specs.MemoryLists.{ascend, memory_of}
use Rattle.pe_frame.specs.SearchedMemory.{searched_word}
use Rattle.pe_frame.specs.declared.memory_list.MemoryPiece.{MemoryPiece}
use Rattle.pe_frame.specs.declared.modules.Module.{Module}
use Rattle.pe_frame.specs.declared.walk.Way.{Way}
use Rattle.pe_frame.specs.declared.walk.Way.TheVariants.{Top, Records, Leaf, Interrupt, Scanned, FramePointer}
use Rattle.pe_frame.specs.declared.walk.WalkEnd.{WalkEnd}
use Rattle.pe_frame.specs.declared.walk.WalkEnd.TheVariants as ends
use Rattle.calls_base.specs.HandsOut.{result_number}
use Rattle.calls_stacks.specs.StackFrames.{OverPieces, error_address, error_number}
use Rattle.calls_stacks.specs.WalkModules.{modules_of, viewed}
use Rattle.calls_stacks.specs.declared.stack.walk.ModuleView.{ModuleView}
use Rattle.calls_base.specs.declared.results.TheConstants.{DONE, LONG_CHAIN, NOTHING}

-- ---- numbers

abbrev pub way_number : Way → ℕ
way_number Top = 0
way_number Records = 1
way_number Leaf = 2
way_number Interrupt = 3
way_number Scanned = 4
way_number FramePointer = 5

-- a number that stands for no way is read as that of the top frame
unfoldable pub way_of : ℕ → Way
way_of n =
    if n == 1 then Records
    else (if n == 2 then Leaf else (if n == 3 then Interrupt else (if n == 4 then Scanned else (if n == 5 then FramePointer else Top))))

abbrev pub bit_of : Bool → ℕ
bit_of true = 1
bit_of false = 0

-- any number but 0 is true
abbrev pub is_set : ℕ → Bool
is_set n = if n == 0 then false else true

-- why a walk is over
abbrev pub end_number : WalkEnd → ℕ
end_number ends.Bound = 0
end_number ends.Bottom = 1
end_number ends.NoModule = 2
end_number ends.NoFunction = 3
end_number (ends.Records e) = 4
end_number ends.LongChain = 5
end_number (ends.Step e) = 6
end_number ends.Zero = 7
end_number ends.NoReturnAddress = 8

-- the number of the error for which it is over
abbrev pub end_error : WalkEnd → ℕ
end_error (ends.Records e) = result_number (kind_of e)
end_error ends.LongChain = LONG_CHAIN
end_error (ends.Step e) = error_number e
end_error other = 0

-- the address that it speaks of
abbrev pub end_address : WalkEnd → Option ℕ
end_address (ends.Step e) = error_address e
end_address other = None

-- the three numbers of an end in a record; of a walk that is not over they are 0
pub record EndNumbers : Type 0 where
  pub end : ℕ
  pub error : ℕ
  pub address : ℕ

abbrev pub numbers_of_end : WalkEnd → EndNumbers
numbers_of_end e = record { end = end_number e; error = end_error e; address = unwrap_or (end_address e) 0 }

abbrev pub no_end : EndNumbers
no_end = record { end = 0; error = 0; address = 0 }

-- ---- records

-- How walks of a machine stand in records: what a record says, and what it is after a frame and after the end of the walk.
pub record WalkRecords (W F : Type 0) : Type 0 where
  pub frame : W → F
  pub has_returned : W → Bool
  pub remaining : W → ℕ
  pub ending : W → EndNumbers
  pub after_frame : W → F → W
  pub after_end : W → WalkEnd → W
  -- an earlier call found that the pieces lie in the memory and ascend
  pub is_searched : W → Bool
  -- the walk with this mark
  pub marked : W → W

-- the walk that a record stands for
abbrev pub state_in : {W F : Type 0} → WalkRecords W F → Process → W → FrameWalk Process F
state_in m p w = record {
  process = p;
  frame = m.frame w;
  has_returned = m.has_returned w;
  remaining = m.remaining w;
  end = ends.Bound;
}

-- ---- a call

module _ {W F : Type 0} (Calls : Process → F → Result F WalkEnd → Type 0) (m : WalkRecords W F) where
  -- The number that a call returns, and the walk after it: the frame stands in the walk, or the reason why there is none.
  abbrev pub HandsOutFound : ℕ → W → W → Result F WalkEnd → Type 0
  HandsOutFound number old new (Ok s) = (number ≡ DONE) × (new ≡ m.after_frame old s) × (m.frame new ≡ s)
  HandsOutFound number old new (Err e) = (number ≡ NOTHING) × (new ≡ m.after_end old e)

  -- A call by how many frames it may return. Nothing changes once the walk is over.
  abbrev pub HandsOutBy : ℕ → Process → ℕ → W → W → Type 0
  HandsOutBy zero p number old new = (number ≡ NOTHING) × (new ≡ old)
  HandsOutBy (suc n) p number old new =
      (found : Result F WalkEnd) × Follows Calls (state_in m p old) found × HandsOutFound number old new found

  abbrev pub HandsOutNext : Process → ℕ → W → W → Type 0
  HandsOutNext p number old new = HandsOutBy (m.remaining old) p number old new

  -- ---- several frames a call

  -- the walk comes to these states in turn, each by a call that returns a frame, and is then in the last of them
  abbrev pub ComesTo : Process → W → List W → W → Type 0
  ComesTo p w [] last = last ≡ w
  ComesTo p w (x ∷ xs) last = HandsOutNext p DONE w x × ComesTo p x xs last

  -- ---- a whole walk

  -- calls return these frames in turn, and then nothing; the walk is then as the last call left it
  abbrev pub ReturnsFrames : Process → W → List F → W → Type 0
  ReturnsFrames p w [] last = HandsOutNext p NOTHING w last
  ReturnsFrames p w (s ∷ frames) last =
      (next : W) × HandsOutNext p DONE w next × (s ≡ m.frame next) × ReturnsFrames p next frames last

-- the walk that stands in the last of the first n slots, or before all of them
abbrev pub reached : {W : Type 0} → W → List W → ℕ → W
reached w slots zero = w
reached w slots (suc n) = slice_index_or slots n w

-- The first n slots have these states, the others what they had. Where some are left, the walk is over.
pub record FillsFrames {W F : Type 0} (Calls : Process → F → Result F WalkEnd → Type 0) (m : WalkRecords W F) (p : Process) (n : ℕ) (slots filled : List W) (old new : W) : Type 0 where
  pub reached : W
  pub frames : ComesTo Calls m p old (take n filled) reached
  pub others : drop n filled ≡ drop n slots
  pub within : n ≤ length slots
  pub same : length filled ≡ length slots
  pub ending : ((n ≡ length slots) × (new ≡ reached)) ⊎ ((n < length slots) × HandsOutNext Calls m p NOTHING reached new)

-- a walk that no call has ended
abbrev pub IsOpen : {W F : Type 0} → WalkRecords W F → W → Type 0
IsOpen m w = m.ending w ≡ no_end

-- a walk that is over for this reason
abbrev pub HasEnd : {W F : Type 0} → WalkRecords W F → W → WalkEnd → Type 0
HasEnd m w e = (m.remaining w ≡ 0) × (m.ending w ≡ numbers_of_end e)

-- ---- what a caller passes

-- What a call returns over modules and pieces of memory. Where a function table does not lie in the bytes of its module, or a piece
-- not in the memory, it returns that, and nothing changes.
abbrev pub OverModules : Type 0 → ℕ → (List Module → Type 0) → Result (List ModuleView) Refusal → Type 0
OverModules unchanged number steps (Err refusal) = (number ≡ result_number refusal) × unchanged
OverModules unchanged number steps (Ok views) = steps (modules_of views)

module _ {W F : Type 0} (m : WalkRecords W F) where
  -- the walk with the mark, if the test is passed
  abbrev pub marked_if : Bool → W → W
  marked_if true w = m.marked w
  marked_if false w = w

  -- What a call returns over memory, by whether the walk has the mark. With it the pieces are searched and not tested. Without it they
  -- are tested, and the walk that goes on has the mark if they ascend.
  abbrev pub OverMemory : Bool → Type 0 → ℕ → List ℕ → List MemoryPiece → W → ((ℕ → Option ℕ) → W → Type 0) → Type 0
  OverMemory true unchanged number memory pieces w steps = steps (searched_word memory pieces) w
  OverMemory false unchanged number memory pieces w steps =
      OverPieces unchanged number (λ word. steps word (marked_if (ascend pieces) w)) (memory_of memory pieces)

  abbrev pub OverProcess : Type 0 → ℕ → List ModuleView → List ℕ → List MemoryPiece → W → (Process → W → Type 0) → Type 0
  OverProcess unchanged number views memory pieces w steps =
      OverModules unchanged number
      (λ modules. OverMemory (m.is_searched w) unchanged number memory pieces w (λ word. steps (record { memory = word; modules = modules })))
      (viewed views)

module _ {W F : Type 0} (Calls : Process → F → Result F WalkEnd → Type 0) (m : WalkRecords W F) where
  abbrev pub HandsOutFrame : List ModuleView → List ℕ → List MemoryPiece → ℕ → W → W → Type 0
  HandsOutFrame views memory pieces number old new =
      OverProcess m (new ≡ old) number views memory pieces old (λ p w. HandsOutNext Calls m p number w new)

  -- calls over these modules and pieces return these frames in turn, and then nothing; the walk is then as the last call left it
  abbrev pub CallsReturn : List ModuleView → List ℕ → List MemoryPiece → W → List F → W → Type 0
  CallsReturn views memory pieces w [] last = HandsOutFrame views memory pieces NOTHING w last
  CallsReturn views memory pieces w (s ∷ frames) last =
      (next : W) × HandsOutFrame views memory pieces DONE w next × (s ≡ m.frame next) × CallsReturn views memory pieces next frames last

  -- the same of several frames, with the slots and the count before the call and after it
  abbrev pub HandsOutFrames : List ModuleView → List ℕ → List MemoryPiece → ℕ → List W × ℕ → List W × ℕ → W → W → Type 0
  HandsOutFrames views memory pieces number slots filled old new =
      OverProcess m ((new ≡ old) × (filled ≡ slots)) number views memory pieces old
      (λ p w. FillsFrames Calls m p filled.1 slots.0 filled.0 w new
      × (number ≡ (if nat_lt filled.1 (length slots.0) then NOTHING else DONE)))
