-- A step of a stack walk: the records of a function undone, and then the pop of the return address.
use Rattle.std.specs.Prelude.{◌≡◌, ℕ, ◌||◌, nat_le, nat_lt, Bool, false, if◌then◌else◌, List, [], ◌∷◌, Option, Some, None, Result, Ok, Err}
use Rattle.pe_core.specs.Refusals.{Refusal, kind_of, ◌>>=◌}
use Rattle.pe_core.specs.declared.error.Error.{Error}
use Rattle.pe_unwind.specs.declared.unwind_code.UnwindCode.{UnwindCode}
use Rattle.pe_unwind.specs.CodeStream.{AreItems}
use Rattle.pe_unwind.specs.UnwindRecord.{UnwindInfoView, code_stream}
use Rattle.pe_frame.specs.declared.error.FrameError.{FrameError}
use Rattle.pe_frame.specs.declared.error.FrameError.TheVariants.{Codes, NotRising}
use Rattle.pe_frame.specs.declared.registers.Registers.{Registers}
use Rattle.pe_frame.specs.Undoing.{FrameRegister, entered, popped, stack_pointer}

-- the codes that items are, or the first that is none
abbrev pub known_codes : List (Result UnwindCode Error) → Result (List UnwindCode) FrameError
known_codes [] = Ok []
known_codes (Ok c ∷ items) = known_codes items >>= λ codes. Ok (c ∷ codes)
known_codes (Err e ∷ items) = Err (Codes e)

-- the codes of a record
abbrev pub HasCodes : UnwindInfoView → Result (List UnwindCode) FrameError → Type 0
HasCodes i codes = (items : List (Result UnwindCode Error)) × AreItems (code_stream i) items × (codes ≡ known_codes items)

abbrev pub frame_register_in : UnwindInfoView → FrameRegister
frame_register_in i = record { register = (i.frame_register).0; offset = i.frame_register_offset }

-- inside the prolog of the first record only what ends at or before an offset has run; all has after the prolog, and in
-- the records to which the first is chained
abbrev pub limit_of : List UnwindInfoView → ℕ → Option ℕ
limit_of [] offset = None
limit_of (i ∷ is) offset = if nat_le i.size_of_prolog offset then None else Some offset

-- a record undone: the registers where its code was entered, and whether an interrupt entered it
abbrev pub Enters : (ℕ → Option ℕ) → Option ℕ → UnwindInfoView → Registers → Result (Registers × Bool) FrameError → Type 0
Enters m limit i g entry =
    (codes : Result (List UnwindCode) FrameError) × HasCodes i codes
    × (entry ≡ codes >>= λ cs. entered m (frame_register_in i) limit cs g)

-- a second step on what a first one gave
abbrev pub Then : {A B : Type 0} → Result A FrameError → (A → Result B FrameError → Type 0) → Result B FrameError → Type 0
Then (Ok x) Next answer = Next x answer
Then (Err e) Next answer = answer ≡ Err e

-- The records undone, one after the other: the registers where the function was entered, and whether an interrupt entered
-- it. No memory is read for a record whose codes are refused, nor for those after it.
abbrev pub UndoesRecords : (ℕ → Option ℕ) → List UnwindInfoView → Option ℕ → Bool → Registers → Result (Registers × Bool) FrameError → Type 0
UndoesRecords m [] limit interrupted g answer = answer ≡ Ok (g, interrupted)
UndoesRecords m (i ∷ is) limit interrupted g answer =
    (entry : Result (Registers × Bool) FrameError) × Enters m limit i g entry
    × Then entry (λ u. UndoesRecords m is None (interrupted || u.1) u.0) answer

-- the caller's stack pointer is above this one
abbrev pub rising : ℕ → Registers → Result Registers FrameError
rising p u = if nat_lt p (stack_pointer u) then Ok u else Err (NotRising (stack_pointer u))

-- the caller's registers: an interrupt left them; a call left its return address, and a stack pointer below the caller's
abbrev pub returned : (ℕ → Option ℕ) → ℕ → (Registers × Bool) → Result Registers FrameError
returned m p u = if u.1 then Ok u.0 else popped m u.0 >>= rising p

-- what a step returns, by the records of a function and the offset in it
abbrev pub Steps : (ℕ → Option ℕ) → List UnwindInfoView → ℕ → Registers → Result Registers FrameError → Type 0
Steps m plan offset g answer =
    (entry : Result (Registers × Bool) FrameError) × UndoesRecords m plan (limit_of plan offset) false g entry
    × (answer ≡ entry >>= returned m (stack_pointer g))

-- the same, and whether an interrupt left them
abbrev pub returned_out : (ℕ → Option ℕ) → ℕ → (Registers × Bool) → Result (Registers × Bool) FrameError
returned_out m p u = returned m p u >>= λ c. Ok (c, u.1)

abbrev pub UndoesFunction : (ℕ → Option ℕ) → List UnwindInfoView → ℕ → Registers → Result (Registers × Bool) FrameError → Type 0
UndoesFunction m plan offset g answer =
    (entry : Result (Registers × Bool) FrameError) × UndoesRecords m plan (limit_of plan offset) false g entry
    × (answer ≡ entry >>= returned_out m (stack_pointer g))

abbrev pub registers_alone : {R : Type 0} → Result (R × Bool) FrameError → Result R FrameError
registers_alone left = left >>= λ u. Ok u.0

-- an error without the numbers in a refusal of codes
pub data ErrorKind : Type 0 where
  OfCodes : Refusal → ErrorKind
  OfStep : FrameError → ErrorKind

abbrev pub error_kind : FrameError → ErrorKind
error_kind (Codes e) = OfCodes (kind_of e)
error_kind other = OfStep other

-- a result, with an error by its kind
abbrev pub by_kind : {A : Type 0} → Result A FrameError → Result A ErrorKind
by_kind (Ok x) = Ok x
by_kind (Err e) = Err (error_kind e)
