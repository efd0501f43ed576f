-- One step of a stack walk: the registers of a function's caller, by the function's records in an image.
use Rattle.std.specs.Prelude.{◌≡◌, ℕ, zero, suc, ◌+◌, ◌*◌, ◌/◌, ◌%◌, ◌^◌, ◌==◌, if◌then◌else◌, Bool, List, slice_index, Option, Some, None, Result, Ok, Err}
use Rattle.pe_core.specs.Refusals.{Refusal, kind_of}
use Rattle.pe_core.specs.Rows.{each}
use Rattle.pe_unwind.specs.ExceptionTable.{ExceptionView, exception_of_table}
use Rattle.pe_unwind.specs.Links.{links_with}
use Rattle.pe_unwind.specs.UnwindRecord.{UnwindInfoView}
use Rattle.pe_plan.specs.ShortPlans.{PlansShort}
use Rattle.pe_frame.specs.Jumps.{StepsInImage}
use Rattle.pe_frame.specs.MemoryLists.{listed_word, memory_of}
use Rattle.pe_frame.specs.Undoing.{popped}
use Rattle.pe_frame.specs.declared.error.FrameError.{FrameError}
use Rattle.pe_frame.specs.declared.error.FrameError.TheVariants.{Codes, Memory, Address, Operation, Arm64Code, Packed, NotRising}
use Rattle.pe_frame.specs.declared.memory_list.MemoryPiece.{MemoryPiece}
use Rattle.pe_frame.specs.declared.registers.Registers.{Registers}
use Rattle.calls_base.specs.HandsOut.{result_number}
use Rattle.calls_base.specs.Views.{map_of}
use Rattle.calls_base.specs.declared.ranges.Range.{Range}
use Rattle.calls_stacks.specs.declared.stack.frames.FrameRegisters.{FrameRegisters}
use Rattle.calls_stacks.specs.declared.stack.frames.StackFrame.{StackFrame}
use Rattle.calls_base.specs.declared.view.View.{View}
use Rattle.calls_base.specs.declared.results.TheConstants.{BAD_ADDRESS, BAD_OPERATION, DONE, LONG_CHAIN, MISSING, NOT_RISING}

-- ---- registers

-- an XMM register of the halves: the low halves have even indices, the high ones odd indices
abbrev pub whole_xmm : List ℕ → ℕ → ℕ
whole_xmm halves i = slice_index halves (2 * i) + slice_index halves (2 * i + 1) * 2 ^ 64

-- a half of the XMM registers
abbrev pub half_xmm : List ℕ → ℕ → ℕ
half_xmm xmm i = if i % 2 == 0 then slice_index xmm (i / 2) % 2 ^ 64 else slice_index xmm (i / 2) / 2 ^ 64

-- the registers that a caller of the library passes
abbrev pub registers_of : FrameRegisters → Registers
registers_of g = record { general = g.general; xmm = each (whole_xmm g.xmm) 16; rip = g.rip }

-- registers as such a caller gets them
abbrev pub flat_registers : Registers → FrameRegisters
flat_registers g = record { general = g.general; xmm = each (half_xmm g.xmm) 32; rip = g.rip }

-- ---- steps

-- the number of an error of a step
abbrev pub error_number : FrameError → ℕ
error_number (Codes e) = result_number (kind_of e)
error_number (Memory a) = MISSING
error_number (Address a) = BAD_ADDRESS
error_number (Operation o) = BAD_OPERATION
error_number (Arm64Code c) = BAD_OPERATION
error_number (Packed d) = BAD_OPERATION
error_number (NotRising a) = NOT_RISING

-- the address that an error of a step speaks of
abbrev pub error_address : FrameError → Option ℕ
error_address (Memory a) = Some a
error_address (Address a) = Some a
error_address (NotRising a) = Some a
error_address other = None

-- a frame with the address that an error speaks of, if it speaks of one
abbrev pub at_address : StackFrame → Option ℕ → StackFrame
at_address frame None = frame
at_address frame (Some a) = record frame { address = a }

-- The number that a step returns, and the frame after it: the registers of the caller, with 1 where an interrupt left them, else 0;
-- or an error's number, with the address that it speaks of. Nothing else of the frame changes.
abbrev pub HandsOutLeft : ℕ → StackFrame → StackFrame → Result (Registers × Bool) FrameError → Type 0
HandsOutLeft number old new (Ok u) =
    (number ≡ DONE) × (new ≡ record old { registers = flat_registers u.0; interrupted = if u.1 then 1 else 0 })
HandsOutLeft number old new (Err e) = (number ≡ error_number e) × (new ≡ at_address old (error_address e))

-- the same, or the number of what refuses the step
abbrev pub HandsOutLeftOr : ℕ → StackFrame → StackFrame → Result (Result (Registers × Bool) FrameError) ℕ → Type 0
HandsOutLeftOr number old new (Ok left) = HandsOutLeft number old new left
HandsOutLeftOr number old new (Err n) = (number ≡ n) × (new ≡ old)

-- the same of a pop of the return address, which leaves the XMM registers as they are
abbrev pub HandsOutPopped : ℕ → StackFrame → StackFrame → Result Registers FrameError → Type 0
HandsOutPopped number old new (Ok u) =
    (number ≡ DONE)
    × (new ≡ record old { registers = record (old.registers) { general = u.general; rip = u.rip }; interrupted = 0 })
HandsOutPopped number old new (Err e) = (number ≡ error_number e) × (new ≡ at_address old (error_address e))

-- What a step by the records of a function leaves: it is a step of pe_frame in the image, with the code from the frame's RVA on.
-- `HandsOut` says what becomes of it, or of a number that refuses it.
abbrev pub StepsBy : ExceptionView → (ℕ → Option ℕ) → List ℕ → (ℕ → Option ℕ) → StackFrame →
    (Result (Result (Registers × Bool) FrameError) ℕ → Type 0) → Result (Option (List UnwindInfoView)) Refusal → Type 0
StepsBy v offset code memory old HandsOut (Err refusal) = HandsOut (Err (result_number refusal))
StepsBy v offset code memory old HandsOut (Ok None) = HandsOut (Err LONG_CHAIN)
StepsBy v offset code memory old HandsOut (Ok (Some plan)) =
    (left : Result (Registers × Bool) FrameError)
    × StepsInImage v offset memory plan (old.function).begin_address old.rva code (registers_of old.registers) left
    × HandsOut (Ok left)

-- the same by the exception data of an image and a map of its RVAs
abbrev pub StepsOf : ExceptionView → (ℕ → Option ℕ) → List ℕ → (ℕ → Option ℕ) → StackFrame → (Result (Result (Registers × Bool) FrameError) ℕ → Type 0) → Type 0
StepsOf v offset code memory old HandsOut =
    (plan : Result (Option (List UnwindInfoView)) Refusal)
    × PlansShort (links_with v offset) v.content old.function plan
    × StepsBy v offset code memory old HandsOut plan

-- the same, or what refuses the exception data
abbrev pub StepsIn : Result ExceptionView Refusal → (ℕ → Option ℕ) → List ℕ → (ℕ → Option ℕ) → StackFrame → (Result (Result (Registers × Bool) FrameError) ℕ → Type 0) → Type 0
StepsIn (Err refusal) offset code memory old HandsOut = HandsOut (Err (result_number refusal))
StepsIn (Ok v) offset code memory old HandsOut = StepsOf v offset code memory old HandsOut

-- the exception data of an image whose function table is at this range, or what refuses the range
abbrev pub exceptions_by : View → Range → Result ExceptionView Refusal
exceptions_by v table =
    exception_of_table v.bytes.now (record { offset = table.offset; length = table.length }) (v.image.now).file_alignment

-- What a step over this memory returns, and the frame after it: 0 says that lookup found the frame's function, any other number that
-- it is a leaf.
abbrev pub HandsOutOver : ℕ → View → Range → List ℕ → (ℕ → Option ℕ) → ℕ → StackFrame → StackFrame → Type 0
HandsOutOver zero image table code memory number old new =
    StepsIn (exceptions_by image table) (map_of image) code memory old (HandsOutLeftOr number old new)
HandsOutOver (suc n) image table code memory number old new =
    HandsOutPopped number old new (popped memory (registers_of old.registers))

-- What a call returns over the memory of these pieces. Where one of them does not lie in it, the call returns that, and nothing
-- changes.
abbrev pub OverPieces : Type 0 → ℕ → ((ℕ → Option ℕ) → Type 0) → Result (List ℕ × List MemoryPiece) Refusal → Type 0
OverPieces unchanged number steps (Err refusal) = (number ≡ result_number refusal) × unchanged
OverPieces unchanged number steps (Ok parts) = steps (listed_word parts.0 parts.1)

-- what a call for a step returns, and the frame after it
abbrev pub HandsOutStep : View → Range → List ℕ → List ℕ → List MemoryPiece → ℕ → StackFrame → StackFrame → Type 0
HandsOutStep image table code memory pieces number old new =
    OverPieces (new ≡ old) number (λ word. HandsOutOver old.leaf image table code word number old new) (memory_of memory pieces)
