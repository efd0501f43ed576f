-- Epilogs: what is left of one from an instruction on, by its bytes, and what running that does. (x64 prolog and epilog:
-- epilog code.)
use Rattle.std.specs.Prelude.{◌≡◌, ℕ, zero, suc, ◌+◌, ◌-◌, ◌/◌, ◌%◌, ◌^◌, ◌&&◌, ◌||◌, ◌==◌, not, nat_eq, nat_le, nat_lt, Bool, true, false, if◌then◌else◌, List, [], ◌∷◌, ◌++◌, length, map, take, drop, slice_index, Option, Some, None, Result, Ok}
use Rattle.std.specs.List.{starts_with}
use Rattle.std.specs.Option.{option_and_then, option_map_or}
use Rattle.pe_core.specs.Bytes.{le, holds}
use Rattle.pe_core.specs.Refusals.{◌>>=◌}
use Rattle.pe_unwind.specs.UnwindCodes.{integer}
use Rattle.pe_unwind.specs.declared.unwind_code.UnwindOperation.TheVariants.{PushNonVolatile}
use Rattle.pe_unwind.specs.UnwindRecord.{UnwindInfoView}
use Rattle.pe_frame.specs.declared.epilog.Instruction.{Instruction}
use Rattle.pe_frame.specs.declared.epilog.Instruction.TheVariants.{Add, Lea, Pop, Return, Jump, JumpByOperand}
use Rattle.pe_frame.specs.declared.error.FrameError.{FrameError}
use Rattle.pe_frame.specs.declared.registers.Registers.{Registers}
use Rattle.pe_frame.specs.Undoing.{stack_pointer, put_register, raised, undone, popped, popped_and_dropped}
use Rattle.pe_frame.specs.Steps.{Steps, UndoesFunction, limit_of, rising}
use Rattle.pe_frame.specs.declared.registers.TheConstants.{RSP}

-- a number of so many bits in two's complement, as one of 64 bits
abbrev pub widened : ℕ → ℕ → ℕ
widened bits n = if nat_lt n (2 ^ (bits - 1)) then n else n + (2 ^ 64 - 2 ^ bits)

-- the address so far from another, as the processor adds
abbrev pub moved : ℕ → ℕ → ℕ
moved a d = (a + d) % 2 ^ 64

-- the number of n bytes after an opcode, if the code starts with that opcode and has them
unfoldable pub operand : List ℕ → ℕ → List ℕ → Option ℕ
operand opcode n code =
    if starts_with nat_eq code opcode && holds code (length opcode) n then Some (le code (length opcode) n) else None

-- `add rsp, n` of so many bytes frees stack, so its number of so many bits is not negative
abbrev pub freed : ℕ → ℕ → ℕ → Option (Instruction × ℕ)
freed bits size n = if nat_lt n (2 ^ (bits - 1)) then Some (Add n, size) else None

-- it and its size, with a number of one byte or of four
unfoldable pub add_at : List ℕ → Option (Instruction × ℕ)
add_at code =
    option_map_or (freed 8 4) (operand (0x48 ∷ 0x83 ∷ 0xC4 ∷ []) 1 code)
    (option_map_or (freed 32 7) (operand (0x48 ∷ 0x81 ∷ 0xC4 ∷ []) 4 code) None)

-- `lea rsp, [r + n]` without its number: REX.W, and B for r8 to r15; the opcode; ModRM, whose mode says how long the number
-- is; and for r12, whose last three bits are those of rsp, a SIB byte
abbrev pub lea_opcode : ℕ → ℕ → List ℕ
lea_opcode mode r =
    take (if r == 12 then 4 else 3) ((0x48 + r / 8) ∷ 0x8D ∷ (mode + 0x20 + r % 8) ∷ 0x24 ∷ [])

-- a register that `lea` may take for the frame register of a record: 0 is none, and 4 is rsp
abbrev pub is_frame_register : ℕ → Bool
is_frame_register r = not (r == 0) && not (r == RSP) && nat_lt r 16

abbrev pub lea_of : ℕ → ℕ → ℕ → ℕ → Option (Instruction × ℕ)
lea_of r bits size n = Some (Lea r (widened bits n), size)

-- it and its size, with a number of one byte or of four
unfoldable pub lea_at : ℕ → List ℕ → Option (Instruction × ℕ)
lea_at r code =
    if is_frame_register r
    then option_map_or (lea_of r 8 (length (lea_opcode 0x40 r) + 1)) (operand (lea_opcode 0x40 r) 1 code)
    (option_map_or (lea_of r 32 (length (lea_opcode 0x80 r) + 4)) (operand (lea_opcode 0x80 r) 4 code) None)
    else None

-- the instruction that frees the stack, and its size
abbrev pub trim_at : ℕ → List ℕ → Option (Instruction × ℕ)
trim_at r code = option_map_or Some (add_at code) (lea_at r code)

-- `58 + r` pops a register of the first eight, after REX.B of the others; rsp is never popped
abbrev pub pop_of : ℕ → ℕ → ℕ → Option (ℕ × ℕ)
pop_of high size b =
    if nat_le 0x58 b && nat_lt b 0x60 && not (high + b == 0x5C) then Some (high + (b - 0x58), size) else None

-- the register of a pop, and the size of the instruction
unfoldable pub pop_at : List ℕ → Option (ℕ × ℕ)
pop_at code = option_map_or (pop_of 8 2) (operand (0x41 ∷ []) 1 code) (option_map_or (pop_of 0 1) (operand [] 1 code) None)

-- the registers that the code pops first, so many at most, and the code after these pops
unfoldable pub popped_first : ℕ → List ℕ → List ℕ
popped_first zero code = []
popped_first (suc n) code = option_map_or (λ p. p.0 ∷ popped_first n (drop p.1 code)) (pop_at code) []

unfoldable pub after_pops : ℕ → List ℕ → List ℕ
after_pops zero code = code
after_pops (suc n) code = option_map_or (λ p. after_pops n (drop p.1 code)) (pop_at code) code

-- a jump of so many bytes, by a number that counts from its end. The code is the last of what ends at an RVA
abbrev pub jump_of : ℕ → List ℕ → ℕ → ℕ → Option Instruction
jump_of end code size n = Some (Jump (moved (moved (end - length code) size) n))

-- a jump by an operand is FF with /4 in ModRM: with mode 3 by a register, else by memory
abbrev pub jump_by_operand : ℕ → Option Instruction
jump_by_operand b = if b / 8 % 8 == 4 then Some JumpByOperand else None

-- REX.W, which is 48 to 4F, changes nothing of such a jump: it marks one that leaves the function
abbrev pub marked_by : ℕ → List ℕ → Option Instruction
marked_by rex code =
    if nat_le 0x48 rex && nat_lt rex 0x50
    then option_map_or jump_by_operand (operand (rex ∷ 0xFF ∷ []) 1 code) None
    else None

unfoldable pub marked_jump : List ℕ → Option Instruction
marked_jump code = option_map_or (λ rex. marked_by rex code) (operand [] 1 code) None

-- Without that mark FF 25 leaves, which jumps by the address of an import. Any other may be that of a switch, unless what
-- freed stack or popped a register comes before it.
unfoldable pub unmarked_jump : Bool → List ℕ → Option Instruction
unmarked_jump restored code =
    if starts_with nat_eq code (0xFF ∷ 0x25 ∷ []) then Some JumpByOperand
    else if restored
    then option_map_or jump_by_operand (operand (0xFF ∷ []) 1 code)
    (option_map_or jump_by_operand (operand (0x41 ∷ 0xFF ∷ []) 1 code) None)
    else None

-- `ret`, and `ret` after `rep` or `bnd`
abbrev pub is_return : List ℕ → Bool
is_return code =
    starts_with nat_eq code (0xC3 ∷ []) || starts_with nat_eq code (0xF3 ∷ 0xC3 ∷ []) || starts_with nat_eq code (0xF2 ∷ 0xC3 ∷ [])

-- the number of `ret n`, and of it after `bnd`
unfoldable pub return_number : List ℕ → Option ℕ
return_number code = option_map_or Some (operand (0xC2 ∷ []) 2 code) (operand (0xF2 ∷ 0xC2 ∷ []) 2 code)

-- a jump: to an RVA by a number of one byte or of four, or by an operand
unfoldable pub jump_at : Bool → ℕ → List ℕ → Option Instruction
jump_at restored end code =
    option_map_or (λ n. jump_of end code 2 (widened 8 n)) (operand (0xEB ∷ []) 1 code)
    (option_map_or (λ n. jump_of end code 5 (widened 32 n)) (operand (0xE9 ∷ []) 4 code)
    (option_map_or Some (marked_jump code) (unmarked_jump restored code)))

-- the instruction with which an epilog ends, by the RVA where the code ends, and whether one before it freed stack or popped
-- a register
unfoldable pub exit_at : Bool → ℕ → List ℕ → Option Instruction
exit_at restored end code =
    if is_return code then Some (Return 0)
    else option_map_or (λ n. Some (Return n)) (return_number code) (jump_at restored end code)

-- an RVA lies in an entry that starts and ends there
abbrev pub lies_in : ℕ → ℕ → ℕ → Bool
lies_in start end a = nat_le start a && nat_lt a end

-- an RVA lies in an entry to which one of these records is chained
abbrev pub lies_in_parents : List UnwindInfoView → ℕ → Bool
lies_in_parents [] a = false
lies_in_parents (i ∷ is) a =
    option_map_or (λ f. lies_in f.begin_address f.end_address a) i.chained_info false || lies_in_parents is a

-- where the function starts: where the last of the entries does to which one of its records is chained, if there is one
abbrev pub function_start : ℕ → List UnwindInfoView → ℕ
function_start start [] = start
function_start start (i ∷ is) = function_start (option_map_or (λ f. f.begin_address) i.chained_info start) is

-- An instruction leaves the function. Of jumps to an RVA those do that end in none of its entries, and those to its start,
-- where it calls itself in place of returning.
abbrev pub leaves : List UnwindInfoView → ℕ → ℕ → Instruction → Bool
leaves plan start end (Jump a) =
    a == function_start start plan || not (lies_in start end a || lies_in_parents plan a)
leaves plan start end other = true

abbrev pub exit_of : List UnwindInfoView → ℕ → ℕ → Bool → List ℕ → Option Instruction
exit_of plan start end restored code =
    option_and_then (λ i. if leaves plan start end i then Some i else None) (exit_at restored end code)

-- there are 16 integer registers, and an epilog pops none of them twice
abbrev pub most_pops : ℕ
most_pops = 16

-- an instruction freed stack, or the code starts with a pop
abbrev pub restores : List Instruction → List ℕ → Bool
restores [] code = option_map_or (λ p. true) (pop_at code) false
restores (i ∷ is) code = true

-- pops and the instruction with which the epilog ends, after what came before them
abbrev pub with_rest : List UnwindInfoView → ℕ → ℕ → List Instruction → List ℕ → Option (List Instruction)
with_rest plan start end before code =
    option_map_or (λ i. Some (before ++ (map Pop (popped_first most_pops code) ++ (i ∷ []))))
    (exit_of plan start end (restores before code) (after_pops most_pops code)) None

-- the frame register of the first record
abbrev pub frame_register_of : List UnwindInfoView → ℕ
frame_register_of [] = 0
frame_register_of (i ∷ is) = (i.frame_register).0

-- What is left of an epilog where the code starts: it may have to free stack first, and then pops registers and leaves the
-- function, which starts and ends at these RVAs. None where the code is anything else.
abbrev pub tail_at : List UnwindInfoView → ℕ → ℕ → List ℕ → Option (List Instruction)
tail_at plan start end code =
    option_map_or (λ t. with_rest plan start end (t.0 ∷ []) (drop t.1 code)) (trim_at (frame_register_of plan) code)
    (with_rest plan start end [] code)

-- what is left at an RVA, from which on the function has this code; in the prolog there is no epilog
abbrev pub epilog_at : List UnwindInfoView → ℕ → ℕ → List ℕ → Option (List Instruction)
epilog_at plan start rva code =
    option_map_or (λ _. None) (limit_of plan (rva - start)) (tail_at plan start (rva + length code) code)

-- The registers after an instruction. A pop does what undoes a push. Where the function jumps to another, that one returns
-- to the caller.
abbrev pub executed : (ℕ → Option ℕ) → Instruction → Registers → Result Registers FrameError
executed m (Add n) g = raised n g
executed m (Lea r n) g = Ok (put_register g RSP (moved (slice_index g.general r) n))
executed m (Pop r) g = undone m 0 (PushNonVolatile (integer r)) g
executed m (Return n) g = popped_and_dropped m n g
executed m (Jump a) g = popped m g
executed m JumpByOperand g = popped m g

-- the same of instructions that follow one another
abbrev pub executed_all : (ℕ → Option ℕ) → List Instruction → Registers → Result Registers FrameError
executed_all m [] g = Ok g
executed_all m (i ∷ is) g = executed m i g >>= executed_all m is

-- what a step returns: the rest of an epilog is run; without one the records are undone
abbrev pub StepsFrom : Option (List Instruction) → (ℕ → Option ℕ) → List UnwindInfoView → ℕ → Registers → Result Registers FrameError → Type 0
StepsFrom None m plan offset g answer = Steps m plan offset g answer
StepsFrom (Some rest) m plan offset g answer = answer ≡ executed_all m rest g >>= rising (stack_pointer g)

-- what a step with the code returns, by the records of a function, its start, the RVA in it and its code from there on
abbrev pub StepsWithCode : (ℕ → Option ℕ) → List UnwindInfoView → ℕ → ℕ → List ℕ → Registers → Result Registers FrameError → Type 0
StepsWithCode m plan start rva code g answer = StepsFrom (epilog_at plan start rva code) m plan (rva - start) g answer

-- the same, and whether an interrupt left the registers, as no epilog does
abbrev pub run_out : (ℕ → Option ℕ) → List Instruction → Registers → Result (Registers × Bool) FrameError
run_out m rest g = (executed_all m rest g >>= rising (stack_pointer g)) >>= λ u. Ok (u, false)

abbrev pub StepsOutFrom : Option (List Instruction) → (ℕ → Option ℕ) → List UnwindInfoView → ℕ → Registers → Result (Registers × Bool) FrameError → Type 0
StepsOutFrom None m plan offset g answer = UndoesFunction m plan offset g answer
StepsOutFrom (Some rest) m plan offset g answer = answer ≡ run_out m rest g

abbrev pub StepsOut : (ℕ → Option ℕ) → List UnwindInfoView → ℕ → ℕ → List ℕ → Registers → Result (Registers × Bool) FrameError → Type 0
StepsOut m plan start rva code g answer = StepsOutFrom (epilog_at plan start rva code) m plan (rva - start) g answer
