-- One step of a stack walk on ARM64, by a function's unwind record.
use Rattle.std.specs.Prelude.{◌≡◌, ℕ, zero, suc, ◌+◌, ◌-◌, ◌*◌, ◌/◌, ◌<◌, ◌⊎◌, ◌&&◌, nat_le, nat_lt, Bool, true, false, if◌then◌else◌, List, [], ◌∷◌, length, drop, Option, Some, None, Result, Ok, Err}
use Rattle.std.specs.Option.{option_map}
use Rattle.pe_core.specs.Refusals.{Arm64Cut, kind_of, ◌>>=◌}
use Rattle.pe_unwind.specs.declared.arm64.codes.Arm64UnwindCode.{Arm64UnwindCode}
use Rattle.pe_unwind.specs.declared.arm64.codes.Arm64UnwindCode.TheVariants.{End, EndC}
use Rattle.pe_unwind.specs.Arm64Encoding.{encoding, StartsWithArm64Code, StartsWithNoArm64Code}
use Rattle.pe_unwind.specs.Arm64Record.{Arm64InfoView}
use Rattle.pe_unwind.specs.Arm64Words.{bits, has_epilog, epilog_scope_at}
use Rattle.pe_unwind.specs.declared.arm64.words.Arm64EpilogScope.{Arm64EpilogScope}
use Rattle.pe_frame.specs.declared.arm64.epilog.Arm64Epilog.{Arm64Epilog}
use Rattle.pe_frame.specs.declared.arm64.registers.Arm64Registers.{Arm64Registers}
use Rattle.pe_frame.specs.declared.error.FrameError.{FrameError}
use Rattle.pe_frame.specs.declared.error.FrameError.TheVariants.{Codes}
use Rattle.pe_frame.specs.Steps.{Then, registers_alone}
use Rattle.pe_frame.specs.Arm64Undoing.{caller_by_codes}

abbrev pub is_end : Arm64UnwindCode → Bool
is_end End = true
is_end other = false

abbrev pub is_end_c : Arm64UnwindCode → Bool
is_end_c EndC = true
is_end_c other = false

-- codes that follow one another from the start of the bytes on, none of which is `end`, and what holds of the bytes after them
abbrev pub CodesThen : (List ℕ → Type 0) → List ℕ → List Arm64UnwindCode → Type 0
CodesThen Rest bytes [] = Rest bytes
CodesThen Rest bytes (c ∷ codes) =
    StartsWithArm64Code bytes c × (is_end c ≡ false) × CodesThen Rest (drop (length (encoding c)) bytes) codes

-- the codes end here: by `end`, or with the bytes
abbrev pub AreOver : List ℕ → Type 0
AreOver bytes = (bytes ≡ []) ⊎ StartsWithArm64Code bytes End

-- the bytes start with a truncated code
abbrev pub AreTruncated : List ℕ → Type 0
AreTruncated bytes = (0 < length bytes) × StartsWithNoArm64Code bytes

-- an error of truncated codes
abbrev pub IsOfTruncated : FrameError → Type 0
IsOfTruncated (Codes e) = kind_of e ≡ Arm64Cut
IsOfTruncated other = ⊥

-- the codes at the start of the bytes, up to the first `end`, or the error of one that is truncated before it
abbrev pub HasArm64Codes : List ℕ → Result (List Arm64UnwindCode) FrameError → Type 0
HasArm64Codes bytes (Ok codes) = CodesThen AreOver bytes codes
HasArm64Codes bytes (Err e) = IsOfTruncated e × (codes : List Arm64UnwindCode) × CodesThen AreTruncated bytes codes

-- How many instructions the prolog has: one for each code before the first `end_c`. Codes after that are those of the function
-- to which a part of it belongs.
abbrev pub prolog_length : List Arm64UnwindCode → ℕ
prolog_length [] = 0
prolog_length (c ∷ codes) = if is_end_c c then 0 else prolog_length codes + 1

-- the codes whose instructions have run, by the number of the instructions of the function that have
abbrev pub ran_arm64 : ℕ → List Arm64UnwindCode → List Arm64UnwindCode
ran_arm64 place codes = drop (prolog_length codes - place) codes

-- The last of the first n epilog scopes that starts at or before a place. Scopes stand in the order of their starts, which
-- count instructions, as a place does.
abbrev pub last_scope : List ℕ → ℕ → ℕ → Option Arm64EpilogScope
last_scope scopes place zero = None
last_scope scopes place (suc n) =
    if nat_le (bits (epilog_scope_at scopes (4 * n)).0 0 18) place then Some (epilog_scope_at scopes (4 * n))
    else last_scope scopes place n

-- what a scope says of its epilog, and a header of the only one, which ends the function: its index is in place of the count
abbrev pub scope_epilog : Arm64EpilogScope → Arm64Epilog
scope_epilog s = record { start = Some (bits s.0 0 18); index = bits s.0 22 10 }

abbrev pub header_epilog : ℕ → Option ℕ → Arm64Epilog
header_epilog header None = record { start = None; index = bits header 22 5 }
header_epilog header (Some extension) = record { start = None; index = bits extension 0 16 }

-- the one epilog in which a place may be
abbrev pub epilog_at : Arm64InfoView → ℕ → Option Arm64Epilog
epilog_at i place =
    if has_epilog i.header then Some (header_epilog i.header i.extension)
    else option_map scope_epilog (last_scope i.scopes place (length i.scopes / 4))

-- How many instructions of a function are before an epilog with so many codes: one that ends the function has an instruction
-- for each of its codes, and the return.
abbrev pub epilog_start : ℕ → Option ℕ → ℕ → ℕ
epilog_start count None n = count - (n + 1)
epilog_start count (Some start) n = start

-- the same of an epilog with these codes, by the record
abbrev pub epilog_start_in : Arm64InfoView → Arm64Epilog → List Arm64UnwindCode → ℕ
epilog_start_in i e es = epilog_start (bits i.header 0 18) e.start (prolog_length es)

-- The codes that are left to be undone, by those of an epilog and of the prolog: of the epilog those whose instructions have not
-- run, if the place is in it or at its return.
abbrev pub left_in_epilog : ℕ → ℕ → List Arm64UnwindCode → List Arm64UnwindCode → List Arm64UnwindCode
left_in_epilog place start es cs =
    if nat_le start place && nat_le (place - start) (prolog_length es) then drop (place - start) es else cs

-- the same by the record, whose epilogs come after its prolog; or the error of an epilog's codes
abbrev pub epilog_after : Arm64InfoView → ℕ → List Arm64UnwindCode → Option Arm64Epilog
epilog_after i place cs = if nat_lt place (prolog_length cs) then None else epilog_at i place

abbrev pub LeavesIn : Arm64InfoView → ℕ → List Arm64UnwindCode → Option Arm64Epilog → Result (List Arm64UnwindCode) FrameError → Type 0
LeavesIn i place cs None left = left ≡ Ok (ran_arm64 place cs)
LeavesIn i place cs (Some e) left =
    (codes : Result (List Arm64UnwindCode) FrameError) × HasArm64Codes (drop e.index i.codes) codes
    × (left ≡ codes >>= λ es. Ok (left_in_epilog place (epilog_start_in i e es) es cs))

abbrev pub Leaves : Arm64InfoView → ℕ → Result (List Arm64UnwindCode) FrameError → Type 0
Leaves i place left =
    (codes : Result (List Arm64UnwindCode) FrameError) × HasArm64Codes i.codes codes
    × Then codes (λ cs. LeavesIn i place cs (epilog_after i place cs)) left

-- what a step returns, by the record of a function and how many instructions before the instruction pointer it has; and whether
-- no call left the caller
abbrev pub StepsOutArm64 : (ℕ → Option ℕ) → Arm64InfoView → ℕ → Arm64Registers → Result (Arm64Registers × Bool) FrameError → Type 0
StepsOutArm64 m i place g answer =
    (left : Result (List Arm64UnwindCode) FrameError) × Leaves i place left × (answer ≡ left >>= λ cs. caller_by_codes m cs g)

abbrev pub StepsArm64 : (ℕ → Option ℕ) → Arm64InfoView → ℕ → Arm64Registers → Result Arm64Registers FrameError → Type 0
StepsArm64 m i place g answer =
    (left : Result (List Arm64UnwindCode) FrameError) × Leaves i place left
    × (answer ≡ left >>= λ cs. registers_alone (caller_by_codes m cs g))
