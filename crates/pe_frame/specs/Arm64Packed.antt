-- Packed unwind data of ARM64: the canonical prolog that an entry stands for, as the unwind codes of its instructions.
-- (ARM64 exception handling: packed unwind data, whose names stand in parentheses.)
use Rattle.std.specs.Prelude.{ℕ, zero, suc, ◌+◌, ◌-◌, ◌*◌, ◌/◌, ◌%◌, ◌==◌, ◌&&◌, ◌||◌, nat_le, nat_lt, Bool, if◌then◌else◌, List, [], ◌∷◌, ◌++◌, Option, None, Result, Err}
use Rattle.pe_unwind.specs.declared.arm64.codes.Arm64UnwindCode.{Arm64UnwindCode}
use Rattle.pe_unwind.specs.declared.arm64.codes.Arm64UnwindCode.TheVariants.{AllocSmall, SaveFpLr, SaveFpLrPreindexed, AllocMedium, SaveRegPair, SaveRegPairPreindexed, SaveReg, SaveRegPreindexed, SaveLrPair, SaveFRegPair, SaveFRegPairPreindexed, SaveFReg, SetFp, Nop, EndC, PacSignLr}
use Rattle.pe_unwind.specs.Arm64Words.{bits}
use Rattle.pe_frame.specs.declared.arm64.packed.PackedFrame.{PackedFrame}
use Rattle.pe_frame.specs.declared.arm64.registers.Arm64Registers.{Arm64Registers}
use Rattle.pe_frame.specs.declared.error.FrameError.{FrameError}
use Rattle.pe_frame.specs.declared.error.FrameError.TheVariants.{Packed}
use Rattle.pe_frame.specs.Arm64Undoing.{caller_by_list}
use Rattle.pe_frame.specs.Arm64Steps.{prolog_length, ran_arm64, epilog_start, left_in_epilog}

-- how many floating-point registers are saved, by RegF
abbrev pub float_count : ℕ → ℕ
float_count reg_f = if reg_f == 0 then 0 else reg_f + 1

-- the bytes of the saved integer registers, with the link register if CR is 1 (intsz)
abbrev pub integer_size : ℕ → ℕ → ℕ
integer_size reg_i cr = 8 * reg_i + (if cr == 1 then 8 else 0)

-- the bytes of all that is saved below the caller's frame, up to a multiple of 16 (savsz)
abbrev pub saved_size : ℕ → ℕ → Bool → ℕ
saved_size integers floats homes = (integers + 8 * floats + (if homes then 64 else 0) + 15) / 16 * 16

-- step 0: the fields and sizes of unwind data
abbrev pub packed_frame : ℕ → PackedFrame
packed_frame d =
    let integers = integer_size (bits d 16 4) (bits d 21 2) in
    let saved = saved_size integers (float_count (bits d 13 3)) (bits d 20 1 == 1) in
    record {
      integers = bits d 16 4;
      floats = float_count (bits d 13 3);
      homes = bits d 20 1 == 1;
      cr = bits d 21 2;
      integer_size = integers;
      saved_size = saved;
      local_size = 16 * bits d 23 9 - saved;
    }

-- x29 and the link register are saved, and x29 is set (CR is 2 or 3)
abbrev pub is_chained : PackedFrame → Bool
is_chained p = nat_le 2 p.cr

-- The codes of each step, the last instruction first. The first instruction that saves a register moves the stack pointer
-- below all that is saved.

-- the link register is signed (CR is 2)
abbrev pub sign_codes : PackedFrame → List Arm64UnwindCode
sign_codes p = if p.cr == 2 then PacSignLr ∷ [] else []

-- step 1: x19 and x20, and so many more pairs after that
abbrev pub integer_pair : PackedFrame → ℕ → Arm64UnwindCode
integer_pair p i = if i == 0 then SaveRegPairPreindexed 19 p.saved_size else SaveRegPair (19 + 2 * i) (16 * i)

abbrev pub integer_pairs : PackedFrame → ℕ → List Arm64UnwindCode
integer_pairs p zero = []
integer_pairs p (suc i) = integer_pair p i ∷ integer_pairs p i

-- one more integer register after so many pairs, the link register, or both (the rest of step 1, step 2)
abbrev pub single_register : PackedFrame → ℕ → ℕ → Arm64UnwindCode
single_register p r i = if i == 0 then SaveRegPreindexed r p.saved_size else SaveReg r (16 * i)

abbrev pub last_integers : PackedFrame → ℕ → List Arm64UnwindCode
last_integers p i =
    if p.integers % 2 == 1 then (if p.cr == 1 then SaveLrPair (19 + 2 * i) (16 * i) else single_register p (19 + 2 * i) i) ∷ []
    else (if p.cr == 1 then single_register p 30 i ∷ [] else [])

-- x19 and the link register alone: no code stores these two and moves the stack pointer, so an instruction of its own does that
-- first
abbrev pub alone_codes : PackedFrame → List Arm64UnwindCode
alone_codes p = if p.integers == 1 && p.cr == 1 then AllocSmall p.saved_size ∷ [] else []

-- step 3: d8 and d9, and so many more pairs after that; and one more register
abbrev pub float_pair : PackedFrame → ℕ → Arm64UnwindCode
float_pair p i =
    if p.integer_size + i == 0 then SaveFRegPairPreindexed 8 p.saved_size
    else SaveFRegPair (8 + 2 * i) (p.integer_size + 16 * i)

abbrev pub float_pairs : PackedFrame → ℕ → List Arm64UnwindCode
float_pairs p zero = []
float_pairs p (suc i) = float_pair p i ∷ float_pairs p i

abbrev pub last_float : PackedFrame → ℕ → List Arm64UnwindCode
last_float p i = if p.floats % 2 == 1 then SaveFReg (8 + 2 * i) (p.integer_size + 16 * i) ∷ [] else []

-- step 4: x0 to x7 are stored, which no caller misses
abbrev pub home_codes : PackedFrame → List Arm64UnwindCode
home_codes p =
    if p.homes then Nop ∷ Nop ∷ Nop ∷ (if p.integer_size + p.floats == 0 then AllocSmall p.saved_size else Nop) ∷ []
    else []

-- step 5: the rest of the frame (locsz), 4080 bytes first if it is larger than that
abbrev pub allocation : ℕ → Arm64UnwindCode
allocation n = if nat_lt n 512 then AllocSmall n else AllocMedium n

abbrev pub local_codes : ℕ → List Arm64UnwindCode
local_codes n =
    if n == 0 then []
    else (if nat_le n 4080 then allocation n ∷ [] else allocation (n - 4080) ∷ AllocMedium 4080 ∷ [])

abbrev pub frame_codes : PackedFrame → List Arm64UnwindCode
frame_codes p =
    if is_chained p then (if nat_le p.local_size 512 then SaveFpLrPreindexed p.local_size ∷ [] else SaveFpLr 0 ∷ local_codes p.local_size)
    else local_codes p.local_size

-- then x29 is set
abbrev pub point_codes : PackedFrame → List Arm64UnwindCode
point_codes p = if is_chained p then SetFp ∷ [] else []

-- all steps up to the third
abbrev pub saved_codes : PackedFrame → List Arm64UnwindCode
saved_codes p =
    last_float p (p.floats / 2) ++ (float_pairs p (p.floats / 2)
    ++ (last_integers p (p.integers / 2) ++ (integer_pairs p (p.integers / 2) ++ (alone_codes p ++ sign_codes p))))

-- all of them
abbrev pub canonical_codes : PackedFrame → List Arm64UnwindCode
canonical_codes p = point_codes p ++ (frame_codes p ++ (home_codes p ++ saved_codes p))

-- The canonical epilog ends the function. It has no instruction for x29, which has set the stack pointer, nor for x0 to x7; where
-- no other register is saved, it frees their bytes.
abbrev pub freed_codes : PackedFrame → List Arm64UnwindCode
freed_codes p = if p.homes && p.integer_size + p.floats == 0 then AllocSmall p.saved_size ∷ [] else []

abbrev pub epilog_codes : PackedFrame → List Arm64UnwindCode
epilog_codes p = frame_codes p ++ (freed_codes p ++ saved_codes p)

-- A fragment (flag 2) has no prolog of its own: the codes are those of another part.
abbrev pub packed_codes : ℕ → List Arm64UnwindCode
packed_codes d =
    if bits d 0 2 == 2 then EndC ∷ canonical_codes (packed_frame d) else canonical_codes (packed_frame d)

-- how many instructions the prolog has, by how many codes there are
abbrev pub packed_length : ℕ → ℕ → ℕ
packed_length d count = if bits d 0 2 == 2 then 0 else count

-- Unwind data that have a canonical prolog: x19 to x28, and a frame that holds what is saved, x29 and the link register too.
abbrev pub is_canonical : ℕ → Bool
is_canonical d =
    let p = packed_frame d in
    (bits d 0 2 == 1 || bits d 0 2 == 2) && nat_le p.integers 10
    && nat_le (p.saved_size + (if is_chained p then 16 else 0)) (16 * bits d 23 9)

-- the codes that are left to be undone after a prolog with these codes
abbrev pub left_after : ℕ → ℕ → List Arm64UnwindCode → List Arm64UnwindCode
left_after d place codes =
    let es = epilog_codes (packed_frame d) in
    left_in_epilog place (epilog_start (bits d 2 11) None (prolog_length es)) es codes

-- the same at a place: a fragment has no epilog of its own either
abbrev pub packed_left : ℕ → ℕ → List Arm64UnwindCode
packed_left d place =
    if bits d 0 2 == 2 || nat_lt place (prolog_length (packed_codes d)) then ran_arm64 place (packed_codes d)
    else left_after d place (packed_codes d)

-- what a step returns, by packed unwind data and how many instructions before the instruction pointer the function has
abbrev pub stepped_arm64_packed : (ℕ → Option ℕ) → ℕ → ℕ → Arm64Registers → Result Arm64Registers FrameError
stepped_arm64_packed m d place g =
    if is_canonical d then caller_by_list m (packed_left d place) g else Err (Packed d)
