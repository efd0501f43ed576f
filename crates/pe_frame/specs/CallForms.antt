-- Calls by their bytes. (Intel SDM, volume 2: CALL; ModRM and SIB bytes.)
--
-- | bytes | size | operand |
-- |---|---|---|
-- | E8 id | 5 | an RVA, by the number of bytes from the end of the call |
-- | FF D0 + r | 2 | a register |
-- | FF 10 + r, for r other than 4 and 5 | 2 | memory at a register |
-- | FF 15 id | 6 | memory at a number of bytes from the end of the call |
-- | FF 14 SIB, with base 5 an id after it | 3, 7 | memory by a SIB byte |
-- | FF 50 + r ib, for r other than 4; FF 54 SIB ib | 3, 4 | memory, a byte away |
-- | FF 90 + r id, for r other than 4; FF 94 SIB id | 6, 7 | memory, four bytes away |
--
-- Those of FF may have one of 40 to 4F before it, a REX prefix.
use Rattle.std.specs.Prelude.{ℕ, ◌+◌, ◌/◌, ◌%◌, ◌==◌, ◌&&◌, ◌||◌, not, nat_le, nat_lt, Bool, List, [], ◌∷◌, length, drop, slice_index, Option, Some, None, if◌then◌else◌}
use Rattle.pe_core.specs.Bytes.{le}
use Rattle.pe_frame.specs.Epilogs.{moved, widened}

-- a SIB byte follows a ModRM byte
abbrev pub has_sib : ℕ → Bool
has_sib m = not (m / 64 == 3) && m % 8 == 4

-- the base of an operand in memory, by its ModRM byte and its SIB byte
abbrev pub operand_base : ℕ → ℕ → ℕ
operand_base m sib = if has_sib m then sib % 8 else m % 8

-- how many bytes of displacement it has, by its mode and its base: in mode 0 the base 5 is none, and they stand for it
abbrev pub displacement : ℕ → ℕ → ℕ
displacement mode base =
    if mode == 0 then (if base == 5 then 4 else 0) else if mode == 1 then 1 else if mode == 2 then 4 else 0

-- the size of an instruction with an operand, from its opcode of one byte on
abbrev pub operand_size : ℕ → ℕ → ℕ
operand_size m sib = 2 + (if has_sib m then 1 else 0) + displacement (m / 64) (operand_base m sib)

-- the bytes are `call` of an operand, FF /2
abbrev pub is_operand_call : List ℕ → Bool
is_operand_call code =
    slice_index code 0 == 0xFF && slice_index code 1 / 8 % 8 == 2
    && length code == operand_size (slice_index code 1) (slice_index code 2)

-- the bytes are `call` of an RVA, E8
abbrev pub is_near_call : List ℕ → Bool
is_near_call code = slice_index code 0 == 0xE8 && length code == 5

abbrev pub is_rex : ℕ → Bool
is_rex b = nat_le 0x40 b && nat_lt b 0x50

-- the bytes are a call
unfoldable pub is_call : List ℕ → Bool
is_call code = is_near_call code || is_operand_call code || is_rex (slice_index code 0) && is_operand_call (drop 1 code)

-- where E8 leads, by its four bytes and the address at which it ends
abbrev pub near_target : List ℕ → ℕ → Option ℕ
near_target code end = if is_near_call code then Some (moved end (widened 32 (le code 1 4))) else None

-- how many bytes a call may have, the sizes that are seen most first
abbrev pub call_sizes : List ℕ
call_sizes = 5 ∷ 6 ∷ 2 ∷ 3 ∷ 4 ∷ 7 ∷ 8 ∷ []
