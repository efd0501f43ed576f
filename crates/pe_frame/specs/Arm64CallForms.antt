-- Calls on ARM64 by their bytes. (Arm Architecture Reference Manual for A-profile: BL, BLR, BLRAA.)
--
-- | word | instruction |
-- |---|---|
-- | 100101 imm26 | BL, by the number of words from the call |
-- | 1101011000111111000000 Rn 00000 | BLR, by a register |
-- | 110101100011111100001 M Rn 11111 | BLRAAZ, BLRABZ, by a register with a signature, by the key M |
-- | 110101110011111100001 M Rn Rm | BLRAA, BLRAB, the same with a modifier |
use Rattle.std.specs.Prelude.{ℕ, ◌/◌, ◌%◌, ◌^◌, ◌==◌, ◌&&◌, ◌||◌, Bool, List, length}
use Rattle.pe_core.specs.Bytes.{le}

-- a word is a call
abbrev pub is_call_word : ℕ → Bool
is_call_word w =
    w / 2 ^ 26 == 0x25 || w / 2 ^ 10 == 0x358FC0 && w % 32 == 0 || w / 2 ^ 11 == 0x1AC7E1 && w % 32 == 31
    || w / 2 ^ 11 == 0x1AE7E1

-- the bytes are a call
unfoldable pub is_call_arm64 : List ℕ → Bool
is_call_arm64 code = length code == 4 && is_call_word (le code 0 4)
