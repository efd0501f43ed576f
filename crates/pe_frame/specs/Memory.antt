-- Memory by addresses.
use Rattle.std.specs.Prelude.{ℕ, ◌+◌, ◌-◌, ◌^◌, ◌&&◌, nat_le, List, Option, Some, None, if◌then◌else◌}
use Rattle.pe_core.specs.Bytes.{le, holds}

-- the number of the eight bytes at an address, where bytes are known from another address on; none passes the last address
abbrev pub stack_word : List ℕ → ℕ → ℕ → Option ℕ
stack_word bytes start a =
    if nat_le start a && nat_le (a + 8) (2 ^ 64) && holds bytes (a - start) 8 then Some (le bytes (a - start) 8) else None
