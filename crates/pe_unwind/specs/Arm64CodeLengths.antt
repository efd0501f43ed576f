-- The bytes of one ARM64 unwind code, and how many there are. Only contracts of private functions cite it.
use Rattle.std.specs.Prelude.{◌≡◌, ℕ, if◌then◌else◌, nat_lt, ◌==◌, List}
use Rattle.pe_unwind.specs.declared.arm64.codes.Arm64UnwindCode.{Arm64UnwindCode}
use Rattle.pe_unwind.specs.Arm64Encoding.{encoding, Legal}

-- the bytes are those of this legal code
pub record Encodes (bytes : List ℕ) (code : Arm64UnwindCode) : Type 0 where
  pub legal : Legal code
  pub spelled : encoding code ≡ bytes

-- the size in bytes of the code that starts with these two bytes
abbrev pub len_at : ℕ → ℕ → ℕ
len_at first second =
    if nat_lt first 0xC0 then 1
    else (if nat_lt first 0xE0 then 2
    else (if first == 0xE0 then 4
    else (if first == 0xE2 then 2
    else (if first == 0xE7 then (if nat_lt second 128 then 3 else 2)
    else (if first == 0xF8 then 2
    else (if first == 0xF9 then 3
    else (if first == 0xFA then 4
    else (if first == 0xFB then 5 else 1))))))))
