-- A table that counts its reads. (This project's own.)
use Rattle.std.specs.Prelude.{ℕ, ◌+◌, ◌-◌, ◌^◌, List, Option, Some, None, nat_lt, if◌then◌else◌}
use Rattle.pe_core.specs.Bytes.{le, holds}

-- what is seen of a table: its bytes and its count
pub record Counted : Type 0 where
  -- the bytes of the table
  pub content : List ℕ
  -- the number of reads so far
  pub count : ℕ

-- one more, up to the greatest u64
abbrev pub one_more : ℕ → ℕ
one_more n = if nat_lt n (2 ^ 64 - 1) then n + 1 else n

-- the same table after one more read
abbrev pub after_read : Counted → Counted
after_read t = record { content = t.content; count = one_more t.count }

-- the u32 at offset p, if it is there
abbrev pub u32_of : List ℕ → ℕ → Option ℕ
u32_of b p = if holds b p 4 then Some (le b p 4) else None

-- the entry of n bytes at offset p, if it is there
abbrev pub entry_of : {X : Type 0} → (List ℕ → ℕ → X) → ℕ → List ℕ → ℕ → Option X
entry_of entry_at n b p = if holds b p n then Some (entry_at b p) else None
