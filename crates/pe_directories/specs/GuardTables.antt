-- The tables that a load configuration leads to: RVAs, each with bytes of flags. (PE format: load configuration, GFIDS table.)
use Rattle.std.specs.Prelude.{ℕ, ◌+◌, ◌-◌, ◌/◌, ◌^◌, ◌==◌, ◌||◌, List, [], ◌∷◌, drop, Option, Some, None, Result, Ok, if◌then◌else◌}
use Rattle.std.specs.Option.{option_map, unwrap_or}
use Rattle.pe_core.specs.Bytes.{le, range, holds}
use Rattle.pe_core.specs.Refusals.{Short, outcome, ◌>>=◌}
use Rattle.pe_directories.specs.DirectoryRefusals.{DirectoryRefusal, Image}
use Rattle.pe_directories.specs.ImageParts.{ImageView, table_at_va}
use Rattle.pe_directories.specs.Walks.{First}
use Rattle.pe_directories.specs.declared.guard_table.GuardEntry.{GuardEntry}
use Rattle.pe_directories.specs.declared.guard_table.GuardTable.{GuardTable}
use Rattle.pe_directories.specs.declared.load_config.LoadConfig.{LoadConfig}

-- what callers see of an entry: an RVA, and the flags that follow it
pub record Guarded : Type 0 where
  pub rva : ℕ
  pub flags : List ℕ

-- this entry as callers see it
abbrev pub guarded_view : GuardEntry → Guarded
guarded_view x = record { rva = x.rva; flags = x.flags.now }

-- how many bytes of flags an entry has: bits 28 to 31 of the guard flags, which are 0 where they are absent
abbrev pub flag_size : LoadConfig → ℕ
flag_size c = unwrap_or c.guard_flags 0 / 2 ^ 28

-- the entry that stands first where this many entries, with n bytes of flags each, are left in some bytes
unfoldable pub first_guarded : ℕ → ℕ × List ℕ → First Guarded (ℕ × List ℕ)
first_guarded n s =
    if s.0 == 0 then None
    else Some (outcome (
    (holds s.1 0 (4 + n), Image Short) ∷ []
    ) (record { rva = le s.1 0 4; flags = range s.1 4 n }, (s.0 - 1, drop (4 + n) s.1)))

-- the table at a virtual address with this many entries: how many there are, and the bytes from the first of them on. Where
-- either is 0 or absent there is no table
unfoldable pub guard_table : ImageView → Option ℕ → Option ℕ → Result (Option (ℕ × List ℕ)) DirectoryRefusal
guard_table i va count =
    if unwrap_or va 0 == 0 || unwrap_or count 0 == 0 then Ok None
    else (table_at_va i (unwrap_or va 0) >>= λ b. Ok (Some (unwrap_or count 0, b)))

-- how many entries a walk has left, and the bytes from the next of them on; how many bytes of flags each of them has
abbrev pub guarded_left : GuardTable → Option (ℕ × List ℕ)
guarded_left s = option_map (λ b. (s.count, b.now)) s.left

abbrev pub flag_size_of : GuardTable → ℕ
flag_size_of s = s.flag_size

-- how many entries a walk has at most
abbrev pub most_guarded : Option (ℕ × List ℕ) → ℕ
most_guarded None = 0
most_guarded (Some s) = s.0
