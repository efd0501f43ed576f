-- Tables of numbers that are as wide as virtual addresses, up to the first zero.
use Rattle.std.specs.Prelude.{ℕ, ◌==◌, List, drop, Bool, Option, Some, None, Ok, Err, if◌then◌else◌}
use Rattle.std.specs.Option.{option_map}
use Rattle.pe_core.specs.Bytes.{le, holds}
use Rattle.pe_core.specs.Refusals.{Short}
use Rattle.pe_directories.specs.DirectoryRefusals.{Image}
use Rattle.pe_directories.specs.ImageParts.{size_of_va}
use Rattle.pe_directories.specs.Walks.{First}
use Rattle.pe_directories.specs.declared.va_table.VaTable.{VaTable}

-- the number that stands first in a table
unfoldable pub first_va : Bool → List ℕ → First ℕ (List ℕ)
first_va is_64 b =
    if holds b 0 (size_of_va is_64)
    then (if le b 0 (size_of_va is_64) == 0 then None
    else Some (Ok (le b 0 (size_of_va is_64), drop (size_of_va is_64) b)))
    else Some (Err (Image Short))

-- the bytes that a walk has left, and whether its numbers have 8 bytes
abbrev pub vas_left : VaTable → Option (List ℕ)
vas_left s = option_map (λ b. b.now) s.left

abbrev pub vas_are_64 : VaTable → Bool
vas_are_64 s = s.is_64
