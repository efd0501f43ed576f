-- What a file that is not a PE image is, by its first bytes.
use Rattle.std.specs.Prelude.{ℕ, ◌||◌, Bool, List, [], ◌∷◌, codes, nat_eq, if◌then◌else◌}
use Rattle.std.specs.List.{starts_with}

-- objects start with their machine: x86, x64 or ARM64
abbrev pub starts_with_a_machine : List ℕ → Bool
starts_with_a_machine b =
    starts_with nat_eq b (76 ∷ 1 ∷ []) || starts_with nat_eq b (100 ∷ 134 ∷ []) || starts_with nat_eq b (100 ∷ 170 ∷ [])

-- the end of the message about a file that is not empty
abbrev pub kind_of_start : List ℕ → List ℕ
kind_of_start b =
    if starts_with nat_eq b (127 ∷ codes "ELF") then codes "; it is an ELF file"
    else (if starts_with nat_eq b (codes "VZ") then codes "; it is a TE image"
    else (if starts_with nat_eq b (codes "!<arch>") then codes "; it is an archive of objects"
    else (if starts_with_a_machine b then codes "; it looks like a COFF object" else codes "")))

-- the end of the message that a file is not a PE image
abbrev pub other_kind : List ℕ → List ℕ
other_kind [] = codes "; the file is empty"
other_kind (first ∷ rest) = kind_of_start (first ∷ rest)
