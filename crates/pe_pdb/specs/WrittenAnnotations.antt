-- Annotations as compilers write them.
use Rattle.std.specs.Prelude.{◌≡◌, ℕ, ◌+◌, ◌/◌, ◌%◌, ◌^◌, ◌<◌, ◌≤◌, ◌==◌, List, [], ◌∷◌, ◌++◌, map, nat_lt, Result, Ok, if◌then◌else◌}
use Rattle.std.specs.List.{flat_map}
use Rattle.pe_pdb.specs.Refusals.{PdbRefusal}
use Rattle.pe_pdb.specs.declared.annotation.Annotation.{Annotation}

-- a number below 2^29, in as few bytes as it needs
abbrev pub written_number : ℕ → List ℕ
written_number n =
    if nat_lt n 128 then n ∷ []
    else if nat_lt n 16384 then (128 + n / 256) ∷ (n % 256) ∷ []
    else (192 + n / 16777216) ∷ (n / 65536 % 256) ∷ (n / 256 % 256) ∷ (n % 256) ∷ []

-- the numbers of an annotation, and whether it has the second operand
abbrev pub written : Annotation → List ℕ
written a = written_number a.operation ++ (written_number a.first ++ (if a.operation == 12 then written_number a.second else []))

-- an annotation that can be written
pub record IsWritable (a : Annotation) : Type 0 where
  pub some : 0 < a.operation
  pub known : a.operation ≤ 13
  pub first : a.first < 2 ^ 29
  pub second : a.second < 2 ^ 29
  pub alone : (a.operation ≡ 12 → ⊥) → a.second ≡ 0

-- annotations one after the other
abbrev pub written_all : List Annotation → List ℕ
written_all = flat_map written

-- what ends them, where more bytes follow
abbrev pub end_of_annotations : Annotation
end_of_annotations = record { operation = 0; first = 0; second = 0 }

-- each of them is read
abbrev pub all_read : List Annotation → List (Result Annotation PdbRefusal)
all_read = map (λ a. Ok a)
