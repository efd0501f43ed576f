-- The order of the leaves of a tree. Windows looks for an entry of a directory by halves: its names are sorted by their code
-- units and come before its ids, which are sorted by their numbers. (PE format: resource directory entries.)
use Rattle.std.specs.Prelude.{ℕ, ◌&&◌, ◌==◌, Bool, true, false, List, [], ◌∷◌, nat_lt, if◌then◌else◌}
use Rattle.pe_resource.specs.VersionStrings.{units}
use Rattle.pe_edit.specs.Written.{Key, Id, Name, Leaf, key_eq, same_type}

-- these code units come before others: by the first that differs, and a text comes before those that it starts
abbrev pub units_before : List ℕ → List ℕ → Bool
units_before [] [] = false
units_before [] (v ∷ vs) = true
units_before (u ∷ us) [] = false
units_before (u ∷ us) (v ∷ vs) = if u == v then units_before us vs else nat_lt u v

-- names come before ids
abbrev pub key_before : Key → Key → Bool
key_before (Id m) (Id n) = nat_lt m n
key_before (Id m) (Name v) = false
key_before (Name u) (Id n) = true
key_before (Name u) (Name v) = units_before (units u) (units v)

-- by the type, the name and the language
abbrev pub leaf_before : Leaf → Leaf → Bool
leaf_before x y =
    if same_type x y then (if key_eq x.name y.name then nat_lt x.language y.language else key_before x.name y.name)
    else key_before x.resource_type y.resource_type

-- each leaf comes before the next; so no two have one type, name and language
unfoldable pub is_sorted : List Leaf → Bool
is_sorted [] = true
is_sorted (x ∷ []) = true
is_sorted (x ∷ y ∷ ys) = leaf_before x y && is_sorted (y ∷ ys)
