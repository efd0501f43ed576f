-- Positions that are not in the data, and the last one.
use Rattle.std.proofs.Common.{◌≡◌, ℕ, Bool, true, List, [], ◌∷◌, Result, Err, refl, arith}
use Rattle.pe_resource.proofs.Cited.{◌&&◌, if◌then◌else◌, nat_tests, holds, Refusal, Short, outcome, TreeRefusal, Image, ResourceLeaf}
use Rattle.pe_resource.proofs.Entries.{entries_empty}
use Rattle.pe_resource.specs.LeafPositions.{leaves_at, no_position, position_after, position_test}
use Rattle.pe_resource.specs.declared.leaf_position.LeafPosition.{LeafPosition}

by_tests : (items : List (Result ResourceLeaf TreeRefusal)) (r : Refusal) (x y z : Bool) → ◌≡◌ {A = Result (Unit {0}) Refusal} (outcome ((x, Short) ∷ (y, Short) ∷ (z, Short) ∷ []) tt) (Err r) →
    (if x && (y && z) then items else Err (Image Short) ∷ []) ≡ Err (Image r) ∷ []
by_tests items r x y z e = grind arith

-- the last one has no leaves
pub last_position : (b : List ℕ) → leaves_at b no_position ≡ []
last_position b = let inside : holds b 0 0 ≡ true = grind (arith, nat_tests) in rw inside (rw entries_empty refl)

pub refused_once : (b : List ℕ) (p : LeafPosition) (r : Refusal) → position_test b p ≡ Err r → leaves_at b p ≡ Err (Image r) ∷ leaves_at b no_position
refused_once b p r e = grind (arith, last_position, by_tests)

-- after it is the end
pub refused_to_the_end : (b : List ℕ) (p : LeafPosition) (r : Refusal) → position_test b p ≡ Err r → no_position ≡ position_after b p
refused_to_the_end b p r e = grind arith
