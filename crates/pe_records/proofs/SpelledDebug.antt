-- A debug record that is returned spells the bytes of its range.
use Rattle.std.proofs.Common.{◌≡◌, ℕ, ◌+◌, ◌-◌, ◌≤◌, Bool, true, false, List, [], ◌∷◌, ◌++◌, length, Some, None, Ok, Err, refl, ap, ◌∙◌, ◌⊎◌, arith}
use Rattle.std.specs.Prelude.{slice_range, if◌then◌else◌}
use Rattle.std.proofs.lemmas.Bool.Decides.{nat_tests}
use Rattle.pe_core.proofs.Ranges.{inside_if_held}
use Rattle.pe_core.proofs.NumberBytes.{bytes_of-le, range_join}
use Rattle.pe_core.specs.Bytes.{AreBytes, le, bytes_of, range}
use Rattle.pe_core.specs.Modes.{none_if_refused}
use Rattle.pe_core.specs.Refusals.{Refusal, Short, DebugSize, outcome}
use Rattle.pe_core.specs.declared.options.ParseMode.{ParseMode}
use Rattle.pe_core.proofs.Comparisons.{not_below}
use Rattle.pe_records.specs.declared.debug.ImageDebugDirectory.{ImageDebugDirectory}
use Rattle.pe_records.specs.DebugRecords.{Pdb70, Pdb20, Pogo, pdb70_at, pdb70_record, pdb20_at, pdb20_record, features_at, pogo_record, Repro, Stamp, Buffer, repro_record}
use Rattle.pe_records.specs.DebugSpelling.{spell_pdb70, spell_pdb20, spell_features, spell_pogo, spell_repro, size_of_repro}

-- a range and what stands after it
join : (b xs ys : List ℕ) (p q r : ℕ) → xs ≡ slice_range b p q → ys ≡ slice_range b q r → p ≤ q → q ≤ r → r ≤ length b → xs ++ ys ≡ slice_range b p r
join b xs ys p q r e f h i l = ap (λ (x : List ℕ). x ++ ys) e ∙ ap (λ (y : List ℕ). slice_range b p q ++ y) f ∙ range_join b p q r h i l

-- the number at q after the bytes from p to q
number : (b xs : List ℕ) (p q r w : ℕ) → AreBytes b → xs ≡ slice_range b p q → p ≤ q → r ≡ q + w → r ≤ length b → xs ++ bytes_of w (le b q w) ≡ slice_range b p r
number b xs p q r w small e h end l = grind (arith, join, bytes_of-le)

-- what is returned passed its tests
pub passed : {X : Type 0} (short : Bool) (mode : ParseMode) (there own whole inside : Bool) (i j : Refusal) (v x : X) →
    (if short then none_if_refused mode (Err DebugSize) else (if there then (if own then outcome ((whole, i) ∷ (inside, j) ∷ []) (Some v) else Ok None) else Err Short)) ≡ Ok (Some x) →
    (short ≡ false) × (inside ≡ true) × (v ≡ x)
passed short mode there own whole inside i j v x e = grind arith

spelled_pdb70_at : (b : List ℕ) (p size : ℕ) → AreBytes b → 24 ≤ size → p + size ≤ length b → spell_pdb70 (pdb70_at b p size) ≡ range b p size
unfolding spell_pdb70 pdb70_at
spelled_pdb70_at b p size small least inside =
    let first = bytes_of-le b p 4 small (omega arith) in
    let same : p + 4 + 16 ≡ p + 20 = omega arith in
    let name : p + 24 + (size - 24) ≡ p + size = omega arith in
    let second = join b (bytes_of 4 (le b p 4)) (range b (p + 4) 16) p (p + 4) (p + 20) first (ap (slice_range b (p + 4)) same) (omega arith) (omega arith) (omega arith) in
    let third = number b (bytes_of 4 (le b p 4) ++ range b (p + 4) 16) p (p + 20) (p + 24) 4 small second (omega arith) (omega arith) (omega arith) in
    join b (bytes_of 4 (le b p 4) ++ range b (p + 4) 16 ++ bytes_of 4 (le b (p + 20) 4)) (range b (p + 24) (size - 24)) p (p + 24) (p + size) third (ap (slice_range b (p + 24)) name) (omega arith) (omega arith) (omega arith)

spelled_pdb20_at : (b : List ℕ) (p size : ℕ) → AreBytes b → 16 ≤ size → p + size ≤ length b → spell_pdb20 (pdb20_at b p size) ≡ range b p size
unfolding spell_pdb20 pdb20_at
spelled_pdb20_at b p size small least inside =
    let name : p + 16 + (size - 16) ≡ p + size = omega arith in
    let first = bytes_of-le b p 4 small (omega arith) in
    let second = number b (bytes_of 4 (le b p 4)) p (p + 4) (p + 8) 4 small first (omega arith) (omega arith) (omega arith) in
    let third = number b (bytes_of 4 (le b p 4) ++ bytes_of 4 (le b (p + 4) 4)) p (p + 8) (p + 12) 4 small second (omega arith) (omega arith) (omega arith) in
    let fourth = number b (bytes_of 4 (le b p 4) ++ bytes_of 4 (le b (p + 4) 4) ++ bytes_of 4 (le b (p + 8) 4)) p (p + 12) (p + 16) 4 small third (omega arith) (omega arith) (omega arith) in
    join b (bytes_of 4 (le b p 4) ++ bytes_of 4 (le b (p + 4) 4) ++ bytes_of 4 (le b (p + 8) 4) ++ bytes_of 4 (le b (p + 12) 4)) (range b (p + 16) (size - 16)) p (p + 16) (p + size) fourth (ap (slice_range b (p + 16)) name) (omega arith) (omega arith) (omega arith)

pub spelled_features : (b : List ℕ) (p : ℕ) → AreBytes b → p + 20 ≤ length b → spell_features (features_at b p) ≡ range b p 20
unfolding spell_features features_at
spelled_features b p small inside = grind (arith, bytes_of-le, number)

pub spelled_pdb70 : (mode : ParseMode) (b : List ℕ) (p size : ℕ) (r : Pdb70) → AreBytes b → pdb70_record mode b p size ≡ Ok (Some r) → spell_pdb70 r ≡ range b p size
unfolding pdb70_record
spelled_pdb70 mode b p size r small e = grind (arith, passed, not_below, inside_if_held, spelled_pdb70_at)

pub spelled_pdb20 : (mode : ParseMode) (b : List ℕ) (p size : ℕ) (r : Pdb20) → AreBytes b → pdb20_record mode b p size ≡ Ok (Some r) → spell_pdb20 r ≡ range b p size
unfolding pdb20_record
spelled_pdb20 mode b p size r small e = grind (arith, passed, not_below, inside_if_held, spelled_pdb20_at)

-- what is returned passed its tests
pub passed_pogo : {X : Type 0} (there own larger inside : Bool) (i j : Refusal) (v x : X) →
    (if there then (if own then outcome ((larger, i) ∷ (inside, j) ∷ []) (Some v) else Ok None) else Err Short) ≡ Ok (Some x) →
    (larger ≡ true) × (inside ≡ true) × (v ≡ x)
passed_pogo there own larger inside i j v x e = grind arith

pub spelled_pogo : (b : List ℕ) (p size : ℕ) (r : Pogo) → AreBytes b → pogo_record b p size ≡ Ok (Some r) → spell_pogo r ≡ range b p size
unfolding pogo_record spell_pogo
spelled_pogo b p size r small e = grind (arith, passed_pogo, inside_if_held, join, bytes_of-le, nat_tests)

-- what is returned is the stamp, or passed its tests
pub passed_repro : (empty there inside : Bool) (i j : Refusal) (v w x : Repro) →
    (if empty then Ok v else outcome ((there, i) ∷ (inside, j) ∷ []) w) ≡ Ok x →
    (v ≡ x) ⊎ ((inside ≡ true) × (w ≡ x))
passed_repro empty there inside i j v w x e = grind arith

spelled_stamp : (b : List ℕ) (p stamp : ℕ) → spell_repro (Stamp stamp) ≡ range b p (size_of_repro (Stamp stamp))
unfolding spell_repro
spelled_stamp b p stamp = let none : p + 0 - p ≡ 0 = omega arith in rw none refl

spelled_buffer : (b : List ℕ) (p n : ℕ) → AreBytes b → n ≡ le b p 4 → p + 4 + n ≤ length b → spell_repro (Buffer n (range b (p + 4) n)) ≡ range b p (4 + n)
unfolding spell_repro
spelled_buffer b p n small is inside = grind (arith, join, bytes_of-le)

pub spelled_repro : (b : List ℕ) (p : ℕ) (e : ImageDebugDirectory) (r : Repro) → AreBytes b → repro_record b p e ≡ Ok r → spell_repro r ≡ range b p (size_of_repro r)
unfolding repro_record
spelled_repro b p e r small given = grind (arith, passed_repro, spelled_stamp, spelled_buffer, inside_if_held)
