-- Tests before a value, and facts that are to be shown by the kind of a refusal.
use Rattle.std.proofs.Common.{◌≡◌, Bool, true, [], ◌∷◌, Result, Ok, Err, arith}
use Rattle.pe_image.proofs.Cited.{Refusal, WriteFit, UnlessMemory, IfMemory, outcome, ◌>>=◌, Error}

pub refused_test : {X : Type 0} (t : Result (Unit {0}) Refusal) (x : X) (e : Refusal) → (t >>= λ u. Ok x) ≡ Err e → t ≡ Err e
refused_test t x e h = grind arith

pub passed_test : {X : Type 0} (t : Result (Unit {0}) Refusal) (x y : X) → (t >>= λ u. Ok x) ≡ Ok y → x ≡ y
passed_test t x y h = grind arith

pub still_passes : {X Y : Type 0} (t : Result (Unit {0}) Refusal) (x y : X) (z : Y) → (t >>= λ u. Ok x) ≡ Ok y → (t >>= λ u. Ok z) ≡ Ok z
still_passes t x y z h = grind arith

pub first_passed : {X : Type 0} (t : Result (Unit {0}) Refusal) (f : Unit {0} → Result X Refusal) (x : X) → (t >>= f) ≡ Ok x → t ≡ Ok tt
first_passed t f x h = grind arith

-- ---- one test of a write

pub value_if : {Y : Type 0} (t : Bool) (x y : Y) → outcome ((t, WriteFit) ∷ []) x ≡ Ok y → y ≡ x
value_if t x y h = grind arith

pub accepted_if : {Y : Type 0} (t : Bool) (x y : Y) → true ≡ t → y ≡ x → outcome ((t, WriteFit) ∷ []) x ≡ Ok y
accepted_if t x y h e = grind arith

-- ---- out of memory

pub if_memory : (e : Error) (P : Type 0) → P → IfMemory e P
if_memory e P p = grind arith

pub unless_more : (e : Error) (P Q : Type 0) → (P → Q) → UnlessMemory e P → UnlessMemory e Q
unless_more e P Q f p = grind arith
