-- Walks over symbol records and over modules.
use Rattle.std.proofs.Common.{◌≡◌, ℕ, ◌+◌, ◌<◌, ◌≤◌, Bool, true, false, List, [], ◌∷◌, length, Result, Ok, Err, arith}
use Rattle.std.proofs.lemmas.Bool.Decides.{nat_tests}
use Rattle.std.proofs.lemmas.Grind.{div_ceil_times}
use Rattle.pe_core.specs.Bytes.{holds}
use Rattle.pe_core.specs.Refusals.{outcome, ◌>>=◌}
use Rattle.pe_pdb.specs.Modules.{ModuleView, module_at, module_end, modules}
use Rattle.pe_pdb.specs.Refusals.{PdbRefusal}
use Rattle.pe_pdb.specs.Symbols.{Symbol, symbol_at, symbol_end, symbols}
use Rattle.pe_pdb.proofs.Walked.{EndsLater, HasWidth, walk_more, walk_none, walk_refused}

-- the value of tests that pass
pub passed : {Y : Type 0} (tests : List (Bool × PdbRefusal)) (v y : Y) → outcome tests v ≡ Ok y → v ≡ y
passed [] v y is = cc is
passed ((true, r) ∷ tests) v y is = passed tests v y is
passed ((false, r) ∷ tests) v y is = absurd (cc is)

-- both of two steps that succeed
pub both : {A B : Type 0} (r : Result A PdbRefusal) (f : A → Result B PdbRefusal) (y : B) → (r >>= f) ≡ Ok y → (x : A) × (r ≡ Ok x) × (f x ≡ Ok y)
both r f y is = grind arith

-- the first of tests that pass
pub first_passed : {Y : Type 0} (test : Bool) (r : PdbRefusal) (tests : List (Bool × PdbRefusal)) (v y : Y) → outcome ((test, r) ∷ tests) v ≡ Ok y → test ≡ true
first_passed test r tests v y is = grind arith

-- and the second
pub second_passed : {Y : Type 0} (first test : Bool) (q r : PdbRefusal) (tests : List (Bool × PdbRefusal)) (v y : Y) → outcome ((first, q) ∷ (test, r) ∷ tests) v ≡ Ok y → test ≡ true
second_passed first test q r tests v y is = grind (arith, first_passed)

held : (b : List ℕ) (p n : ℕ) → holds b p n ≡ true → p + n ≤ length b
held b p n is = grind (arith, nat_tests)

-- ---- symbols

pub symbol_offset : (b : List ℕ) (p : ℕ) (s : Symbol) → symbol_at b p ≡ Ok s → s.offset ≡ p
unfolding symbol_at
symbol_offset b p s is = grind (arith, passed)

symbol_held : (b : List ℕ) (p : ℕ) (s : Symbol) → symbol_at b p ≡ Ok s → p + 4 ≤ length b
unfolding symbol_at
symbol_held b p s is = grind (arith, held, first_passed)

pub symbols_wide : (b : List ℕ) → HasWidth 4 (length b) symbol_end (symbol_at b)
symbols_wide b p s is = let at = symbol_offset b p s is in let held = symbol_held b p s is in (omega (arith, at), held)

pub symbols_later : (b : List ℕ) → EndsLater symbol_end (symbol_at b)
symbols_later b p s is = let at = symbol_offset b p s is in omega (arith, at)

pub symbols_none : (b : List ℕ) (p : ℕ) → length b ≤ p → symbols b p ≡ []
symbols_none b p past = walk_none symbol_end (symbol_at b) (length b) p past

pub symbols_more : (b : List ℕ) (p : ℕ) (s : Symbol) → p < length b → symbol_at b p ≡ Ok s → symbols b p ≡ Ok s ∷ symbols b (symbol_end s)
symbols_more b p s before is = walk_more symbol_end (symbol_at b) (symbols_later b) (length b) p s before is

pub symbols_refused : (b : List ℕ) (p : ℕ) (r : PdbRefusal) → p < length b → symbol_at b p ≡ Err r → symbols b p ≡ Err r ∷ []
symbols_refused b p r before is = walk_refused symbol_end (symbol_at b) (symbols_later b) (length b) p r before is

-- ---- modules

module_offset : (b : List ℕ) (p : ℕ) (m : ModuleView) → module_at b p ≡ Ok m → m.offset ≡ p
unfolding module_at
module_offset b p m is = grind (arith, both)

module_held : (b : List ℕ) (p : ℕ) (m : ModuleView) → module_at b p ≡ Ok m → p + 64 ≤ length b
unfolding module_at
module_held b p m is = grind (arith, both, held, first_passed)

module_ends : (m : ModuleView) → m.offset + 64 ≤ module_end m
module_ends m = grind (arith, div_ceil_times)

pub modules_later : (b : List ℕ) → EndsLater module_end (module_at b)
modules_later b p m is = let at = module_offset b p m is in let after = module_ends m in omega (arith, at, after)

pub modules_wide : (b : List ℕ) → HasWidth 64 (length b) module_end (module_at b)
modules_wide b p m is = let at = module_offset b p m is in let after = module_ends m in let held = module_held b p m is in (omega (arith, at, after), held)

pub modules_none : (b : List ℕ) (p : ℕ) → length b ≤ p → modules b p ≡ []
modules_none b p past = walk_none module_end (module_at b) (length b) p past

pub modules_more : (b : List ℕ) (p : ℕ) (m : ModuleView) → p < length b → module_at b p ≡ Ok m → modules b p ≡ Ok m ∷ modules b (module_end m)
modules_more b p m before is = walk_more module_end (module_at b) (modules_later b) (length b) p m before is

pub modules_refused : (b : List ℕ) (p : ℕ) (r : PdbRefusal) → p < length b → module_at b p ≡ Err r → modules b p ≡ Err r ∷ []
modules_refused b p r before is = walk_refused module_end (module_at b) (modules_later b) (length b) p r before is
