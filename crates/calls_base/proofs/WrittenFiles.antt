-- Files that calls write to a room: what a call returns after an attempt, and after it has asked for the length.
use Rattle.std.proofs.Common.{◌≡◌, ℕ, Bool, List, [], ◌∷◌, length, Result, Ok, Err, refl, arith, if◌then◌else◌}
use Rattle.calls_base.proofs.Cited.{nat_le, nat_tests, splice}
use Rattle.calls_base.specs.WrittenFiles.{HandsOutFile, HandsOutLength, NumberReturns, PutsFileIf, length_numbered, written_numbered}

-- the call returned what is defined
returned : (given defined : Result ℕ ℕ) → NumberReturns (λ n. n) given defined → given ≡ defined
returned given defined h = grind arith

asked_after : (file : Result (List ℕ) ℕ) (number out after e : ℕ) (old new : List ℕ) → written_numbered file old ≡ Err e → new ≡ old → HandsOutLength number out after (length old) (length_numbered file) → HandsOutFile number out after old new file
asked_after file number out after e old new h same l = grind arith

-- the same by the room after the attempt
pub file_short_after : (file : Result (List ℕ) ℕ) (given : Result ℕ ℕ) (number out after e : ℕ) (old new : List ℕ) → written_numbered file old ≡ Err e → new ≡ old → NumberReturns (λ n. n) given (length_numbered file) → HandsOutLength number out after (length new) given → HandsOutFile number out after old new file
file_short_after file given number out after e old new h same r l = grind (arith, asked_after, returned)

nothing : (f : List ℕ) → length f ≡ 0 → [] ≡ splice [] 0 f
unfolding splice
nothing [] e = refl
nothing (x ∷ f) e = absurd (omega (arith, e))

empty_by : (fits : Bool) (f : List ℕ) (number : ℕ) → nat_le (length f) 0 ≡ fits → number ≡ (if fits then 0 else 101) → PutsFileIf fits f number [] []
empty_by fits f number e n = grind (arith, nothing, nat_tests)

asked_first : (file : Result (List ℕ) ℕ) (number out after : ℕ) (old : List ℕ) → length old ≡ 0 → HandsOutLength number out after 0 (length_numbered file) → HandsOutFile number out after old old file
asked_first (Ok f) number out after [] e l = (empty_by (nat_le (length f) 0) f number refl l.0, l.1)
asked_first (Ok f) number out after (x ∷ old) e l = absurd (omega (arith, e))
asked_first (Err q) number out after old e l = (l.0, l.1, refl)

-- one whose length is asked for without room
pub file_asked : (file : Result (List ℕ) ℕ) (given : Result ℕ ℕ) (number out after : ℕ) (old : List ℕ) → length old ≡ 0 → NumberReturns (λ n. n) given (length_numbered file) → HandsOutLength number out after 0 given → HandsOutFile number out after old old file
file_asked file given number out after old e r l = grind (arith, asked_first, returned)
