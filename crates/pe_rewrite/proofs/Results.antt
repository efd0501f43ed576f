-- What an accepted or a refused result says of its steps.
use Rattle.std.proofs.Common.{◌≡◌, ℕ, ◌+◌, List, [], ◌∷◌, length, Result, Ok, Err, ap, ◌∙◌, arith}
use Rattle.pe_rewrite.proofs.Cited.{nat_le, fit_at, splice, Refusal, WriteFit, outcome, ◌>>=◌, edited_length, written}
use Rattle.pe_rewrite.proofs.Cited.{RewriteRefusal, Image}

-- ---- steps

pub first_ok : {A B R : Type 0} (r : Result A R) (f : A → Result B R) (y : B) → (r >>= f) ≡ Ok y → (x : A) × ((r ≡ Ok x) × (f x ≡ Ok y))
first_ok r f y h = grind arith

pub then_is : {A B R : Type 0} (r : Result A R) (f : A → Result B R) (x : A) → r ≡ Ok x → (r >>= f) ≡ f x
then_is r f x h = ap (λ k. k >>= f) h

-- ---- a file and a buffer

pub length_value : (file : Result (List ℕ) RewriteRefusal) (f : List ℕ) (n : ℕ) → file ≡ Ok f → length f ≡ n → edited_length file ≡ Ok n
length_value file f n e same = ap (λ (x : Result (List ℕ) RewriteRefusal). edited_length x) e ∙ ap (λ k. Ok k) same

fit_of : (f old : List ℕ) (n : ℕ) (r : Result (Unit {0}) Refusal) → length f ≡ n → fit_at old 0 n ≡ r → outcome ((nat_le (length f) (length old), WriteFit) ∷ []) tt ≡ r
fit_of f old n r same h = let start : 0 + n ≡ length f = omega (arith, same) in rw start at h

pub written_short : (file : Result (List ℕ) RewriteRefusal) (f old : List ℕ) (n : ℕ) (r : Refusal) → file ≡ Ok f → length f ≡ n → fit_at old 0 n ≡ Err r → written file old ≡ Err (Image r)
written_short file f old n r e same h = grind (arith, fit_of)

pub written_done : (file : Result (List ℕ) RewriteRefusal) (f old new : List ℕ) (n : ℕ) (u : Unit {0}) → file ≡ Ok f → length f ≡ n → fit_at old 0 n ≡ Ok u → new ≡ splice old 0 f → written file old ≡ Ok (n, new)
written_done file f old new n u e same h is = grind (arith, fit_of)
