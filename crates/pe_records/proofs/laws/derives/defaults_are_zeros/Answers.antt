use Rattle.std.proofs.Common.{refl, ◌≡◌, ℕ, ◌∙◌, List, arith, replicate, sym}
use Rattle.std.specs.Array.{AllOfLen}
use Rattle.std.proofs.lemmas.List.{ext_get_or, get_or-replicate, length-replicate}
use Rattle.pe_records.proofs.laws.derives.defaults_are_zeros.Goals as goal

-- An array of which each number is 0.
all_zeros : (xs : List ℕ) (n : ℕ) → AllOfLen (λ x. x ≡ 0) xs n → xs ≡ replicate n 0
all_zeros xs n h =
    ext_get_or 0 xs (replicate n 0) (h.long ∙ sym (length-replicate n 0))
    (λ i lt. h.at i 0 (omega (arith, lt, h.long)) ∙ sym (get_or-replicate n i 0 0 (omega (arith, lt, h.long))))

pub returns-clause-pdb70 : goal.returns-clause-pdb70
returns-clause-pdb70 c x h = rw (h.0, all_zeros x.signature 16 h.1.0, h.1.1.0, h.1.1.1) refl
