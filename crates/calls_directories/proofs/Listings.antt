-- A walk over certificates lists what their table lists.
use Rattle.std.proofs.Common.{◌≡◌, ◌≢◌, ℕ, zero, suc, ◌+◌, ◌-◌, ◌<◌, ◌≤◌, Bool, true, false, List, [], ◌∷◌, length, Result, Ok, Err, refl, sym, ap, ◌∙◌, arith}
use Rattle.calls_directories.proofs.Cited.{nat_lt, nat_tests, holds, Refusal, ◌>>=◌, Range}
use Rattle.pe_core.proofs.Comparisons.{lt_is, lt_is_not, le_is}
use Rattle.pe_records.proofs.CertificateListings.{next_above}
use Rattle.pe_records.specs.Certificates.{CertificateView, certificate_at, certificates_from, certificates_at}
use Rattle.calls_directories.specs.Certificates.{listed, walk_from}

-- the first certificate, and those that a function lists from the next offset on
abbrev first_and : (ℕ → Result (List CertificateView) Refusal) → Result (CertificateView × ℕ) Refusal → Result (List CertificateView) Refusal
first_and more x = x >>= λ c. more c.1 >>= λ cs. Ok (c.0 ∷ cs)

same_more : (f g : ℕ → Result (List CertificateView) Refusal) (x : Result (CertificateView × ℕ) Refusal) → ((c : CertificateView) (next : ℕ) → x ≡ Ok (c, next) → f next ≡ g next) → first_and f x ≡ first_and g x
same_more f g (Ok c) h = ap (λ (r : Result (List CertificateView) Refusal). r >>= λ cs. Ok (c.0 ∷ cs)) (h c.0 c.1 refl)
same_more f g (Err r) h = refl

pub none_from : (b : List ℕ) (end n p : ℕ) → end ≤ p → certificates_from b end n p ≡ Ok []
unfolding certificates_from
none_from b end n p h = grind (arith, lt_is_not)

some_from : (b : List ℕ) (end n p : ℕ) → p < end → certificates_from b end (suc n) p ≡ first_and (certificates_from b end n) (certificate_at b p)
unfolding certificates_from
some_from b end n p h = rw (lt_is p end h) refl

-- steps enough to come to the end list the same
enough : (b : List ℕ) (end n m p : ℕ) (t : Bool) → nat_lt p end ≡ t → end ≤ p + n → end ≤ p + m → certificates_from b end n p ≡ certificates_from b end m p
enough b end n m p false e h k = none_from b end n p (grind (arith, nat_tests)) ∙ sym (none_from b end m p (grind (arith, nat_tests)))
enough b end zero m p true e h k = let before : p < end = grind (arith, nat_tests) in absurd (omega arith)
enough b end (suc n) zero p true e h k = let before : p < end = grind (arith, nat_tests) in absurd (omega arith)
enough b end (suc n) (suc m) p true e h k =
    let before : p < end = grind (arith, nat_tests) in
    some_from b end n p before
    ∙ same_more (certificates_from b end n) (certificates_from b end m) (certificate_at b p)
    (λ c next given. let further : p < next = next_above b p c next given in enough b end n m next (nat_lt next end) refl (omega arith) (omega arith))
    ∙ sym (some_from b end m p before)

pub at_range : (b : List ℕ) (p n : ℕ) → p + n ≤ length b → certificates_at b p n ≡ certificates_from b (p + n) n p
unfolding certificates_at
at_range b p n h = rw (le_is (p + n) (length b) h) refl

first_listed : (b : List ℕ) (w : Range) (n : ℕ) → w.length ≡ suc n → w.offset + w.length ≤ length b → listed b w ≡ first_and (λ next. listed b (walk_from w next)) (certificate_at b w.offset)
first_listed b w n e h =
    at_range b w.offset w.length h
    ∙ ap (λ (k : ℕ). certificates_from b (w.offset + w.length) k w.offset) e
    ∙ some_from b (w.offset + w.length) n w.offset (omega arith)
    ∙ same_more (certificates_from b (w.offset + w.length) n) (λ next. listed b (walk_from w next)) (certificate_at b w.offset)
    (λ c next given. let further : w.offset < next = next_above b w.offset c next given in grind (arith, nat_tests, enough, at_range, none_from))

-- a walk that is not at its end lists the certificate at its offset, and then what it lists from the next offset on
pub steps_list : (b : List ℕ) (w : Range) → w.length ≢ 0 → holds b w.offset w.length ≡ true → listed b w ≡ first_and (λ next. listed b (walk_from w next)) (certificate_at b w.offset)
steps_list b w some h = first_listed b w (w.length - 1) (omega arith) (grind (arith, nat_tests))
