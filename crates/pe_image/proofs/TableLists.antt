-- The certificates of a table, counted while they are read.
use Rattle.std.proofs.Common.{◌≡◌, ℕ, ◌+◌, ◌<◌, ◌≤◌, List, [], ◌∷◌, ◌++◌, length, Ok, Err, inl, inr, refl, ap, sym, ◌∙◌, arith}
use Rattle.pe_image.proofs.Cited.{length-append, Refusal, CertificateTable, CertificateView, certificate_at, certificates_at}
use Rattle.pe_image.proofs.Cited.{StandFrom, listing, listing_is, next_above, refusal_is, refused, stand_push, listed}

-- n certificates stand one after the other from p on, each starts before the end, and the last ends at q
pub record Counted (b : List ℕ) (end p q n : ℕ) : Type 0 where
  pub certificates : List CertificateView
  pub stand : StandFrom b end p certificates q
  pub count : n ≡ length certificates

pub none_counted : (b : List ℕ) (end p : ℕ) → Counted b end p p 0
none_counted b end p = record { certificates = []; stand = refl; count = refl }

pub one_more : (b : List ℕ) (end p q n r : ℕ) (c : CertificateView) → Counted b end p q n → q < end → certificate_at b q ≡ Ok (c, r) → Counted b end p r (n + 1)
one_more b end p q n r c k h e = record {
  certificates = k.certificates ++ c ∷ [];
  stand = stand_push b end p k.certificates c q r k.stand h e;
  count = omega (arith, length-append k.certificates (c ∷ []), k.count);
}

-- each takes a byte or more
taken : (b : List ℕ) (end p : ℕ) (cs : List CertificateView) (q : ℕ) → StandFrom b end p cs q → p + length cs ≤ q
taken b end p [] q s = let here : p ≡ q = s in omega arith
taken b end p (c ∷ cs) q s =
    let further : p < s.1 = next_above b p c s.1 s.2 in
    let rest : s.1 + length cs ≤ q = taken b end s.1 cs q s.3 in
    omega arith

pub none_over : (b : List ℕ) (end p q n : ℕ) → Counted b end p q n → p + n ≤ q
none_over b end p q n k = omega (arith, taken b end p k.certificates q k.stand, k.count)

listed_is : (b : List ℕ) (end p : ℕ) (cs : List CertificateView) (q : ℕ) → StandFrom b end p cs q → listed b (length cs) p ≡ cs
unfolding listed
listed_is b end p [] q s = refl
listed_is b end p (c ∷ cs) q s = rw (s.2, listed_is b end s.1 cs q s.3) refl

pub all_counted : (b : List ℕ) (address size end q n : ℕ) → address + size ≤ length b → end ≡ address + size → Counted b end address q n → end ≤ q → certificates_at b address size ≡ Ok (listed b n address)
all_counted b address size end q n h same k l =
    listing_is b address size k.certificates (listing b address size end k.certificates q h same k.stand l)
    ∙ ap (λ cs. Ok cs) (sym (ap (λ m. listed b m address) k.count ∙ listed_is b end address k.certificates q k.stand))

pub one_refused : (b : List ℕ) (address size end q n : ℕ) (r : Refusal) → address + size ≤ length b → end ≡ address + size → Counted b end address q n → q < end → certificate_at b q ≡ Err r → certificates_at b address size ≡ Err r
one_refused b address size end q n r h same k l e = refusal_is b address size r (inr (refused b address size end k.certificates q r h same k.stand l e))

pub past : (b : List ℕ) (address size : ℕ) → length b < address + size → certificates_at b address size ≡ Err CertificateTable
past b address size h = refusal_is b address size CertificateTable (inl (h, refl))
