-- Certificates one after the other.
use Rattle.std.proofs.Common.{Bool, cond, ◌≡◌, ℕ, zero, suc, ◌+◌, ◌<◌, ◌≤◌, true, false, nat_lt, inl, inr, length, map, slice_get, Some, List, [], ◌∷◌, ◌++◌, Result, Ok, Err, Vec, refl, ap, sym, ◌∙◌, subst, arith}
use Rattle.std.proofs.lemmas.Bool.Decides.{nat_tests}
use Rattle.std.proofs.lemmas.List.{length-append, map_push}
use Rattle.pe_core.proofs.Steps.{one_ok, one_err, not_both}
use Rattle.pe_core.specs.Refusals.{Refusal, kind_of, IfMemory, ReturnsUnlessMemory, ◌>>=◌}
use Rattle.pe_core.specs.declared.error.Error.{Error}
use Rattle.pe_core.specs.declared.error.Error.TheVariants as errors
use Rattle.pe_core.proofs.Comparisons.{lt_is, lt_is_not, le_is, le_is_not}
use Rattle.pe_records.specs.declared.certificate_table.AttributeCertificate.{AttributeCertificate}
use Rattle.pe_records.specs.Certificates.{CertificateView, certificate_at, certificate, certificate_tests, Stand, IsListing, CannotGoOn, IsRefused, ListingStarts, certificates_from, certificates_at, certificate_view, Lists}

-- the certificates stand one after the other from p on, each starts before the end, and the last ends at q
abbrev pub StandFrom : List ℕ → ℕ → ℕ → List CertificateView → ℕ → Type 0
StandFrom b end p [] q = p ≡ q
StandFrom b end p (c ∷ cs) q = (p < end) × (next : ℕ) × (certificate_at b p ≡ Ok (c, next)) × StandFrom b end next cs q

-- one more after them
pub stand_push : (b : List ℕ) (end p : ℕ) (cs : List CertificateView) (c : CertificateView) (q r : ℕ) → StandFrom b end p cs q → q < end → certificate_at b q ≡ Ok (c, r) → StandFrom b end p (cs ++ c ∷ []) r
stand_push b end p [] c q r s h e = (subst (λ (n : ℕ). n < end) (sym s) h, r, subst (λ (n : ℕ). certificate_at b n ≡ Ok (c, r)) (sym s) e, refl)
stand_push b end p (x ∷ cs) c q r s h e = (s.0, s.1, s.2, stand_push b end s.1 cs c q r s.3 h e)

-- the same of a list that is seen through a view
pub stand_more : {X : Type 0} (f : X → CertificateView) (b : List ℕ) (end p : ℕ) (xs ys : List X) (x : X) (q r : ℕ) → StandFrom b end p (map f xs) q → q < end → certificate_at b q ≡ Ok (f x, r) → ys ≡ xs ++ x ∷ [] → StandFrom b end p (map f ys) r
stand_more f b end p xs ys x q r s h e same = rw same (rw map_push (stand_push b end p (map f xs) (f x) q r s h e))

-- the next offset is further on
pub next_above : (b : List ℕ) (p : ℕ) (c : CertificateView) (q : ℕ) → certificate_at b p ≡ Ok (c, q) → p < q
unfolding certificate_at certificate certificate_tests
next_above b p c q e = grind (arith, nat_tests)

-- ---- the offsets of certificates that stand one after the other

abbrev shifted : ℕ → (ℕ → ℕ) → ℕ → ℕ
shifted p f zero = p
shifted p f (suc i) = f i

pub record Placed (b : List ℕ) (end p : ℕ) (cs : List CertificateView) (q : ℕ) : Type 0 where
  pub offset : ℕ → ℕ
  pub first : offset 0 ≡ p
  pub stand : Stand b end offset cs
  pub last : offset (length cs) ≡ q

shifted_before : (end p : ℕ) (f : ℕ → ℕ) (n : ℕ) → p < end → ((i : ℕ) → i < n → f i < end) → (i : ℕ) → i < suc n → shifted p f i < end
shifted_before end p f n h k i lt = grind arith

shifted_after : (b : List ℕ) (p : ℕ) (f : ℕ → ℕ) (c : CertificateView) (cs : List CertificateView) → certificate_at b p ≡ Ok (c, f 0) → ((i : ℕ) (d : CertificateView) → slice_get cs i ≡ Some d → certificate_at b (f i) ≡ Ok (d, f (suc i))) → (i : ℕ) (d : CertificateView) → slice_get (c ∷ cs) i ≡ Some d → certificate_at b (shifted p f i) ≡ Ok (d, shifted p f (suc i))
shifted_after b p f c cs e k i d same = grind arith

pub placed : (b : List ℕ) (end p : ℕ) (cs : List CertificateView) (q : ℕ) → StandFrom b end p cs q → Placed b end p cs q
placed b end p [] q s = record {
  offset = λ i. p;
  first = refl;
  stand = record { before_end = λ i h. absurd (omega arith); after = λ i c h. cc };
  last = s;
}
placed b end p (c ∷ cs) q s =
    let rest : Placed b end s.1 cs q = placed b end s.1 cs q s.3 in
    let here : certificate_at b p ≡ Ok (c, rest.offset 0) = rw rest.first s.2 in
    record {
      offset = shifted p rest.offset;
      first = refl;
      stand = record {
        before_end = shifted_before end p rest.offset (length cs) s.0 rest.stand.before_end;
        after = shifted_after b p rest.offset c cs here rest.stand.after;
      };
      last = rest.last;
    }

pub unplaced : (b : List ℕ) (end : ℕ) (offset : ℕ → ℕ) (cs : List CertificateView) → Stand b end offset cs → StandFrom b end (offset 0) cs (offset (length cs))
unplaced b end offset [] s = refl
unplaced b end offset (c ∷ cs) s = (
  s.before_end 0 (omega arith),
  offset 1,
  s.after 0 c refl,
  unplaced b end (λ i. offset (suc i)) cs (record { before_end = λ i h. s.before_end (suc i) (omega arith); after = λ i d h. s.after (suc i) d h }),
)

pub listing : (b : List ℕ) (address size end : ℕ) (cs : List CertificateView) (q : ℕ) → address + size ≤ length b → end ≡ address + size → StandFrom b end address cs q → end ≤ q → IsListing b address size cs
listing b address size end cs q h same s k = grind (arith, placed)

pub refused : (b : List ℕ) (address size end : ℕ) (cs : List CertificateView) (q : ℕ) (r : Refusal) → address + size ≤ length b → end ≡ address + size → StandFrom b end address cs q → q < end → certificate_at b q ≡ Err r → CannotGoOn b address size r
refused b address size end cs q r h same s k e = grind (arith, placed)

-- where there is room for one more and it is read, a beginning stands
pub begun : (b : List ℕ) (address size end : ℕ) (cs : List CertificateView) (c : CertificateView) (q r : ℕ) → address + size ≤ length b → end ≡ address + size → StandFrom b end address cs q → q < end → certificate_at b q ≡ Ok (c, r) → ListingStarts b address size
begun b address size end cs c q r h same s k e =
    let more : StandFrom b end address (cs ++ c ∷ []) r = stand_push b end address cs c q r s k e in
    let is : Placed b (address + size) address (cs ++ c ∷ []) r = placed b (address + size) address (cs ++ c ∷ []) r (rw same at more) in
    record { within = h; certificates = cs ++ c ∷ []; some = omega (arith, length-append cs (c ∷ [])); offset = is.offset; first = is.first; stand = is.stand }

pub never_memory : (b : List ℕ) (p : ℕ) (e : Error) (P : Type 0) → certificate_at b p ≡ Err (kind_of e) → IfMemory e P
unfolding certificate_at certificate certificate_tests
never_memory b p (errors.Memory x) P h = absurd (grind (arith, nat_tests))
never_memory b p other P h = tt

-- ---- the listing as a function

from_is : (b : List ℕ) (end n p : ℕ) (cs : List CertificateView) (q : ℕ) → StandFrom b end p cs q → end ≤ q → end ≤ p + n → certificates_from b end n p ≡ Ok cs
unfolding certificates_from
from_is b end zero p [] q s h k = refl
from_is b end zero p (c ∷ cs) q s h k = let before : p < end = s.0 in absurd (omega arith)
from_is b end (suc n) p [] q s h k = let here : p ≡ q = s in rw (lt_is_not p end (omega arith)) refl
from_is b end (suc n) p (c ∷ cs) q s h k =
    let further : p < s.1 = next_above b p c s.1 s.2 in
    rw (lt_is p end s.0, s.2, from_is b end n s.1 cs q s.3 h (omega arith)) refl

from_refuses : (b : List ℕ) (end n p : ℕ) (cs : List CertificateView) (q : ℕ) (r : Refusal) → StandFrom b end p cs q → q < end → certificate_at b q ≡ Err r → end ≤ p + n → certificates_from b end n p ≡ Err r
unfolding certificates_from
from_refuses b end zero p [] q r s h e k = let here : p ≡ q = s in absurd (omega arith)
from_refuses b end zero p (c ∷ cs) q r s h e k = let before : p < end = s.0 in absurd (omega arith)
from_refuses b end (suc n) p [] q r s h e k = let here : p ≡ q = s in rw (here, lt_is q end h, e) refl
from_refuses b end (suc n) p (c ∷ cs) q r s h e k =
    let further : p < s.1 = next_above b p c s.1 s.2 in
    rw (lt_is p end s.0, s.2, from_refuses b end n s.1 cs q r s.3 h e (omega arith)) refl

pub listing_is : (b : List ℕ) (address size : ℕ) (cs : List CertificateView) → IsListing b address size cs → certificates_at b address size ≡ Ok cs
unfolding certificates_at
listing_is b address size cs l =
    let s : StandFrom b (address + size) address cs (l.offset (length cs)) = rw l.first at (unplaced b (address + size) l.offset cs l.stand) in
    rw (le_is (address + size) (length b) l.within) (from_is b (address + size) size address cs (l.offset (length cs)) s l.last (omega arith))

cannot_go_on : (b : List ℕ) (address size : ℕ) (r : Refusal) → CannotGoOn b address size r → certificates_at b address size ≡ Err r
unfolding certificates_at
cannot_go_on b address size r l =
    let cs : List CertificateView = l.certificates in
    let s : StandFrom b (address + size) address cs (l.offset (length cs)) = rw l.first at (unplaced b (address + size) l.offset cs l.stand) in
    rw (le_is (address + size) (length b) l.within) (from_refuses b (address + size) size address cs (l.offset (length cs)) r s l.last l.refused (omega arith))

pub refusal_is : (b : List ℕ) (address size : ℕ) (r : Refusal) → IsRefused b address size r → certificates_at b address size ≡ Err r
unfolding certificates_at
refusal_is b address size r (inl h) = rw (le_is_not (address + size) (length b) h.0) refl ∙ ap (λ (x : Refusal). Err x) (sym h.1)
refusal_is b address size r (inr h) = cannot_go_on b address size r h

-- what lists a table returns its listing
pub listed_is : {Z : Type 0} (b : List ℕ) (address size : ℕ) (r : Result (Vec AttributeCertificate Z) Error) → Lists b address size r → ReturnsUnlessMemory (λ (v : Vec AttributeCertificate Z). map certificate_view v.items) r (certificates_at b address size)
listed_is b address size r l = grind (arith, listing_is, refusal_is)

-- what the function returns is a listing or a refusal
abbrev Settles : List ℕ → ℕ → ℕ → Result (List CertificateView) Refusal → Type 0
Settles b end p (Ok cs) = (q : ℕ) × StandFrom b end p cs q × (end ≤ q)
Settles b end p (Err r) = (cs : List CertificateView) × (q : ℕ) × StandFrom b end p cs q × (q < end) × (certificate_at b q ≡ Err r)

settles_more : (b : List ℕ) (end p : ℕ) (c : CertificateView) (next : ℕ) (r : Result (List CertificateView) Refusal) → p < end → certificate_at b p ≡ Ok (c, next) → Settles b end next r → Settles b end p (r >>= λ cs. Ok (c ∷ cs))
settles_more b end p c next (Ok cs) h e s = (s.0, (h, next, e, s.1), s.2)
settles_more b end p c next (Err r) h e s = (c ∷ s.0, s.1, (h, next, e, s.2), s.3, s.4)

settles_step : (b : List ℕ) (end n p : ℕ) (t : Bool) (x : Result (CertificateView × ℕ) Refusal) → nat_lt p end ≡ t → certificate_at b p ≡ x → ((c : CertificateView) (next : ℕ) → certificate_at b p ≡ Ok (c, next) → Settles b end next (certificates_from b end n next)) → Settles b end p (cond t (x >>= λ c. certificates_from b end n c.1 >>= λ cs. Ok (c.0 ∷ cs)) (Ok []))
settles_step b end n p false x t e k = (p, refl, grind (arith, nat_tests))
settles_step b end n p true (Err r) t e k = ([], p, refl, grind (arith, nat_tests), e)
settles_step b end n p true (Ok c) t e k = settles_more b end p c.0 c.1 (certificates_from b end n c.1) (grind (arith, nat_tests)) e (k c.0 c.1 e)

settles : (b : List ℕ) (end n p : ℕ) → end ≤ p + n → Settles b end p (certificates_from b end n p)
unfolding certificates_from
settles b end zero p h = (p, refl, omega arith)
settles b end (suc n) p h =
    settles_step b end n p (nat_lt p end) (certificate_at b p) refl refl
    (λ c next e. let further : p < next = next_above b p c next e in settles b end n next (omega arith))

abbrev Answers : List ℕ → ℕ → ℕ → Result (List CertificateView) Refusal → Type 0
Answers b address size (Ok cs) = IsListing b address size cs
Answers b address size (Err r) = IsRefused b address size r

answers_within : (b : List ℕ) (address size : ℕ) (r : Result (List CertificateView) Refusal) → address + size ≤ length b → Settles b (address + size) address r → Answers b address size r
answers_within b address size r h s = grind (arith, listing, refused)

answers : (b : List ℕ) (address size : ℕ) → Answers b address size (certificates_at b address size)
unfolding certificates_at
answers b address size = grind (arith, answers_within, nat_tests, settles)

pub is_listing : (b : List ℕ) (address size : ℕ) (cs : List CertificateView) → certificates_at b address size ≡ Ok cs → IsListing b address size cs
is_listing b address size cs e = subst (Answers b address size) e (answers b address size)

pub is_refused : (b : List ℕ) (address size : ℕ) (r : Refusal) → certificates_at b address size ≡ Err r → IsRefused b address size r
is_refused b address size r e = subst (Answers b address size) e (answers b address size)

pub one_listing : (b : List ℕ) (address size : ℕ) (cs ds : List CertificateView) → IsListing b address size cs → IsListing b address size ds → cs ≡ ds
one_listing b address size cs ds l m = one_ok (certificates_at b address size) cs ds (listing_is b address size cs l) (listing_is b address size ds m)

pub one_refusal : (b : List ℕ) (address size : ℕ) (r s : Refusal) → IsRefused b address size r → IsRefused b address size s → r ≡ s
one_refusal b address size r s l m = one_err (certificates_at b address size) r s (refusal_is b address size r l) (refusal_is b address size s m)

pub apart : (b : List ℕ) (address size : ℕ) (cs : List CertificateView) (r : Refusal) → IsListing b address size cs → IsRefused b address size r → ⊥
apart b address size cs r l m = not_both (certificates_at b address size) cs r (listing_is b address size cs l) (refusal_is b address size r m)
