-- Certificates that stand later in other bytes, and certificates that follow them.
use Rattle.std.proofs.Common.{◌≡◌, ℕ, ◌+◌, ◌-◌, ◌%◌, ◌<◌, ◌≤◌, Bool, true, List, [], ◌∷◌, ◌++◌, length, get_or, Result, Ok, Err, refl, ap, sym, ◌∙◌, subst, arith}
use Rattle.std.proofs.lemmas.List.{places, ext_get_or}
use Rattle.pe_core.proofs.Ranges.{length_range, held_if_inside, byte_of_range}
use Rattle.pe_core.specs.Bytes.{holds, le, range}
use Rattle.pe_core.specs.Offsets.{StandAt}
use Rattle.pe_core.specs.Refusals.{Refusal, Short, CertificateSize, CertificateRevision, CertificateType, outcome}
use Rattle.pe_core.specs.SectionMap.{rounded_up}
use Rattle.pe_core.proofs.NumberBytes.{le-same}
use Rattle.pe_records.specs.Certificates.{CertificateView, certificate_at, certificate, certificate_tests, body_length, is_revision, is_type, IsListing}
use Rattle.pe_records.proofs.CertificateListings.{StandFrom, listing, next_above, unplaced}
use Rattle.pe_records.proofs.CertificatesReadAgain.{Read, read}

-- the bytes of b from offset a on stand in f, each s bytes later
pub record StandLater (b f : List ℕ) (s a : ℕ) : Type 0 where
  pub inside : s + length b ≤ length f
  pub same : (k : ℕ) → a ≤ k → k < length b → get_or f (s + k) 0 ≡ get_or b k 0

-- ---- one certificate

number_later : (b f : List ℕ) (s a p q n : ℕ) → StandLater b f s a → q ≡ s + p → a ≤ p → p + n ≤ length b → le f q n ≡ le b p n
number_later b f s a p q n l at from to = rw at (le-same f b (s + p) p n (λ k lt. let place : s + p + k ≡ s + (p + k) = omega arith in rw place (l.same (p + k) (omega arith) (omega arith))))

range_later : (b f : List ℕ) (s a p q n : ℕ) → StandLater b f s a → q ≡ s + p → a ≤ p → p + n ≤ length b → range f q n ≡ range b p n
range_later b f s a p q n l at from to =
    ext_get_or 0 (range f q n) (range b p n) (grind (arith, places, l.inside))
    (λ k lt. let small : k < n = grind (arith, places) in
    grind (arith, places, l.inside))

-- what is read, with the offset after it s bytes later
abbrev later_by : ℕ → Result (CertificateView × ℕ) Refusal → Result (CertificateView × ℕ) Refusal
later_by s (Ok x) = Ok (x.0, s + x.1)
later_by s (Err r) = Err r

-- the same tests of what follows the two lengths
tests_later : (t u v w : Bool) (x c : CertificateView) (m next s : ℕ) → outcome {Y = CertificateView × ℕ} ((t, Short) ∷ (u, CertificateSize) ∷ (v, CertificateRevision) ∷ (w, CertificateType) ∷ []) (x, m) ≡ Ok (c, next) →
    outcome {Y = CertificateView × ℕ} ((true, Short) ∷ (true, CertificateSize) ∷ (v, CertificateRevision) ∷ (w, CertificateType) ∷ []) (x, s + m) ≡ Ok (c, s + next)
tests_later t u v w x c m next s e = grind arith

read_later : (b f : List ℕ) (s a p : ℕ) (c : CertificateView) (next : ℕ) → StandLater b f s a → s % 8 ≡ 0 → a ≤ p → certificate_at b p ≡ Ok (c, next) → certificate_at f (s + p) ≡ Ok (c, s + next)
unfolding certificate_at certificate certificate_tests
read_later b f s a p c next l m from e =
    let r : Read b p c next = read b p c next e in
    let n : ℕ = body_length b p in
    let room : p + 8 + n ≤ length b = omega (arith, r.size, r.inside) in
    let end : rounded_up (s + p + 8 + n) 8 ≡ s + rounded_up (p + 8 + n) 8 = omega arith in
    rw (
      number_later b f s a p (s + p) 4 l refl from (omega arith),
      number_later b f s a (p + 4) (s + p + 4) 2 l (omega arith) (omega arith) (omega arith),
      number_later b f s a (p + 6) (s + p + 6) 2 l (omega arith) (omega arith) (omega arith),
      range_later b f s a (p + 8) (s + p + 8) n l (omega arith) (omega arith) room,
      held_if_inside f (s + p) 8 (omega (arith, l.inside)),
      held_if_inside f (s + p + 8) n (omega (arith, l.inside)),
      end,
    ) (tests_later (holds b p 8) (holds b (p + 8) n) (is_revision (le b (p + 4) 2)) (is_type (le b (p + 6) 2)) _ c (rounded_up (p + 8 + n) 8) next s e)

-- ---- certificates that follow one another

stand_later : (b f : List ℕ) (s a end last p : ℕ) (cs : List CertificateView) (q : ℕ) → StandLater b f s a → s % 8 ≡ 0 → a ≤ p → s + end ≤ last → StandFrom b end p cs q → StandFrom f last (s + p) cs (s + q)
stand_later b f s a end last p [] q l m from to h = ap (λ (n : ℕ). s + n) h
stand_later b f s a end last p (c ∷ cs) q l m from to h =
    let before : p < end = h.0 in
    let further : p < h.1 = next_above b p c h.1 h.2 in
    (omega arith, s + h.1, read_later b f s a p c h.1 l m from h.2, stand_later b f s a end last h.1 cs q l m (omega arith) to h.3)

stand_join : (b : List ℕ) (end p : ℕ) (xs ys : List CertificateView) (q r : ℕ) → StandFrom b end p xs q → StandFrom b end q ys r → StandFrom b end p (xs ++ ys) r
stand_join b end p [] ys q r h i = subst (λ (n : ℕ). StandFrom b end n ys r) (sym h) i
stand_join b end p (x ∷ xs) ys q r h i = (h.0, h.1, h.2, stand_join b end h.1 xs ys q r h.3 i)

-- where the last of them ends, rounded up to eight, if it ends the bytes
last_end : (b : List ℕ) (end p : ℕ) (cs : List CertificateView) (q : ℕ) → StandFrom b end p cs q → p % 8 ≡ 0 → p ≤ rounded_up (length b) 8 → length b ≤ q → q ≡ rounded_up (length b) 8
last_end b end p [] q h m i j = let here : p ≡ q = h in omega arith
last_end b end p (c ∷ cs) q h m i j =
    let r : Read b p c h.1 = read b p c h.1 h.2 in
    last_end b end h.1 cs q h.3 (omega (arith, r.next)) (omega (arith, r.next, r.inside)) j

-- ---- tables

stand_of : (b : List ℕ) (address size : ℕ) (cs : List CertificateView) (l : IsListing b address size cs) → StandFrom b (address + size) address cs (l.offset (length cs))
stand_of b address size cs l = rw l.first at (unplaced b (address + size) l.offset cs l.stand)

later_at : (f part : List ℕ) (p : ℕ) → StandAt f p part → StandLater part f p 0
later_at f part p h = record { inside = h.inside; same = λ k from lt. byte_of_range f p (length part) k lt ∙ ap (λ (xs : List ℕ). get_or xs k 0) h.here }

pub moved_listing : (more f : List ℕ) (p n : ℕ) (ds : List CertificateView) → p % 8 ≡ 0 → IsListing more 0 (length more) ds → StandAt f p more → n ≡ rounded_up (length more) 8 → p + n ≤ length f → IsListing f p n ds
moved_listing more f p n ds m l at all room =
    let last : ℕ = l.offset (length ds) in
    let s : StandFrom more (0 + length more) 0 ds last = stand_of more 0 (length more) ds l in
    let end : last ≡ n = last_end more (0 + length more) 0 ds last s refl (omega arith) (omega (arith, l.last)) ∙ sym all in
    let run : StandFrom f (p + n) (p + 0) ds (p + last) = stand_later more f p 0 (0 + length more) (p + n) 0 ds last (later_at f more p at) m (omega arith) (omega arith) s in
    let start : p + 0 ≡ p = omega arith in
    listing f p n (p + n) ds (p + last) room refl (rw start at run) (omega (arith, end))

-- the bytes of a table that ends its file, in place
in_place : (b f : List ℕ) (address size : ℕ) → length b ≡ address + size → StandAt f address (range b address size) → StandLater b f 0 address
in_place b f address size e h =
    let count : length (range b address size) ≡ size = length_range b address size (omega arith) in
    record {
      inside = omega (arith, h.inside);
      same = λ k from lt.
          let i : ℕ = k - address in
          let at : address + i ≡ k = omega arith in
          let start : 0 + k ≡ k = omega arith in
          let small : i < size = omega arith in
          let here : range f address size ≡ range b address size = ap (λ (n : ℕ). range f address n) (sym count) ∙ h.here in
          rw start (rw (← at) (byte_of_range f address size i small ∙ ap (λ (xs : List ℕ). get_or xs i 0) here ∙ sym (byte_of_range b address size i small)));
    }

pub joined_listing : (b more f : List ℕ) (address size n : ℕ) (cs ds : List CertificateView) → address % 8 ≡ 0 → length b ≡ address + size → IsListing b address size cs → IsListing more 0 (length more) ds →
    StandAt f address (range b address size) → StandAt f (address + rounded_up size 8) more → n ≡ rounded_up size 8 + rounded_up (length more) 8 → address + n ≤ length f → IsListing f address n (cs ++ ds)
joined_listing b more f address size n cs ds m e l k old new all room =
    let middle : ℕ = rounded_up size 8 in
    let end : ℕ = address + n in
    let last : ℕ = l.offset (length cs) in
    let after : ℕ = k.offset (length ds) in
    let s : StandFrom b (address + size) address cs last = stand_of b address size cs l in
    let t : StandFrom more (0 + length more) 0 ds after = stand_of more 0 (length more) ds k in
    let s_end : last ≡ rounded_up (length b) 8 = last_end b (address + size) address cs last s m (omega arith) (omega (arith, l.last)) in
    let t_end : after ≡ rounded_up (length more) 8 = last_end more (0 + length more) 0 ds after t refl (omega arith) (omega (arith, k.last)) in
    let seam : 0 + last ≡ address + middle + 0 = omega (arith, s_end) in
    let first : StandFrom f end (0 + address) cs (0 + last) = stand_later b f 0 address (address + size) end address cs last (in_place b f address size e old) refl (omega arith) (omega arith) s in
    let second : StandFrom f end (address + middle + 0) ds (address + middle + after) =
    stand_later more f (address + middle) 0 (0 + length more) end 0 ds after (later_at f more (address + middle) new) (omega arith) (omega arith) (omega arith) t in
    let both : StandFrom f end (0 + address) (cs ++ ds) (address + middle + after) = stand_join f end (0 + address) cs ds (0 + last) (address + middle + after) first (subst (λ (q : ℕ). StandFrom f end q ds (address + middle + after)) (sym seam) second) in
    let start : 0 + address ≡ address = omega arith in
    listing f address n end (cs ++ ds) (address + middle + after) room refl (rw start at both) (omega (arith, t_end))

-- one certificate that is all of its bytes, but for its padding
pub one_listing : (more : List ℕ) (c : CertificateView) (next : ℕ) → certificate_at more 0 ≡ Ok (c, next) → length more ≤ next → IsListing more 0 (length more) (c ∷ [])
one_listing more c next e h =
    let r : Read more 0 c next = read more 0 c next e in
    let some : 0 < length more = omega (arith, r.inside) in
    listing more 0 (length more) (length more) (c ∷ []) next (omega arith) (omega arith) (some, next, e, refl) h
