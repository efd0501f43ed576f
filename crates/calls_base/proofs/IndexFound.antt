-- What the number in an index names: the first section that covers an RVA.
use Rattle.std.proofs.Common.{◌≡◌, ℕ, suc, ◌+◌, ◌-◌, ◌^◌, ◌<◌, ◌⊎◌, inl, inr, Bool, true, false, cond, List, [], ◌∷◌, length, take, drop, get_or, filter, Some, None, refl, arith}
use Rattle.calls_base.proofs.Cited.{nat_eq, position_or_len, nat_tests, SectionTable, first_number, number_at, Rises, covers, first, reach}
use Rattle.calls_base.proofs.Cited.{count_of, searched, RangeEntry, number_found, numbered, no_entry, started, start_of}
use Rattle.pe_lookup.specs.AddressRanges.{IsCountUpTo}
use Rattle.pe_core.proofs.RangeCuts.{last_starts, none_starts}

at_cut : (es : List RangeEntry) (x c : ℕ) → IsCountUpTo start_of x es c → cond (nat_eq c 0) 0 (get_or es (c - 1) no_entry).number ≡ number_at es x
at_cut es x c cut = grind (arith, none_starts, nat_tests, last_starts)

-- the search finds the number of the last entry that starts at or before an RVA
pub found_at : (es : List RangeEntry) (x : ℕ) → Rises es → length es < 2 ^ 64 → number_found es x ≡ number_at es x
found_at es x rises small =
    let cut : (c : ℕ) × IsCountUpTo start_of x es c = count_of start_of x es rises in
    let ends : started es x 64 0 ≡ cut.0 = searched start_of no_entry es x cut.0 64 0 cut.1 (omega arith) (omega (arith, small, cut.1.within)) in
    rw ends (at_cut es x cut.0 cut.1)

-- the index, plus 1, of the first section that covers an RVA, where the first of the sections has the index `base`; 0 where none
-- covers it
abbrev pub first_owner : ℕ → ℕ → ℕ → List SectionTable → ℕ
first_owner alignment x base ss = first_number (λ (s : SectionTable). s.virtual_address) (reach alignment) x base ss

-- what a number of the first section says of the sections
pub record NoneCovers (alignment x n : ℕ) (ss : List SectionTable) : Type 0 where
  pub number : n ≡ 0
  pub none : first (filter (covers alignment x) ss) ≡ None
  pub past : position_or_len (covers alignment x) ss ≡ length ss

pub record OneCovers (alignment x base n : ℕ) (ss : List SectionTable) (i : ℕ) (s : SectionTable) : Type 0 where
  pub number : n ≡ base + i + 1
  pub inside : i < length ss
  pub named : take 1 (drop i ss) ≡ s ∷ []
  pub covered : covers alignment x s ≡ true
  pub found : first (filter (covers alignment x) ss) ≡ Some s
  pub position : position_or_len (covers alignment x) ss ≡ i

abbrev pub Covers : ℕ → ℕ → ℕ → ℕ → List SectionTable → Type 0
Covers alignment x base n ss = NoneCovers alignment x n ss ⊎ ((i : ℕ) × (s : SectionTable) × OneCovers alignment x base n ss i s)

by_first : (alignment x base : ℕ) (t : SectionTable) (ss : List SectionTable) (b : Bool) → covers alignment x t ≡ b → Covers alignment x (base + 1) (first_owner alignment x (base + 1) ss) ss → Covers alignment x base (cond b (base + 1) (first_owner alignment x (base + 1) ss)) (t ∷ ss)
by_first alignment x base t ss true e rest = grind (arith)
by_first alignment x base t ss false e (inl none) = inl (record { number = none.number; none = rw e none.none; past = rw e (omega (arith, none.past)) })
by_first alignment x base t ss false e (inr (i, s, one)) = inr (
  suc i,
  s,
  record {
    number = omega (arith, one.number);
    inside = omega (arith, one.inside);
    named = one.named;
    covered = one.covered;
    found = rw e one.found;
    position = rw e (omega (arith, one.position));
  },
)

pub covers_of : (alignment x base : ℕ) (ss : List SectionTable) → Covers alignment x base (first_owner alignment x base ss) ss
covers_of alignment x base [] = inl (record { number = refl; none = refl; past = refl })
covers_of alignment x base (t ∷ ss) = by_first alignment x base t ss (covers alignment x t) refl (covers_of alignment x (base + 1) ss)

pub numbered_none : (ss : List SectionTable) (n : ℕ) → n ≡ 0 → numbered ss n ≡ []
numbered_none ss n e = rw e refl

pub numbered_some : (ss : List SectionTable) (i n : ℕ) → n ≡ 0 + i + 1 → i < length ss → numbered ss n ≡ take 1 (drop i ss)
numbered_some ss i n e h = grind (arith, nat_tests)

-- the section that the number names is the first that covers the RVA
pub numbered_first : (alignment x n : ℕ) (ss : List SectionTable) → n ≡ first_owner alignment x 0 ss → first (filter (covers alignment x) (numbered ss n)) ≡ first (filter (covers alignment x) ss)
numbered_first alignment x n ss e = grind (arith, covers_of, numbered_none, numbered_some)
