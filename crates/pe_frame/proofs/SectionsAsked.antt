-- In sections in ascending order no section has an RVA but the last that starts at or before it.
use Rattle.std.proofs.Common.{◌≡◌, ℕ, zero, suc, ◌-◌, ◌<◌, Bool, true, false, ◌&&◌, ◌||◌, nat_le, nat_lt, List, ◌∷◌, length, take, drop, get_or, inl, inr, refl, ap, sym, ◌∙◌, arith, []}
use Rattle.pe_frame.proofs.Cited.{cases_lt, nat_tests, get_or_default, list_any_at, list_any, SectionTable, AreAscending, IsCountUpTo}
use Rattle.pe_frame.proofs.Cited.{has_address, executes, is_executable, numbered, memory_size, no_section, section_start, sections_started}
use Rattle.pe_frame.proofs.Cited.{counted, ends_before, starts_after, starts_rise}

fails : (b t : Bool) → t ≡ false → (b && t) ≡ false
fails true t h = h
fails false t h = refl

-- a section that does not have the RVA does not execute it
not_there : (x : ℕ) (s : SectionTable) → has_address section_start memory_size x s ≡ false → executes x s ≡ false
not_there x s h = fails _ (has_address section_start memory_size x s) h

none_passes : {X : Type 0} (p : X → Bool) (xs : List X) → ((k : ℕ) (d : X) → k < length xs → p (get_or xs k d) ≡ false) → list_any p xs ≡ false
none_passes p [] none = refl
none_passes p (x ∷ xs) none =
    let first : p x ≡ false = none 0 x (omega arith) in
    rw first (none_passes p xs (λ k d h. none (suc k) d (omega (arith, h))))

one_of : {X : Type 0} (xs : List X) (k : ℕ) (d : X) → k < length xs → take 1 (drop k xs) ≡ get_or xs k d ∷ []
one_of [] k d lt = absurd (omega (arith, lt))
one_of (x ∷ xs) zero d lt = refl
one_of (x ∷ xs) (suc k) d lt = one_of xs k d (omega (arith, lt))

last_of : (sections : List SectionTable) (n : ℕ) → n < length sections → numbered sections (suc n) ≡ get_or sections n no_section ∷ []
last_of sections n lt =
    let here : (nat_lt 0 (suc n) && nat_le (suc n) (length sections)) ≡ true = grind (arith, nat_tests) in
    let same : suc n - 1 ≡ n = omega arith in
    rw here (ap (λ (k : ℕ). take 1 (drop k sections)) same ∙ one_of sections n no_section lt)

one_passes : (b : Bool) {t : Bool} → b ≡ t → (b || false) ≡ t
one_passes true is = is
one_passes false is = is

-- the section after n others is the last that starts at or before the RVA
module _ (sections : List SectionTable) (x n : ℕ) (up : AreAscending section_start memory_size sections) (count : IsCountUpTo section_start x sections (suc n)) where
  other : (k : ℕ) (d : SectionTable) → executes x (get_or sections n no_section) ≡ false → k < length sections → executes x (get_or sections k d) ≡ false
  other k d not lt =
      let this = get_or sections k d in
      let within : n < length sections = omega (arith, count.within) in
      elim (cases_lt k n) [
        | inl less ↦
            let ends = up k n d less within in
            let starts = count.before n d (omega arith) in
            not_there x this (ends_before (section_start this) (memory_size this) x (omega (arith, ends, starts)))
        | inr more ↦ elim (cases_lt n k) [
          | inl less ↦
              not_there x this (starts_after (section_start this) (memory_size this) x (count.after k d (omega (arith, less)) lt))
          | inr least ↦
              let same : k ≡ n = omega (arith, more, least) in
              ap (λ (i : ℕ). executes x (get_or sections i d)) same
              ∙ (ap (executes x) (get_or_default sections n d no_section within) ∙ not)
        ]
      ]

  asked : (t : Bool) → executes x (get_or sections n no_section) ≡ t → t ≡ list_any (executes x) sections
  asked true is = sym (list_any_at (executes x) sections n no_section (omega (arith, count.within)) is)
  asked false is = sym (none_passes (executes x) sections (λ k d lt. other k d is lt))

by_count : (sections : List SectionTable) (x n : ℕ) → AreAscending section_start memory_size sections → IsCountUpTo section_start x sections n → list_any (executes x) (numbered sections n) ≡ list_any (executes x) sections
by_count sections x zero up count =
    sym (none_passes (executes x) sections (λ k d lt.
    let this = get_or sections k d in
    not_there x this (starts_after (section_start this) (memory_size this) x (count.after k d (omega arith) lt))))
by_count sections x (suc n) up count =
    let last = get_or sections n no_section in
    rw (last_of sections n (omega (arith, count.within))) (one_passes (executes x last) (asked sections x n up count (executes x last) refl))

pub all_asked : (sections : List SectionTable) (x : ℕ) → AreAscending section_start memory_size sections → is_executable sections x ≡ list_any (executes x) sections
unfolding is_executable
all_asked sections x up =
    by_count sections x (sections_started sections x) up (counted section_start no_section sections x (starts_rise section_start memory_size sections up))
