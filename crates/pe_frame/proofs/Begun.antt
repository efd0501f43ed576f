-- What has run inside a prolog is the first part of it; and a stack shows what a memory has.
use Rattle.std.proofs.Common.{◌≡◌, ℕ, zero, suc, ◌+◌, ◌-◌, ◌^◌, ◌<◌, ◌≤◌, ◌⊎◌, inl, inr, Bool, true, false, leb, List, ◌∷◌, length, get_or, Option, Some, None, refl, ap, sym, ◌∙◌, arith, []}
use Rattle.pe_frame.proofs.Cited.{if◌then◌else◌, nat_tests, leb_tells, le, UnwindCode, UnwindOperation, stack_word, FrameRegister, ran}
use Rattle.pe_frame.proofs.Cited.{Machine, IsProlog, MayFollow, SavesNone, done, loaded, number_at, run, slots, FallsFrom, IsInOrder}
use Rattle.pe_frame.proofs.Cited.{is_of_epilog, prolog_codes}

-- ---- codes of epilogs, which did nothing

-- the same operations, but for some of epilogs that are left out
abbrev Thinner : List UnwindOperation → List UnwindOperation → Type 0
Thinner xs [] = xs ≡ []
Thinner xs (o ∷ ys) =
    ((is_of_epilog o ≡ true) × Thinner xs ys) ⊎ ((more : List UnwindOperation) × (xs ≡ o ∷ more) × Thinner more ys)

does_nothing : (f : FrameRegister) (o : UnwindOperation) (s : Machine) → is_of_epilog o ≡ true → done f o s ≡ s
does_nothing f o s e = grind arith

thin_run : (f : FrameRegister) (xs ys : List UnwindOperation) (s : Machine) → Thinner xs ys → run f xs s ≡ run f ys s
thin_run f xs [] s t = rw t refl
thin_run f xs (o ∷ ys) s (inl t) = thin_run f xs ys s t.1 ∙ sym (does_nothing f o (run f ys s) t.0)
thin_run f xs (o ∷ ys) s (inr t) = rw t.1 (ap (done f o) (thin_run f t.0 ys s t.2))

kept_none : (o : UnwindOperation) (ys : List UnwindOperation) → is_of_epilog o ≡ true → SavesNone (o ∷ ys) → SavesNone ys
kept_none o ys e h = grind arith

none_after : (o : UnwindOperation) (xs ys : List UnwindOperation) → (SavesNone ys → SavesNone xs) → SavesNone (o ∷ ys) → SavesNone (o ∷ xs)
none_after o xs ys on h = grind arith

thin_none : (xs ys : List UnwindOperation) → Thinner xs ys → SavesNone ys → SavesNone xs
thin_none xs [] t h = rw t tt
thin_none xs (o ∷ ys) (inl t) h = thin_none xs ys t.1 (kept_none o ys t.0 h)
thin_none xs (o ∷ ys) (inr t) h = rw t.1 (none_after o t.0 ys (thin_none t.0 ys t.2) h)

kept_slots : (c : Bool) (f : FrameRegister) (o : UnwindOperation) (ys : List UnwindOperation) (s : Machine) → is_of_epilog o ≡ true → slots c f (o ∷ ys) s ≡ slots c f ys s
kept_slots c f o ys s e = grind arith

slots_after : (c : Bool) (f : FrameRegister) (o : UnwindOperation) (xs ys : List UnwindOperation) (s : Machine) → run f xs s ≡ run f ys s → slots c f xs s ≡ slots c f ys s → slots c f (o ∷ xs) s ≡ slots c f (o ∷ ys) s
slots_after c f o xs ys s e h = grind arith

thin_slots : (c : Bool) (f : FrameRegister) (xs ys : List UnwindOperation) (s : Machine) → Thinner xs ys → slots c f xs s ≡ slots c f ys s
thin_slots c f xs [] s t = rw t refl
thin_slots c f xs (o ∷ ys) s (inl t) = thin_slots c f xs ys s t.1 ∙ sym (kept_slots c f o ys s t.0)
thin_slots c f xs (o ∷ ys) s (inr t) = rw t.1 (slots_after c f o t.0 ys s (thin_run f t.0 ys s t.2) (thin_slots c f t.0 ys s t.2))

-- what may follow operations may follow them without those of epilogs
thin_follow : (c : Bool) (f : FrameRegister) (xs ys : List UnwindOperation) (s t : Machine) (o : UnwindOperation) → Thinner xs ys → MayFollow c f ys s t o → MayFollow c f xs s t o
thin_follow c f xs ys s t o thin h = grind (arith, thin_none, thin_slots)

-- a prolog without them is one
thin_prolog : (c : Bool) (f : FrameRegister) (xs ys : List UnwindOperation) (s : Machine) → Thinner xs ys → IsProlog c f ys s → IsProlog c f xs s
thin_prolog c f xs [] s t p = rw t p
thin_prolog c f xs (o ∷ ys) s (inl t) p = thin_prolog c f xs ys s t.1 p.1
thin_prolog c f xs (o ∷ ys) s (inr t) p = grind (arith, thin_follow, thin_run, thin_prolog c f t.0 ys s t.2 p.1)

-- ---- what has run

either : (b : Bool) → (b ≡ true) ⊎ (b ≡ false)
either b = grind arith

falls_past : (last : ℕ) (c : UnwindCode) (cs : List UnwindCode) → is_of_epilog c.operation ≡ true → FallsFrom last (prolog_codes (c ∷ cs)) → FallsFrom last (prolog_codes cs)
falls_past last c cs e falls = grind arith

falls_at : (last : ℕ) (c : UnwindCode) (cs : List UnwindCode) → is_of_epilog c.operation ≡ false → FallsFrom last (prolog_codes (c ∷ cs)) → (c.code_offset ≤ last) × FallsFrom c.code_offset (prolog_codes cs)
falls_at last c cs e falls = grind arith

thin_with : (b : Bool) (o : UnwindOperation) (xs ys : List UnwindOperation) → is_of_epilog o ≡ true → Thinner xs ys → Thinner (if b then o ∷ xs else xs) (o ∷ ys)
thin_with b o xs ys e t = grind arith

all_ran : (last offset : ℕ) (codes : List UnwindCode) → FallsFrom last (prolog_codes codes) → last ≤ offset → Thinner (ran (Some offset) codes) (ran None codes)
all_ran last offset [] falls h = refl
all_ran last offset (c ∷ cs) falls h = grind (arith, either, thin_with, falls_past, falls_at, nat_tests, all_ran last offset cs, all_ran c.code_offset offset cs)

prolog_with : (c : Bool) (f : FrameRegister) (s : Machine) (b : Bool) (o : UnwindOperation) (xs : List UnwindOperation) → is_of_epilog o ≡ true → IsProlog c f xs s → IsProlog c f (if b then o ∷ xs else xs) s
prolog_with c f s b o xs e p = grind arith

first_ran : (c : Bool) (f : FrameRegister) (codes : List UnwindCode) (s : Machine) (last offset : ℕ) → FallsFrom last (prolog_codes codes) → IsProlog c f (ran None codes) s → IsProlog c f (ran (Some offset) codes) s
first_ran c f [] s last offset falls p = p
first_ran c f (d ∷ ds) s last offset falls p =
    elim (either (is_of_epilog d.operation)) [
      | inl e ↦
          prolog_with c f s (leb d.code_offset offset) d.operation (ran (Some offset) ds) e (first_ran c f ds s last offset (falls_past last d ds e falls) p.1)
      | inr e ↦
          let on = falls_at last d ds e falls in
          elim (leb_tells d.code_offset offset) [
            | inl h ↦
                rw h.0 (thin_prolog c f (d.operation ∷ ran (Some offset) ds) (d.operation ∷ ran None ds) s (inr (ran (Some offset) ds, refl, all_ran d.code_offset offset ds on.1 h.1)) p)
            | inr h ↦ rw h.0 (first_ran c f ds s d.code_offset offset on.1 p.1)
          ]
    ]

pub begun : (c : Bool) (f : FrameRegister) (codes : List UnwindCode) (s : Machine) (limit : Option ℕ) → IsInOrder limit codes → IsProlog c f (ran None codes) s → IsProlog c f (ran limit codes) s
begun c f codes s limit order p = grind (arith, first_ran)

pub number_shown : (bytes : List ℕ) (p a n : ℕ) (memory : ℕ → ℕ) → n ≤ 8 → ((i : ℕ) → i < 8 → get_or bytes (p + i) 0 ≡ memory (a + i)) → le bytes p n ≡ number_at memory a n
unfolding le
number_shown bytes p a zero memory small h = refl
number_shown bytes p a (suc n) memory small h = grind (arith, number_shown bytes p a n memory)

pub word_shown : (bytes : List ℕ) (start a : ℕ) (memory : ℕ → ℕ) → start ≤ a → a + 8 ≤ start + length bytes → a + 8 ≤ 2 ^ 64 → ((i : ℕ) → i < 8 → get_or bytes (a - start + i) 0 ≡ memory (a + i)) → stack_word bytes start a ≡ Some (loaded memory a)
word_shown bytes start a memory from fits room h =
    let low : leb start a ≡ true = grind (arith, nat_tests) in
    let high : leb (a + 8) (2 ^ 64) ≡ true = grind (arith, nat_tests) in
    let inside : leb (a - start + 8) (length bytes) ≡ true = grind (arith, nat_tests) in
    rw low (rw high (rw inside (ap Some (number_shown bytes (a - start) a 8 memory (omega arith) h))))
