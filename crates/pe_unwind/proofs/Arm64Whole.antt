-- Every byte string but the empty one starts with an ARM64 code, or is truncated.
use Rattle.std.proofs.Common.{◌≡◌, ℕ, suc, ◌+◌, ◌*◌, ◌<◌, ◌⊎◌, inl, inr, List, [], ◌∷◌, ◌++◌, length, get_or, refl, sym, ◌∙◌, subst, arith}
use Rattle.std.specs.Prelude.{All}
use Rattle.std.proofs.lemmas.Bool.Decides.{nat_tests}
use Rattle.pe_unwind.specs.declared.arm64.codes.Arm64UnwindCode.{Arm64UnwindCode}
use Rattle.pe_unwind.specs.declared.arm64.codes.Arm64UnwindCode.TheVariants.{Reserved}
use Rattle.std.proofs.Math.Seq.{drop-append_seam}
use Rattle.pe_unwind.specs.Arm64Encoding.{encoding, Legal, StartsWithArm64Code, IsTruncatedArm64Code}
use Rattle.pe_unwind.specs.Arm64CodeLengths.{len_at, Encodes}
use Rattle.pe_unwind.proofs.Arm64OneCode.{one, two, three, four}

two_legal : (b c : ℕ) → b < 256 → c < 256 → len_at b c ≡ 2 → Legal (two b c)
two_legal b c r s h = grind (arith, nat_tests)

two_spelled : (b c : ℕ) → b < 256 → c < 256 → len_at b c ≡ 2 → encoding (two b c) ≡ b ∷ c ∷ []
two_spelled b c r s h = grind (arith, nat_tests)

three_legal : (b c d : ℕ) → b < 256 → c < 256 → d < 256 → len_at b c ≡ 3 → Legal (three b c d)
three_legal b c d r s t h = grind (arith, nat_tests)

three_spelled : (b c d : ℕ) → b < 256 → c < 256 → d < 256 → len_at b c ≡ 3 → encoding (three b c d) ≡ b ∷ c ∷ d ∷ []
three_spelled b c d r s t h = grind (arith, nat_tests)

four_legal : (b c d e : ℕ) → b < 256 → c < 256 → d < 256 → e < 256 → len_at b c ≡ 4 → Legal (four b c d e)
four_legal b c d e r s t u h = grind (arith, nat_tests)

four_spelled : (b c d e : ℕ) → b < 256 → c < 256 → d < 256 → e < 256 → len_at b c ≡ 4 → encoding (four b c d e) ≡ b ∷ c ∷ d ∷ e ∷ []
four_spelled b c d e r s t u h = grind (arith, nat_tests)

five_spelled : (c d e f : ℕ) → c < 256 → d < 256 → e < 256 → f < 256 → Encodes (0xFB ∷ c ∷ d ∷ e ∷ f ∷ []) (Reserved 0xFB (16777216 * c + 65536 * d + 256 * e + f) 4)
five_spelled c d e f r s t u = record { legal = grind (arith, nat_tests); spelled = grind (arith, nat_tests) }

-- a code's length is one of these five
len_cases : (b c : ℕ) → (len_at b c ≡ 1) ⊎ ((len_at b c ≡ 2) ⊎ ((len_at b c ≡ 3) ⊎ ((len_at b c ≡ 4) ⊎ ((len_at b c ≡ 5) × (b ≡ 0xFB)))))
len_cases b c = grind (arith, nat_tests)

-- the bytes of a code, and what follows, start with it
starts : (bytes rest : List ℕ) (code : Arm64UnwindCode) → Legal code → encoding code ≡ bytes → StartsWithArm64Code (bytes ++ rest) code
starts bytes rest code legal spelled = grind (arith, drop-append_seam)

cut : (bytes missing : List ℕ) (code : Arm64UnwindCode) → Legal code → 0 < length missing → encoding code ≡ bytes ++ missing → IsTruncatedArm64Code bytes
cut bytes missing code legal some spelled = record { code = code; missing = missing; legal = legal; some = some; spelled = sym spelled }

-- each is below 256, one by one
abbrev pub AreBytes : List ℕ → Type 0
AreBytes [] = Unit {0}
AreBytes (x ∷ xs) = (x < 256) × AreBytes xs

bytes_of_all : (b : List ℕ) → All (λ x. x < 256) b → AreBytes b
bytes_of_all [] all = tt
bytes_of_all (x ∷ xs) all = (all 0 0 (omega arith), bytes_of_all xs (λ k d h. all (suc k) d (omega (arith, h))))

abbrev pub Answer : List ℕ → Type 0
Answer b = ((c : Arm64UnwindCode) × StartsWithArm64Code b c) ⊎ IsTruncatedArm64Code b

-- bytes whose first code has one byte, two, three, four or five
with_one : (b : ℕ) (rest : List ℕ) → b < 256 → len_at b 0 ≡ 1 → Answer (b ∷ rest)
with_one b rest r h = inl (one b, starts (b ∷ []) rest (one b) (grind (arith, nat_tests)) (grind (arith, nat_tests)))

with_two : (b : ℕ) (rest : List ℕ) → b < 256 → AreBytes rest → len_at b (get_or rest 0 0) ≡ 2 → Answer (b ∷ rest)
with_two b [] r all h = inr (cut (b ∷ []) (0 ∷ []) (two b 0) (two_legal b 0 r (omega arith) h) (omega arith) (two_spelled b 0 r (omega arith) h))
with_two b (c ∷ rest) r all h = inl (two b c, starts (b ∷ c ∷ []) rest (two b c) (two_legal b c r all.0 h) (two_spelled b c r all.0 h))

with_three : (b : ℕ) (rest : List ℕ) → b < 256 → AreBytes rest → len_at b (get_or rest 0 0) ≡ 3 → Answer (b ∷ rest)
with_three b [] r all h =
    inr (cut (b ∷ []) (0 ∷ 0 ∷ []) (three b 0 0) (three_legal b 0 0 r (omega arith) (omega arith) h) (omega arith) (three_spelled b 0 0 r (omega arith) (omega arith) h))
with_three b (c ∷ []) r all h =
    inr (cut (b ∷ c ∷ []) (0 ∷ []) (three b c 0) (three_legal b c 0 r all.0 (omega arith) h) (omega arith) (three_spelled b c 0 r all.0 (omega arith) h))
with_three b (c ∷ d ∷ rest) r all h =
    inl (three b c d, starts (b ∷ c ∷ d ∷ []) rest (three b c d) (three_legal b c d r all.0 all.1.0 h) (three_spelled b c d r all.0 all.1.0 h))

with_four : (b : ℕ) (rest : List ℕ) → b < 256 → AreBytes rest → len_at b (get_or rest 0 0) ≡ 4 → Answer (b ∷ rest)
with_four b [] r all h =
    let z : 0 < 256 = omega arith in
    inr (cut (b ∷ []) (0 ∷ 0 ∷ 0 ∷ []) (four b 0 0 0) (four_legal b 0 0 0 r z z z h) (omega arith) (four_spelled b 0 0 0 r z z z h))
with_four b (c ∷ []) r all h =
    let z : 0 < 256 = omega arith in
    inr (cut (b ∷ c ∷ []) (0 ∷ 0 ∷ []) (four b c 0 0) (four_legal b c 0 0 r all.0 z z h) (omega arith) (four_spelled b c 0 0 r all.0 z z h))
with_four b (c ∷ d ∷ []) r all h =
    let z : 0 < 256 = omega arith in
    inr (cut (b ∷ c ∷ d ∷ []) (0 ∷ []) (four b c d 0) (four_legal b c d 0 r all.0 all.1.0 z h) (omega arith) (four_spelled b c d 0 r all.0 all.1.0 z h))
with_four b (c ∷ d ∷ e ∷ rest) r all h =
    inl (four b c d e, starts (b ∷ c ∷ d ∷ e ∷ []) rest (four b c d e) (four_legal b c d e r all.0 all.1.0 all.1.1.0 h) (four_spelled b c d e r all.0 all.1.0 all.1.1.0 h))

abbrev pub five : ℕ → ℕ → ℕ → ℕ → Arm64UnwindCode
five c d e f = Reserved 0xFB (16777216 * c + 65536 * d + 256 * e + f) 4

five_cut : (bytes missing : List ℕ) (c d e f : ℕ) → 0 < length missing → bytes ++ missing ≡ 0xFB ∷ c ∷ d ∷ e ∷ f ∷ [] → c < 256 → d < 256 → e < 256 → f < 256 → Answer bytes
five_cut bytes missing c d e f some whole r s t u =
    let code = five_spelled c d e f r s t u in
    inr (cut bytes missing (five c d e f) code.legal some (code.spelled ∙ sym whole))

with_five : (rest : List ℕ) → AreBytes rest → Answer (0xFB ∷ rest)
with_five [] all = let z : 0 < 256 = omega arith in five_cut (0xFB ∷ []) (0 ∷ 0 ∷ 0 ∷ 0 ∷ []) 0 0 0 0 (omega arith) refl z z z z
with_five (c ∷ []) all = let z : 0 < 256 = omega arith in five_cut (0xFB ∷ c ∷ []) (0 ∷ 0 ∷ 0 ∷ []) c 0 0 0 (omega arith) refl all.0 z z z
with_five (c ∷ d ∷ []) all = let z : 0 < 256 = omega arith in five_cut (0xFB ∷ c ∷ d ∷ []) (0 ∷ 0 ∷ []) c d 0 0 (omega arith) refl all.0 all.1.0 z z
with_five (c ∷ d ∷ e ∷ []) all = let z : 0 < 256 = omega arith in five_cut (0xFB ∷ c ∷ d ∷ e ∷ []) (0 ∷ []) c d e 0 (omega arith) refl all.0 all.1.0 all.1.1.0 z
with_five (c ∷ d ∷ e ∷ f ∷ rest) all =
    let code = five_spelled c d e f all.0 all.1.0 all.1.1.0 all.1.1.1.0 in
    inl (five c d e f, starts (0xFB ∷ c ∷ d ∷ e ∷ f ∷ []) rest (five c d e f) code.legal code.spelled)

-- every byte string but the empty one starts with a code, or is truncated
pub code_or_cut : (b : List ℕ) → 0 < length b → All (λ x. x < 256) b → ((c : Arm64UnwindCode) × StartsWithArm64Code b c) ⊎ IsTruncatedArm64Code b
code_or_cut [] some all = absurd (omega (arith, some))
code_or_cut (b ∷ rest) some h256 =
    let all : AreBytes (b ∷ rest) = bytes_of_all (b ∷ rest) h256 in
    elim (len_cases b (get_or rest 0 0)) [
      | inl h ↦ with_one b rest all.0 (grind (arith, nat_tests))
      | inr h ↦ elim h [
        | inl h ↦ with_two b rest all.0 all.1 h
        | inr h ↦ elim h [
          | inl h ↦ with_three b rest all.0 all.1 h
          | inr h ↦ elim h [
            | inl h ↦ with_four b rest all.0 all.1 h
            | inr h ↦ subst (λ (x : ℕ). Answer (x ∷ rest)) (sym h.1) (with_five rest all.1)
          ]
        ]
      ]
    ]
