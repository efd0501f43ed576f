-- The codes of an ARM64 record, one after the other.
use Rattle.std.proofs.Common.{◌≡◌, ℕ, zero, suc, ◌<◌, ◌≤◌, inl, inr, Bool, true, false, All, List, ◌∷◌, length, drop, Option, Some, None, Result, Ok, Err, refl, ap, sym, ◌∙◌, subst, arith, []}
use Rattle.pe_frame.proofs.Cited.{length-drop, nil_from_length, All-drop, Arm64Cut, ◌>>=◌, Malformed, Arm64UnwindCode, End, Nop, encoding}
use Rattle.pe_frame.proofs.Cited.{StartsWithArm64Code, IsTruncatedArm64Code, Arm64InfoView, bits, starts_once, cut_starts_none, code_or_cut}
use Rattle.pe_frame.proofs.Cited.{Arm64Epilog, Arm64Registers, FrameError, Codes, Then, OfCodes, error_kind, by_kind, registers_alone}
use Rattle.pe_frame.proofs.Cited.{caller_by_codes, is_end, CodesThen, AreOver, AreTruncated, IsOfTruncated, HasArm64Codes, prolog_length}
use Rattle.pe_frame.proofs.Cited.{ran_arm64, epilog_start, left_in_epilog, epilog_after, LeavesIn, Leaves, StepsArm64, StepsOutArm64}
use Rattle.pe_frame.proofs.Cited.{IsFirstCode, read_only}
use Rattle.std.proofs.lemmas.Grind.{common_steps}
use Rattle.pe_unwind.proofs.Arm64Streams.{starts_some}
use Rattle.pe_core.specs.declared.error.Reason.TheVariants as reasons
use Rattle.pe_frame.proofs.OneStep.{same_then}

-- no bytes are a truncated code, and start with none
no_bytes : IsTruncatedArm64Code []
no_bytes = record { code = Nop; missing = 0xE3 ∷ []; legal = tt; some = omega arith; spelled = refl }

-- what is read first stands before what is left
more_codes : (R : List ℕ → Type 0) (bytes : List ℕ) (c : Arm64UnwindCode) (n : ℕ) (cs : List Arm64UnwindCode) → IsFirstCode bytes (Ok (Some (c, n))) → CodesThen R (drop n bytes) cs → CodesThen R bytes (c ∷ cs)
more_codes R bytes c n cs h rest = (h.0, h.1, subst (λ (k : ℕ). CodesThen R (drop k bytes) cs) h.2 rest)

-- the codes after one, and it
abbrev pub with_code : Arm64UnwindCode → Result (List Arm64UnwindCode) FrameError → Result (List Arm64UnwindCode) FrameError
with_code c codes = codes >>= λ cs. Ok (c ∷ cs)

pub has_more : (bytes : List ℕ) (c : Arm64UnwindCode) (n : ℕ) (more : Result (List Arm64UnwindCode) FrameError) → IsFirstCode bytes (Ok (Some (c, n))) → HasArm64Codes (drop n bytes) more → HasArm64Codes bytes (with_code c more)
has_more bytes c n (Ok cs) h k = more_codes AreOver bytes c n cs h k
has_more bytes c n (Err e) h k = (k.0, c ∷ k.1, more_codes AreTruncated bytes c n k.1 h k.2)

-- the same as to whether one is truncated
pub same_read : (c : Arm64UnwindCode) (more : Result (List Arm64UnwindCode) FrameError) → read_only (with_code c more) ≡ read_only more
same_read c more = grind arith

pub has_truncated : (bytes : List ℕ) (e : FrameError) → IsFirstCode bytes (Err e) → HasArm64Codes bytes (Err e)
has_truncated bytes e h = (h.1, [], h.0)

-- no code starts where the codes are over
over_none : (bytes : List ℕ) (c : Arm64UnwindCode) → AreOver bytes → StartsWithArm64Code bytes c → is_end c ≡ false → ⊥
over_none bytes c (inl empty) h not = omega (arith, starts_some bytes c h, ap (λ (b : List ℕ). length b) empty)
over_none bytes c (inr ends) h not = cc (starts_once bytes c End h ends)

pub over_codes : (bytes : List ℕ) (cs : List Arm64UnwindCode) → AreOver bytes → CodesThen AreOver bytes cs → cs ≡ []
over_codes bytes [] h k = refl
over_codes bytes (c ∷ cs) h k = absurd (over_none bytes c h k.0 k.1)

pub truncated_none : (bytes : List ℕ) (cs : List Arm64UnwindCode) → AreTruncated bytes → CodesThen AreOver bytes cs → ⊥
truncated_none bytes [] h (inl empty) = omega (arith, h.0, ap (λ (b : List ℕ). length b) empty)
truncated_none bytes [] h (inr ends) = h.1 End ends
truncated_none bytes (c ∷ cs) h k = h.1 c k.0

pub record HasNextCode (bytes : List ℕ) (c : Arm64UnwindCode) (n : ℕ) (codes : List Arm64UnwindCode) : Type 0 where
  pub rest : List Arm64UnwindCode
  pub is : codes ≡ c ∷ rest
  pub are : CodesThen AreOver (drop n bytes) rest

next_of : (bytes : List ℕ) (c d : Arm64UnwindCode) (n : ℕ) (codes : List Arm64UnwindCode) → d ≡ c → n ≡ length (encoding c) → CodesThen AreOver (drop (length (encoding d)) bytes) codes → HasNextCode bytes c n (d ∷ codes)
next_of bytes c d n codes same size are = grind arith

-- the code that is read first is the first of the codes
pub next_arm64 : (bytes : List ℕ) (c : Arm64UnwindCode) (n : ℕ) (codes : List Arm64UnwindCode) → IsFirstCode bytes (Ok (Some (c, n))) → CodesThen AreOver bytes codes → HasNextCode bytes c n codes
next_arm64 bytes c n [] h k = absurd (over_none bytes c k h.0 h.1)
next_arm64 bytes c n (d ∷ codes) h k = next_of bytes c d n codes (starts_once bytes d c k.0 h.0) h.2 k.2

-- codes that are not truncated are all that there are
pub is_codes : (bytes : List ℕ) (cs ds : List Arm64UnwindCode) → CodesThen AreOver bytes cs → CodesThen AreOver bytes ds → cs ≡ ds
is_codes bytes [] ds h k = sym (over_codes bytes ds h k)
is_codes bytes (c ∷ cs) [] h k = over_codes bytes (c ∷ cs) k h
is_codes bytes (c ∷ cs) (d ∷ ds) h k = grind (arith, starts_once, is_codes (drop (length (encoding d)) bytes) cs ds)

not_truncated : (bytes : List ℕ) (cs ds : List Arm64UnwindCode) → CodesThen AreOver bytes cs → CodesThen AreTruncated bytes ds → ⊥
not_truncated bytes cs [] h k = truncated_none bytes cs k h
not_truncated bytes [] (d ∷ ds) h k = over_none bytes d h k.0 k.1
not_truncated bytes (c ∷ cs) (d ∷ ds) h k = grind (arith, starts_once, not_truncated (drop (length (encoding d)) bytes) cs ds)

truncated_kind : (e : FrameError) → IsOfTruncated e → error_kind e ≡ OfCodes Arm64Cut
truncated_kind e h = grind arith

one_codes : (bytes : List ℕ) (x y : Result (List Arm64UnwindCode) FrameError) → HasArm64Codes bytes x → HasArm64Codes bytes y → by_kind x ≡ by_kind y
one_codes bytes x y h k = grind (arith, is_codes, not_truncated, truncated_kind)

one_in : (i : Arm64InfoView) (place : ℕ) (cs : List Arm64UnwindCode) (e : Option Arm64Epilog) (x y : Result (List Arm64UnwindCode) FrameError) → LeavesIn i place cs e x → LeavesIn i place cs e y → by_kind x ≡ by_kind y
one_in i place cs e x y h k = grind (arith, same_then, one_codes)

one_by : (i : Arm64InfoView) (place : ℕ) (a b x y : Result (List Arm64UnwindCode) FrameError) → HasArm64Codes i.codes a → HasArm64Codes i.codes b →
    Then a (λ cs. LeavesIn i place cs (epilog_after i place cs)) x → Then b (λ cs. LeavesIn i place cs (epilog_after i place cs)) y → by_kind x ≡ by_kind y
one_by i place a b x y h k hx ky = grind (arith, is_codes, one_in, not_truncated, truncated_kind)

pub one_left : (i : Arm64InfoView) (place : ℕ) (x y : Result (List Arm64UnwindCode) FrameError) → Leaves i place x → Leaves i place y → by_kind x ≡ by_kind y
one_left i place x y h k = one_by i place h.0 k.0 x y h.1 k.1 h.2 k.2

-- there is one step, up to the numbers in a refusal of codes
pub one_arm64_step : (m : ℕ → Option ℕ) (i : Arm64InfoView) (place : ℕ) (g : Arm64Registers) (x y : Result Arm64Registers FrameError) → StepsArm64 m i place g x → StepsArm64 m i place g y → by_kind x ≡ by_kind y
one_arm64_step m i place g x y h k = rw h.2 (rw k.2 (same_then h.0 k.0 (λ cs. registers_alone (caller_by_codes m cs g)) (one_left i place h.0 k.0 h.1 k.1)))

pub one_arm64_step_out : (m : ℕ → Option ℕ) (i : Arm64InfoView) (place : ℕ) (g : Arm64Registers) (x y : Result (Arm64Registers × Bool) FrameError) → StepsOutArm64 m i place g x → StepsOutArm64 m i place g y → by_kind x ≡ by_kind y
one_arm64_step_out m i place g x y h k = rw h.2 (rw k.2 (same_then h.0 k.0 (λ cs. caller_by_codes m cs g) (one_left i place h.0 k.0 h.1 k.1)))

pub registers_of_arm64_step : (m : ℕ → Option ℕ) (i : Arm64InfoView) (place : ℕ) (g : Arm64Registers) (left : Result (Arm64Registers × Bool) FrameError) → StepsOutArm64 m i place g left → StepsArm64 m i place g (registers_alone left)
registers_of_arm64_step m i place g left h = grind arith

ok_by_kind : {A : Type 0} (x : Result A FrameError) (a : A) → by_kind x ≡ by_kind (Ok a) → x ≡ Ok a
ok_by_kind x a e = grind arith

-- a step by a record that leaves these codes undoes them
pub step_by_codes : (m : ℕ → Option ℕ) (i : Arm64InfoView) (cs : List Arm64UnwindCode) (place : ℕ) (g : Arm64Registers) (x : Result Arm64Registers FrameError) → Leaves i place (Ok cs) →
    StepsArm64 m i place g x → x ≡ registers_alone (caller_by_codes m cs g)
step_by_codes m i cs place g x left step =
    step.2 ∙ ap (λ (c : Result (List Arm64UnwindCode) FrameError). c >>= λ ds. registers_alone (caller_by_codes m ds g)) (ok_by_kind step.0 cs (one_left i place step.0 (Ok cs) step.1 left))

-- codes of bytes
abbrev SomeCodes : List ℕ → Type 0
SomeCodes bytes = (x : Result (List Arm64UnwindCode) FrameError) × HasArm64Codes bytes x

with_first : (bytes : List ℕ) (c : Arm64UnwindCode) → StartsWithArm64Code bytes c → is_end c ≡ false → SomeCodes (drop (length (encoding c)) bytes) → SomeCodes bytes
with_first bytes c h not (Ok cs, k) = (Ok (c ∷ cs), (h, not, k))
with_first bytes c h not (Err e, k) = (Err e, (k.0, c ∷ k.1, (h, not, k.2)))

ends : (c : Arm64UnwindCode) → is_end c ≡ true → c ≡ End
ends c h = grind (arith, common_steps)

first_or_end : (bytes : List ℕ) (c : Arm64UnwindCode) (b : Bool) → StartsWithArm64Code bytes c → is_end c ≡ b → SomeCodes (drop (length (encoding c)) bytes) → SomeCodes bytes
first_or_end bytes c false h e rest = with_first bytes c h e rest
first_or_end bytes c true h e rest = (Ok [], inr (subst (λ (x : Arm64UnwindCode). StartsWithArm64Code bytes x) (ends c e) h))

has_size : (bytes : List ℕ) (c : Arm64UnwindCode) → StartsWithArm64Code bytes c → 1 ≤ length (encoding c)
has_size bytes c h = grind (arith, cut_starts_none, no_bytes)

codes_step : (bytes left : List ℕ) → bytes ≡ left → All (λ x. x < 256) bytes → ((n : ℕ) → 1 ≤ n → SomeCodes (drop n bytes)) → SomeCodes bytes
codes_step bytes [] empty all more = (Ok [], inl empty)
codes_step bytes (x ∷ left) is all more =
    let some : 0 < length bytes = omega (arith, ap (λ (b : List ℕ). length b) is) in
    elim (code_or_cut bytes some all) [
      | inl code ↦ first_or_end bytes code.0 (is_end code.0) code.1 refl (more (length (encoding code.0)) (has_size bytes code.0 code.1))
      | inr cut ↦ (Err (Codes (Malformed (reasons.Arm64Cut 0))), (refl, [], (some, cut_starts_none bytes cut)))
    ]

codes_of_left : (k : ℕ) (bytes : List ℕ) → length bytes ≤ k → All (λ x. x < 256) bytes → SomeCodes bytes
codes_of_left zero bytes few all = (Ok [], inl (nil_from_length bytes (omega (arith, few))))
codes_of_left (suc k) bytes few all =
    codes_step bytes bytes refl all (λ n some. codes_of_left k (drop n bytes) (omega (arith, length-drop n bytes, few, some)) (All-drop (λ x. x < 256) n bytes all))

some_in : (i : Arm64InfoView) (place : ℕ) (cs : List Arm64UnwindCode) (e : Option Arm64Epilog) → All (λ x. x < 256) i.codes → (x : Result (List Arm64UnwindCode) FrameError) × LeavesIn i place cs e x
some_in i place cs None all = (Ok (ran_arm64 place cs), refl)
some_in i place cs (Some e) all =
    let codes = codes_of_left (length (drop e.index i.codes)) (drop e.index i.codes) (omega arith) (All-drop (λ x. x < 256) e.index i.codes all) in
    (codes.0 >>= λ es. Ok (left_in_epilog place (epilog_start (bits i.header 0 18) e.start (prolog_length es)) es cs), (codes.0, codes.1, refl))

some_by : (i : Arm64InfoView) (place : ℕ) (a : Result (List Arm64UnwindCode) FrameError) → All (λ x. x < 256) i.codes → (x : Result (List Arm64UnwindCode) FrameError) × Then a (λ cs. LeavesIn i place cs (epilog_after i place cs)) x
some_by i place (Ok cs) all = some_in i place cs (epilog_after i place cs) all
some_by i place (Err e) all = (Err e, refl)

some_left : (i : Arm64InfoView) (place : ℕ) → All (λ x. x < 256) i.codes → (x : Result (List Arm64UnwindCode) FrameError) × Leaves i place x
some_left i place all =
    let codes = codes_of_left (length i.codes) i.codes (omega arith) all in
    let left = some_by i place codes.0 all in
    (left.0, (codes.0, codes.1, left.1))

-- each record of bytes has a step
pub some_arm64_step : (m : ℕ → Option ℕ) (i : Arm64InfoView) (place : ℕ) (g : Arm64Registers) → All (λ x. x < 256) i.codes → (x : Result Arm64Registers FrameError) × StepsArm64 m i place g x
some_arm64_step m i place g all =
    let left = some_left i place all in
    (left.0 >>= λ cs. registers_alone (caller_by_codes m cs g), (left.0, left.1, refl))

pub some_arm64_step_out : (m : ℕ → Option ℕ) (i : Arm64InfoView) (place : ℕ) (g : Arm64Registers) → All (λ x. x < 256) i.codes → (x : Result (Arm64Registers × Bool) FrameError) × StepsOutArm64 m i place g x
some_arm64_step_out m i place g all =
    let left = some_left i place all in
    (left.0 >>= λ cs. caller_by_codes m cs g, (left.0, left.1, refl))
