-- The one ARM64 code of each byte string.
use Rattle.std.proofs.Common.{◌≡◌, ◌<◌, ◌≤◌, ℕ, zero, suc, ◌+◌, ◌-◌, ◌*◌, ◌/◌, ◌%◌, true, false, if◌then◌else◌, nat_lt, ◌==◌, List, [], ◌∷◌, ◌++◌, length, get_or, drop, take, refl, ap, sym, ◌∙◌, arith, append_assoc, rules}
use Rattle.std.proofs.lemmas.Bool.Decides.{nat_tests}
use Rattle.pe_unwind.specs.declared.arm64.codes.Arm64CustomStackCase.TheVariants.{TrapFrame, MachineFrame, Context, EcContext, ClearUnwoundToCall}
use Rattle.pe_unwind.specs.declared.arm64.codes.Arm64UnwindCode.{Arm64UnwindCode}
use Rattle.pe_unwind.specs.declared.arm64.codes.Arm64UnwindCode.TheVariants.{AllocSmall, SaveR19R20Preindexed, SaveFpLr, SaveFpLrPreindexed, AllocMedium, SaveRegPair, SaveRegPairPreindexed, SaveReg, SaveRegPreindexed, SaveLrPair, SaveFRegPair, SaveFRegPairPreindexed, SaveFReg, SaveFRegPreindexed, AllocZ, AllocLarge, SetFp, AddFp, Nop, End, EndC, SaveNext, SaveAnyReg, SaveZReg, SavePReg, CustomStack, PacSignLr, Reserved}
use Rattle.pe_unwind.specs.Arm64Encoding.{encoding, Legal, StartsWithArm64Code, StartsWithNoArm64Code, IsTruncatedArm64Code}
use Rattle.pe_unwind.specs.Arm64CodeLengths.{len_at}
use Rattle.std.proofs.lemmas.Grind.{common_steps}
use Rattle.std.proofs.lemmas.List.{length-append}

-- How many bytes an ARM64 code has.
-- the first two bytes of a stream tell how long its first code is
pub len_of_encoding : (c : Arm64UnwindCode) (rest : List ℕ) → Legal c → len_at (get_or (encoding c ++ rest) 0 0) (get_or (encoding c ++ rest) 1 0) ≡ length (encoding c)
len_of_encoding (SaveFRegPreindexed r o) rest h = refl
len_of_encoding (AllocZ z) rest h = refl
len_of_encoding (AllocLarge n) rest h = refl
len_of_encoding SetFp rest h = refl
len_of_encoding (AddFp z o) rest h = refl
len_of_encoding Nop rest h = refl
len_of_encoding End rest h = refl
len_of_encoding EndC rest h = refl
len_of_encoding SaveNext rest h = refl
len_of_encoding (CustomStack TrapFrame) rest h = refl
len_of_encoding (CustomStack MachineFrame) rest h = refl
len_of_encoding (CustomStack Context) rest h = refl
len_of_encoding (CustomStack EcContext) rest h = refl
len_of_encoding (CustomStack ClearUnwoundToCall) rest h = refl
len_of_encoding PacSignLr rest h = refl
len_of_encoding (Reserved b v (suc zero)) rest h = grind (arith, nat_tests)
len_of_encoding (Reserved b v (suc (suc zero))) rest h = grind (arith, nat_tests)
len_of_encoding (Reserved b v (suc (suc (suc zero)))) rest h = grind (arith, nat_tests)
len_of_encoding (Reserved b v (suc (suc (suc (suc zero))))) rest h = grind (arith, nat_tests)
len_of_encoding (Reserved b v (suc (suc (suc (suc (suc n)))))) rest h = absurd h
len_of_encoding other rest h = grind (arith, nat_tests)

-- the code of one byte from C0h on
abbrev pub one_high : ℕ → Arm64UnwindCode
one_high b =
    if b == 0xE1 then SetFp
    else (if b == 0xE3 then Nop
    else (if b == 0xE4 then End
    else (if b == 0xE5 then EndC
    else (if b == 0xE6 then SaveNext
    else (if b == 0xE8 then CustomStack TrapFrame
    else (if b == 0xE9 then CustomStack MachineFrame
    else (if b == 0xEA then CustomStack Context
    else (if b == 0xEB then CustomStack EcContext
    else (if b == 0xEC then CustomStack ClearUnwoundToCall
    else (if b == 0xFC then PacSignLr
    else Reserved b 0 0))))))))))

-- the code of one byte
abbrev pub one : ℕ → Arm64UnwindCode
one b =
    if nat_lt b 0x20 then AllocSmall (16 * b)
    else (if nat_lt b 0x40 then SaveR19R20Preindexed (8 * (b - 0x20))
    else (if nat_lt b 0x80 then SaveFpLr (8 * (b - 0x40))
    else (if nat_lt b 0xC0 then SaveFpLrPreindexed (8 * (b - 0x80) + 8)
    else one_high b)))

-- the code of two bytes
abbrev pub two : ℕ → ℕ → Arm64UnwindCode
two b c =
    if nat_lt b 0xC8 then AllocMedium (16 * (256 * (b - 0xC0) + c))
    else (if nat_lt b 0xCC then SaveRegPair (19 + 4 * (b % 4) + c / 64) (8 * (c % 64))
    else (if nat_lt b 0xD0 then SaveRegPairPreindexed (19 + 4 * (b % 4) + c / 64) (8 * (c % 64) + 8)
    else (if nat_lt b 0xD4 then SaveReg (19 + 4 * (b % 4) + c / 64) (8 * (c % 64))
    else (if nat_lt b 0xD6 then SaveRegPreindexed (19 + 8 * (b % 2) + c / 32) (8 * (c % 32) + 8)
    else (if nat_lt b 0xD8 then SaveLrPair (19 + 2 * (4 * (b % 2) + c / 64)) (8 * (c % 64))
    else (if nat_lt b 0xDA then SaveFRegPair (8 + 4 * (b % 2) + c / 64) (8 * (c % 64))
    else (if nat_lt b 0xDC then SaveFRegPairPreindexed (8 + 4 * (b % 2) + c / 64) (8 * (c % 64) + 8)
    else (if nat_lt b 0xDE then SaveFReg (8 + 4 * (b % 2) + c / 64) (8 * (c % 64))
    else (if nat_lt b 0xDF then SaveFRegPreindexed (8 + c / 32) (8 * (c % 32) + 8)
    else (if nat_lt b 0xE0 then AllocZ c
    else (if b == 0xE2 then AddFp c (8 * c)
    else Reserved b c 1)))))))))))

-- the unit of an offset, by the kind and the second byte
abbrev pub any_scale : ℕ → ℕ → ℕ
any_scale k c = if nat_lt c 32 then (if k == 2 then 16 else 8) else 16

-- the code of three bytes
abbrev pub three : ℕ → ℕ → ℕ → Arm64UnwindCode
three b c d =
    if b == 0xF9 then Reserved b (256 * c + d) 2
    else (if nat_lt d 192 then SaveAnyReg (d / 64) (c / 64 == 1) (c / 32 % 2 == 1) (c % 32) (any_scale (d / 64) c * (d % 64))
    else (if nat_lt (c % 32) 16 then SaveZReg (c % 16) (64 * (c / 32) + d % 64) else SavePReg (c % 16) (64 * (c / 32) + d % 64)))

abbrev pub four : ℕ → ℕ → ℕ → ℕ → Arm64UnwindCode
four b c d e = if b == 0xE0 then AllocLarge (16 * (65536 * c + 256 * d + e)) else Reserved b (65536 * c + 256 * d + e) 3

-- the code that the bytes are
abbrev pub code_of : List ℕ → Arm64UnwindCode
code_of [] = Nop
code_of (b ∷ []) = one b
code_of (b ∷ c ∷ []) = two b c
code_of (b ∷ c ∷ d ∷ []) = three b c d
code_of (b ∷ c ∷ d ∷ e ∷ []) = four b c d e
code_of (b ∷ c ∷ d ∷ e ∷ f ∷ rest) = Reserved b (16777216 * c + 65536 * d + 256 * e + f) 4

code_of-AllocSmall : (n : ℕ) → Legal (AllocSmall n) → code_of (encoding (AllocSmall n)) ≡ AllocSmall n
code_of-AllocSmall n h = grind (arith, nat_tests)

code_of-SaveR19R20Preindexed : (o : ℕ) → Legal (SaveR19R20Preindexed o) → code_of (encoding (SaveR19R20Preindexed o)) ≡ SaveR19R20Preindexed o
code_of-SaveR19R20Preindexed o h = grind (arith, nat_tests)

code_of-SaveFpLr : (o : ℕ) → Legal (SaveFpLr o) → code_of (encoding (SaveFpLr o)) ≡ SaveFpLr o
code_of-SaveFpLr o h = grind (arith, nat_tests)

code_of-SaveFpLrPreindexed : (o : ℕ) → Legal (SaveFpLrPreindexed o) → code_of (encoding (SaveFpLrPreindexed o)) ≡ SaveFpLrPreindexed o
code_of-SaveFpLrPreindexed o h = grind (arith, nat_tests)

code_of-AllocMedium : (n : ℕ) → Legal (AllocMedium n) → code_of (encoding (AllocMedium n)) ≡ AllocMedium n
code_of-AllocMedium n h = grind (arith, nat_tests)

code_of-SaveRegPair : (r o : ℕ) → Legal (SaveRegPair r o) → code_of (encoding (SaveRegPair r o)) ≡ SaveRegPair r o
code_of-SaveRegPair r o h = grind (arith, nat_tests)

code_of-SaveRegPairPreindexed : (r o : ℕ) → Legal (SaveRegPairPreindexed r o) → code_of (encoding (SaveRegPairPreindexed r o)) ≡ SaveRegPairPreindexed r o
code_of-SaveRegPairPreindexed r o h = grind (arith, nat_tests)

code_of-SaveReg : (r o : ℕ) → Legal (SaveReg r o) → code_of (encoding (SaveReg r o)) ≡ SaveReg r o
code_of-SaveReg r o h = grind (arith, nat_tests)

code_of-SaveRegPreindexed : (r o : ℕ) → Legal (SaveRegPreindexed r o) → code_of (encoding (SaveRegPreindexed r o)) ≡ SaveRegPreindexed r o
code_of-SaveRegPreindexed r o h = grind (arith, nat_tests)

code_of-SaveLrPair : (r o : ℕ) → Legal (SaveLrPair r o) → code_of (encoding (SaveLrPair r o)) ≡ SaveLrPair r o
code_of-SaveLrPair r o h = grind (arith, nat_tests)

code_of-SaveFRegPair : (r o : ℕ) → Legal (SaveFRegPair r o) → code_of (encoding (SaveFRegPair r o)) ≡ SaveFRegPair r o
code_of-SaveFRegPair r o h = grind (arith, nat_tests)

code_of-SaveFRegPairPreindexed : (r o : ℕ) → Legal (SaveFRegPairPreindexed r o) → code_of (encoding (SaveFRegPairPreindexed r o)) ≡ SaveFRegPairPreindexed r o
code_of-SaveFRegPairPreindexed r o h = grind (arith, nat_tests)

code_of-SaveFReg : (r o : ℕ) → Legal (SaveFReg r o) → code_of (encoding (SaveFReg r o)) ≡ SaveFReg r o
code_of-SaveFReg r o h = grind (arith, nat_tests)

code_of-SaveFRegPreindexed : (r o : ℕ) → Legal (SaveFRegPreindexed r o) → code_of (encoding (SaveFRegPreindexed r o)) ≡ SaveFRegPreindexed r o
code_of-SaveFRegPreindexed r o h = grind (arith, nat_tests)

code_of-AllocZ : (z : ℕ) → Legal (AllocZ z) → code_of (encoding (AllocZ z)) ≡ AllocZ z
code_of-AllocZ z h = grind (arith, nat_tests)

code_of-AllocLarge : (n : ℕ) → Legal (AllocLarge n) → code_of (encoding (AllocLarge n)) ≡ AllocLarge n
code_of-AllocLarge n h = grind (arith, nat_tests)

code_of-AddFp : (z o : ℕ) → Legal (AddFp z o) → code_of (encoding (AddFp z o)) ≡ AddFp z o
code_of-AddFp z o h = grind (arith, nat_tests)

code_of-any_true_true : (k r o : ℕ) → Legal (SaveAnyReg k true true r o) → code_of (encoding (SaveAnyReg k true true r o)) ≡ SaveAnyReg k true true r o
code_of-any_true_true k r o h = grind (arith, nat_tests)

code_of-any_true_false : (k r o : ℕ) → Legal (SaveAnyReg k true false r o) → code_of (encoding (SaveAnyReg k true false r o)) ≡ SaveAnyReg k true false r o
code_of-any_true_false k r o h = grind (arith, nat_tests)

code_of-any_false_true : (k r o : ℕ) → Legal (SaveAnyReg k false true r o) → code_of (encoding (SaveAnyReg k false true r o)) ≡ SaveAnyReg k false true r o
code_of-any_false_true k r o h = grind (arith, nat_tests)

code_of-any_false_false : (k r o : ℕ) → Legal (SaveAnyReg k false false r o) → code_of (encoding (SaveAnyReg k false false r o)) ≡ SaveAnyReg k false false r o
code_of-any_false_false k r o h = grind (arith, nat_tests)

code_of-SaveZReg : (r o : ℕ) → Legal (SaveZReg r o) → code_of (encoding (SaveZReg r o)) ≡ SaveZReg r o
code_of-SaveZReg r o h = grind (arith, nat_tests)

code_of-SavePReg : (r o : ℕ) → Legal (SavePReg r o) → code_of (encoding (SavePReg r o)) ≡ SavePReg r o
code_of-SavePReg r o h = grind (arith, nat_tests)

code_of-reserved_0 : (b v : ℕ) → Legal (Reserved b v 0) → code_of (encoding (Reserved b v 0)) ≡ Reserved b v 0
code_of-reserved_0 b v h = grind (arith, nat_tests)

code_of-reserved_1 : (b v : ℕ) → Legal (Reserved b v 1) → code_of (encoding (Reserved b v 1)) ≡ Reserved b v 1
code_of-reserved_1 b v h = grind (arith, nat_tests)

code_of-reserved_2 : (b v : ℕ) → Legal (Reserved b v 2) → code_of (encoding (Reserved b v 2)) ≡ Reserved b v 2
code_of-reserved_2 b v h = grind (arith, nat_tests)

code_of-reserved_3 : (b v : ℕ) → Legal (Reserved b v 3) → code_of (encoding (Reserved b v 3)) ≡ Reserved b v 3
code_of-reserved_3 b v h = grind (arith, nat_tests)

code_of-reserved_4 : (b v : ℕ) → Legal (Reserved b v 4) → code_of (encoding (Reserved b v 4)) ≡ Reserved b v 4
code_of-reserved_4 b v h = grind (arith, nat_tests)

-- two legal codes are equal exactly if their bytes are
pub encoding_once : (c d : Arm64UnwindCode) → Legal c → Legal d → encoding c ≡ encoding d → c ≡ d
encoding_once c d h k same =
    search (rules, arith, code_of-AllocSmall, code_of-SaveR19R20Preindexed, code_of-SaveFpLr, code_of-SaveFpLrPreindexed, code_of-AllocMedium, code_of-SaveRegPair, code_of-SaveRegPairPreindexed, code_of-SaveReg, code_of-SaveRegPreindexed, code_of-SaveLrPair, code_of-SaveFRegPair, code_of-SaveFRegPairPreindexed, code_of-SaveFReg, code_of-SaveFRegPreindexed, code_of-AllocZ, code_of-AllocLarge, code_of-AddFp, code_of-any_true_true, code_of-any_true_false, code_of-any_false_true, code_of-any_false_false, code_of-SaveZReg, code_of-SavePReg, code_of-reserved_0, code_of-reserved_1, code_of-reserved_2, code_of-reserved_3, code_of-reserved_4)

take_front : (a b : List ℕ) → take (length a) (a ++ b) ≡ a
take_front a b = grind (arith, common_steps)

-- the bytes of one code are no beginning of another's
pub starts_once : (bytes : List ℕ) (c d : Arm64UnwindCode) → StartsWithArm64Code bytes c → StartsWithArm64Code bytes d → c ≡ d
starts_once bytes c d h k =
    let len_c : len_at (get_or bytes 0 0) (get_or bytes 1 0) ≡ length (encoding c) = rw (← h.spelled) at (len_of_encoding c (drop (length (encoding c)) bytes) h.legal) in
    let len_d : len_at (get_or bytes 0 0) (get_or bytes 1 0) ≡ length (encoding d) = rw (← k.spelled) at (len_of_encoding d (drop (length (encoding d)) bytes) k.legal) in
    let front_c : take (length (encoding c)) bytes ≡ encoding c = ap (take (length (encoding c))) h.spelled ∙ take_front (encoding c) (drop (length (encoding c)) bytes) in
    let front_d : take (length (encoding d)) bytes ≡ encoding d = ap (take (length (encoding d))) k.spelled ∙ take_front (encoding d) (drop (length (encoding d)) bytes) in
    let same : length (encoding c) ≡ length (encoding d) = sym len_c ∙ len_d in
    encoding_once c d h.legal k.legal (sym front_c ∙ ap (λ (n : ℕ). take n bytes) same ∙ front_d)

whole_front : (a : List ℕ) → a ≡ a ++ drop (length a) a
whole_front a = grind (arith, common_steps)

-- a code's bytes without their end start with no code
none_of_more : (bytes : List ℕ) (d c : Arm64UnwindCode) (missing : List ℕ) → Legal d → 0 < length missing → bytes ++ missing ≡ encoding d → StartsWithArm64Code bytes c → ⊥
none_of_more bytes d c missing legal some spelled h =
    let n : ℕ = length (encoding c) in
    let fits : n ≤ length bytes = omega (arith, ap (λ (x : List ℕ). length x) h.spelled, length-append (encoding c) (drop n bytes)) in
    let first : encoding d ≡ encoding c ++ (drop n bytes ++ missing) = sym spelled ∙ ap (λ (x : List ℕ). x ++ missing) h.spelled ∙ append_assoc (encoding c) (drop n bytes) missing in
    let c_first : StartsWithArm64Code (encoding d) c = record { legal = h.legal; spelled = first ∙ ap (λ (x : List ℕ). encoding c ++ x) (sym (ap (drop n) first ∙ (grind (arith, common_steps)))) } in
    let same : c ≡ d = starts_once (encoding d) c d c_first (record { legal = legal; spelled = whole_front (encoding d) }) in
    let long : length (encoding d) ≡ length bytes + length missing = sym (ap (λ (x : List ℕ). length x) spelled) ∙ length-append bytes missing in
    let as_long : n ≡ length (encoding d) = ap (λ (x : Arm64UnwindCode). length (encoding x)) same in
    omega arith

-- what is truncated starts with no code
pub cut_starts_none : (bytes : List ℕ) → IsTruncatedArm64Code bytes → StartsWithNoArm64Code bytes
cut_starts_none bytes cut = λ c h. none_of_more bytes cut.code c cut.missing cut.legal cut.some cut.spelled h
