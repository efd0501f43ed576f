-- How many bytes a spelling has.
use Rattle.std.proofs.Common.{◌≡◌, ℕ, zero, suc, ◌+◌, ◌-◌, ◌*◌, ◌/◌, ◌%◌, ◌<◌, ◌≤◌, ◌==◌, ◌⊎◌, inl, inr, List, [], ◌∷◌, ◌++◌, length, length-append, get_or, Some, None, refl, arith}
use Rattle.std.proofs.lemmas.Bool.Decides.{nat_tests}
use Rattle.std.proofs.lemmas.List.{length-take-le}
use Rattle.pe_unwind.specs.declared.unwind_code.UnwindOperation.{UnwindOperation}
use Rattle.pe_unwind.specs.declared.unwind_code.UnwindCode.{UnwindCode}
use Rattle.pe_core.specs.Bytes.{AreBytes, le}
use Rattle.pe_unwind.specs.declared.unwind_code.UnwindOperation.TheVariants.{PushNonVolatile, Alloc, SetFPRegister, SaveNonVolatile, SaveXMM, Epilog, SaveXMM128, PushMachineFrame, Noop}
use Rattle.pe_unwind.specs.UnwindCodes.{SpellsOperation, StartsWithCode, IsTruncatedCode, integer, xmm, offset}
use Rattle.pe_unwind.specs.CodeSlots.{slots_at}

-- a line of the table has so many slots
abbrev pub HasSlots : ℕ → ℕ → ℕ → ℕ → Type 0
HasSlots v op info n = (k : ℕ) × (slots_at v op info ≡ Some k) × (n ≡ 2 * k)

spelled_len : (v f code_offset op info : ℕ) (more : List ℕ) (o : UnwindOperation) → SpellsOperation v f code_offset op info more o → HasSlots v op info (2 + length more)
spelled_len v f code_offset op info [] o h = (1, grind (arith, nat_tests), omega arith)
spelled_len v f code_offset op info (a ∷ []) o h = absurd h
spelled_len v f code_offset op info (a ∷ b ∷ []) o h = (2, grind (arith, nat_tests), omega arith)
spelled_len v f code_offset op info (a ∷ b ∷ c ∷ []) o h = absurd h
spelled_len v f code_offset op info (a ∷ b ∷ c ∷ d ∷ []) o h = (3, grind (arith, nat_tests), omega arith)
spelled_len v f code_offset op info (a ∷ b ∷ c ∷ d ∷ e ∷ more) o h = absurd h

-- a spelling at the front has the slots that its second byte says
pub starts_slots : (v f : ℕ) (bytes : List ℕ) (code : UnwindCode) (n : ℕ) → StartsWithCode v f bytes code n → HasSlots v (get_or bytes 1 0 % 16) (get_or bytes 1 0 / 16) n
starts_slots v f [] code zero h = absurd h.1
starts_slots v f [] code (suc n) h = absurd h.1
starts_slots v f (a ∷ []) code zero h = absurd h.1
starts_slots v f (a ∷ []) code (suc zero) h = absurd h.1
starts_slots v f (a ∷ []) code (suc (suc n)) h = absurd h.1
starts_slots v f (a ∷ b ∷ more) code zero h = absurd h.1
starts_slots v f (a ∷ b ∷ more) code (suc zero) h = absurd h.1
starts_slots v f (a ∷ b ∷ more) code (suc (suc n)) h = grind (arith, spelled_len, length-take-le)

-- no line of the table
pub none-no_slots : (v f : ℕ) (bytes : List ℕ) (code : UnwindCode) (n : ℕ) → slots_at v (get_or bytes 1 0 % 16) (get_or bytes 1 0 / 16) ≡ None → StartsWithCode v f bytes code n → ⊥
none-no_slots v f bytes code n none h = grind (arith, starts_slots)

-- too few slots
pub none-cut : (v f : ℕ) (bytes : List ℕ) (code : UnwindCode) (n k : ℕ) → slots_at v (get_or bytes 1 0 % 16) (get_or bytes 1 0 / 16) ≡ Some k → length bytes < 2 * k → StartsWithCode v f bytes code n → ⊥
none-cut v f bytes code n k is cut h = grind (arith, starts_slots)

-- which lines have so many slots
HasOneSlot : ℕ → ℕ → ℕ → Type 0
HasOneSlot v op info = (op ≡ 0) ⊎ ((op ≡ 2) ⊎ ((op ≡ 3) ⊎ (((op ≡ 6) × (v ≡ 2)) ⊎ ((op ≡ 10) × (info < 2)))))

HasTwoSlots : ℕ → ℕ → ℕ → Type 0
HasTwoSlots v op info = ((op ≡ 1) × (info ≡ 0)) ⊎ ((op ≡ 4) ⊎ (((op ≡ 6) × (v ≡ 1)) ⊎ (op ≡ 8)))

HasThreeSlots : ℕ → ℕ → ℕ → Type 0
HasThreeSlots v op info = ((op ≡ 1) × (info ≡ 1)) ⊎ ((op ≡ 5) ⊎ (((op ≡ 7) × (v ≡ 1)) ⊎ (((op ≡ 7) × (v ≡ 2)) ⊎ (op ≡ 9))))

lines_of_two : (v op info : ℕ) → slots_at v op info ≡ Some 2 → HasTwoSlots v op info
unfolding HasTwoSlots
lines_of_two v op info h = grind (arith, nat_tests)

lines_of_three : (v op info : ℕ) → slots_at v op info ≡ Some 3 → HasThreeSlots v op info
unfolding HasThreeSlots
lines_of_three v op info h = grind (arith, nat_tests)

three_at_most : (v op info k : ℕ) → slots_at v op info ≡ Some k → k ≤ 3
three_at_most v op info k h = grind (arith, nat_tests)

-- an operation that these operands spell
abbrev pub Spelled : ℕ → ℕ → ℕ → ℕ → ℕ → List ℕ → Type 0
Spelled v f code_offset op info more = (o : UnwindOperation) × SpellsOperation v f code_offset op info more o

one_spelled : (v f code_offset op info : ℕ) → HasOneSlot v op info → Spelled v f code_offset op info []
unfolding HasOneSlot
one_spelled v f code_offset op info (inl h) = (PushNonVolatile (integer info), inl (h, refl))
one_spelled v f code_offset op info (inr (inl h)) = (Alloc (info * 8 + 8), inr (inl (h, refl)))
one_spelled v f code_offset op info (inr (inr (inl h))) = (SetFPRegister, inr (inr (inl (h, refl))))
one_spelled v f code_offset op info (inr (inr (inr (inl h)))) = (Epilog code_offset info, inr (inr (inr (inl (h.0, h.1, refl)))))
one_spelled v f code_offset op info (inr (inr (inr (inr h)))) = (PushMachineFrame (info == 1), inr (inr (inr (inr (h.0, h.1, refl)))))

two_spelled : (v f code_offset op info a b : ℕ) → HasTwoSlots v op info → Spelled v f code_offset op info (a ∷ b ∷ [])
unfolding HasTwoSlots
two_spelled v f code_offset op info a b (inl h) = (Alloc ((a + 256 * b) * 8), inl (h.0, h.1, refl))
two_spelled v f code_offset op info a b (inr (inl h)) = (SaveNonVolatile (integer info) (offset f ((a + 256 * b) * 8)), inr (inl (h, refl)))
two_spelled v f code_offset op info a b (inr (inr (inl h))) = (SaveXMM (xmm info) (offset f ((a + 256 * b) * 16)), inr (inr (inl (h.0, h.1, refl))))
two_spelled v f code_offset op info a b (inr (inr (inr h))) = (SaveXMM128 (xmm info) (offset f ((a + 256 * b) * 16)), inr (inr (inr (h, refl))))

three_spelled : (v f code_offset op info a b c d : ℕ) → HasThreeSlots v op info → Spelled v f code_offset op info (a ∷ b ∷ c ∷ d ∷ [])
unfolding HasThreeSlots
three_spelled v f code_offset op info a b c d (inl h) = (Alloc (a + 256 * b + 65536 * c + 16777216 * d), inl (h.0, h.1, refl))
three_spelled v f code_offset op info a b c d (inr (inl h)) = (SaveNonVolatile (integer info) (offset f (a + 256 * b + 65536 * c + 16777216 * d)), inr (inl (h, refl)))
three_spelled v f code_offset op info a b c d (inr (inr (inl h))) = (SaveXMM128 (xmm info) (offset f (a + 256 * b + 65536 * c + 16777216 * d)), inr (inr (inl (h.0, h.1, refl))))
three_spelled v f code_offset op info a b c d (inr (inr (inr (inl h)))) = (Noop, inr (inr (inr (inl (h.0, h.1, refl)))))
three_spelled v f code_offset op info a b c d (inr (inr (inr (inr h)))) = (SaveXMM128 (xmm info) (offset f (a + 256 * b + 65536 * c + 16777216 * d)), inr (inr (inr (inr (h, refl)))))

-- operands of the right length spell some operation
pub all_spelled : (v f code_offset op info k : ℕ) (more : List ℕ) → slots_at v op info ≡ Some k → 2 + length more ≡ 2 * k → Spelled v f code_offset op info more
unfolding HasOneSlot
all_spelled v f code_offset op info k [] is n =
    let one : k ≡ 1 = omega arith in
    one_spelled v f code_offset op info (grind (arith, nat_tests))
all_spelled v f code_offset op info k (a ∷ []) is n = absurd (omega arith)
all_spelled v f code_offset op info k (a ∷ b ∷ []) is n =
    let two : k ≡ 2 = omega arith in
    two_spelled v f code_offset op info a b (lines_of_two v op info (rw two at is))
all_spelled v f code_offset op info k (a ∷ b ∷ c ∷ []) is n = absurd (omega arith)
all_spelled v f code_offset op info k (a ∷ b ∷ c ∷ d ∷ []) is n =
    let three : k ≡ 3 = omega arith in
    three_spelled v f code_offset op info a b c d (lines_of_three v op info (rw three at is))
all_spelled v f code_offset op info k (a ∷ b ∷ c ∷ d ∷ e ∷ more) is n = absurd (omega (arith, three_at_most v op info k is))

zeros : ℕ → List ℕ
zeros zero = []
zeros (suc n) = 0 ∷ zeros n

length-zeros : (n : ℕ) → length (zeros n) ≡ n
unfolding zeros
length-zeros zero = refl
length-zeros (suc n) = omega (arith, length-zeros n)

zeros_are_bytes : (n : ℕ) → AreBytes (zeros n)
unfolding zeros
zeros_are_bytes zero k = omega arith
zeros_are_bytes (suc n) zero = omega arith
zeros_are_bytes (suc n) (suc k) = zeros_are_bytes n k

-- one byte
pub cut_one : (v f : ℕ) (bytes : List ℕ) → 0 < length bytes → length bytes < 2 → IsTruncatedCode v f bytes
unfolding zeros
cut_one v f [] some less = absurd (omega arith)
cut_one v f (a ∷ []) some less = record {
  code = record { code_offset = a; operation = PushNonVolatile (integer 0) };
  missing = zeros 1;
  are_bytes = zeros_are_bytes 1;
  some = omega (arith, length-zeros 1);
  spelled = (refl, inl (refl, refl));
}
cut_one v f (a ∷ b ∷ more) some less = absurd (omega arith)

-- too few slots
pub cut_slots : (v f : ℕ) (bytes : List ℕ) (k : ℕ) → 2 ≤ length bytes → slots_at v (get_or bytes 1 0 % 16) (get_or bytes 1 0 / 16) ≡ Some k → length bytes < 2 * k → IsTruncatedCode v f bytes
cut_slots v f [] k some is less = absurd (omega arith)
cut_slots v f (a ∷ []) k some is less = absurd (omega arith)
cut_slots v f (a ∷ b ∷ more) k some is less =
    let n : ℕ = 2 * k - (2 + length more) in
    let missing : length (zeros n) ≡ n = length-zeros n in
    let whole : length (more ++ zeros n) ≡ length more + length (zeros n) = length-append more (zeros n) in
    let found = all_spelled v f a (b % 16) (b / 16) k (more ++ zeros n) is (omega (arith, missing, whole)) in
    record {
      code = record { code_offset = a; operation = found.0 };
      missing = zeros n;
      are_bytes = zeros_are_bytes n;
      some = omega (arith, missing);
      spelled = (refl, found.1);
    }

-- no line of the table: no bytes make a code
pub no_slots-not_cut : (v f : ℕ) (bytes : List ℕ) → 2 ≤ length bytes → slots_at v (get_or bytes 1 0 % 16) (get_or bytes 1 0 / 16) ≡ None → IsTruncatedCode v f bytes → ⊥
no_slots-not_cut v f [] some none cut = omega arith
no_slots-not_cut v f (a ∷ []) some none cut = omega arith
no_slots-not_cut v f (a ∷ b ∷ more) some none cut = grind (arith, spelled_len)

-- the reader's numbers, by their bytes
pub word_at_2 : (b : List ℕ) → le b 2 2 ≡ get_or b 2 0 + 256 * get_or b 3 0
unfolding le
word_at_2 b = omega arith

pub long_at_2 : (b : List ℕ) → le b 2 4 ≡ get_or b 2 0 + 256 * get_or b 3 0 + 65536 * get_or b 4 0 + 16777216 * get_or b 5 0
unfolding le
long_at_2 b = omega arith

-- the bytes at the front spell the code
pub starts_2 : (v f : ℕ) (b : List ℕ) (o : UnwindOperation) → 2 ≤ length b → SpellsOperation v f (get_or b 0 0) (get_or b 1 0 % 16) (get_or b 1 0 / 16) [] o → StartsWithCode v f b (record { code_offset = get_or b 0 0; operation = o }) 2
starts_2 v f b o l h = grind arith

pub starts_4 : (v f : ℕ) (b : List ℕ) (o : UnwindOperation) → 4 ≤ length b → SpellsOperation v f (get_or b 0 0) (get_or b 1 0 % 16) (get_or b 1 0 / 16) (get_or b 2 0 ∷ get_or b 3 0 ∷ []) o → StartsWithCode v f b (record { code_offset = get_or b 0 0; operation = o }) 4
starts_4 v f b o l h = grind arith

pub starts_6 : (v f : ℕ) (b : List ℕ) (o : UnwindOperation) → 6 ≤ length b → SpellsOperation v f (get_or b 0 0) (get_or b 1 0 % 16) (get_or b 1 0 / 16) (get_or b 2 0 ∷ get_or b 3 0 ∷ get_or b 4 0 ∷ get_or b 5 0 ∷ []) o → StartsWithCode v f b (record { code_offset = get_or b 0 0; operation = o }) 6
starts_6 v f b o l h = grind arith
