-- Records of frames: what a frame pointer leads to.
use Rattle.std.proofs.Common.{◌≡◌, ◌⊎◌, inl, inr, ℕ, ◌+◌, ◌%◌, ◌<◌, ◌≤◌, ◌^◌, ◌==◌, ◌&&◌, ◌||◌, nat_le, nat_lt, Bool, true, false, cond, Option, Some, None, refl, subst, arith}
use Rattle.pe_frame.proofs.Cited.{eqb-true, nat_tests, option_and_then, option_map, both, IsFrameRecord, caller_of_record, frame_record}
use Rattle.pe_frame.proofs.Cited.{is_higher, may_lead, record_with, FrameRecord}

-- ---- tests

leads : (stack pointer : ℕ) → pointer % 8 ≡ 0 → stack ≤ pointer + 8 → pointer + 16 < 2 ^ 64 → may_lead stack pointer ≡ true
leads stack pointer aligned above fits =
    let low : nat_le stack (pointer + 8) ≡ true = grind (arith, nat_tests) in
    let high : nat_lt (pointer + 16) (2 ^ 64) ≡ true = grind (arith, nat_tests) in
    rw (aligned, low, high) refl

goes_on : (pointer caller : ℕ) → (caller ≡ 0) ⊎ (pointer < caller) → is_higher pointer caller ≡ true
goes_on pointer caller (inl zero) = rw zero refl
goes_on pointer caller (inr more) = grind (arith, nat_tests)

higher_if : (pointer caller : ℕ) (zero more : Bool) → (caller == 0) ≡ zero → nat_lt pointer caller ≡ more → (zero || more) ≡ true → (caller ≡ 0) ⊎ (pointer < caller)
higher_if pointer caller true more first second is = inl (eqb-true caller 0 first)
higher_if pointer caller false true first second is = let less : pointer < caller = grind (arith, nat_tests) in inr less
higher_if pointer caller false false first second is = absurd (cc is)

-- ---- what is there

chosen : {X : Type 0} (b : Bool) (o : Option X) (x : X) → cond b o None ≡ Some x → (b ≡ true) × (o ≡ Some x)
chosen true o x is = (refl, is)
chosen false o x is = absurd (cc is)

then_of : {X Y : Type 0} (f : X → Option Y) (o : Option X) (y : Y) → option_and_then f o ≡ Some y → (x : X) × (o ≡ Some x) × (f x ≡ Some y)
then_of f None y is = absurd (cc is)
then_of f (Some x) y is = (x, refl, is)

map_of : {X Y : Type 0} (f : X → Y) (o : Option X) (y : Y) → option_map f o ≡ Some y → (x : X) × (o ≡ Some x) × (f x ≡ y)
map_of f None y is = absurd (cc is)
map_of f (Some x) y is = let same : f x ≡ y = cc is in (x, refl, same)

pub record_there : (memory returns : ℕ → Option ℕ) (stack pointer caller address : ℕ) → IsFrameRecord memory returns stack pointer caller address → frame_record memory returns stack pointer ≡ Some (caller_of_record pointer caller address)
record_there memory returns stack pointer caller address r =
    rw (leads stack pointer r.aligned r.above r.fits, r.saved, goes_on pointer caller r.higher, r.returns_there) refl

pub record_found : (memory returns : ℕ → Option ℕ) (stack pointer : ℕ) (c : FrameRecord) → frame_record memory returns stack pointer ≡ Some c → (c.stack_pointer ≡ pointer + 16) × IsFrameRecord memory returns stack pointer c.frame_pointer c.address
record_found memory returns stack pointer c is =
    let first = chosen (may_lead stack pointer) (option_and_then (record_with memory returns pointer) (memory pointer)) c is in
    let saved = then_of (record_with memory returns pointer) (memory pointer) c first.1 in
    let second = chosen (is_higher pointer saved.0) (option_map (caller_of_record pointer saved.0) (option_and_then returns (memory (pointer + 8)))) c saved.2 in
    let word = map_of (caller_of_record pointer saved.0) (option_and_then returns (memory (pointer + 8))) c second.1 in
    let tests = both (pointer % 8 == 0 && nat_le stack (pointer + 8)) (nat_lt (pointer + 16) (2 ^ 64)) first.0 in
    let others = both (pointer % 8 == 0) (nat_le stack (pointer + 8)) tests.0 in
    let here : IsFrameRecord memory returns stack pointer saved.0 word.0 = record {
      aligned = eqb-true (pointer % 8) 0 others.0;
      above = (let test : nat_le stack (pointer + 8) ≡ true = others.1 in grind (arith, nat_tests));
      fits = (let test : nat_lt (pointer + 16) (2 ^ 64) ≡ true = tests.1 in grind (arith, nat_tests));
      saved = saved.1;
      higher = higher_if pointer saved.0 (saved.0 == 0) (nat_lt pointer saved.0) refl refl second.0;
      returns_there = word.1;
    } in
    subst (λ (r : FrameRecord). (r.stack_pointer ≡ pointer + 16) × IsFrameRecord memory returns stack pointer r.frame_pointer r.address) word.2 (refl, here)
