-- Registers that are read of a context spell its bytes.
use Rattle.std.proofs.Common.{◌≡◌, ℕ, zero, suc, ◌+◌, ◌-◌, ◌*◌, ◌/◌, ◌%◌, ◌≤◌, ◌==◌, Bool, true, false, List, [], ◌∷◌, ◌++◌, length, Some, None, refl, sym, ap, ◌∙◌, arith, if◌then◌else◌}
use Rattle.std.specs.Prelude.{IfOk, slice_range}
use Rattle.std.proofs.lemmas.List.{flat_map_more}
use Rattle.pe_core.specs.Bytes.{AreBytes, bytes_of, holds, le, range}
use Rattle.pe_core.specs.Refusals.{outcome}
use Rattle.pe_core.specs.Rows.{each}
use Rattle.pe_core.proofs.NumberBytes.{bytes_of-le, range_join}
use Rattle.pe_core.proofs.Ranges.{inside_if_held}
use Rattle.pe_minidump.specs.Contexts.{context_arm64, context_x64}
use Rattle.pe_minidump.specs.Registers.{AreArm64, AreX64, StandAt, spelled}
use Rattle.pe_minidump.specs.Refusals.{DumpRefusal, ContextFlags, ContextSize, Machine}
use Rattle.pe_minidump.specs.declared.context_arm64.ContextArm64.{ContextArm64}
use Rattle.pe_minidump.specs.declared.context_x64.ContextX64.{ContextX64}

-- n registers of w bytes from offset p on
abbrev registers : List ℕ → ℕ → ℕ → ℕ → List ℕ
registers b p w n = each (λ k. le b (p + w * k) w) n

one_more : (b : List ℕ) (p w n : ℕ) → registers b p w (suc n) ≡ registers b p w n ++ le b (p + w * n) w ∷ []
one_more b p w n = unfold each in refl

none_spelled : (b : List ℕ) (p w : ℕ) → spelled w (registers b p w 0) ≡ range b p 0
none_spelled b p w = unfold each in let none : p + 0 - p ≡ 0 = omega arith in rw none refl

registers_spelled : (b : List ℕ) (p w n : ℕ) → AreBytes b → p + w * n ≤ length b → spelled w (registers b p w n) ≡ range b p (w * n)
registers_spelled b p w zero small h = let none : w * 0 ≡ 0 = omega arith in rw none (none_spelled b p w)
registers_spelled b p w (suc n) small h =
    let size : w * suc n ≡ w * n + w = omega arith in
    let before : spelled w (registers b p w n) ≡ range b p (w * n) = registers_spelled b p w n small (omega (arith, h, size)) in
    let last : bytes_of w (le b (p + w * n) w) ≡ slice_range b (p + w * n) (p + w * n + w) = bytes_of-le b (p + w * n) w small (omega (arith, h, size)) in
    let end : p + w * n + w ≡ p + w * suc n = omega (arith, size) in
    ap (spelled w) (one_more b p w n)
    ∙ sym (flat_map_more (bytes_of w) [] (registers b p w n) (le b (p + w * n) w))
    ∙ ap (λ xs. spelled w (registers b p w n) ++ xs) (last ∙ ap (slice_range b (p + w * n)) end)
    ∙ ap (λ xs. xs ++ slice_range b (p + w * n) (p + w * suc n)) before
    ∙ range_join b p (p + w * n) (p + w * suc n) (omega arith) (omega (arith, size)) h

-- what holds of a value if the first test passes holds of the result of three tests
three_tests : {X : Type 0} (P : X → Type 0) (a b c : Bool) (r s t : DumpRefusal) (x : X) → (a ≡ true → P x) → IfOk (outcome ((a, r) ∷ (b, s) ∷ (c, t) ∷ []) x) P
three_tests P false b c r s t x h = tt
three_tests P true false c r s t x h = tt
three_tests P true true false r s t x h = tt
three_tests P true true true r s t x h = h refl

if_saved : (is : Bool) (w : ℕ) (xs bytes : List ℕ) → spelled w xs ≡ bytes → StandAt w (if is then Some xs else None) bytes
if_saved false w xs bytes e = tt
if_saved true w xs bytes e = e

pub x64_spelled : (b : List ℕ) → AreBytes b → IfOk (context_x64 b) (AreX64 b)
unfolding context_x64
x64_spelled b small =
    let c : ContextX64 = record {
      context_flags = le b 48 4;
      eflags = le b 68 4;
      general = registers b 120 8 16;
      rip = le b 248 8;
      xmm = if le b 48 4 / 8 % 2 == 1 then Some (registers b 416 16 16) else None;
    } in
    three_tests (AreX64 b) (holds b 0 1232) (le b 48 4 / 0x100000 % 2 == 1) (le b 48 4 % 4 == 3) ContextSize Machine ContextFlags c (λ held.
    let h : 0 + 1232 ≤ length b = inside_if_held b 0 1232 held in
    record {
      general = registers_spelled b 120 8 16 small (omega (arith, h));
      rip = bytes_of-le b 248 8 small (omega (arith, h));
      xmm = if_saved (le b 48 4 / 8 % 2 == 1) 16 (registers b 416 16 16) (range b 416 256) (registers_spelled b 416 16 16 small (omega (arith, h)));
    })

pub arm64_spelled : (b : List ℕ) → AreBytes b → IfOk (context_arm64 b) (AreArm64 b)
unfolding context_arm64
arm64_spelled b small =
    let c : ContextArm64 = record {
      context_flags = le b 0 4;
      cpsr = le b 4 4;
      x = registers b 8 8 31;
      sp = le b 256 8;
      pc = le b 264 8;
      v = if le b 0 4 / 4 % 2 == 1 then Some (registers b 272 16 32) else None;
    } in
    three_tests (AreArm64 b) (holds b 0 912) (le b 0 4 / 0x400000 % 2 == 1) (le b 0 4 % 4 == 3) ContextSize Machine ContextFlags c (λ held.
    let h : 0 + 912 ≤ length b = inside_if_held b 0 912 held in
    record {
      x = registers_spelled b 8 8 31 small (omega (arith, h));
      sp = bytes_of-le b 256 8 small (omega (arith, h));
      pc = bytes_of-le b 264 8 small (omega (arith, h));
      v = if_saved (le b 0 4 / 4 % 2 == 1) 16 (registers b 272 16 32) (range b 272 512) (registers_spelled b 272 16 32 small (omega (arith, h)));
    })
