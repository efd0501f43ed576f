-- What the loops over codes and over the registers of a CONTEXT record keep, where the operating system entered a function.
use Rattle.std.proofs.Common.{◌≡◌, ℕ, zero, suc, ◌+◌, Bool, List, drop, Option, Some, Result, Ok, Err, ap, sym, ◌∙◌, arith, rules, []}
use Rattle.pe_frame.proofs.Cited.{◌>>=◌, Arm64UnwindCode, Arm64Entry, Arm64Register, Arm64Registers, FrameError, Store, context_offset}
use Rattle.pe_frame.proofs.Cited.{context_register, context_stores, entry_by, entry_of, joined, reverted, reverted_all, CodesThen, AreOver}
use Rattle.pe_frame.proofs.Cited.{IsFirstCode}
use Rattle.pe_frame.proofs.Arm64Streams.{next_arm64, over_codes, truncated_none}

-- ---- how a function was entered

entry : Bool → Bool → Arm64Entry
entry has_pc is_interrupt = record { has_pc = has_pc; is_interrupt = is_interrupt }

same_entry : (a b : Arm64Entry) → a.has_pc ≡ b.has_pc → a.is_interrupt ≡ b.is_interrupt → a ≡ b
unfolding entry
same_entry a b first second = ap (λ (x : Bool). entry x a.is_interrupt) first ∙ ap (λ (x : Bool). entry b.has_pc x) second

joined_assoc : (a b c : Arm64Entry) → joined a (joined b c) ≡ joined (joined a b) c
joined_assoc a b c = grind (arith, same_entry)

joined_none : (a : Arm64Entry) → joined a (entry_of []) ≡ a
joined_none a = grind (arith, same_entry)

-- what was read and what is left are all
abbrev pub Joins : List ℕ → List ℕ → Arm64Entry → Type 0
Joins codes rest e =
    (cs : List Arm64UnwindCode) → CodesThen AreOver codes cs →
    (ds : List Arm64UnwindCode) × CodesThen AreOver rest ds × (entry_of cs ≡ joined e (entry_of ds))

pub joins_more : (codes rest : List ℕ) (c : Arm64UnwindCode) (k : ℕ) (e by new : Arm64Entry) → IsFirstCode rest (Ok (Some (c, k))) → by ≡ entry_by c → new ≡ joined e by → Joins codes rest e → Joins codes (drop k rest) new
joins_more codes rest c k e by new first is join inv cs are =
    let i = inv cs are in
    let next = next_arm64 rest c k i.0 first i.1 in
    let now : new ≡ joined e (entry_by c) = join ∙ ap (joined e) is in (
      next.rest,
      next.are,
      i.2 ∙ (ap (λ (ds : List Arm64UnwindCode). joined e (entry_of ds)) next.is
          ∙ (joined_assoc e (entry_by c) (entry_of next.rest) ∙ ap (λ (x : Arm64Entry). joined x (entry_of next.rest)) (sym now))),
    )

pub joins_all : (codes rest : List ℕ) (e : Arm64Entry) → AreOver rest → Joins codes rest e → (cs : List Arm64UnwindCode) → CodesThen AreOver codes cs → e ≡ entry_of cs
joins_all codes rest e over inv cs are = grind (arith, over_codes, joined_none)

pub joins_none : (codes rest : List ℕ) (e : Arm64Entry) (x : FrameError) → IsFirstCode rest (Err x) → Joins codes rest e → (cs : List Arm64UnwindCode) → CodesThen AreOver codes cs → e ≡ entry_of cs
joins_none codes rest e x first inv cs are = let i = inv cs are in absurd (truncated_none rest i.0 first.0 i.1)

-- ---- the registers of a CONTEXT record

-- a register of another name
pub loaded_as : (m : ℕ → Option ℕ) (r q : Arm64Register) (o p : ℕ) (g : Arm64Registers) (x : Result Arm64Registers FrameError) → r ≡ q → o ≡ p → x ≡ reverted m (Store r o) g → reverted m (Store q p) g ≡ x
loaded_as m r q o p g x same at is = cc

-- the last of them is loaded, and then the others
pub stores_more : (m : ℕ → Option ℕ) (n k : ℕ) (g : Arm64Registers) (r : Result Arm64Registers FrameError) → n ≡ k + 1 → reverted m (Store (context_register k) (context_offset k)) g ≡ r →
    reverted_all m (context_stores n) g ≡ (r >>= reverted_all m (context_stores k))
unfolding context_stores
stores_more m zero k g r count is = absurd (omega (arith, count))
stores_more m (suc n) k g r count is = search (rules, arith)

pub stores_none : (m : ℕ → Option ℕ) (n : ℕ) (g : Arm64Registers) → n ≡ 0 → reverted_all m (context_stores n) g ≡ Ok g
unfolding context_stores
stores_none m n g none = grind arith
