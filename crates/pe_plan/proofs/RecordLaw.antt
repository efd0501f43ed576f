-- What pe_unwind's law `one_record_of_addresses` says, as the lemmas take it.
use Rattle.std.proofs.Common.{◌≡◌, ◌↔◌, ℕ, List, Result, Err}
use Rattle.pe_plan.proofs.Cited.{Refusal, Memory, FunctionCycle, Table, IsEndless, UnwindInfoView, Unwinds}

pub record RecordLaw : Type 0 where
  pub exists : (t : Table) (b : List ℕ) (u : ℕ) → (x : Result UnwindInfoView Refusal) × Unwinds t b u x
  pub one : (t : Table) (b : List ℕ) (u : ℕ) (x y : Result UnwindInfoView Refusal) → Unwinds t b u x → Unwinds t b u y → x ≡ y
  pub cycle : (t : Table) (b : List ℕ) (u : ℕ) (x : Result UnwindInfoView Refusal) → Unwinds t b u x → (x ≡ Err FunctionCycle) ↔ IsEndless t u
  pub no_memory : (t : Table) (b : List ℕ) (u : ℕ) → Unwinds t b u (Err Memory) → ⊥
