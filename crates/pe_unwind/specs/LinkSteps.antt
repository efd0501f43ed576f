-- One link between entries. Only contracts of private functions cite it.
use Rattle.std.specs.Prelude.{◌≡◌, ℕ, ◌-◌, Some, None, Result, Ok, Err}
use Rattle.pe_core.specs.Refusals.{Refusal, Unmapped, FunctionLink}
use Rattle.pe_unwind.specs.Links.{Table, link_entry_at, next}

-- the result of following one odd RVA
abbrev pub LinkLeads : Table → ℕ → Result ℕ Refusal → Type 0
LinkLeads t u (Ok v) = next t u ≡ Some v
LinkLeads t u (Err Unmapped) = t.offset (u - 1) ≡ None
LinkLeads t u (Err FunctionLink) = (p : ℕ) × (t.offset (u - 1) ≡ Some p) × (link_entry_at t p ≡ None)
LinkLeads t u (Err other) = ⊥
