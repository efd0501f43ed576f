-- Ways of steps, each from a place to another: those of a plan, from the unwind address of a record to the one it goes on at.
use Rattle.std.proofs.Common.{◌≡◌, ℕ, zero, suc, ◌+◌, false, List, Result, Ok, refl, sym, subst, arith}
use Rattle.calls_unwind.proofs.Cited.{◌==◌, Refusal, Table, FollowsToRecord, UnwindRecord}

-- the record of an address goes on at another
abbrev pub GoesTo : List ℕ → Result Table Refusal → ℕ → ℕ → Type 0
GoesTo b links address next =
    (r : UnwindRecord) × FollowsToRecord b links address (Ok r) × (r.is_chained == 0 ≡ false) × (r.chained.unwind_info_address ≡ next)

-- so many steps lead from one to the other
abbrev pub LeadsIn : (ℕ → ℕ → Type 0) → ℕ → ℕ → ℕ → Type 0
LeadsIn goes zero from to = from ≡ to
LeadsIn goes (suc n) from to = (next : ℕ) × goes from next × LeadsIn goes n next to

pub as_many : (goes : ℕ → ℕ → Type 0) (m n u v : ℕ) → m ≡ n → LeadsIn goes m u v → LeadsIn goes n u v
as_many goes m n u v e p = subst (λ (k : ℕ). LeadsIn goes k u v) e p

pub joined : (goes : ℕ → ℕ → Type 0) (m n u v w : ℕ) → LeadsIn goes m u v → LeadsIn goes n v w → LeadsIn goes (m + n) u w
joined goes zero n u v w p q = as_many goes n (0 + n) u w (omega arith) (subst (λ (x : ℕ). LeadsIn goes n x w) (sym p) q)
joined goes (suc m) n u v w p q = as_many goes (suc (m + n)) (suc m + n) u w (omega arith) (p.0, p.1, joined goes m n p.0 v w p.2 q)

pub one_more : (goes : ℕ → ℕ → Type 0) (n u v w : ℕ) → LeadsIn goes n u v → goes v w → LeadsIn goes (suc n) u w
one_more goes zero u v w p g = (w, subst (λ (x : ℕ). goes x w) (sym p) g, refl)
one_more goes (suc n) u v w p g = (p.0, p.1, one_more goes n p.0 v w p.2 g)
