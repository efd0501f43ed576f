-- The records of a chain up to a function, with one unwind address on the way that is saved.
use Rattle.std.proofs.Common.{◌≡◌, ℕ, List, [], ◌∷◌, ◌++◌, Option, Some, None, Ok, Err, inl, inr, refl, sym, ◌∙◌, subst, arith, length-append}
use Rattle.pe_plan.proofs.Cited.{Refusal, Memory, FunctionCycle, RuntimeFunction, Table, UnwindInfoView, Unwinds, IsChain, NeverEnds}
use Rattle.pe_plan.proofs.Cited.{Counts}
use Rattle.pe_plan.proofs.Chains.{one_more}
use Rattle.pe_plan.proofs.Rings.{ring_goes_on}
use Rattle.pe_plan.proofs.RecordLaw.{RecordLaw}

-- these records lead to the current function; the saved address is that of a function on the way
pub record Marked (t : Table) (b : List ℕ) (f : RuntimeFunction) (records : List UnwindInfoView) (current : RuntimeFunction) (saved : ℕ) : Type 0 where
  pub chain : IsChain t b (Some f) records (Some current)
  pub marked : RuntimeFunction
  pub front : List UnwindInfoView
  pub around : List UnwindInfoView
  pub to_marked : IsChain t b (Some f) front (Some marked)
  pub from_marked : IsChain t b (Some marked) around (Some current)
  pub is_saved : marked.unwind_info_address ≡ saved

pub starts : (t : Table) (b : List ℕ) (f : RuntimeFunction) → Marked t b f [] f f.unwind_info_address
starts t b f = record {
  chain = refl;
  marked = f;
  front = [];
  around = [];
  to_marked = refl;
  from_marked = refl;
  is_saved = refl;
}

-- one record more, which ends so
chain_more : (t : Table) (b : List ℕ) (start next : Option RuntimeFunction) (current : RuntimeFunction) (is : List UnwindInfoView) (i : UnwindInfoView) → IsChain t b start is (Some current) → Unwinds t b current.unwind_info_address (Ok i) → i.chained_info ≡ next → IsChain t b start (is ++ i ∷ []) next
chain_more t b start next current is i p u to = subst (λ (o : Option RuntimeFunction). IsChain t b start (is ++ i ∷ []) o) to (one_more t b start current is i p u)

-- by which the saved address stays
pub keeps : (t : Table) (b : List ℕ) (f current next : RuntimeFunction) (is : List UnwindInfoView) (i : UnwindInfoView) (saved : ℕ) → Marked t b f is current saved → Unwinds t b current.unwind_info_address (Ok i) → i.chained_info ≡ Some next → Marked t b f (is ++ i ∷ []) next saved
keeps t b f current next is i saved m u to = record {
  chain = chain_more t b (Some f) (Some next) current is i m.chain u to;
  marked = m.marked;
  front = m.front;
  around = m.around ++ i ∷ [];
  to_marked = m.to_marked;
  from_marked = chain_more t b (Some m.marked) (Some next) current m.around i m.from_marked u to;
  is_saved = m.is_saved;
}

-- and one by which it moves
pub moves : (t : Table) (b : List ℕ) (f current next : RuntimeFunction) (is : List UnwindInfoView) (i : UnwindInfoView) (saved : ℕ) → Marked t b f is current saved → Unwinds t b current.unwind_info_address (Ok i) → i.chained_info ≡ Some next → Marked t b f (is ++ i ∷ []) next next.unwind_info_address
moves t b f current next is i saved m u to = record {
  chain = chain_more t b (Some f) (Some next) current is i m.chain u to;
  marked = next;
  front = is ++ i ∷ [];
  around = [];
  to_marked = chain_more t b (Some f) (Some next) current is i m.chain u to;
  from_marked = refl;
  is_saved = refl;
}

-- the saved address comes again
pub comes_again : (t : Table) (b : List ℕ) (f current next : RuntimeFunction) (is : List UnwindInfoView) (i : UnwindInfoView) (saved : ℕ) → Marked t b f is current saved → Unwinds t b current.unwind_info_address (Ok i) → i.chained_info ≡ Some next → next.unwind_info_address ≡ saved → NeverEnds t b f
comes_again t b f current next is i saved m u to same = inl (ring_goes_on t b (Some f) (record {
  first = m.marked;
  again = next;
  front = m.front;
  around = m.around ++ i ∷ [];
  some = omega (arith, length-append m.around (i ∷ []));
  to_first = m.to_marked;
  to_again = chain_more t b (Some m.marked) (Some next) current m.around i m.from_marked u to;
  same = same ∙ sym m.is_saved;
}))

-- the root
pub comes_to_root : (t : Table) (b : List ℕ) (f current : RuntimeFunction) (is : List UnwindInfoView) (i : UnwindInfoView) (saved : ℕ) → Marked t b f is current saved → Unwinds t b current.unwind_info_address (Ok i) → i.chained_info ≡ None → IsChain t b (Some f) (is ++ i ∷ []) None
comes_to_root t b f current is i saved m u root = chain_more t b (Some f) None current is i m.chain u root

-- a record that is refused
pub comes_to_refusal : (law : RecordLaw) (t : Table) (b : List ℕ) (f current : RuntimeFunction) (is : List UnwindInfoView) (k : Refusal) (saved : ℕ) → Marked t b f is current saved → Unwinds t b current.unwind_info_address (Err k) → Counts t b f (Err k)
comes_to_refusal law t b f current is Memory saved m u = law.no_memory t b current.unwind_info_address u
comes_to_refusal law t b f current is FunctionCycle saved m u =
    inr (current, (is, m.chain), (law.cycle t b current.unwind_info_address (Err FunctionCycle) u).0 refl)
comes_to_refusal law t b f current is refusal saved m u = (current, (is, m.chain), u)
