-- A chain that ends after its last record ends at a root.
use Rattle.std.proofs.Common.{◌≡◌, ◌↔◌, ℕ, List, [], ◌∷◌, Option, Some, None, Result, Ok, IsSome, refl, ap, arith}
use Rattle.std.proofs.lemmas.List.Elements.{All-cons, All-nil}
use Rattle.pe_plan.proofs.Cited.{Refusal, RuntimeFunction, Table, UnwindInfoView, EndsAtRoot, IsChain, Plans, PlansFrom}
use Rattle.pe_core.specs.declared.options.ParseOptions.{ParseOptions}
use Rattle.pe_core.specs.declared.section_table.SectionTable.{SectionTable}
use Rattle.pe_unwind.specs.ExceptionTable.{ExceptionView, table_of}
use Rattle.pe_unwind.specs.FunctionTable.{NeverFalls, functions, scan}

one_root : (i : UnwindInfoView) → i.chained_info ≡ None → EndsAtRoot (i ∷ [])
one_root i root = record { chained = []; root = i; records = refl; are_chained = All-nil (λ i. IsSome i.chained_info); is_root = root }

in_front : (i : UnwindInfoView) (is : List UnwindInfoView) → IsSome i.chained_info → EndsAtRoot is → EndsAtRoot (i ∷ is)
in_front i is some r = record {
  chained = i ∷ r.chained;
  root = r.root;
  records = ap (λ (is : List UnwindInfoView). i ∷ is) r.records;
  are_chained = All-cons (λ i. IsSome i.chained_info) i r.chained some r.are_chained;
  is_root = r.is_root;
}

some_next : (t : Table) (b : List ℕ) (o : Option RuntimeFunction) (i : UnwindInfoView) (is : List UnwindInfoView) → IsChain t b o (i ∷ is) None → IsSome o
some_next t b o i is p = grind arith

from_first : (t : Table) (b : List ℕ) (o : Option RuntimeFunction) (i : UnwindInfoView) (is : List UnwindInfoView) → IsChain t b o (i ∷ is) None → EndsAtRoot (i ∷ is)
from_first t b None i is p = absurd p
from_first t b (Some f) i [] p = one_root i p.1
from_first t b (Some f) i (j ∷ js) p = in_front i (j ∷ js) (some_next t b i.chained_info j js p.1) (from_first t b i.chained_info j js p.1)

pub plan_ends_at_root : (t : Table) (b : List ℕ) (f : RuntimeFunction) (is : List UnwindInfoView) → PlansFrom t b f (Ok is) → EndsAtRoot is
plan_ends_at_root t b f [] p = absurd cc
plan_ends_at_root t b f (i ∷ is) p = from_first t b (Some f) i is p

pub found_plan_ends_at_root : (v : ExceptionView) (sections : List SectionTable) (opts : ParseOptions) (a : ℕ) (is : List UnwindInfoView) → Plans v sections opts a (Ok (Some is)) → EndsAtRoot is
found_plan_ends_at_root v sections opts a is p = grind (arith, plan_ends_at_root)

-- ---- no plan

pub none_scanned : (v : ExceptionView) (sections : List SectionTable) (opts : ParseOptions) (a : ℕ) (x : Result (Option (List UnwindInfoView)) Refusal) → Plans v sections opts a x → NeverFalls (functions (table_of v)) → (x ≡ Ok None) ↔ (scan (functions (table_of v)) a ≡ None)
none_scanned v sections opts a x p sorted = grind arith
