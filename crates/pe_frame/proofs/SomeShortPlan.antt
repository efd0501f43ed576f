-- A function has a short plan: its chain is followed for as many records as one has at most.
use Rattle.std.proofs.Common.{◌≡◌, ◌≢◌, ℕ, zero, suc, ◌+◌, ◌<◌, List, ◌∷◌, ◌++◌, length, Option, Some, None, Result, Ok, Err, refl, subst, arith, length-append, []}
use Rattle.pe_frame.proofs.Cited.{Refusal, Memory, RuntimeFunction, Table, UnwindInfoView, Unwinds, IsChain, PlansShort, most_records}
use Rattle.pe_frame.proofs.Cited.{one_more, RecordLaw}

abbrev pub PlannedShort : Table → List ℕ → RuntimeFunction → Type 0
PlannedShort t b f = (x : Result (Option (List UnwindInfoView)) Refusal) × PlansShort t b f x × (x ≢ Err Memory)

module _ (law : RecordLaw) (t : Table) (b : List ℕ) (f : RuntimeFunction) where
  refused : (is : List UnwindInfoView) (g : RuntimeFunction) (r : Refusal) → length is < most_records → IsChain t b (Some f) is (Some g) → Unwinds t b g.unwind_info_address (Err r) → PlannedShort t b f
  refused is g r few chain u = (
    Err r,
    (is, g, few, chain, u),
    λ e. let same : r ≡ Memory = cc e in law.no_memory t b g.unwind_info_address (subst (λ (k : Refusal). Unwinds t b g.unwind_info_address (Err k)) same u),
  )

  -- the chain comes to a function, with room for n records more
  abbrev From : ℕ → Type 0
  From n = (is : List UnwindInfoView) (g : RuntimeFunction) → length is + n ≡ most_records → IsChain t b (Some f) is (Some g) → PlannedShort t b f

  by_next : (n : ℕ) → From n → (is : List UnwindInfoView) (o : Option RuntimeFunction) → length is + n ≡ most_records → IsChain t b (Some f) is o → PlannedShort t b f
  by_next n more is None room chain = (Ok (Some is), (chain, omega (arith, room)), λ e. cc)
  by_next n more is (Some g) room chain = more is g room chain

  by_record : (n : ℕ) → From n → (is : List UnwindInfoView) (g : RuntimeFunction) (x : Result UnwindInfoView Refusal) → length is + suc n ≡ most_records → IsChain t b (Some f) is (Some g) → Unwinds t b g.unwind_info_address x → PlannedShort t b f
  by_record n more is g (Err r) room chain u = refused is g r (omega (arith, room)) chain u
  by_record n more is g (Ok i) room chain u =
      by_next n more (is ++ i ∷ []) i.chained_info (omega (arith, room, length-append is (i ∷ []))) (one_more t b (Some f) g is i chain u)

  from : (n : ℕ) → From n
  from zero is g room chain = (Ok None, (is, g, omega (arith, room), chain), λ e. cc)
  from (suc n) is g room chain =
      let (x, unwinds) = law.exists t b g.unwind_info_address in
      by_record n (λ js h left more. from n js h left more) is g x room chain unwinds

  pub some_short_plan : PlannedShort t b f
  some_short_plan = from most_records [] f (omega arith) refl
