-- Plans: the unwind records from a function to the root of its chain. (x64 exception handling: chained unwind info.)
use Rattle.std.specs.Prelude.{◌≡◌, ◌↔◌, ◌⊎◌, ℕ, All, List, [], ◌∷◌, ◌++◌, length, Option, Some, None, Result, Ok, Err, IsSome, IsSomeAnd}
use Rattle.pe_core.specs.Refusals.{Refusal, Memory, FunctionCycle}
use Rattle.pe_core.specs.declared.options.ParseOptions.{ParseOptions}
use Rattle.pe_core.specs.declared.section_table.SectionTable.{SectionTable}
use Rattle.pe_unwind.specs.declared.function_table.RuntimeFunction.{RuntimeFunction}
use Rattle.pe_unwind.specs.ExceptionTable.{ExceptionView, table_of}
use Rattle.pe_unwind.specs.FunctionTable.{functions, Finds}
use Rattle.pe_unwind.specs.Links.{Table, IsEndless, links_of}
use Rattle.pe_unwind.specs.UnwindRecord.{UnwindInfoView}
use Rattle.pe_unwind.specs.Unwinding.{Unwinds}

-- these records are a chain: the first is that of the function `start`, each next one is that of the function to which
-- the one before it is chained, and the last is chained to `end`
abbrev pub IsChain : Table → List ℕ → Option RuntimeFunction → List UnwindInfoView → Option RuntimeFunction → Type 0
IsChain t b start [] end = start ≡ end
IsChain t b None (i ∷ is) end = ⊥
IsChain t b (Some f) (i ∷ is) end = Unwinds t b f.unwind_info_address (Ok i) × IsChain t b i.chained_info is end

-- records that are each chained to another, and then the root, which is chained to none
pub record EndsAtRoot (is : List UnwindInfoView) : Type 0 where
  pub chained : List UnwindInfoView
  pub root : UnwindInfoView
  pub records : is ≡ chained ++ root ∷ []
  pub are_chained : All (λ i. IsSome i.chained_info) chained
  pub is_root : root.chained_info ≡ None

-- the chain comes to function g
abbrev pub ComesTo : Table → List ℕ → Option RuntimeFunction → RuntimeFunction → Type 0
ComesTo t b start g = (is : List UnwindInfoView) × IsChain t b start is (Some g)

-- the first n records of the chain are each chained to another
abbrev pub HasChained : Table → List ℕ → Option RuntimeFunction → ℕ → Type 0
HasChained t b start n = (is : List UnwindInfoView) × (g : RuntimeFunction) × (length is ≡ n) × IsChain t b start is (Some g)

-- the chain never ends: in records, or in the links of one of its functions
abbrev pub NeverEnds : Table → List ℕ → RuntimeFunction → Type 0
NeverEnds t b f =
    ((n : ℕ) → HasChained t b (Some f) n)
    ⊎ ((g : RuntimeFunction) × ComesTo t b (Some f) g × IsEndless t g.unwind_info_address)

-- the plan of a function: its records up to the root, for which alone memory is asked; or a cycle, if the chain never
-- ends; or the refusal of the first function that has no record
abbrev pub PlansFrom : Table → List ℕ → RuntimeFunction → Result (List UnwindInfoView) Refusal → Type 0
PlansFrom t b f (Ok is) = IsChain t b (Some f) is None
PlansFrom t b f (Err Memory) = (is : List UnwindInfoView) × IsChain t b (Some f) is None
PlansFrom t b f (Err FunctionCycle) = NeverEnds t b f
PlansFrom t b f (Err refusal) = (g : RuntimeFunction) × ComesTo t b (Some f) g × Unwinds t b g.unwind_info_address (Err refusal)

-- the same for the function that lookup found, if it found one
abbrev pub PlansFound : Table → List ℕ → Option RuntimeFunction → Result (Option (List UnwindInfoView)) Refusal → Type 0
PlansFound t b None answer = answer ≡ Ok None
PlansFound t b (Some f) (Ok None) = ⊥
PlansFound t b (Some f) (Ok (Some is)) = PlansFrom t b f (Ok is)
PlansFound t b (Some f) (Err e) = PlansFrom t b f (Err e)

-- the plan of an RVA of code: that of the function that lookup finds; it is a cycle exactly if the chain of that
-- function never ends
pub record Plans (v : ExceptionView) (sections : List SectionTable) (opts : ParseOptions) (a : ℕ) (answer : Result (Option (List UnwindInfoView)) Refusal) : Type 0 where
  pub found : Option RuntimeFunction
  pub finds : Finds (functions (table_of v)) a found
  pub plan : PlansFound (links_of v sections opts) v.content found answer
  pub cycle : (answer ≡ Err FunctionCycle) ↔ IsSomeAnd found (NeverEnds (links_of v sections opts) v.content)
