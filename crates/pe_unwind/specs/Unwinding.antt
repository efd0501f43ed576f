-- From an RVA to the unwind record of the function that covers it.
use Rattle.std.specs.Prelude.{◌≡◌, ◌↔◌, IsSomeAnd, ℕ, List, Option, Some, None, Result, Ok, Err}
use Rattle.pe_core.specs.Refusals.{Refusal, Unmapped, FunctionCycle, outcome, ◌>>=◌}
use Rattle.pe_core.specs.SectionMap.{mapped}
use Rattle.pe_core.specs.declared.options.ParseOptions.{ParseOptions}
use Rattle.pe_core.specs.declared.section_table.SectionTable.{SectionTable}
use Rattle.pe_unwind.specs.declared.function_table.RuntimeFunction.{RuntimeFunction}
use Rattle.pe_unwind.specs.ExceptionTable.{ExceptionView, table_of}
use Rattle.pe_unwind.specs.FunctionTable.{functions, Finds}
use Rattle.pe_unwind.specs.Links.{Table, Follows, IsEndless, links_of}
use Rattle.pe_unwind.specs.UnwindRecord.{UnwindInfoView, unwind_tests, unwind_record}

-- the unwind record at a file offset; without one the RVA is unmapped
abbrev pub record_at_offset : List ℕ → Option ℕ → Result UnwindInfoView Refusal
record_at_offset b None = Err Unmapped
record_at_offset b (Some p) = outcome (unwind_tests b p) (unwind_record b p)

-- the unwind record at an RVA
abbrev pub record_at_address : Table → List ℕ → ℕ → Result UnwindInfoView Refusal
record_at_address t b a = record_at_offset b (t.offset a)

-- the result for the file offset of an unwind RVA's record: that of the RVA at the end of its links, or their refusal
abbrev pub FindsRecord : Table → ℕ → Result ℕ Refusal → Type 0
FindsRecord t u answer = (end : Result ℕ Refusal) × Follows t u end × (answer ≡ (end >>= λ a. mapped (t.offset a)))

-- the result for the record of an unwind RVA: the record at the end of its links, or their refusal
abbrev pub Unwinds : Table → List ℕ → ℕ → Result UnwindInfoView Refusal → Type 0
Unwinds t b u answer = (end : Result ℕ Refusal) × Follows t u end × (answer ≡ (end >>= record_at_address t b))

-- the same for a function that lookup found, if it found one
abbrev pub UnwindsFound : Table → List ℕ → Option RuntimeFunction → Result (Option UnwindInfoView) Refusal → Type 0
UnwindsFound t b None answer = answer ≡ Ok None
UnwindsFound t b (Some f) (Ok None) = ⊥
UnwindsFound t b (Some f) (Ok (Some i)) = Unwinds t b f.unwind_info_address (Ok i)
UnwindsFound t b (Some f) (Err e) = Unwinds t b f.unwind_info_address (Err e)

-- the result for the record at an RVA of code: that of the function which lookup finds; it is `FunctionCycle` exactly
-- if the links of that function never end
pub record UnwindsAt (v : ExceptionView) (sections : List SectionTable) (opts : ParseOptions) (a : ℕ) (answer : Result (Option UnwindInfoView) Refusal) : Type 0 where
  pub found : Option RuntimeFunction
  pub finds : Finds (functions (table_of v)) a found
  pub unwinds : UnwindsFound (links_of v sections opts) v.content found answer
  pub cycle : (answer ≡ Err FunctionCycle) ↔ IsSomeAnd found (λ f. IsEndless (links_of v sections opts) f.unwind_info_address)
