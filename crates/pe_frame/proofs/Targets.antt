-- What the rest of an epilog returns that jumps into a function, by the records of the function.
use Rattle.std.proofs.Common.{◌≡◌, ℕ, ◌-◌, Bool, false, List, ◌∷◌, Option, Some, None, Result, Ok, Err, refl, subst, arith, rules, []}
use Rattle.pe_frame.proofs.Cited.{is_some, Refusal, ExceptionView, links_with, UnwindInfoView, Unwinds, RuntimeFunction, PlansShort}
use Rattle.pe_frame.proofs.Cited.{refused_at_once, run_out, LeavesFor, LeavesForFound, place_with, Instruction, FrameError, Registers}
use Rattle.pe_frame.proofs.FunctionSteps.{of_one_record}

-- by all of them
pub leaves_by_plan : (e : ExceptionView) (rva_map : ℕ → Option ℕ) (a : ℕ) (f : RuntimeFunction) (m : ℕ → Option ℕ) (rest : List Instruction) (g : Registers) (offset : ℕ) (plan is : List UnwindInfoView) (answer : Result (Registers × Bool) FrameError) →
    PlansShort (links_with e rva_map) e.content f (Ok (Some plan)) → offset ≡ a - f.begin_address → is ≡ plan →
    LeavesFor (Some (place_with offset is)) m rest g answer → LeavesForFound e rva_map a (Some f) m rest g answer
leaves_by_plan e rva_map a f m rest g offset plan is answer plans at same leaves =
    let here = subst (λ (n : ℕ). LeavesFor (Some (place_with n is)) m rest g answer) at leaves in
    (Some (place_with (a - f.begin_address) plan), (Ok (Some plan), plans, refl), subst (λ (xs : List UnwindInfoView). LeavesFor (Some (place_with (a - f.begin_address) xs)) m rest g answer) same here)

-- by the one that it has
pub leaves_by_one : (e : ExceptionView) (rva_map : ℕ → Option ℕ) (a : ℕ) (f : RuntimeFunction) (m : ℕ → Option ℕ) (rest : List Instruction) (g : Registers) (offset : ℕ) (i : UnwindInfoView) (is : List UnwindInfoView) (answer : Result (Registers × Bool) FrameError) →
    Unwinds (links_with e rva_map) e.content f.unwind_info_address (Ok i) → i.chained_info ≡ None → offset ≡ a - f.begin_address → is ≡ i ∷ [] →
    LeavesFor (Some (place_with offset is)) m rest g answer → LeavesForFound e rva_map a (Some f) m rest g answer
leaves_by_one e rva_map a f m rest g offset i is answer unwinds none at same leaves = search (rules, arith, leaves_by_plan, of_one_record)

-- where the first cannot be read
pub leaves_refused : (e : ExceptionView) (rva_map : ℕ → Option ℕ) (a : ℕ) (f : RuntimeFunction) (m : ℕ → Option ℕ) (rest : List Instruction) (g : Registers) (refusal : Refusal) (answer : Result (Registers × Bool) FrameError) →
    Unwinds (links_with e rva_map) e.content f.unwind_info_address (Err refusal) → answer ≡ run_out m rest g → LeavesForFound e rva_map a (Some f) m rest g answer
leaves_refused e rva_map a f m rest g refusal answer unwinds is =
    (None, (Err refusal, refused_at_once (links_with e rva_map) e.content f refusal unwinds, refl), is)

-- a record that is chained to none, as it is tested
pub none_chained : (f : Option RuntimeFunction) → is_some f ≡ false → f ≡ None
none_chained f e = grind arith
