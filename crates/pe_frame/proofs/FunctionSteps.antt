-- Steps by the records of a function: by one, and by those that an array has room for.
use Rattle.std.proofs.Common.{◌≡◌, ℕ, ◌≤◌, Bool, List, ◌∷◌, Option, Some, None, Result, Ok, Err, arith, []}
use Rattle.pe_frame.proofs.Cited.{Refusal, ExceptionView, Table, UnwindInfoView, Unwinds, RuntimeFunction, PlansShort, most_records}
use Rattle.pe_frame.proofs.Cited.{short_refusal, StepsInFunction, StepsUpTo, FrameError, Registers}

-- the plan of a function whose record is chained to none
pub of_one_record : (t : Table) (b : List ℕ) (f : RuntimeFunction) (i : UnwindInfoView) → Unwinds t b f.unwind_info_address (Ok i) → i.chained_info ≡ None → PlansShort t b f (Ok (Some (i ∷ [])))
of_one_record t b f i u none = ((u, none), omega arith)

-- a step by a plan that is there
pub of_plan : (most : ℕ) (e : ExceptionView) (rva_map : ℕ → Option ℕ) (m : ℕ → Option ℕ) (f : RuntimeFunction) (rva : ℕ) (code : List ℕ) (g : Registers) (o : Option (Result (Registers × Bool) FrameError)) (left : Result (Registers × Bool) FrameError) → most ≤ most_records → o ≡ Some left →
    StepsUpTo most e rva_map m f rva code g (Ok o) → StepsInFunction e rva_map m f rva code g (Ok (Some left))
of_plan most e rva_map m f rva code g o left le is steps = grind arith

-- a record that cannot be read
pub of_refusal : (most : ℕ) (e : ExceptionView) (rva_map : ℕ → Option ℕ) (m : ℕ → Option ℕ) (f : RuntimeFunction) (rva : ℕ) (code : List ℕ) (g : Registers) (refusal : Refusal) → most ≤ most_records →
    StepsUpTo most e rva_map m f rva code g (Err refusal) → StepsInFunction e rva_map m f rva code g (Err refusal)
of_refusal most e rva_map m f rva code g refusal le h = grind (arith, short_refusal)

-- in all of the room
pub of_all_room : (e : ExceptionView) (rva_map : ℕ → Option ℕ) (m : ℕ → Option ℕ) (f : RuntimeFunction) (rva : ℕ) (code : List ℕ) (g : Registers) (x : Result (Option (Result (Registers × Bool) FrameError)) Refusal) →
    StepsUpTo most_records e rva_map m f rva code g x → StepsInFunction e rva_map m f rva code g x
of_all_room e rva_map m f rva code g x h = grind arith

-- a step that is passed on
pub of_left : (e : ExceptionView) (rva_map : ℕ → Option ℕ) (m : ℕ → Option ℕ) (f : RuntimeFunction) (rva : ℕ) (code : List ℕ) (g : Registers) (o : Option (Result (Registers × Bool) FrameError)) (left x : Result (Registers × Bool) FrameError) → o ≡ Some left → x ≡ left →
    StepsInFunction e rva_map m f rva code g (Ok o) → StepsInFunction e rva_map m f rva code g (Ok (Some x))
of_left e rva_map m f rva code g o left x is same steps = grind arith

pub of_none : (e : ExceptionView) (rva_map : ℕ → Option ℕ) (m : ℕ → Option ℕ) (f : RuntimeFunction) (rva : ℕ) (code : List ℕ) (g : Registers) (o : Option (Result (Registers × Bool) FrameError)) → o ≡ None →
    StepsInFunction e rva_map m f rva code g (Ok o) → StepsInFunction e rva_map m f rva code g (Ok None)
of_none e rva_map m f rva code g o is steps = grind arith
