-- Steps by plain records.
use Rattle.std.specs.Prelude.{IfSome, if◌then◌else◌, nat_lt, nat_le, slice_index}
use Rattle.std.proofs.Common.{◌≡◌, ℕ, ◌+◌, ◌-◌, ◌*◌, ◌%◌, ◌/◌, ◌≤◌, Bool, true, false, ◌&&◌, ◌==◌, inl, inr, List, [], ◌∷◌, length, drop, get_or, Option, Some, None, Ok, Err, refl, sym, ◌∙◌, subst, arith}
use Rattle.std.proofs.lemmas.Bool.Decides.{nat_tests}
use Rattle.pe_core.specs.Bytes.{le}
use Rattle.pe_unwind.proofs.SpellingLengths.{starts_4, word_at_2}
use Rattle.pe_unwind.specs.CodeStream.{AreItems, with_left}
use Rattle.pe_unwind.specs.ExceptionTable.{ExceptionView}
use Rattle.pe_unwind.specs.Links.{links_with}
use Rattle.pe_unwind.specs.UnwindCodes.{integer}
use Rattle.pe_unwind.specs.UnwindRecord.{UnwindInfoView, code_stream}
use Rattle.pe_unwind.specs.Unwinding.{Unwinds}
use Rattle.pe_unwind.specs.declared.function_table.RuntimeFunction.{RuntimeFunction}
use Rattle.pe_unwind.specs.declared.unwind_code.StackFrameOffset.TheVariants.{RSP}
use Rattle.pe_unwind.specs.declared.unwind_code.UnwindCode.{UnwindCode}
use Rattle.pe_unwind.specs.declared.unwind_code.UnwindOperation.{UnwindOperation}
use Rattle.pe_unwind.specs.declared.unwind_code.UnwindOperation.TheVariants.{SaveNonVolatile, SetFPRegister}
use Rattle.pe_frame.specs.FunctionSteps.{StepsInFunction}
use Rattle.pe_frame.specs.Jumps.{StepsInImage}
use Rattle.pe_frame.specs.PlainRecords.{IsPlain, Returns, plain_stream}
use Rattle.pe_frame.specs.Steps.{Enters, UndoesFunction, UndoesRecords, frame_register_in, limit_of}
use Rattle.pe_frame.specs.Survey.{IsExpectedBase, UndoesFirst, nothing_known}
use Rattle.pe_frame.specs.Undoing.{FrameRegister, any_sets_frame_register, frame_base_of, put_rip, ran, stack_pointer, undone}
use Rattle.pe_frame.specs.declared.error.FrameError.TheVariants.{Operation}
use Rattle.pe_frame.specs.declared.registers.Registers.{Registers}
use Rattle.pe_frame.proofs.FrequentCodes.{all_first, plain}
use Rattle.pe_frame.proofs.FunctionSteps.{of_one_record}
use Rattle.pe_frame.proofs.NoCode.{no_epilog}
use Rattle.pe_frame.proofs.Records.{enters_at_once}
use Rattle.pe_frame.proofs.Streams.{undone_more}

-- ---- codes

saved_words : (b : List ℕ) → 4 ≤ length b → slice_index b 1 % 16 ≡ 4 → IsPlain b (SaveNonVolatile (integer (slice_index b 1 / 16)) (RSP ((get_or b 2 0 + 256 * get_or b 3 0) * 8))) 4
saved_words b some op = (some, λ v. starts_4 v 0 b _ some (inr (inl (op, refl))), refl, refl)

pub saved : (b : List ℕ) → 4 ≤ length b → slice_index b 1 % 16 ≡ 4 → IsPlain b (SaveNonVolatile (integer (slice_index b 1 / 16)) (RSP (le b 2 2 * 8))) 4
saved b some op = subst (λ (n : ℕ). IsPlain b (SaveNonVolatile (integer (slice_index b 1 / 16)) (RSP (n * 8))) 4) (sym (word_at_2 b)) (saved_words b some op)

-- one code more
pub one_more : (m : ℕ → Option ℕ) (base v : ℕ) (codes b left : List ℕ) (o : UnwindOperation) (n : ℕ) (g h k : Registers) →
    UndoesFirst m base None (plain_stream v codes) (plain_stream v b) g (Ok h) → IsPlain b o n → left ≡ drop n b → undone m base o h ≡ Ok k → UndoesFirst m base None (plain_stream v codes) (plain_stream v left) g (Ok k)
one_more m base v codes b left o n g h k first is at e rest are =
    let code : UnwindCode = record { code_offset = slice_index b 0; operation = o } in
    let here : AreItems (plain_stream v (drop n b)) rest = subst (λ (x : List ℕ). AreItems (plain_stream v x) rest) at are in
    let all = first (Ok code ∷ rest) (n, is.1 v, here) in
    (all.0, all.1, all.2 ∙ undone_more m base None nothing_known nothing_known (Ok h) (Ok k) code rest (plain code is.2 is.3) (sym e))

-- ---- the step

base_by : (f : FrameRegister) (g : Registers) (sets : Bool) → f.register ≡ 0 →
    frame_base_of f sets sets g ≡ (if sets && f.register == 0 then Err (Operation SetFPRegister) else Ok (stack_pointer g))
base_by f g true none = rw none refl
base_by f g false none = rw none refl

-- without a frame register saves count from the stack pointer
expected : (i : UnwindInfoView) (g : Registers) → (i.frame_register).0 ≡ 0 → IsExpectedBase None (frame_register_in i) g (stack_pointer g)
expected i g none codes = base_by (frame_register_in i) g (any_sets_frame_register (ran None codes)) none

entered : (m : ℕ → Option ℕ) (i : UnwindInfoView) (g h : Registers) → (i.frame_register).0 ≡ 0 → UndoesFirst m (stack_pointer g) None (code_stream i) (with_left (code_stream i) []) g (Ok h) → Enters m None i g (Ok (h, false))
entered m i g h none first =
    enters_at_once m None i g (stack_pointer g) (Ok (nothing_known, Ok h)) (Ok (h, false)) (expected i g none) (all_first m (stack_pointer g) None i [] g (Ok h) first refl) refl

undone_record : (m : ℕ → Option ℕ) (i : UnwindInfoView) (offset : ℕ) (g h : Registers) → i.size_of_prolog ≤ offset → Enters m None i g (Ok (h, false)) → UndoesRecords m (i ∷ []) (limit_of (i ∷ []) offset) false g (Ok (h, false))
undone_record m i offset g h after entry =
    let limit : nat_le i.size_of_prolog offset ≡ true = grind (arith, nat_tests) in
    rw limit (Ok (h, false), entry, refl)

undone_function : (m : ℕ → Option ℕ) (i : UnwindInfoView) (offset rip : ℕ) (g h u : Registers) → UndoesRecords m (i ∷ []) (limit_of (i ∷ []) offset) false g (Ok (h, false)) → Returns m (stack_pointer g) rip h u → UndoesFunction m (i ∷ []) offset g (Ok (put_rip u rip, false))
undone_function m i offset rip g h u records pops =
    let rises = pops.rises in
    let lt : nat_lt (stack_pointer g) (stack_pointer u) ≡ true = grind (arith, nat_tests) in
    (Ok (h, false), records, rw (pops.word, pops.up, lt) refl)

-- the codes of such a record, read by their bytes alone
read_plain : (m : ℕ → Option ℕ) (i : UnwindInfoView) (codes : List ℕ) (g h : Registers) → (i.frame_register).0 ≡ 0 → codes ≡ i.codes → UndoesFirst m (stack_pointer g) None (plain_stream i.version codes) (plain_stream i.version []) g (Ok h) → UndoesFirst m (stack_pointer g) None (code_stream i) (with_left (code_stream i) []) g (Ok h)
read_plain m i codes g h none same first =
    let all = subst (λ (b : List ℕ). UndoesFirst m (stack_pointer g) None (plain_stream i.version b) (plain_stream i.version []) g (Ok h)) same first in
    subst (λ (f : ℕ). UndoesFirst m (stack_pointer g) None (record { content = i.codes; version = i.version; frame = f }) (record { content = []; version = i.version; frame = f }) g (Ok h)) (sym none) all

stepped : (e : ExceptionView) (rva_map m : ℕ → Option ℕ) (f : RuntimeFunction) (i : UnwindInfoView) (rva rip : ℕ) (g h u : Registers) →
    Unwinds (links_with e rva_map) e.content f.unwind_info_address (Ok i) → i.chained_info ≡ None → (i.frame_register).0 ≡ 0 → i.size_of_prolog ≤ rva - f.begin_address →
    UndoesFirst m (stack_pointer g) None (code_stream i) (with_left (code_stream i) []) g (Ok h) → Returns m (stack_pointer g) rip h u → StepsInFunction e rva_map m f rva [] g (Ok (Some (Ok (put_rip u rip, false))))
stepped e rva_map m f i rva rip g h u unwinds alone none after first pops =
    let records = undone_record m i (rva - f.begin_address) g h after (entered m i g h none first) in
    let step = undone_function m i (rva - f.begin_address) rip g h u records pops in
    let image : StepsInImage e rva_map m (i ∷ []) f.begin_address rva [] g (Ok (put_rip u rip, false)) = rw (no_epilog (i ∷ []) f.begin_address rva) step in
    (i ∷ [], of_one_record (links_with e rva_map) e.content f i unwinds alone, image)

-- the step, if the return address is popped
pub stepped_if : (e : ExceptionView) (rva_map m : ℕ → Option ℕ) (f : RuntimeFunction) (i : UnwindInfoView) (rva : ℕ) (codes : List ℕ) (g h u : Registers) (found : Option ℕ) →
    Unwinds (links_with e rva_map) e.content f.unwind_info_address (Ok i) → i.chained_info ≡ None → (i.frame_register).0 ≡ 0 → i.size_of_prolog ≤ rva - f.begin_address → codes ≡ i.codes →
    UndoesFirst m (stack_pointer g) None (plain_stream i.version codes) (plain_stream i.version []) g (Ok h) → IfSome found (λ rip. Returns m (stack_pointer g) rip h u) →
    IfSome found (λ rip. StepsInFunction e rva_map m f rva [] g (Ok (Some (Ok (put_rip u rip, false)))))
stepped_if e rva_map m f i rva codes g h u None unwinds alone none after same first pops = pops
stepped_if e rva_map m f i rva codes g h u (Some rip) unwinds alone none after same first pops =
    stepped e rva_map m f i rva rip g h u unwinds alone none after (read_plain m i codes g h none same first) pops
