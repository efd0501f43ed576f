-- The functions of x64 images, and how their frames are unwound.
use Rattle.std.specs.Prelude.{◌≡◌, ℕ, ◌+◌, ◌-◌, ◌==◌, ◌≤◌, length, drop, List, [], ◌∷◌, Option, Some, None, Result, Ok, Err, if◌then◌else◌, Bool, true, false, ◌⊎◌, ◌<◌, ◌++◌}
use Rattle.std.specs.Option.{option_map}
use Rattle.pe_core.specs.Refusals.{Refusal, kind_of, outcome, ◌>>=◌}
use Rattle.pe_core.specs.declared.error.Error.{Error}
use Rattle.pe_core.specs.declared.header.TheConstants.{COFF_MACHINE_ARM64, COFF_MACHINE_X86_64}
use Rattle.pe_core.specs.declared.section_table.SectionTable.{SectionTable}
use Rattle.pe_unwind.specs.CodeStream.{CodeStream, ReturnsCode}
use Rattle.pe_unwind.specs.ExceptionTable.{ExceptionView, exception_at, table_range, function_of}
use Rattle.pe_unwind.specs.FunctionTable.{functions, Finds}
use Rattle.pe_unwind.specs.Links.{Table, linked_table}
use Rattle.pe_unwind.specs.Offsets.{handler_data_of}
use Rattle.pe_unwind.specs.UnwindRecord.{HandlerView, Exception, Termination, UnwindInfoView, unwind_tests, unwind_record, scope_table_size}
use Rattle.pe_unwind.specs.Unwinding.{FindsRecord}
use Rattle.pe_unwind.specs.declared.function_table.RuntimeFunction.{RuntimeFunction}
use Rattle.pe_unwind.specs.declared.register.Register.{Register}
use Rattle.pe_unwind.specs.declared.unwind_code.StackFrameOffset.{StackFrameOffset}
use Rattle.pe_unwind.specs.declared.unwind_code.StackFrameOffset.TheVariants.{RSP, FP}
use Rattle.pe_unwind.specs.declared.unwind_code.UnwindCode.{UnwindCode}
use Rattle.pe_unwind.specs.declared.unwind_code.UnwindOperation.{UnwindOperation}
use Rattle.pe_unwind.specs.declared.unwind_code.UnwindOperation.TheVariants.{PushNonVolatile, Alloc, SetFPRegister, SaveNonVolatile, SaveXMM, Epilog, SaveXMM128, PushMachineFrame, Noop}
use Rattle.pe_frame.specs.Undoing.{bytes_above}
use Rattle.calls_base.specs.Ranges.{one_if_some, no_bytes, range_of, last_range, bytes_at}
use Rattle.calls_base.specs.Images.{exception_directory, is_absent}
use Rattle.calls_base.specs.Modes.{options_of}
use Rattle.calls_base.specs.HandsOut.{HandsOut, HandsOutIf, result_number}
use Rattle.calls_base.specs.declared.image.Image.{Image}
use Rattle.calls_base.specs.declared.ranges.Range.{Range}
use Rattle.calls_unwind.specs.declared.unwinding.Code.{Code}
use Rattle.calls_unwind.specs.declared.unwinding.CodeWalk.{CodeWalk}
use Rattle.calls_unwind.specs.declared.unwinding.UnwindRecord.{UnwindRecord}
use Rattle.calls_base.specs.Lists.{Numbered, Takes}
use Rattle.calls_base.specs.declared.results.TheConstants.{DONE, ROOM}

-- ---- function tables

-- the range of the function table of an image for this machine, of entries of this width, if it has one; or what
-- refuses it
unfoldable pub exception_table_at : ℕ → ℕ → List ℕ → Image → List SectionTable → ℕ → Result (Option Range) Refusal
exception_table_at machine width b image sections mode =
    if image.machine == machine
    then (if is_absent (exception_directory image) then Ok None
    else exception_at width b (exception_directory image) sections image.file_alignment (options_of mode) >>= λ v. Ok (Some (range_of (table_range v))))
    else Ok None

-- the same by the number of the machine: entries of 12 bytes on x64, of 8 on ARM64; there is none of another machine
abbrev pub machine_table_at : ℕ → List ℕ → Image → List SectionTable → ℕ → Result (Option Range) Refusal
machine_table_at machine b image sections mode =
    if machine == COFF_MACHINE_X86_64 then exception_table_at COFF_MACHINE_X86_64 12 b image sections mode
    else if machine == COFF_MACHINE_ARM64 then exception_table_at COFF_MACHINE_ARM64 8 b image sections mode
    else Ok None

-- the result of a lookup of an RVA in these entries, or what refuses the table
abbrev pub LocatesIn : Result (List ℕ) Refusal → ℕ → Result (Option RuntimeFunction) Refusal → Type 0
LocatesIn (Err refusal) a answer = answer ≡ Err refusal
LocatesIn (Ok entries) a (Ok found) = Finds (functions entries) a found
LocatesIn (Ok entries) a (Err refusal) = ⊥

-- what a call for a lookup returns
abbrev pub HandsOutFound : List ℕ → Range → ℕ → ℕ → RuntimeFunction → RuntimeFunction → Type 0
HandsOutFound b table a number old new =
    (answer : Result (Option RuntimeFunction) Refusal) × LocatesIn (bytes_at b table) a answer × HandsOutIf number old new answer

-- the entry of a table with this index
abbrev pub function_in : List ℕ → Range → ℕ → Result RuntimeFunction Refusal
function_in b table index = bytes_at b table >>= λ entries. function_of entries index

-- ---- unwind records

-- a function, or zeros without one
abbrev pub or_no_function : Option RuntimeFunction → RuntimeFunction
or_no_function None = record { begin_address = 0; end_address = 0; unwind_info_address = 0 }
or_no_function (Some f) = f

-- 0 without a handler, 1 for an exception handler, 2 for a termination handler
abbrev pub handler_kind : Option HandlerView → ℕ
handler_kind None = 0
handler_kind (Some (Exception address d)) = 1
handler_kind (Some (Termination address d)) = 2

-- the RVA of a handler, 0 without one
abbrev pub handler_address : Option HandlerView → ℕ
handler_address None = 0
handler_address (Some (Exception address d)) = address
handler_address (Some (Termination address d)) = address

-- the range of a handler's data, empty without a handler
abbrev pub handler_range : List ℕ → Option HandlerView → Range
handler_range b None = no_bytes
handler_range b (Some h) = last_range b (handler_data_of h)

abbrev pub six_zeros : List ℕ
six_zeros = 0 ∷ 0 ∷ 0 ∷ 0 ∷ 0 ∷ 0 ∷ []

-- the record at offset p, as numbers: its codes follow four bytes
abbrev pub flat_record : List ℕ → ℕ → UnwindInfoView → UnwindRecord
flat_record b p i = record {
  codes = record {
    left = record { offset = p + 4; length = length i.codes };
    version = i.version;
    frame_register = (i.frame_register).0;
    spare = six_zeros;
  };
  handler_data = handler_range b i.handler;
  handler = handler_address i.handler;
  chained = or_no_function i.chained_info;
  is_chained = one_if_some i.chained_info;
  frame_register_offset = i.frame_register_offset;
  size_of_prolog = i.size_of_prolog;
  handler_kind = handler_kind i.handler;
  spare = six_zeros;
}

-- the record at offset p as numbers, or what refuses it
abbrev pub flat_record_at : List ℕ → ℕ → Result UnwindRecord Refusal
flat_record_at b p = outcome (unwind_tests b p) (unwind_record b p) >>= λ i. Ok (flat_record b p i)

-- the exception data of an image, with entries of 12 bytes, or what refuses it
abbrev pub image_exceptions : List ℕ → Image → List SectionTable → ℕ → Result ExceptionView Refusal
image_exceptions b image sections mode = exception_at 12 b (exception_directory image) sections image.file_alignment (options_of mode)

-- the links between the entries of the function table at a range, by a map of RVAs; or what refuses the range
abbrev pub links_at : (ℕ → Option ℕ) → List ℕ → Range → Result Table Refusal
links_at offset b table = bytes_at b table >>= λ entries. Ok (linked_table entries table.offset offset)

-- the file offset of the record of an unwind RVA by the links of a table, or what refuses the table
abbrev pub FindsOffset : Result Table Refusal → ℕ → Result ℕ Refusal → Type 0
FindsOffset (Err refusal) address answer = answer ≡ Err refusal
FindsOffset (Ok table) address answer = FindsRecord table address answer

-- the result of reading the record of an unwind RVA: the record at its offset, or what refuses it
abbrev pub FollowsToRecord : List ℕ → Result Table Refusal → ℕ → Result UnwindRecord Refusal → Type 0
FollowsToRecord b links address answer =
    (offset : Result ℕ Refusal) × FindsOffset links address offset × (answer ≡ (offset >>= flat_record_at b))

-- what a call for the record of an unwind RVA returns
abbrev pub HandsOutRecord : List ℕ → Result Table Refusal → ℕ → ℕ → UnwindRecord → UnwindRecord → Type 0
HandsOutRecord b links address number old new =
    (answer : Result UnwindRecord Refusal) × FollowsToRecord b links address answer × HandsOut number old new answer

-- ---- unwind codes

-- 1 for an offset from the frame register, 0 for one from the stack pointer
abbrev pub from_frame : StackFrameOffset → ℕ
from_frame (RSP n) = 0
from_frame (FP n) = 1

-- a code that saves a register
abbrev pub saving : ℕ → ℕ → Register → StackFrameOffset → Code
saving code_offset operation register offset =
    record { code_offset = code_offset; operation = operation; operand = register.0; from_frame = from_frame offset; value = bytes_above offset }

-- a code of another operation
abbrev pub plain : ℕ → ℕ → ℕ → ℕ → Code
plain code_offset operation operand value = record { code_offset = code_offset; operation = operation; operand = operand; from_frame = 0; value = value }

-- an operation as numbers
abbrev pub flat_operation : ℕ → UnwindOperation → Code
flat_operation code_offset (PushNonVolatile register) = plain code_offset 0 register.0 0
flat_operation code_offset (Alloc size) = plain code_offset 1 0 size
flat_operation code_offset SetFPRegister = plain code_offset 2 0 0
flat_operation code_offset (SaveNonVolatile register offset) = saving code_offset 3 register offset
flat_operation code_offset (SaveXMM register offset) = saving code_offset 4 register offset
flat_operation code_offset (Epilog low high) = plain code_offset 5 high low
flat_operation code_offset (SaveXMM128 register offset) = saving code_offset 6 register offset
flat_operation code_offset (PushMachineFrame has_code) = plain code_offset 7 (if has_code then 1 else 0) 0
flat_operation code_offset Noop = plain code_offset 8 0 0

-- a code as numbers
abbrev pub flat : UnwindCode → Code
flat c = flat_operation c.code_offset c.operation

-- the stream of the code bytes that a walk has left
abbrev pub code_stream_at : List ℕ → CodeWalk → CodeStream
code_stream_at bytes w = record { content = bytes; version = w.version; frame = w.frame_register }

-- the bytes that a walk has left, in the bytes that an older walk had left
abbrev pub left_of : List ℕ → CodeWalk → CodeWalk → List ℕ
left_of bytes old new = drop (length bytes - new.left.length) bytes

-- one step over these bytes: what the stream returns, and a walk with the same end
pub record StepsOver (bytes : List ℕ) (old : CodeWalk) (answer : Option (Result UnwindCode Error)) (new : CodeWalk) : Type 0 where
  pub code : ReturnsCode (code_stream_at bytes old) answer (code_stream_at (left_of bytes old new) new)
  pub shorter : new.left.length ≤ old.left.length
  pub same_end : new.left.offset + new.left.length ≡ old.left.offset + old.left.length
  pub others : new ≡ record old { left = new.left }

-- a step of a walk over the bytes of its range: where that is not inside the bytes, it is refused and the walk is over
abbrev pub WalksIn : Result (List ℕ) Refusal → CodeWalk → Option (Result UnwindCode Error) → CodeWalk → Type 0
WalksIn (Ok bytes) old answer new = StepsOver bytes old answer new
WalksIn (Err refusal) old None new = ⊥
WalksIn (Err refusal) old (Some (Ok code)) new = ⊥
WalksIn (Err refusal) old (Some (Err e)) new = (kind_of e ≡ refusal) × (new ≡ record old { left = no_bytes })

-- the result of a step, as numbers
abbrev pub flat_answer : Option (Result UnwindCode Error) → Result (Option Code) Refusal
flat_answer None = Ok None
flat_answer (Some (Ok code)) = Ok (Some (flat code))
flat_answer (Some (Err e)) = Err (kind_of e)

-- a step of a walk, by its result as numbers
abbrev pub StepsCodes : List ℕ → CodeWalk → Result (Option Code) Refusal → CodeWalk → Type 0
StepsCodes b old answer new = (given : Option (Result UnwindCode Error)) × WalksIn (bytes_at b old.left) old given new × (answer ≡ flat_answer given)

-- an item of a stream of codes, as numbers
abbrev pub flat_item : Result UnwindCode Error → Result Code Refusal
flat_item (Ok code) = Ok (flat code)
flat_item (Err e) = Err (kind_of e)

-- what a list with room for one code returns, and the walk after it
abbrev pub HandsOutCode : List ℕ → CodeWalk → CodeWalk → ℕ → Code → Code → Type 0
HandsOutCode b old_walk new_walk number old new =
    (answer : Option (Result UnwindCode Error)) × WalksIn (bytes_at b old_walk.left) old_walk answer new_walk × HandsOutIf number old new (flat_answer answer)

-- ---- scope tables

-- the range of the scope table in a handler's data, which follows its count
abbrev pub scopes_at : List ℕ → Range → Result (Option Range) Refusal
scopes_at b r = bytes_at b r >>= λ d. Ok (option_map (λ n. record { offset = r.offset + 4; length = n }) (scope_table_size d))

-- ---- unwind records that are written without what others take. Only contracts of private functions cite it.

-- a walk over the codes of the record at offset p, which have so many bytes
abbrev pub codes_after : ℕ → ℕ → ℕ → ℕ → CodeWalk
codes_after p size version frame = record { left = record { offset = p + 4; length = size }; version = version; frame_register = frame; spare = six_zeros }

-- the record at offset p is written, or nothing is
abbrev pub PutsRecord : List ℕ → ℕ → Bool → UnwindRecord → UnwindRecord → Type 0
PutsRecord b p true old new = flat_record_at b p ≡ Ok new
PutsRecord b p false old new = new ≡ old

-- ---- all codes of a record in one call

-- the codes in some bytes, of a record of this version with this frame register
abbrev pub code_stream : List ℕ → ℕ → ℕ → CodeStream
code_stream b version frame = record { content = b; version = version; frame = frame }

-- a step over them, as callers get it
abbrev pub StepsStream : CodeStream → Result (Option Code) Refusal → CodeStream → Type 0
StepsStream s answer t = (given : Option (Result UnwindCode Error)) × ReturnsCode s given t × (answer ≡ flat_answer given)

-- why a call returns n codes in room for so many, and this number: none are left; there is no room for those that are; or the next
-- one is refused, which has this number
abbrev pub EndsAll : ℕ → ℕ → ℕ → CodeStream → Type 0
EndsAll number n room t =
    ((number ≡ DONE) × (length t.content ≡ 0))
    ⊎ (((number ≡ ROOM) × (n ≡ room) × (0 < length t.content))
    ⊎ ((n < room) × ((next : CodeStream) × Numbered result_number StepsStream t (Err number) next)))

-- what a call returns of all codes: these, one after the other, at the start of the array, and their number
abbrev pub HandsOutAll : CodeStream → ℕ → List Code → List Code → ℕ → Type 0
HandsOutAll s number old new written =
    (codes : List Code) × (left : CodeStream) × Takes (Numbered result_number StepsStream) s codes left × EndsAll number (length codes) (length old) left
    × (new ≡ codes ++ drop (length codes) old) × (written ≡ length codes)
