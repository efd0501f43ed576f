-- The functions of ARM64 images, and how their frames are unwound.
use Rattle.std.specs.Prelude.{◌≡◌, ℕ, ◌+◌, ◌*◌, ◌%◌, ◌<◌, ◌==◌, nat_le, List, [], ◌∷◌, length, Option, Some, None, Result, Ok, Err, if◌then◌else◌}
use Rattle.pe_core.specs.Bytes.{le}
use Rattle.pe_core.specs.Refusals.{Refusal, Arm64Stream, Arm64Cut, ExceptionSize, kind_of, outcome, ◌>>=◌}
use Rattle.pe_core.specs.declared.error.Error.{Error}
use Rattle.pe_core.specs.declared.section_table.SectionTable.{SectionTable}
use Rattle.pe_unwind.specs.Arm64Encoding.{bit, encoding, StartsWithArm64Code, StartsWithNoArm64Code}
use Rattle.pe_unwind.specs.Arm64Functions.{is_packed, arm64_function_of, arm64_functions}
use Rattle.pe_unwind.specs.Arm64Lookup.{FindsArm64, length_by}
use Rattle.pe_unwind.specs.Arm64Record.{Arm64HandlerView, Arm64InfoView, info_at, scopes_offset}
use Rattle.pe_unwind.specs.Arm64Tiling.{stream_at}
use Rattle.pe_unwind.specs.Arm64Words.{bits, has_epilog}
use Rattle.pe_unwind.specs.Arm64Unwinding.{offset_of_function, record_offset_by}
use Rattle.pe_unwind.specs.ExceptionTable.{ExceptionView, exception_at, exception_at_offset}
use Rattle.pe_unwind.specs.declared.arm64.codes.Arm64CustomStackCase.{Arm64CustomStackCase}
use Rattle.pe_unwind.specs.declared.arm64.codes.Arm64CustomStackCase.TheVariants.{TrapFrame, MachineFrame, Context, EcContext, ClearUnwoundToCall}
use Rattle.pe_unwind.specs.declared.arm64.codes.Arm64UnwindCode.{Arm64UnwindCode}
use Rattle.pe_unwind.specs.declared.arm64.codes.Arm64UnwindCode.TheVariants.{AllocSmall, SaveR19R20Preindexed, SaveFpLr, SaveFpLrPreindexed, AllocMedium, SaveRegPair, SaveRegPairPreindexed, SaveReg, SaveRegPreindexed, SaveLrPair, SaveFRegPair, SaveFRegPairPreindexed, SaveFReg, SaveFRegPreindexed, AllocZ, AllocLarge, SetFp, AddFp, Nop, End, EndC, SaveNext, SaveAnyReg, SaveZReg, SavePReg, CustomStack, PacSignLr, Reserved}
use Rattle.pe_unwind.specs.declared.arm64.codes.Arm64UnwindCodeData.{Arm64UnwindCodeData}
use Rattle.pe_unwind.specs.declared.arm64.function.Arm64RuntimeFunction.{Arm64RuntimeFunction}
use Rattle.calls_base.specs.HandsOut.{HandsOutIf}
use Rattle.calls_base.specs.Images.{exception_directory}
use Rattle.calls_base.specs.Modes.{options_of}
use Rattle.calls_base.specs.Ranges.{no_bytes, range_after, last_range, bytes_at}
use Rattle.calls_unwind.specs.declared.arm64.codes.Arm64Code.{Arm64Code}
use Rattle.calls_unwind.specs.declared.arm64.codes.Arm64CodeWalk.{Arm64CodeWalk}
use Rattle.calls_unwind.specs.declared.arm64.functions.Arm64Packed.{Arm64Packed}
use Rattle.calls_unwind.specs.declared.arm64.records.Arm64Record.{Arm64Record}
use Rattle.calls_unwind.specs.declared.arm64.records.Arm64Scope.{Arm64Scope}
use Rattle.calls_base.specs.declared.image.Image.{Image}
use Rattle.calls_base.specs.declared.ranges.Range.{Range}

-- ---- function tables

-- the entry of a table with this index
abbrev pub arm64_function_in : List ℕ → Range → ℕ → Result Arm64RuntimeFunction Refusal
arm64_function_in b table index = bytes_at b table >>= λ entries. arm64_function_of entries index

-- the result of a lookup of an RVA in these entries, or what refuses the table
abbrev pub LocatesArm64In : (Arm64RuntimeFunction → Result ℕ Refusal) → Result (List ℕ) Refusal → ℕ → Result (Option Arm64RuntimeFunction) Refusal → Type 0
LocatesArm64In length_of (Err refusal) a answer = answer ≡ Err refusal
LocatesArm64In length_of (Ok entries) a answer = FindsArm64 length_of (arm64_functions entries) a answer

-- what a call for a lookup returns
abbrev pub HandsOutArm64Found : (ℕ → Option ℕ) → List ℕ → Range → ℕ → ℕ → Arm64RuntimeFunction → Arm64RuntimeFunction → Type 0
HandsOutArm64Found offset b table a number old new =
    (answer : Result (Option Arm64RuntimeFunction) Refusal) × LocatesArm64In (length_by offset b) (bytes_at b table) a answer × HandsOutIf number old new answer

-- the fields of an entry's unwind data, read as packed
abbrev pub packed_fields : Arm64RuntimeFunction → Arm64Packed
packed_fields f = record {
  flag = bits f.unwind_data 0 2;
  function_length = 4 * bits f.unwind_data 2 11;
  frame_size = 16 * bits f.unwind_data 23 9;
  reg_f = bits f.unwind_data 13 3;
  reg_i = bits f.unwind_data 16 4;
  h = bit (bits f.unwind_data 20 1 == 1);
  cr = bits f.unwind_data 21 2;
  is_packed = bit (is_packed f);
}

-- ---- unwind records

-- the range of a handler's data, empty without a handler
abbrev pub arm64_handler_range : List ℕ → Option Arm64HandlerView → Range
arm64_handler_range b None = no_bytes
arm64_handler_range b (Some h) = last_range b h.bytes

-- the RVA of a handler, 0 without one
abbrev pub arm64_handler_address : Option Arm64HandlerView → ℕ
arm64_handler_address None = 0
arm64_handler_address (Some h) = h.rva

-- 1 with a handler, else 0
abbrev pub has_arm64_handler : Option Arm64HandlerView → ℕ
has_arm64_handler None = 0
has_arm64_handler (Some h) = 1

-- the field for the count of scopes, of the extension word if there is one, else of the header
abbrev pub first_count : ℕ → Option ℕ → ℕ
first_count header None = bits header 22 5
first_count header (Some extension) = bits extension 0 16

-- the record at offset p, as numbers: its scopes follow its words, and its codes follow the scopes
abbrev pub flat_info : List ℕ → ℕ → Arm64InfoView → Arm64Record
flat_info b p i = record {
  scopes = record { offset = scopes_offset p i.header; length = length i.scopes };
  codes = record { offset = scopes_offset p i.header + length i.scopes; length = length i.codes };
  handler_data = arm64_handler_range b i.handler;
  handler = arm64_handler_address i.handler;
  has_handler = has_arm64_handler i.handler;
  function_length = 4 * bits i.header 0 18;
  epilog_in_header = bit (has_epilog i.header);
  epilog_start = if has_epilog i.header then first_count i.header i.extension else 0;
  version = bits i.header 18 2;
}

-- the record at offset p as numbers, or what refuses it
abbrev pub flat_info_at : List ℕ → ℕ → Result Arm64Record Refusal
flat_info_at b p = info_at b p >>= λ i. Ok (flat_info b p i)

-- the record at an offset that may be refused; none without an offset
abbrev pub info_in : List ℕ → Option (Result ℕ Refusal) → Result (Option Arm64Record) Refusal
info_in b None = Ok None
info_in b (Some offset) = offset >>= λ p. flat_info_at b p >>= λ r. Ok (Some r)

-- the exception data of an image, with entries of 8 bytes, by a map of RVAs; or what refuses it
abbrev pub arm64_exceptions : (ℕ → Option ℕ) → List ℕ → Image → Result ExceptionView Refusal
arm64_exceptions offset b image =
    let d = exception_directory image in
    if d.size % 8 == 0 then exception_at_offset b d.size image.file_alignment (offset d.virtual_address) else Err ExceptionSize

-- the record of a function, or none where its unwind data is packed
abbrev pub arm64_record_of : (ℕ → Option ℕ) → List ℕ → Image → Arm64RuntimeFunction → Result (Option Arm64Record) Refusal
arm64_record_of offset b image f = arm64_exceptions offset b image >>= λ v. info_in b (record_offset_by offset f)

-- the same as pe_unwind finds it, by an image's sections. The law `arm64_records_are_those_of_the_image` cites it
abbrev pub arm64_record_in : List ℕ → Image → List SectionTable → Arm64RuntimeFunction → Result (Option Arm64Record) Refusal
arm64_record_in b image sections f =
    exception_at 8 b (exception_directory image) sections image.file_alignment (options_of image.mode)
    >>= λ v. info_in b (offset_of_function v sections (options_of image.mode) f)

-- ---- epilog scopes

-- an epilog scope as numbers
abbrev pub flat_scope : ℕ → Arm64Scope
flat_scope word = record {
  start_offset = 4 * bits word 0 18;
  start_index = bits word 22 10;
  reserved = bits word 18 4;
  word = word;
}

-- the epilog scope of 4 bytes at offset p
abbrev pub flat_scope_at : List ℕ → ℕ → Arm64Scope
flat_scope_at b p = flat_scope (le b p 4)

-- ---- unwind codes

-- the numbers of the cases of a custom stack
abbrev pub case_number : Arm64CustomStackCase → ℕ
case_number TrapFrame = 0
case_number MachineFrame = 1
case_number Context = 2
case_number EcContext = 3
case_number ClearUnwoundToCall = 4

-- kind, operand, value and flags of a code
abbrev pub numbers_of : Arm64UnwindCode → ℕ × ℕ × ℕ × ℕ
numbers_of (AllocSmall size) = (0, 0, size, 0)
numbers_of (SaveR19R20Preindexed offset) = (1, 0, offset, 0)
numbers_of (SaveFpLr offset) = (2, 0, offset, 0)
numbers_of (SaveFpLrPreindexed offset) = (3, 0, offset, 0)
numbers_of (AllocMedium size) = (4, 0, size, 0)
numbers_of (SaveRegPair register offset) = (5, register, offset, 0)
numbers_of (SaveRegPairPreindexed register offset) = (6, register, offset, 0)
numbers_of (SaveReg register offset) = (7, register, offset, 0)
numbers_of (SaveRegPreindexed register offset) = (8, register, offset, 0)
numbers_of (SaveLrPair register offset) = (9, register, offset, 0)
numbers_of (SaveFRegPair register offset) = (10, register, offset, 0)
numbers_of (SaveFRegPairPreindexed register offset) = (11, register, offset, 0)
numbers_of (SaveFReg register offset) = (12, register, offset, 0)
numbers_of (SaveFRegPreindexed register offset) = (13, register, offset, 0)
numbers_of (AllocZ count) = (14, count, 0, 0)
numbers_of (AllocLarge size) = (15, 0, size, 0)
numbers_of SetFp = (16, 0, 0, 0)
numbers_of (AddFp imm8 offset) = (17, imm8, offset, 0)
numbers_of Nop = (18, 0, 0, 0)
numbers_of End = (19, 0, 0, 0)
numbers_of EndC = (20, 0, 0, 0)
numbers_of SaveNext = (21, 0, 0, 0)
numbers_of (SaveAnyReg kind pair preindexed register offset) = (22, register, offset, bit pair + 2 * bit preindexed + 4 * kind)
numbers_of (SaveZReg register offset) = (23, register, offset, 0)
numbers_of (SavePReg register offset) = (24, register, offset, 0)
numbers_of (CustomStack what) = (25, case_number what, 0, 0)
numbers_of PacSignLr = (26, 0, 0, 0)
numbers_of (Reserved opcode value n) = (27, opcode, value, 0)

-- a code at this offset with this length, by its kind, operand, value and flags
abbrev pub by_numbers : ℕ → ℕ → (ℕ × ℕ × ℕ × ℕ) → Arm64Code
by_numbers offset count n = record { offset = offset; length = count; kind = n.0; operand = n.1; value = n.2; flags = n.3 }

-- a code at this offset, as numbers
abbrev pub flat_arm64 : ℕ → Arm64UnwindCode → Arm64Code
flat_arm64 offset c = by_numbers offset (length (encoding c)) (numbers_of c)

-- a walk after n bytes of codes
abbrev pub moved : Arm64CodeWalk → ℕ → Arm64CodeWalk
moved w n = record { left = range_after w.left n; offset = w.offset + n }

-- a walk that is over
abbrev pub over_arm64 : Arm64CodeWalk
over_arm64 = record { left = no_bytes; offset = 0 }

-- a walk over the codes of these bytes from a start on; or why they can be no stream, or cannot be read from there
abbrev pub arm64_walk_at : List ℕ → Range → ℕ → Result Arm64CodeWalk Refusal
arm64_walk_at b codes start = bytes_at b codes >>= λ d. stream_at d start >>= λ s. Ok (record { left = range_after codes start; offset = start })

-- the bytes that a walk has left, if together with those before them they can be a stream
abbrev pub left_of_stream : List ℕ → Arm64CodeWalk → Result (List ℕ) Refusal
left_of_stream b w =
    bytes_at b w.left
    >>= λ d. outcome (((w.offset + w.left.length) % 4 == 0, Arm64Stream) ∷ (nat_le (w.offset + w.left.length) 4294967292, Arm64Stream) ∷ []) d

-- one step over these bytes: their first code, and the walk after it; or a truncated code, and the walk is over
abbrev pub StepsOverArm64 : List ℕ → Arm64CodeWalk → Result (Option Arm64Code) Refusal → Arm64CodeWalk → Type 0
StepsOverArm64 bytes old (Ok None) new = (bytes ≡ []) × (new ≡ old)
StepsOverArm64 bytes old (Ok (Some code)) new =
    (c : Arm64UnwindCode) × StartsWithArm64Code bytes c × (code ≡ flat_arm64 old.offset c) × (new ≡ moved old (length (encoding c)))
StepsOverArm64 bytes old (Err refusal) new = (refusal ≡ Arm64Cut) × (0 < length bytes) × StartsWithNoArm64Code bytes × (new ≡ over_arm64)

-- a step of a walk: where the bytes that are left can be no stream, it is refused and the walk is over
abbrev pub WalksInArm64 : Result (List ℕ) Refusal → Arm64CodeWalk → Result (Option Arm64Code) Refusal → Arm64CodeWalk → Type 0
WalksInArm64 (Ok bytes) old answer new = StepsOverArm64 bytes old answer new
WalksInArm64 (Err refusal) old answer new = (answer ≡ Err refusal) × (new ≡ over_arm64)

-- a step of a walk
abbrev pub StepsArm64Codes : List ℕ → Arm64CodeWalk → Result (Option Arm64Code) Refusal → Arm64CodeWalk → Type 0
StepsArm64Codes b old answer new = WalksInArm64 (left_of_stream b old) old answer new

-- an item of a stream of codes, as numbers
abbrev pub flat_arm64_item : Result Arm64UnwindCodeData Error → Result Arm64Code Refusal
flat_arm64_item (Ok item) = Ok (flat_arm64 item.offset item.code)
flat_arm64_item (Err e) = Err (kind_of e)

-- what a list with room for one code returns, and the walk after it
abbrev pub AnswersArm64Code : List ℕ → Arm64CodeWalk → Arm64CodeWalk → ℕ → Arm64Code → Arm64Code → Type 0
AnswersArm64Code b old_walk new_walk number old new =
    (answer : Result (Option Arm64Code) Refusal) × StepsArm64Codes b old_walk answer new_walk × HandsOutIf number old new answer
