-- Why the unwind record of an x64 function is refused, or one of its codes, with the numbers of that failure.
use Rattle.std.specs.Prelude.{◌≡◌, ℕ, ◌+◌, ◌-◌, ◌*◌, ◌/◌, ◌%◌, ◌==◌, ◌&&◌, ◌||◌, List, [], ◌∷◌, Option, Some, None, Result, Ok, if◌then◌else◌}
use Rattle.pe_core.specs.Bytes.{holds}
use Rattle.pe_core.specs.Refusals.{Refusal, FunctionCycle, FunctionLink, Short, Unmapped, UnwindCode, UnwindVersion}
use Rattle.pe_unwind.specs.Links.{IsEndless, Reaches, Table, linked_table, next}
use Rattle.pe_unwind.specs.UnwindRecord.{after_codes, count_at, flags_at, handles_exceptions, handles_termination, is_chained}
use Rattle.calls_base.specs.Ranges.{or_zero, bytes_there}
use Rattle.calls_base.specs.FailureNumbers.{failure_by, needed_at, needed_in, no_numbers, number_there, refused, refused_value}
use Rattle.calls_base.specs.HandsOut.{HandsOutIf, result_number}
use Rattle.calls_unwind.specs.Unwinding.{FollowsToRecord, StepsCodes, links_at}
use Rattle.calls_base.specs.declared.numbers.Failure.{Failure}
use Rattle.calls_base.specs.declared.numbers.ErrorNumbers.{ErrorNumbers}
use Rattle.calls_base.specs.declared.ranges.Range.{Range}
use Rattle.calls_failures.specs.declared.steps.unwinding.TheConstants.{UWOP_ALLOC_LARGE, UWOP_EPILOG, UWOP_SAVE_NONVOL, UWOP_SAVE_NONVOL_FAR, UWOP_SAVE_XMM128, UWOP_SAVE_XMM128_FAR, UWOP_SPARE_CODE}
use Rattle.calls_unwind.specs.declared.unwinding.Code.{Code}
use Rattle.calls_unwind.specs.declared.unwinding.CodeWalk.{CodeWalk}
use Rattle.calls_unwind.specs.declared.unwinding.UnwindRecord.{UnwindRecord}

-- ---- codes

-- how many slots of 2 bytes a code has, by the version of its record, its opcode and its operation info
unfoldable pub slots_of_code : ℕ → ℕ → ℕ → ℕ
slots_of_code v op info =
    if op == UWOP_ALLOC_LARGE then (if info == 0 then 2 else 3)
    else if op == UWOP_SAVE_NONVOL || op == UWOP_SAVE_XMM128 || (op == UWOP_EPILOG && v == 1) then 2
    else if op == UWOP_SAVE_NONVOL_FAR || op == UWOP_SAVE_XMM128_FAR || op == UWOP_SPARE_CODE then 3
    else 1

-- how many bytes the code at the start of these needs: its first slot or, where that is there, all of its slots; the opcode is in
-- the low half of the second byte, the operation info in the high half
unfoldable pub code_needs : ℕ → List ℕ → ℕ
code_needs v bytes =
    let second = number_there bytes 1 1 in
    if holds bytes 0 2 then 2 * slots_of_code v (second % 16) (second / 16) else 2

-- of the code that a walk is at: an invalid one by its second byte
unfoldable pub code_numbers : List ℕ → CodeWalk → ℕ → ErrorNumbers
code_numbers b walk n =
    let bytes = bytes_there b walk.left in
    if n == result_number Short then needed_in b walk.left walk.left.offset (code_needs walk.version bytes)
    else if n == result_number UnwindCode then refused_value (number_there bytes 1 1)
    else no_numbers

-- why the code that a walk is at is refused
abbrev pub IsWhyOfCode : List ℕ → CodeWalk → Option Failure → Type 0
IsWhyOfCode b walk found =
    (answer : Result (Option Code) Refusal) × (after : CodeWalk) × StepsCodes b walk answer after
    × (found ≡ failure_by (code_numbers b walk) (refused answer))

abbrev pub SaysWhyCode : List ℕ → CodeWalk → ℕ → Failure → Failure → Type 0
SaysWhyCode b walk number old new = (found : Option Failure) × IsWhyOfCode b walk found × HandsOutIf number old new (Ok found)

-- ---- records

-- the first of these parts, an offset and a size each, that is not inside the bytes
abbrev pub first_truncated : List ℕ → List (ℕ × ℕ) → ErrorNumbers
first_truncated b [] = no_numbers
first_truncated b (part ∷ parts) = if holds b part.0 part.1 then first_truncated b parts else needed_at part.0 part.1

-- the size of what follows the codes of a record with these flags: a chained function, the RVA of a handler, or nothing
abbrev pub ending_size : ℕ → ℕ
ending_size flags = if is_chained flags then 12 else if handles_exceptions flags || handles_termination flags then 4 else 0

-- the parts of the record at offset p, in the order in which they are tested: the byte with the version, the header, the codes
-- and what follows them
unfoldable pub record_parts : List ℕ → ℕ → List (ℕ × ℕ)
record_parts b p =
    (p, 1) ∷ (p, 4) ∷ (p + 4, 2 * count_at b p) ∷ (after_codes b p, ending_size (flags_at b p)) ∷ []

-- what is needed of the record at offset p, which is found by the function table at a range: that range, or the first part of the
-- record that is truncated
abbrev pub found_needs : List ℕ → Range → ℕ → ErrorNumbers
found_needs b table p =
    if holds b table.offset table.length then first_truncated b (record_parts b p) else needed_at table.offset table.length

-- the function table at a range, by a map of RVAs; without entries where the range is not inside the bytes
abbrev pub table_there : (ℕ → Option ℕ) → List ℕ → Range → Table
table_there offset b table = linked_table (bytes_there b table) table.offset offset

-- the links from an unwind RVA end at this one, which has no next one; or they never end
abbrev pub LinksEnd : Table → ℕ → Option ℕ → Type 0
LinksEnd t u (Some v) = Reaches t u v × (next t v ≡ None)
LinksEnd t u None = IsEndless t u

-- of the record of an unwind RVA u, by the RVA v at which its links end. An even v is that of the record; an odd one is a link,
-- which leads to the RVA one less: it is unmapped, or no entry of the table starts there. Links that never end are refused by u.
-- The version of a record is in the low 3 bits of its first byte
unfoldable pub record_numbers : (ℕ → Option ℕ) → List ℕ → Range → ℕ → Option ℕ → ℕ → ErrorNumbers
record_numbers offset b table u last n =
    let v = or_zero last in
    let p = or_zero (offset v) in
    if n == result_number Short then found_needs b table p
    else if n == result_number Unmapped then refused_value (v - v % 2)
    else if n == result_number FunctionLink then refused_value v
    else if n == result_number FunctionCycle then refused_value u
    else if n == result_number UnwindVersion then refused_value (number_there b p 1 % 8)
    else no_numbers

-- why the record of an unwind RVA is refused, where the function table is at this range
abbrev pub IsWhyOfRecord : (ℕ → Option ℕ) → List ℕ → Range → ℕ → Option Failure → Type 0
IsWhyOfRecord offset b table u found =
    (answer : Result UnwindRecord Refusal) × (last : Option ℕ) × FollowsToRecord b (links_at offset b table) u answer
    × LinksEnd (table_there offset b table) u last
    × (found ≡ failure_by (record_numbers offset b table u last) (refused answer))

abbrev pub SaysWhyRecord : (ℕ → Option ℕ) → List ℕ → Range → ℕ → ℕ → Failure → Failure → Type 0
SaysWhyRecord offset b table u number old new =
    (found : Option Failure) × IsWhyOfRecord offset b table u found × HandsOutIf number old new (Ok found)
