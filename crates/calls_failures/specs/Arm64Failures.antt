-- Why the unwind record of an ARM64 function is refused, or one of its codes, with the numbers of that failure.
use Rattle.std.specs.Prelude.{◌≡◌, ℕ, ◌+◌, ◌-◌, ◌*◌, ◌^◌, ◌==◌, min, is_some, List, [], ◌∷◌, Option, Result, Ok, if◌then◌else◌}
use Rattle.pe_core.specs.Bytes.{le}
use Rattle.pe_core.specs.Refusals.{Refusal, Arm64Cut, Arm64Stream, Arm64Version, ExceptionBounds, ExceptionOffset, ExceptionSize, Short, Unmapped}
use Rattle.pe_unwind.specs.Arm64Record.{code_words, extension_at, extension_size, handler_size, scope_count, scopes_offset}
use Rattle.pe_unwind.specs.Arm64Words.{bits}
use Rattle.pe_unwind.specs.declared.arm64.function.Arm64RuntimeFunction.{Arm64RuntimeFunction}
use Rattle.calls_unwind.specs.Arm64.{StepsArm64Codes}
use Rattle.calls_base.specs.Ranges.{or_zero}
use Rattle.calls_base.specs.FailureNumbers.{failure_by, needed_at, no_numbers, number_there, numbers, refused, refused_value}
use Rattle.calls_base.specs.HandsOut.{HandsOutIf, result_number}
use Rattle.calls_base.specs.Images.{exception_directory}
use Rattle.calls_failures.specs.UnwindFailures.{first_truncated}
use Rattle.calls_unwind.specs.declared.arm64.codes.Arm64Code.{Arm64Code}
use Rattle.calls_unwind.specs.declared.arm64.codes.Arm64CodeWalk.{Arm64CodeWalk}
use Rattle.calls_base.specs.declared.numbers.Failure.{Failure}
use Rattle.calls_base.specs.declared.numbers.ErrorNumbers.{ErrorNumbers}
use Rattle.calls_base.specs.declared.image.Image.{Image}

-- ---- codes

-- of the code that a walk is at: the range of what is left; what can be left of no stream by its length; a truncated code by its
-- offset, which counts from the start of the stream
unfoldable pub arm64_code_numbers : Arm64CodeWalk → ℕ → ErrorNumbers
arm64_code_numbers walk n =
    if n == result_number Short then needed_at walk.left.offset walk.left.length
    else if n == result_number Arm64Stream then refused_value walk.left.length
    else if n == result_number Arm64Cut then numbers walk.offset 0 0
    else no_numbers

-- why the code that a walk is at is refused
abbrev pub IsWhyOfArm64Code : List ℕ → Arm64CodeWalk → Option Failure → Type 0
IsWhyOfArm64Code b walk found =
    (answer : Result (Option Arm64Code) Refusal) × (after : Arm64CodeWalk) × StepsArm64Codes b walk answer after
    × (found ≡ failure_by (arm64_code_numbers walk) (refused answer))

abbrev pub SaysWhyArm64Code : List ℕ → Arm64CodeWalk → ℕ → Failure → Failure → Type 0
SaysWhyArm64Code b walk number old new =
    (found : Option Failure) × IsWhyOfArm64Code b walk found × HandsOutIf number old new (Ok found)

-- ---- records

-- the parts of the record at offset p, in order: header, extension word, scopes, codes, RVA of the handler
unfoldable pub arm64_parts : List ℕ → ℕ → List (ℕ × ℕ)
arm64_parts b p =
    let header = le b p 4 in
    let extension = extension_at b (p + 4) header in
    let scopes = 4 * scope_count header extension in
    let codes = 4 * code_words header extension in
    let q = scopes_offset p header in
    (p, 4) ∷ (p + 4, extension_size header) ∷ (q, scopes) ∷ (q + scopes, codes) ∷ (q + scopes + codes, handler_size header) ∷ []

-- the RVA of a function's record, where its unwind data is not packed: a multiple of 4
abbrev pub record_rva : Arm64RuntimeFunction → ℕ
record_rva f = 4 * bits f.unwind_data 2 30

-- the RVA that is unmapped: that of the exception directory or, where it is mapped, that of the record
abbrev pub unmapped_rva : (ℕ → Option ℕ) → Image → Arm64RuntimeFunction → ℕ
unmapped_rva offset image f =
    if is_some (offset (exception_directory image).virtual_address) then record_rva f
    else (exception_directory image).virtual_address

-- of the record of a function, and of the exception directory, which is tested first: by its size, its file offset, or its end
unfoldable pub arm64_record_numbers : (ℕ → Option ℕ) → List ℕ → Image → Arm64RuntimeFunction → ℕ → ErrorNumbers
arm64_record_numbers offset b image f n =
    let size = (exception_directory image).size in
    let table = or_zero (offset (exception_directory image).virtual_address) in
    let p = or_zero (offset (record_rva f)) in
    if n == result_number Short then first_truncated b (arm64_parts b p)
    else if n == result_number Unmapped then refused_value (unmapped_rva offset image f)
    else if n == result_number ExceptionSize then refused_value size
    else if n == result_number ExceptionOffset then numbers table 0 0
    else if n == result_number ExceptionBounds then numbers (min (table + size) (2 ^ 64 - 1)) 0 0
    else if n == result_number Arm64Version then refused_value (bits (number_there b p 4) 18 2)
    else no_numbers
