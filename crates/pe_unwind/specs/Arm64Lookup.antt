-- Lookup of an RVA in the ARM64 function table: an entry has its start, and its unwind data have the length of the
-- function. (ARM64 exception handling: .pdata records, .xdata records.)
use Rattle.std.specs.Prelude.{◌≡◌, ℕ, ◌+◌, ◌*◌, ◌<◌, ◌≤◌, List, length, Option, Some, None, Result, Ok, IfOk, IsOkAnd, if◌then◌else◌, nat_lt}
use Rattle.std.specs.List.{AllAdjacentBelow}
use Rattle.pe_core.specs.Bytes.{le, record_at}
use Rattle.pe_core.specs.Refusals.{Refusal, ◌>>=◌}
use Rattle.pe_core.specs.SectionMap.{SectionMapView, mapped, offset_in}
use Rattle.pe_unwind.specs.declared.arm64.function.Arm64RuntimeFunction.{Arm64RuntimeFunction}
use Rattle.pe_unwind.specs.Arm64Functions.{is_packed}
use Rattle.pe_unwind.specs.Arm64Words.{bits}
use Rattle.pe_unwind.specs.Lookup.{FindsStart, IsSortedBy, last_start}

-- the length in bytes of the function of an unwind record at offset p: the header, its first word, counts words of four
-- bytes. The version of the record speaks of what follows, so it is not asked.
abbrev pub length_in_record : List ℕ → ℕ → Result ℕ Refusal
length_in_record b p = record_at b p 4 (4 * bits (le b p 4) 0 18)

-- the length in bytes of an entry's function: packed into the entry, or in its unwind record in the bytes of the file, which a map
-- of RVAs finds
abbrev pub length_by : (ℕ → Option ℕ) → List ℕ → Arm64RuntimeFunction → Result ℕ Refusal
length_by offset b f =
    if is_packed f then Ok (4 * bits f.unwind_data 2 11)
    else (mapped (offset (4 * bits f.unwind_data 2 30)) >>= length_in_record b)

-- the same by a section map
abbrev pub length_of_arm64 : List ℕ → SectionMapView → Arm64RuntimeFunction → Result ℕ Refusal
length_of_arm64 b m = length_by (offset_in m) b

-- the entry, if its function is long enough to cover the RVA, or what refuses its length
abbrev pub if_long_enough : (Arm64RuntimeFunction → Result ℕ Refusal) → ℕ → Option Arm64RuntimeFunction → Result (Option Arm64RuntimeFunction) Refusal
if_long_enough length_of a None = Ok None
if_long_enough length_of a (Some f) = length_of f >>= λ n. Ok (if nat_lt a (f.begin_address + n) then Some f else None)

-- what a linear scan returns: the last entry that starts at or before the RVA, if it is long enough
abbrev pub scan_arm64 : (Arm64RuntimeFunction → Result ℕ Refusal) → List Arm64RuntimeFunction → ℕ → Result (Option Arm64RuntimeFunction) Refusal
scan_arm64 length_of fs a = if_long_enough length_of a (last_start (λ f. f.begin_address) fs a)

-- what lookup returns: it comes to an entry by the starts alone, and returns that one, if it is long enough; in a table
-- sorted by start RVA, what a linear scan returns
pub record FindsArm64 (length_of : Arm64RuntimeFunction → Result ℕ Refusal) (fs : List Arm64RuntimeFunction) (a : ℕ) (answer : Result (Option Arm64RuntimeFunction) Refusal) : Type 0 where
  pub last : Option Arm64RuntimeFunction
  pub comes : FindsStart (λ f. f.begin_address) fs a last
  pub decides : answer ≡ if_long_enough length_of a last
  pub scanned : IsSortedBy (λ f. f.begin_address) fs → answer ≡ scan_arm64 length_of fs a

-- the function of the entry covers the RVA
abbrev pub CoversArm64 : (Arm64RuntimeFunction → Result ℕ Refusal) → ℕ → Arm64RuntimeFunction → Type 0
CoversArm64 length_of a f = (f.begin_address ≤ a) × IsOkAnd (length_of f) (λ n. a < f.begin_address + n)

-- no function passes the start of the next
abbrev pub NoFunctionPassesNext : (Arm64RuntimeFunction → Result ℕ Refusal) → List Arm64RuntimeFunction → Type 0
NoFunctionPassesNext length_of fs = AllAdjacentBelow (λ e f. IfOk (length_of e) (λ n. e.begin_address + n ≤ f.begin_address)) fs (length fs)
