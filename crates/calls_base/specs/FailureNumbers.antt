-- What refuses a call as a number, and the numbers of that failure. An offset, a start or an end is the offset of the failure, bytes
-- that are needed are its needed bytes, and any other number is its value; of a relocation's kind the RVA is the offset. A kind of
-- failure that has none here is all zeros.
use Rattle.std.specs.Prelude.{◌≡◌, ℕ, ◌==◌, ◌||◌, List, true, Option, Some, None, Result, Ok, Err, if◌then◌else◌}
use Rattle.pe_core.specs.Bytes.{holds, le}
use Rattle.pe_core.specs.Refusals.{Refusal}
use Rattle.pe_directories.specs.DirectoryRefusals.{DirectoryRefusal}
use Rattle.pe_resource.specs.Leaves.{TreeRefusal}
use Rattle.calls_base.specs.DirectoryResults.{DirectoryHandsOut, directory_number}
use Rattle.calls_base.specs.HandsOut.{HandsOutIf, result_number}
use Rattle.calls_base.specs.TreeResults.{TreeHandsOut, tree_number}
use Rattle.calls_base.specs.declared.numbers.Failure.{Failure}
use Rattle.calls_base.specs.declared.numbers.ErrorNumbers.{ErrorNumbers}
use Rattle.calls_base.specs.declared.ranges.Range.{Range}
use Rattle.calls_base.specs.declared.results.TheConstants.{DONE, NOTHING}

-- ---- the numbers of a failure

abbrev pub numbers : ℕ → ℕ → ℕ → ErrorNumbers
numbers offset needed value = record { offset = offset; needed = needed; value = value }

abbrev pub no_numbers : ErrorNumbers
no_numbers = numbers 0 0 0

-- n bytes are needed at offset p
abbrev pub needed_at : ℕ → ℕ → ErrorNumbers
needed_at p n = numbers p n 0

-- n bytes are needed at offset p, which lies in a range of the bytes; or the bytes of that range
abbrev pub needed_in : List ℕ → Range → ℕ → ℕ → ErrorNumbers
needed_in b r p n = if holds b r.offset r.length then needed_at p n else needed_at r.offset r.length

-- this number is refused
abbrev pub refused_value : ℕ → ErrorNumbers
refused_value value = numbers 0 0 value

-- the number in the n bytes at an offset, 0 where they are not there
abbrev pub number_there : List ℕ → ℕ → ℕ → ℕ
number_there b p n = if holds b p n then le b p n else 0

-- ---- what refuses a call, as a number, if something does

abbrev pub refused : {X : Type 0} → Result X Refusal → Option ℕ
refused (Ok x) = None
refused (Err refusal) = Some (result_number refusal)

abbrev pub directory_refused : {X : Type 0} → Result X DirectoryRefusal → Option ℕ
directory_refused (Ok x) = None
directory_refused (Err refusal) = Some (directory_number refusal)

abbrev pub tree_refused : {X : Type 0} → Result X TreeRefusal → Option ℕ
tree_refused (Ok x) = None
tree_refused (Err refusal) = Some (tree_number refusal)

-- ---- its failure

abbrev pub failure_with : ℕ → ErrorNumbers → Failure
failure_with number n = record { offset = n.offset; needed = n.needed; value = n.value; result = number; spare = 0 }

-- the failure of what refuses a call, by the numbers that each kind has there; none where nothing refuses it
abbrev pub failure_by : (ℕ → ErrorNumbers) → Option ℕ → Option Failure
failure_by numbers_of None = None
failure_by numbers_of (Some number) = Some (failure_with number (numbers_of number))

-- ---- what a failure says of a call

-- a call returned this number, and what refuses it has that one: the call is done or returns nothing exactly where nothing refuses it
abbrev pub Agrees : ℕ → Option ℕ → Type 0
Agrees number None = (number == DONE || number == NOTHING) ≡ true
Agrees number (Some refusal) = number ≡ refusal

-- so does each call that hands out what is defined
abbrev pub AllAgree : {X : Type 0} → Result (Option X) Refusal → Option ℕ → Type 0
AllAgree {X} answer refusal = (number : ℕ) (old new : X) → HandsOutIf number old new answer → Agrees number refusal

-- the same of a directory that pe_directories reads
abbrev pub DirectoriesAgree : {X : Type 0} → Result (Option X) DirectoryRefusal → Option ℕ → Type 0
DirectoriesAgree {X} answer refusal = (number : ℕ) (old new : X) → DirectoryHandsOut number old new answer → Agrees number refusal

-- the same of a resource tree
abbrev pub TreesAgree : {X : Type 0} → Result (Option X) TreeRefusal → Option ℕ → Type 0
TreesAgree {X} answer refusal = (number : ℕ) (old new : X) → TreeHandsOut number old new answer → Agrees number refusal
