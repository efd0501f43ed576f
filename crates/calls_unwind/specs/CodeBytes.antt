-- What a list of unwind codes reads: bytes of codes, and how they are read. Only contracts of private functions cite it.
use Rattle.std.specs.Prelude.{◌≡◌, ◌⊎◌, ℕ, ◌-◌, ◌<◌, ◌≤◌, List, length, take, drop, Option, Some, None, Result, Err}
use Rattle.pe_core.specs.Refusals.{Refusal}
use Rattle.pe_core.specs.declared.error.Error.{Error}
use Rattle.pe_unwind.specs.CodeStream.{CodeStream, ReturnsCode, with_left}
use Rattle.pe_unwind.specs.UnwindCodes.{StartsWithCode}
use Rattle.pe_unwind.specs.declared.unwind_code.UnwindCode.{UnwindCode}
use Rattle.calls_base.specs.HandsOut.{result_number}
use Rattle.calls_base.specs.Lists.{Numbered, Takes, by_number}
use Rattle.calls_unwind.specs.Unwinding.{flat, flat_answer}
use Rattle.calls_unwind.specs.declared.lists.x64.CodeBytes.{CodeBytes}
use Rattle.calls_unwind.specs.declared.lists.x64.PutCodes.{PutCodes}
use Rattle.calls_unwind.specs.declared.unwinding.Code.{Code}

-- the stream of the codes in these bytes
abbrev pub stream_in : CodeBytes → CodeStream
stream_in c = record { content = c.left.now; version = c.version; frame = c.frame_register }

-- a step over them, by its result as numbers
abbrev pub StepsBytes : CodeBytes → Result (Option Code) Refusal → CodeBytes → Type 0
StepsBytes old answer new = (given : Option (Result UnwindCode Error)) × ReturnsCode (stream_in old) given (stream_in new) × (answer ≡ flat_answer given)

-- the stream with the last n bytes left
abbrev pub stream_last : CodeBytes → ℕ → CodeStream
stream_last c n = with_left (stream_in c) (drop (length c.left.now - n) c.left.now)

-- what a step returns that leaves n bytes
abbrev pub ReturnsAny : CodeBytes → Result (Option Code) ℕ → ℕ → Type 0
ReturnsAny c answer n = (given : Option (Result UnwindCode Error)) × ReturnsCode (stream_in c) given (stream_last c n) × (answer ≡ by_number result_number (flat_answer given))

-- the code of n bytes with which the bytes start, whatever record it is of
abbrev pub IsFrequent : List ℕ → Code → ℕ → Type 0
IsFrequent bytes code n = (0 < n) × (n ≤ length bytes) × ((v f : ℕ) → (c : UnwindCode) × StartsWithCode v f bytes c n × (code ≡ flat c))

-- ---- codes that are written

-- the first n entries are codes, which steps from s to t return; the others are as they were
abbrev pub HasCodes : CodeBytes → CodeBytes → List Code → List Code → ℕ → Type 0
HasCodes s t old new n =
    Takes (Numbered result_number StepsBytes) s (take n new) t × (drop n new ≡ drop n old) × (length new ≡ length old) × (n ≤ length new)

-- why there are no more than n: none are left, or there is room for so many; or no code starts what is left
abbrev pub EndsCodes : Option ℕ → ℕ → ℕ → CodeBytes → Type 0
EndsCodes None n room t = (length t.left.now ≡ 0) ⊎ (n ≡ room)
EndsCodes (Some e) n room t = (n < room) × ((next : CodeBytes) × Numbered result_number StepsBytes t (Err e) next)

abbrev pub PutsCodes : CodeBytes → List Code → List Code → PutCodes → Type 0
PutsCodes s old new put = HasCodes s put.left old new put.count × EndsCodes put.refused put.count (length new) put.left
