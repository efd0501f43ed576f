-- The result of a call: a number, and a value at `out`. DONE means that the value is there, others say why it is not.
use Rattle.std.specs.Prelude.{◌≡◌, ℕ, List, Option, Some, None, Result, Ok, Err}
use Rattle.pe_core.specs.Refusals.{Refusal, Memory, Short, BadMagic, HeaderPointer, ImportName, StringTable, CertificateRevision, CertificateType, CertificateSize, CertificateTable, Unmapped, DebugBounds, DebugSize, DebugData, PogoSize, PogoName, ExceptionSize, ExceptionOffset, ExceptionBounds, FunctionIndex, FunctionLink, FunctionCycle, UnwindVersion, UnwindCode, Arm64Version, Arm64Stream, Arm64Cut, ResourceBounds, ResourceCycle, ResourceString, TeSize, NoOptionalHeader, WriteAlignment, WriteSymbols, WriteOverlap, WriteSection, WriteFit, ImportsLimit}
use Rattle.calls_base.specs.declared.results.TheConstants.{DONE, NOTHING}

-- the number of a refusal, written by tools/make_errors
abbrev pub result_number : Refusal → ℕ
result_number Memory = 1
result_number Short = 2
result_number BadMagic = 3
result_number HeaderPointer = 4
result_number ImportName = 5
result_number StringTable = 6
result_number CertificateRevision = 7
result_number CertificateType = 8
result_number CertificateSize = 9
result_number CertificateTable = 10
result_number Unmapped = 11
result_number DebugBounds = 12
result_number DebugSize = 13
result_number DebugData = 14
result_number PogoSize = 15
result_number PogoName = 16
result_number ExceptionSize = 17
result_number ExceptionOffset = 18
result_number ExceptionBounds = 19
result_number FunctionIndex = 20
result_number FunctionLink = 21
result_number FunctionCycle = 22
result_number UnwindVersion = 23
result_number UnwindCode = 24
result_number Arm64Version = 25
result_number Arm64Stream = 26
result_number Arm64Cut = 27
result_number ResourceBounds = 28
result_number ResourceCycle = 29
result_number ResourceString = 30
result_number TeSize = 31
result_number NoOptionalHeader = 32
result_number WriteAlignment = 33
result_number WriteSymbols = 34
result_number WriteOverlap = 35
result_number WriteSection = 36
result_number WriteFit = 37
result_number ImportsLimit = 38

-- DONE and the value; else the number of the refusal, and `out` is unchanged
abbrev pub HandsOut : {Y : Type 0} → ℕ → Y → Y → Result Y Refusal → Type 0
HandsOut number old new (Ok value) = (number ≡ DONE) × (new ≡ value)
HandsOut number old new (Err refusal) = (number ≡ result_number refusal) × (new ≡ old)

-- the same of a value that may be absent: then the number is NOTHING
abbrev pub HandsOutIf : {Y : Type 0} → ℕ → Y → Y → Result (Option Y) Refusal → Type 0
HandsOutIf number old new (Ok (Some value)) = (number ≡ DONE) × (new ≡ value)
HandsOutIf number old new (Ok None) = (number ≡ NOTHING) × (new ≡ old)
HandsOutIf number old new (Err refusal) = (number ≡ result_number refusal) × (new ≡ old)

-- DONE, the number of a write at `out` and what it leaves in the room; else the number of the refusal, and both are unchanged
abbrev pub HandsOutWritten : ℕ → ℕ → ℕ → List ℕ → List ℕ → Result (ℕ × List ℕ) Refusal → Type 0
HandsOutWritten number old new room room_after (Ok written) = (number ≡ DONE) × (new ≡ written.0) × (room_after ≡ written.1)
HandsOutWritten number old new room room_after (Err refusal) = (number ≡ result_number refusal) × (new ≡ old) × (room_after ≡ room)
