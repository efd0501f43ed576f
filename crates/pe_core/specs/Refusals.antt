-- What an error is, without its numbers and its text: its `Refusal`, also called its kind.
-- The list of errors is written by tools/make_errors.
use Rattle.std.specs.Prelude.{◌≡◌, List, [], ◌∷◌, Bool, Result, Ok, Err, if◌then◌else◌}
use Rattle.std.specs.Result.{IsOk}
use Rattle.pe_core.specs.declared.error.Error.{Error}
use Rattle.pe_core.specs.declared.error.Error.TheVariants as errors
use Rattle.pe_core.specs.declared.error.Reason.{Reason}
use Rattle.pe_core.specs.declared.error.Reason.TheVariants as reasons

-- the kinds of errors
pub data Refusal : Type 0 where
  Memory : Refusal
  Short : Refusal
  BadMagic : Refusal
  HeaderPointer : Refusal
  ImportName : Refusal
  StringTable : Refusal
  CertificateRevision : Refusal
  CertificateType : Refusal
  CertificateSize : Refusal
  CertificateTable : Refusal
  Unmapped : Refusal
  DebugBounds : Refusal
  DebugSize : Refusal
  DebugData : Refusal
  PogoSize : Refusal
  PogoName : Refusal
  ExceptionSize : Refusal
  ExceptionOffset : Refusal
  ExceptionBounds : Refusal
  FunctionIndex : Refusal
  FunctionLink : Refusal
  FunctionCycle : Refusal
  UnwindVersion : Refusal
  UnwindCode : Refusal
  Arm64Version : Refusal
  Arm64Stream : Refusal
  Arm64Cut : Refusal
  ResourceBounds : Refusal
  ResourceCycle : Refusal
  ResourceString : Refusal
  TeSize : Refusal
  NoOptionalHeader : Refusal
  WriteAlignment : Refusal
  WriteSymbols : Refusal
  WriteOverlap : Refusal
  WriteSection : Refusal
  WriteFit : Refusal
  ImportsLimit : Refusal

-- the kind of a reason
abbrev pub kind_of_reason : Reason → Refusal
kind_of_reason (reasons.HeaderPointer pointer) = HeaderPointer
kind_of_reason (reasons.ImportName rva) = ImportName
kind_of_reason (reasons.StringTable offset) = StringTable
kind_of_reason (reasons.CertificateRevision revision) = CertificateRevision
kind_of_reason (reasons.CertificateType kind) = CertificateType
kind_of_reason (reasons.CertificateSize length) = CertificateSize
kind_of_reason (reasons.CertificateTable end) = CertificateTable
kind_of_reason (reasons.Unmapped rva) = Unmapped
kind_of_reason (reasons.DebugBounds end) = DebugBounds
kind_of_reason (reasons.DebugSize size) = DebugSize
kind_of_reason (reasons.DebugData size) = DebugData
kind_of_reason (reasons.PogoSize size) = PogoSize
kind_of_reason (reasons.PogoName needed length) = PogoName
kind_of_reason (reasons.ExceptionSize size) = ExceptionSize
kind_of_reason (reasons.ExceptionOffset offset) = ExceptionOffset
kind_of_reason (reasons.ExceptionBounds end) = ExceptionBounds
kind_of_reason (reasons.FunctionIndex index) = FunctionIndex
kind_of_reason (reasons.FunctionLink rva) = FunctionLink
kind_of_reason (reasons.FunctionCycle steps) = FunctionCycle
kind_of_reason (reasons.UnwindVersion version) = UnwindVersion
kind_of_reason (reasons.UnwindCode code) = UnwindCode
kind_of_reason (reasons.Arm64Version version) = Arm64Version
kind_of_reason (reasons.Arm64Stream length start) = Arm64Stream
kind_of_reason (reasons.Arm64Cut offset) = Arm64Cut
kind_of_reason (reasons.ResourceBounds end) = ResourceBounds
kind_of_reason (reasons.ResourceCycle offset) = ResourceCycle
kind_of_reason (reasons.ResourceString offset) = ResourceString
kind_of_reason (reasons.TeSize size) = TeSize
kind_of_reason reasons.NoOptionalHeader = NoOptionalHeader
kind_of_reason (reasons.WriteAlignment alignment) = WriteAlignment
kind_of_reason (reasons.WriteSymbols offset) = WriteSymbols
kind_of_reason (reasons.WriteOverlap first second) = WriteOverlap
kind_of_reason (reasons.WriteSection index) = WriteSection
kind_of_reason (reasons.WriteFit end length) = WriteFit
kind_of_reason (reasons.ImportsLimit count limit) = ImportsLimit

-- the kind of an error
abbrev pub kind_of : Error → Refusal
kind_of (errors.Malformed reason) = kind_of_reason reason
kind_of (errors.BadMagic magic) = BadMagic
kind_of (errors.Short at needed) = Short
kind_of (errors.Memory e) = Memory

-- P holds, unless the error is `Memory`
abbrev pub UnlessMemory : Error → Type 0 → Type 0
UnlessMemory (errors.Memory e) P = Unit {0}
UnlessMemory other P = P

-- the result of a call: its value seen by view, or the kind of its error
abbrev pub answer_by : {X Y : Type 0} → (X → Y) → Result X Error → Result Y Refusal
answer_by view (Ok x) = Ok (view x)
answer_by view (Err e) = Err (kind_of e)

-- the result of a call: its value, or the kind of its error
abbrev pub answer_of : {X : Type 0} → Result X Error → Result X Refusal
answer_of r = answer_by (λ x. x) r

-- a call that does not allocate returned the defined value, seen by view, or an error of the defined kind
abbrev pub ReturnsAs : {X Y : Type 0} → (X → Y) → Result X Error → Result Y Refusal → Type 0
ReturnsAs view (Ok x) defined = defined ≡ Ok (view x)
ReturnsAs view (Err e) defined = defined ≡ Err (kind_of e)

-- a call that does not allocate returned the defined value, or an error of the defined kind
abbrev pub Returns : {X : Type 0} → Result X Error → Result X Refusal → Type 0
Returns r defined = ReturnsAs (λ x. x) r defined

-- the same for a call that allocates, which may also return `Memory`
abbrev pub ReturnsUnlessMemory : {X Y : Type 0} → (X → Y) → Result X Error → Result Y Refusal → Type 0
ReturnsUnlessMemory view (Ok x) defined = defined ≡ Ok (view x)
ReturnsUnlessMemory view (Err e) defined = UnlessMemory e (defined ≡ Err (kind_of e))

-- P holds if the error is `Memory`
abbrev pub IfMemory : Error → Type 0 → Type 0
IfMemory (errors.Memory e) P = P
IfMemory other P = Unit {0}

-- the same, and memory is asked for only after these tests: if the call returns `Memory`, they have all passed
abbrev pub ReturnsUnlessMemoryAfter : {X Y Z : Type 0} → Result Z Refusal → (X → Y) → Result X Error → Result Y Refusal → Type 0
ReturnsUnlessMemoryAfter tested view (Ok x) defined = defined ≡ Ok (view x)
ReturnsUnlessMemoryAfter tested view (Err e) defined = UnlessMemory e (defined ≡ Err (kind_of e)) × IfMemory e (IsOk tested)

-- the value if all tests pass, or the refusal of the first test that fails
abbrev pub outcome : {Y R : Type 0} → List (Bool × R) → Y → Result Y R
outcome [] value = Ok value
outcome (test ∷ tests) value = if test.0 then outcome tests value else Err test.1

-- two steps in turn; a refusal of the first is the result
infixl 10 ◌>>=◌
abbrev pub ◌>>=◌ : {A B R : Type 0} → Result A R → (A → Result B R) → Result B R
(Ok x) >>= f = f x
(Err e) >>= f = Err e
