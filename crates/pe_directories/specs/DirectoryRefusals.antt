-- What an error of a directory is, without its numbers and its text.
use Rattle.std.specs.Prelude.{◌≡◌, Result, Ok, Err}
use Rattle.pe_core.specs.Refusals.{Refusal, UnlessMemory, kind_of}
use Rattle.pe_directories.specs.declared.error.DirectoryError.{DirectoryError}
use Rattle.pe_directories.specs.declared.error.DirectoryError.TheVariants as errors

-- the kinds of errors
pub data DirectoryRefusal : Type 0 where
  Image : Refusal → DirectoryRefusal
  BlockSize : DirectoryRefusal
  BlockTruncated : DirectoryRefusal
  NoArgument : DirectoryRefusal
  VaBelowBase : DirectoryRefusal
  ClrHeaderSize : DirectoryRefusal
  StreamName : DirectoryRefusal
  DelayImportName : DirectoryRefusal
  BoundImportName : DirectoryRefusal
  RelocationKind : DirectoryRefusal
  RelocationOutside : DirectoryRefusal

-- the kind of an error
abbrev pub directory_kind_of : DirectoryError → DirectoryRefusal
directory_kind_of (errors.Image error) = Image (kind_of error)
directory_kind_of (errors.BlockSize size) = BlockSize
directory_kind_of (errors.BlockTruncated size length) = BlockTruncated
directory_kind_of (errors.NoArgument rva) = NoArgument
directory_kind_of (errors.VaBelowBase va) = VaBelowBase
directory_kind_of (errors.ClrHeaderSize size) = ClrHeaderSize
directory_kind_of errors.StreamName = StreamName
directory_kind_of (errors.DelayImportName address) = DelayImportName
directory_kind_of (errors.BoundImportName offset) = BoundImportName
directory_kind_of (errors.RelocationKind kind rva) = RelocationKind
directory_kind_of (errors.RelocationOutside rva) = RelocationOutside

-- the call returned the defined value, seen by view, or an error of the defined kind
abbrev pub DirectoryReturns : {X Y : Type 0} → (X → Y) → Result X DirectoryError → Result Y DirectoryRefusal → Type 0
DirectoryReturns view (Ok x) defined = defined ≡ Ok (view x)
DirectoryReturns view (Err e) defined = defined ≡ Err (directory_kind_of e)

-- the result of a definition of pe_core
abbrev pub of_image : {X : Type 0} → Result X Refusal → Result X DirectoryRefusal
of_image (Ok x) = Ok x
of_image (Err r) = Err (Image r)

-- the result of a call: its value, seen by view, or the kind of its error
abbrev pub directory_answer : {X Y : Type 0} → (X → Y) → Result X DirectoryError → Result Y DirectoryRefusal
directory_answer view (Ok x) = Ok (view x)
directory_answer view (Err e) = Err (directory_kind_of e)

-- P holds, unless the error is `Image` with `Memory`
abbrev pub UnlessNoMemory : DirectoryError → Type 0 → Type 0
UnlessNoMemory (errors.Image error) P = UnlessMemory error P
UnlessNoMemory other P = P

-- the same as `DirectoryReturns` for a call that allocates, which may also return `Image` with `Memory`
abbrev pub DirectoryReturnsUnlessMemory : {X Y : Type 0} → (X → Y) → Result X DirectoryError → Result Y DirectoryRefusal → Type 0
DirectoryReturnsUnlessMemory view (Ok x) defined = defined ≡ Ok (view x)
DirectoryReturnsUnlessMemory view (Err e) defined = UnlessNoMemory e (defined ≡ Err (directory_kind_of e))
