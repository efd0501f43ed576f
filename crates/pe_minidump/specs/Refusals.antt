-- What an error of a dump is, without its numbers and its text.
use Rattle.std.specs.Prelude.{◌≡◌, Result, Ok, Err}
use Rattle.pe_minidump.specs.declared.error.DumpError.{DumpError}
use Rattle.pe_minidump.specs.declared.error.DumpError.TheVariants as errors

-- the kinds of errors
pub data DumpRefusal : Type 0 where
  Short : DumpRefusal
  Signature : DumpRefusal
  Version : DumpRefusal
  Directory : DumpRefusal
  Location : DumpRefusal
  ListSize : DumpRefusal
  EntrySize : DumpRefusal
  Text : DumpRefusal
  ContextSize : DumpRefusal
  ContextFlags : DumpRefusal
  Machine : DumpRefusal

-- the kind of an error
abbrev pub dump_kind_of : DumpError → DumpRefusal
dump_kind_of (errors.Short needed length) = Short
dump_kind_of (errors.Signature signature) = Signature
dump_kind_of (errors.Version version) = Version
dump_kind_of (errors.Directory rva count length) = Directory
dump_kind_of (errors.Location rva size length) = Location
dump_kind_of (errors.ListSize count size) = ListSize
dump_kind_of (errors.EntrySize size needed) = EntrySize
dump_kind_of (errors.Text rva size) = Text
dump_kind_of (errors.ContextSize size needed) = ContextSize
dump_kind_of (errors.ContextFlags flags) = ContextFlags
dump_kind_of (errors.Machine flags) = Machine

-- the call returned the defined value, seen by view, or an error of the defined kind
abbrev pub DumpReturns : {X Y : Type 0} → (X → Y) → Result X DumpError → Result Y DumpRefusal → Type 0
DumpReturns view (Ok x) defined = defined ≡ Ok (view x)
DumpReturns view (Err e) defined = defined ≡ Err (dump_kind_of e)
