-- What an error of a PDB is, without its numbers and its text.
use Rattle.std.specs.Prelude.{◌≡◌, Result, Ok, Err}
use Rattle.pe_pdb.specs.declared.error.PdbError.{PdbError}
use Rattle.pe_pdb.specs.declared.error.PdbError.TheVariants as errors

-- the kinds of errors
pub data PdbRefusal : Type 0 where
  Short : PdbRefusal
  Pdb20 : PdbRefusal
  PortablePdb : PdbRefusal
  Magic : PdbRefusal
  BlockSize : PdbRefusal
  FileSize : PdbRefusal
  BlockMap : PdbRefusal
  Block : PdbRefusal
  Directory : PdbRefusal
  NoStream : PdbRefusal
  StreamSize : PdbRefusal
  Outside : PdbRefusal
  InfoVersion : PdbRefusal
  DbiSignature : PdbRefusal
  DbiVersion : PdbRefusal
  DbiParts : PdbRefusal
  SectionHeaders : PdbRefusal
  RecordSize : PdbRefusal
  RecordTruncated : PdbRefusal
  Name : PdbRefusal
  ModuleSymbols : PdbRefusal
  ModuleSignature : PdbRefusal
  NamesSignature : PdbRefusal
  ContributionsVersion : PdbRefusal
  ContributionsSize : PdbRefusal
  Annotation : PdbRefusal
  InlineDepth : PdbRefusal
  SymbolsSize : PdbRefusal
  Room : PdbRefusal

-- the kind of an error
abbrev pub pdb_kind_of : PdbError → PdbRefusal
pdb_kind_of (errors.Short needed length) = Short
pdb_kind_of errors.Pdb20 = Pdb20
pdb_kind_of errors.PortablePdb = PortablePdb
pdb_kind_of errors.Magic = Magic
pdb_kind_of (errors.BlockSize size) = BlockSize
pdb_kind_of (errors.FileSize blocks length) = FileSize
pdb_kind_of (errors.BlockMap size) = BlockMap
pdb_kind_of (errors.Block blocks) = Block
pdb_kind_of (errors.Directory stream words) = Directory
pdb_kind_of (errors.NoStream index) = NoStream
pdb_kind_of (errors.StreamSize stream size) = StreamSize
pdb_kind_of (errors.Outside offset needed length) = Outside
pdb_kind_of (errors.InfoVersion version) = InfoVersion
pdb_kind_of (errors.DbiSignature number) = DbiSignature
pdb_kind_of (errors.DbiVersion version) = DbiVersion
pdb_kind_of (errors.DbiParts needed length) = DbiParts
pdb_kind_of (errors.SectionHeaders length) = SectionHeaders
pdb_kind_of (errors.RecordSize offset size) = RecordSize
pdb_kind_of (errors.RecordTruncated offset needed length) = RecordTruncated
pdb_kind_of (errors.Name offset) = Name
pdb_kind_of (errors.ModuleSymbols size length) = ModuleSymbols
pdb_kind_of (errors.ModuleSignature number) = ModuleSignature
pdb_kind_of (errors.NamesSignature number) = NamesSignature
pdb_kind_of (errors.ContributionsVersion number) = ContributionsVersion
pdb_kind_of (errors.ContributionsSize length) = ContributionsSize
pdb_kind_of (errors.Annotation offset) = Annotation
pdb_kind_of errors.InlineDepth = InlineDepth
pdb_kind_of errors.SymbolsSize = SymbolsSize
pdb_kind_of (errors.Room needed length) = Room

-- the call returned the defined value, seen by view, or an error of the defined kind
abbrev pub PdbReturns : {X Y : Type 0} → (X → Y) → Result X PdbError → Result Y PdbRefusal → Type 0
PdbReturns view (Ok x) defined = defined ≡ Ok (view x)
PdbReturns view (Err e) defined = defined ≡ Err (pdb_kind_of e)
