-- The debug data of an image by the calls: what the calls for the entries and for each record return, read as debug data.
use Rattle.std.specs.Prelude.{◌≡◌, ℕ, List, Option, Some, None, Result, Ok}
use Rattle.std.specs.Option.{option_map}
use Rattle.pe_core.specs.Refusals.{Refusal, ◌>>=◌}
use Rattle.pe_core.specs.declared.section_table.SectionTable.{SectionTable}
use Rattle.pe_records.specs.DebugRecords.{DebugFields, Stamp, Buffer}
use Rattle.pe_records.specs.DebugRecords as records
use Rattle.pe_records.specs.declared.debug.ImageDebugDirectory.{ImageDebugDirectory}
use Rattle.pe_records.specs.declared.debug.constants.TheConstants.{CODEVIEW_PDB20_MAGIC, CODEVIEW_PDB70_MAGIC}
use Rattle.pe_records.specs.declared.debug.records.VCFeatureInfo.{VCFeatureInfo}
use Rattle.calls_headers.specs.Debug.{characteristics_of, debug_entries_range, features_of, first_entry, key_of, pdb20_of, pogo_of, read_first, repro_of}
use Rattle.calls_failures.specs.ImageParts.{HasOption, Reports}
use Rattle.calls_base.specs.Ranges.{IsRange}
use Rattle.calls_headers.specs.declared.debug.records.Pdb20.{Pdb20}
use Rattle.calls_headers.specs.declared.debug.records.Pogo.{Pogo}
use Rattle.calls_headers.specs.declared.debug.records.Repro.{Repro}
use Rattle.calls_headers.specs.declared.debug.records.SymbolKey.{SymbolKey}
use Rattle.calls_base.specs.declared.image.Image.{Image}
use Rattle.calls_base.specs.declared.ranges.Range.{Range}

-- what the calls return: the range of the entries, the records, and the entry of the hash
pub record DebugResults : Type 0 where
  pub entries : Range
  pub key : Option SymbolKey
  pub pdb20 : Option Pdb20
  pub features : Option VCFeatureInfo
  pub characteristics : Option ℕ
  pub repro : Option Repro
  pub repro_entry : Option ImageDebugDirectory
  pub pogo : Option Pogo

-- the calls of the records one after the other, where the image has a debug directory; or the first refusal
abbrev pub debug_results_after : List ℕ → Image → List SectionTable → Option Range → Result (Option DebugResults) Refusal
debug_results_after b image sections None = Ok None
debug_results_after b image sections (Some r) = do
  key ← read_first key_of 2 b image sections
  pdb20 ← read_first pdb20_of 2 b image sections
  features ← read_first features_of 12 b image sections
  characteristics ← read_first characteristics_of 20 b image sections
  repro ← read_first repro_of 16 b image sections
  entry ← first_entry b image sections 16
  pogo ← read_first pogo_of 13 b image sections
  Ok (Some (record { entries = r; key = key; pdb20 = pdb20; features = features; characteristics = characteristics; repro = repro; repro_entry = entry; pogo = pogo }))

-- the same after the call for the entries
abbrev pub debug_results : List ℕ → Image → List SectionTable → Result (Option DebugResults) Refusal
debug_results b image sections = debug_entries_range b image sections image.mode >>= debug_results_after b image sections

-- a key is a record of PDB 7.0
pub record IsKey (b : List ℕ) (y : SymbolKey) (x : records.Pdb70) : Type 0 where
  pub kind : x.codeview_signature ≡ CODEVIEW_PDB70_MAGIC
  pub guid : y.guid ≡ x.signature
  pub age : y.age ≡ x.age
  pub name : IsRange b y.name x.filename

-- a record of PDB 2.0
pub record IsPdb20 (b : List ℕ) (y : Pdb20) (x : records.Pdb20) : Type 0 where
  pub kind : x.codeview_signature ≡ CODEVIEW_PDB20_MAGIC
  pub offset : y.offset ≡ x.codeview_offset
  pub signature : y.signature ≡ x.signature
  pub age : y.age ≡ x.age
  pub name : IsRange b y.name x.filename

-- a hash; without one the stamp is that of the entry
abbrev pub IsRepro : List ℕ → Option ImageDebugDirectory → Repro → records.Repro → Type 0
IsRepro b entry y (Stamp stamp) = (y.has_hash ≡ 0) × (option_map (λ e. e.time_date_stamp) entry ≡ Some stamp)
IsRepro b entry y (Buffer count bytes) = (y.has_hash ≡ 1) × IsRange b y.hash bytes × (y.hash.length ≡ count)

-- POGO data
pub record IsPogo (b : List ℕ) (y : Pogo) (x : records.Pogo) : Type 0 where
  pub signature : y.signature ≡ x.signature
  pub entries : IsRange b y.entries x.bytes

-- debug data
pub record IsDebugData (b : List ℕ) (y : DebugResults) (x : DebugFields) : Type 0 where
  pub table : IsRange b y.entries x.table
  pub fixup : x.fixup ≡ 0
  pub key : HasOption (IsKey b) y.key x.pdb70
  pub pdb20 : HasOption (IsPdb20 b) y.pdb20 x.pdb20
  pub features : y.features ≡ x.features
  pub characteristics : y.characteristics ≡ option_map (λ c. c.characteristics_ex) x.characteristics
  pub repro : HasOption (IsRepro b y.repro_entry) y.repro x.repro
  pub pogo : HasOption (IsPogo b) y.pogo x.pogo

abbrev pub AreDebugData : List ℕ → Image → List SectionTable → Result (Option DebugFields) Refusal → Type 0
AreDebugData b image sections part = Reports (IsDebugData b) (debug_results b image sections) part
