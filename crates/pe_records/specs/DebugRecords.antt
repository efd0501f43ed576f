-- The records to which debug entries lead. Each is none, a value or a refusal, as a function of the bytes and an
-- entry. (PE format: debug directory; the layouts of the records and the tests of their sizes are this project's
-- profile.)
use Rattle.std.specs.Prelude.{ℕ, ◌+◌, ◌-◌, ◌==◌, ◌||◌, List, [], ◌∷◌, Bool, Option, Some, None, Result, Ok, Err, nat_lt, if◌then◌else◌}
use Rattle.std.specs.Option.{option_map}
use Rattle.pe_core.specs.Bytes.{le, range, holds, record_at}
use Rattle.pe_core.specs.Modes.{none_if_refused}
use Rattle.pe_core.specs.Refusals.{Refusal, Short, DebugSize, DebugData, PogoSize, outcome, ◌>>=◌}
use Rattle.pe_core.specs.declared.data_directories.DataDirectory.{DataDirectory}
use Rattle.pe_core.specs.declared.options.ParseMode.{ParseMode}
use Rattle.pe_core.specs.declared.options.ParseOptions.{ParseOptions}
use Rattle.pe_core.specs.declared.section_table.SectionTable.{SectionTable}
use Rattle.pe_records.specs.DebugDirectory.{first_of_type, directory_table}
use Rattle.pe_records.specs.declared.debug.ImageDebugDirectory.{ImageDebugDirectory}
use Rattle.pe_records.specs.declared.debug.DebugData as declared
use Rattle.pe_records.specs.declared.debug.codeview.CodeviewPDB70DebugInfo.{CodeviewPDB70DebugInfo}
use Rattle.pe_records.specs.declared.debug.codeview.CodeviewPDB20DebugInfo.{CodeviewPDB20DebugInfo}
use Rattle.pe_records.specs.declared.debug.constants.TheConstants.{CODEVIEW_PDB20_MAGIC, CODEVIEW_PDB70_MAGIC, IMAGE_DEBUG_POGO_SIGNATURE_LTCG, IMAGE_DEBUG_POGO_SIGNATURE_PGU, IMAGE_DEBUG_TYPE_CODEVIEW, IMAGE_DEBUG_TYPE_EX_DLLCHARACTERISTICS, IMAGE_DEBUG_TYPE_POGO, IMAGE_DEBUG_TYPE_REPRO, IMAGE_DEBUG_TYPE_VC_FEATURE}
use Rattle.pe_records.specs.declared.debug.pogo.POGOInfo.{POGOInfo}
use Rattle.pe_records.specs.declared.debug.records.ExDllCharacteristicsInfo.{ExDllCharacteristicsInfo}
use Rattle.pe_records.specs.declared.debug.records.ReproInfo.{ReproInfo}
use Rattle.pe_records.specs.declared.debug.records.ReproInfo.TheVariants as repros
use Rattle.pe_records.specs.declared.debug.records.VCFeatureInfo.{VCFeatureInfo}

-- the file offset of an entry's record
abbrev pub record_offset : Bool → ImageDebugDirectory → ℕ
record_offset resolve e = if resolve then e.pointer_to_raw_data else e.address_of_raw_data

-- a record that needs at least this many bytes, by the size in its entry
abbrev pub of_least_size : {X : Type 0} → ParseMode → ℕ → ℕ → Result (Option X) Refusal → Result (Option X) Refusal
of_least_size mode least size record_there =
    if nat_lt size least then none_if_refused mode (Err DebugSize) else record_there

-- a record that starts with its own signature; with any other signature there is none
abbrev pub signed : {X : Type 0} → (ℕ → Bool) → List ℕ → ℕ → Result (Option X) Refusal → Result (Option X) Refusal
signed is_own b p record_there = if holds b p 4 then (if is_own (le b p 4) then record_there else Ok None) else Err Short

-- ---- PDB 7.0

-- what callers see of a PDB 7.0 record
pub record Pdb70 : Type 0 where
  pub codeview_signature : ℕ
  pub signature : List ℕ
  pub age : ℕ
  pub filename : List ℕ

-- this record as callers see it
abbrev pub pdb70_view : CodeviewPDB70DebugInfo → Pdb70
pdb70_view r = record { codeview_signature = r.codeview_signature; signature = r.signature; age = r.age; filename = r.filename.now }

-- 24 bytes and a file name: the record at offset p in this many bytes
unfoldable pub pdb70_at : List ℕ → ℕ → ℕ → Pdb70
pdb70_at b p size = record {
  codeview_signature = le b p 4;
  signature = range b (p + 4) 16;
  age = le b (p + 20) 4;
  filename = range b (p + 24) (size - 24);
}

-- the record at offset p in this many bytes, none, or its first refusal
unfoldable pub pdb70_record : ParseMode → List ℕ → ℕ → ℕ → Result (Option Pdb70) Refusal
pdb70_record mode b p size =
    of_least_size mode 24 size (signed (λ n. n == CODEVIEW_PDB70_MAGIC) b p
    (outcome ((holds b (p + 4) 20, Short) ∷ (holds b (p + 24) (size - 24), DebugData) ∷ []) (Some (pdb70_at b p size))))

-- ---- PDB 2.0

-- what callers see of a PDB 2.0 record
pub record Pdb20 : Type 0 where
  pub codeview_signature : ℕ
  pub codeview_offset : ℕ
  pub signature : ℕ
  pub age : ℕ
  pub filename : List ℕ

-- this record as callers see it
abbrev pub pdb20_view : CodeviewPDB20DebugInfo → Pdb20
pdb20_view r = record { codeview_signature = r.codeview_signature; codeview_offset = r.codeview_offset; signature = r.signature; age = r.age; filename = r.filename.now }

-- 16 bytes and a file name: the record at offset p in this many bytes
unfoldable pub pdb20_at : List ℕ → ℕ → ℕ → Pdb20
pdb20_at b p size = record {
  codeview_signature = le b p 4;
  codeview_offset = le b (p + 4) 4;
  signature = le b (p + 8) 4;
  age = le b (p + 12) 4;
  filename = range b (p + 16) (size - 16);
}

-- the record at offset p in this many bytes, none, or its first refusal
unfoldable pub pdb20_record : ParseMode → List ℕ → ℕ → ℕ → Result (Option Pdb20) Refusal
pdb20_record mode b p size =
    of_least_size mode 16 size (signed (λ n. n == CODEVIEW_PDB20_MAGIC) b p
    (outcome ((holds b (p + 4) 12, Short) ∷ (holds b (p + 16) (size - 16), DebugData) ∷ []) (Some (pdb20_at b p size))))

-- ---- VC feature and characteristics, of fixed size

-- five counts, 20 bytes
unfoldable pub features_at : List ℕ → ℕ → VCFeatureInfo
features_at b p = record {
  pre_vc_plusplus_count = le b p 4;
  c_and_cplusplus_count = le b (p + 4) 4;
  guard_stack_count = le b (p + 8) 4;
  sdl_count = le b (p + 12) 4;
  guard_count = le b (p + 16) 4;
}

-- the five counts at offset p, or `Short`
abbrev pub features_record : List ℕ → ℕ → Result VCFeatureInfo Refusal
features_record b p = record_at b p 20 (features_at b p)

-- the flags at offset p, 4 bytes, or `Short`
abbrev pub characteristics_record : List ℕ → ℕ → Result ExDllCharacteristicsInfo Refusal
characteristics_record b p = record_at b p 4 (record { characteristics_ex = le b p 4 })

-- ---- Repro

-- what callers see of a Repro record: a time stamp, or a length and a hash
pub data Repro : Type 0 where
  Stamp : ℕ → Repro
  Buffer : ℕ → List ℕ → Repro

-- this record as callers see it
abbrev pub repro_view : ReproInfo → Repro
repro_view (repros.TimeDateStamp stamp) = Stamp stamp
repro_view (repros.Buffer count bytes) = Buffer count bytes.now

-- the entry's time stamp if the entry's size is 0, else a count and that many bytes
unfoldable pub repro_record : List ℕ → ℕ → ImageDebugDirectory → Result Repro Refusal
repro_record b p e =
    if e.size_of_data == 0 then Ok (Stamp e.time_date_stamp)
    else outcome ((holds b p 4, Short) ∷ (holds b (p + 4) (le b p 4), DebugData) ∷ []) (Buffer (le b p 4) (range b (p + 4) (le b p 4)))

-- ---- POGO

-- what callers see of a POGO record; `bytes` are its entries
pub record Pogo : Type 0 where
  pub signature : ℕ
  pub bytes : List ℕ

-- this record as callers see it
abbrev pub pogo_view : POGOInfo → Pogo
pogo_view r = record { signature = r.signature; bytes = r.bytes.now }

-- a signature of 4 bytes, and the bytes after it
unfoldable pub pogo_record : List ℕ → ℕ → ℕ → Result (Option Pogo) Refusal
pogo_record b p size =
    signed (λ n. n == IMAGE_DEBUG_POGO_SIGNATURE_LTCG || n == IMAGE_DEBUG_POGO_SIGNATURE_PGU) b p
    (outcome ((nat_lt 4 size, PogoSize) ∷ (holds b (p + 4) (size - 4), DebugData) ∷ []) (Some (record { signature = le b p 4; bytes = range b (p + 4) (size - 4) })))

-- ---- the records of entries

-- each is read at the file offset of its entry's record
abbrev pub pdb70_of : ParseOptions → List ℕ → ImageDebugDirectory → Result (Option Pdb70) Refusal
pdb70_of o b e = pdb70_record o.parse_mode b (record_offset o.resolve_rva e) e.size_of_data

abbrev pub pdb20_of : ParseOptions → List ℕ → ImageDebugDirectory → Result (Option Pdb20) Refusal
pdb20_of o b e = pdb20_record o.parse_mode b (record_offset o.resolve_rva e) e.size_of_data

abbrev pub features_of : ParseOptions → List ℕ → ImageDebugDirectory → Result VCFeatureInfo Refusal
features_of o b e = features_record b (record_offset o.resolve_rva e)

abbrev pub characteristics_of : ParseOptions → List ℕ → ImageDebugDirectory → Result ExDllCharacteristicsInfo Refusal
characteristics_of o b e = characteristics_record b (record_offset o.resolve_rva e)

abbrev pub repro_of : ParseOptions → List ℕ → ImageDebugDirectory → Result Repro Refusal
repro_of o b e = repro_record b (record_offset o.resolve_rva e) e

abbrev pub pogo_of : ParseOptions → List ℕ → ImageDebugDirectory → Result (Option Pogo) Refusal
pogo_of o b e = pogo_record b (record_offset o.resolve_rva e) e.size_of_data

-- ---- the records of a table: each of the first whole entry of its type

-- the record of an entry, if there is an entry
abbrev pub of_entry : {X : Type 0} → (ImageDebugDirectory → Result (Option X) Refusal) → Option ImageDebugDirectory → Result (Option X) Refusal
of_entry record_of None = Ok None
of_entry record_of (Some e) = record_of e

-- the same for a record that every entry of the type has
abbrev pub some_of_entry : {X : Type 0} → (ImageDebugDirectory → Result X Refusal) → Option ImageDebugDirectory → Result (Option X) Refusal
some_of_entry record_of None = Ok None
some_of_entry record_of (Some e) = record_of e >>= λ r. Ok (Some r)

-- debug data: the bytes of the table, the fixup of its entries, and the six records
pub record DebugFields : Type 0 where
  pub table : List ℕ
  pub fixup : ℕ
  pub pdb70 : Option Pdb70
  pub pdb20 : Option Pdb20
  pub features : Option VCFeatureInfo
  pub characteristics : Option ExDllCharacteristicsInfo
  pub repro : Option Repro
  pub pogo : Option Pogo

-- the bytes of the table, and its fixup
abbrev pub debug_table_of : declared.DebugData → List ℕ
debug_table_of d = d.table.now

abbrev pub fixup_of_data : declared.DebugData → ℕ
fixup_of_data d = d.rva_offset

-- these debug data as callers see them
abbrev pub debug_view : declared.DebugData → DebugFields
debug_view d = record {
  table = debug_table_of d;
  fixup = fixup_of_data d;
  pdb70 = option_map pdb70_view d.codeview_pdb70_debug_info;
  pdb20 = option_map pdb20_view d.codeview_pdb20_debug_info;
  features = d.vcfeature_info;
  characteristics = d.ex_dll_characteristics_info;
  repro = option_map repro_view d.repro_info;
  pogo = option_map pogo_view d.pogo_info;
}

-- debug data without entries
abbrev pub no_debug_data : DebugFields
no_debug_data = record { table = []; fixup = 0; pdb70 = None; pdb20 = None; features = None; characteristics = None; repro = None; pogo = None }

-- the records of a table, or the first refusal
unfoldable pub records : ParseOptions → List ℕ → ℕ → List ℕ → Result DebugFields Refusal
records o b fixup t = do
  pdb70 ← of_entry (pdb70_of o b) (first_of_type fixup IMAGE_DEBUG_TYPE_CODEVIEW t)
  pdb20 ← of_entry (pdb20_of o b) (first_of_type fixup IMAGE_DEBUG_TYPE_CODEVIEW t)
  features ← some_of_entry (features_of o b) (first_of_type fixup IMAGE_DEBUG_TYPE_VC_FEATURE t)
  characteristics ← some_of_entry (characteristics_of o b) (first_of_type fixup IMAGE_DEBUG_TYPE_EX_DLLCHARACTERISTICS t)
  repro ← some_of_entry (repro_of o b) (first_of_type fixup IMAGE_DEBUG_TYPE_REPRO t)
  pogo ← of_entry (pogo_of o b) (first_of_type fixup IMAGE_DEBUG_TYPE_POGO t)
  Ok (record { table = t; fixup = fixup; pdb70 = pdb70; pdb20 = pdb20; features = features; characteristics = characteristics; repro = repro; pogo = pogo })

-- the debug data of a directory, or the first refusal
unfoldable pub debug_data : ParseOptions → List ℕ → DataDirectory → List SectionTable → ℕ → ℕ → Result DebugFields Refusal
debug_data o b d sections alignment fixup = directory_table o b d sections alignment >>= records o b fixup
