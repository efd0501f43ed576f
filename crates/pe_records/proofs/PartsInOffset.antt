-- The parts of records stand where their definitions take them from.
use Rattle.std.proofs.Common.{◌≡◌, ℕ, ◌+◌, ◌-◌, ◌<◌, ◌≤◌, Bool, true, List, [], ◌∷◌, length, take, drop, Option, Some, None, Result, Ok, refl, ap, sym, subst, arith}
use Rattle.std.proofs.lemmas.List.{places, same_lists}
use Rattle.std.proofs.lemmas.List.Quantifiers.{position-Some}
use Rattle.std.specs.Prelude.{nat_le, nat_lt, ◌==◌, ◌||◌}
use Rattle.std.specs.Option.{option_map}
use Rattle.pe_core.proofs.Ranges.{length_range, inside_if_held}
use Rattle.pe_core.proofs.Steps.{given, same_inside}
use Rattle.pe_core.specs.Bytes.{holds, le, range}
use Rattle.pe_core.specs.Refusals.{Refusal, BadMagic, DebugSize, Short, DebugData, PogoSize, outcome, ◌>>=◌}
use Rattle.pe_core.specs.declared.data_directories.DataDirectory.{DataDirectory}
use Rattle.pe_core.specs.declared.options.ParseMode.{ParseMode}
use Rattle.pe_core.specs.declared.options.ParseOptions.{ParseOptions}
use Rattle.pe_core.specs.declared.section_table.SectionTable.{SectionTable}
use Rattle.pe_records.specs.declared.debug.ImageDebugDirectory.{ImageDebugDirectory}
use Rattle.pe_records.specs.Certificates.{CertificateView, certificate_at}
use Rattle.pe_records.specs.DebugDirectory.{first_of_type, directory_table}
use Rattle.pe_records.specs.DebugRecords.{DebugFields, Pdb70, Pdb20, Pogo, Repro, Stamp, Buffer, pdb70_at, pdb70_record, pdb20_at, pdb20_record, pogo_record, repro_record, pdb70_of, pdb20_of, features_of, characteristics_of, repro_of, pogo_of, of_entry, some_of_entry, record_offset, records, debug_data}
use Rattle.pe_core.specs.Offsets.{StandAt}
use Rattle.pe_records.specs.ManagedDebug.{Checksum, Embedded, checksum_in, checksum_of, checksum_record, embedded_of, embedded_record}
use Rattle.pe_records.specs.Parts.{StandsAfter, DebugPartsStand, hash_of}
use Rattle.pe_records.proofs.CertificatesReadAgain.{Read, read}
use Rattle.pe_records.proofs.SpelledDebug.{passed, passed_pogo, passed_repro}

-- a range of n bytes that are there
stand : (b : List ℕ) (p n : ℕ) (part : List ℕ) → p + n ≤ length b → range b p n ≡ part → StandAt b p part
stand b p n part h e = subst (StandAt b p) e (record { inside = rw (length_range b p n h) h; here = rw (length_range b p n h) refl })

-- the body of a certificate stands after its header
pub body_stands : (b : List ℕ) (p : ℕ) (c : CertificateView) (next : ℕ) → certificate_at b p ≡ Ok (c, next) → StandAt b (p + 8) c.body
body_stands b p c next e =
    let r : Read b p c next = read b p c next e in
    stand b (p + 8) (c.length - 8) c.body r.inside (sym r.body)

-- ---- each record

name70 : (mode : ParseMode) (b : List ℕ) (p size : ℕ) (r : Pdb70) → pdb70_record mode b p size ≡ Ok (Some r) → StandAt b (p + 24) r.filename
unfolding pdb70_record pdb70_at
name70 mode b p size r e =
    let tests = passed (nat_lt size 24) mode (holds b p 4) (le b p 4 == 0x53445352) (holds b (p + 4) 20) (holds b (p + 24) (size - 24)) Short DebugData (pdb70_at b p size) r e in
    stand b (p + 24) (size - 24) r.filename (inside_if_held b (p + 24) (size - 24) tests.1) (ap (λ (x : Pdb70). x.filename) tests.2)

name20 : (mode : ParseMode) (b : List ℕ) (p size : ℕ) (r : Pdb20) → pdb20_record mode b p size ≡ Ok (Some r) → StandAt b (p + 16) r.filename
unfolding pdb20_record pdb20_at
name20 mode b p size r e =
    let tests = passed (nat_lt size 16) mode (holds b p 4) (le b p 4 == 0x3031424E) (holds b (p + 4) 12) (holds b (p + 16) (size - 16)) Short DebugData (pdb20_at b p size) r e in
    stand b (p + 16) (size - 16) r.filename (inside_if_held b (p + 16) (size - 16) tests.1) (ap (λ (x : Pdb20). x.filename) tests.2)

pogo_entries : (b : List ℕ) (p size : ℕ) (r : Pogo) → pogo_record b p size ≡ Ok (Some r) → StandAt b (p + 4) r.bytes
unfolding pogo_record
pogo_entries b p size r e =
    let v : Pogo = record { signature = le b p 4; bytes = range b (p + 4) (size - 4) } in
    let tests = passed_pogo (holds b p 4) (le b p 4 == 0x4C544347 || le b p 4 == 0x50475500) (nat_lt 4 size) (holds b (p + 4) (size - 4)) PogoSize DebugData v r e in
    stand b (p + 4) (size - 4) r.bytes (inside_if_held b (p + 4) (size - 4) tests.1) (ap (λ (x : Pogo). x.bytes) tests.2)

abbrev HashStands : List ℕ → ℕ → Repro → Type 0
HashStands b p (Stamp stamp) = Unit {0}
HashStands b p (Buffer count bytes) = StandAt b (p + 4) bytes

hash : (b : List ℕ) (p : ℕ) (e : ImageDebugDirectory) (r : Repro) → repro_record b p e ≡ Ok r → HashStands b p r
unfolding repro_record
hash b p e r given = grind (arith, passed_repro, given, stand, inside_if_held)

-- ---- the records of debug data

after : {X : Type 0} (o : ParseOptions) (b : List ℕ) (n : ℕ) (part : X → List ℕ) (record_of : ImageDebugDirectory → Result (Option X) Refusal) →
    ((e : ImageDebugDirectory) (x : X) → record_of e ≡ Ok (Some x) → StandAt b (record_offset o.resolve_rva e + n) (part x)) →
    (entry : Option ImageDebugDirectory) (x : Option X) → of_entry record_of entry ≡ Ok x → StandsAfter o b n entry (option_map part x)
after o b n part record_of h entry x e = grind arith

hash_given : (o : ParseOptions) (b : List ℕ) (e : ImageDebugDirectory) (given : Result Repro Refusal) (r : Repro) → repro_of o b e ≡ given → (given >>= λ x. Ok (Some x)) ≡ Ok (Some r) → HashStands b (record_offset o.resolve_rva e) r
hash_given o b e given r i h = grind (arith, hash, given)

hash_after : (o : ParseOptions) (b : List ℕ) (entry : Option ImageDebugDirectory) (r : Option Repro) → some_of_entry (repro_of o b) entry ≡ Ok r → StandsAfter o b 4 entry (hash_of r)
hash_after o b entry None e = tt
hash_after o b entry (Some (Stamp stamp)) e = tt
hash_after o b None (Some (Buffer count bytes)) e = absurd cc
hash_after o b (Some entry) (Some (Buffer count bytes)) e = hash_given o b entry (repro_of o b entry) (Buffer count bytes) refl e

-- ---- the parts of the record of an entry

pub name_of_pdb70 : (o : ParseOptions) (b : List ℕ) (e : ImageDebugDirectory) (r : Option Pdb70) → pdb70_of o b e ≡ Ok r → StandsAfter o b 24 (Some e) (option_map (λ r. r.filename) r)
name_of_pdb70 o b e r given = after o b 24 (λ r. r.filename) (pdb70_of o b) (λ x. name70 o.parse_mode b (record_offset o.resolve_rva x) x.size_of_data) (Some e) r given

pub name_of_pdb20 : (o : ParseOptions) (b : List ℕ) (e : ImageDebugDirectory) (r : Option Pdb20) → pdb20_of o b e ≡ Ok r → StandsAfter o b 16 (Some e) (option_map (λ r. r.filename) r)
name_of_pdb20 o b e r given = after o b 16 (λ r. r.filename) (pdb20_of o b) (λ x. name20 o.parse_mode b (record_offset o.resolve_rva x) x.size_of_data) (Some e) r given

pub entries_of_pogo : (o : ParseOptions) (b : List ℕ) (e : ImageDebugDirectory) (r : Option Pogo) → pogo_of o b e ≡ Ok r → StandsAfter o b 4 (Some e) (option_map (λ r. r.bytes) r)
entries_of_pogo o b e r given = after o b 4 (λ r. r.bytes) (pogo_of o b) (λ x. pogo_entries b (record_offset o.resolve_rva x) x.size_of_data) (Some e) r given

pub hash_of_repro : (o : ParseOptions) (b : List ℕ) (e : ImageDebugDirectory) (r : Repro) → repro_of o b e ≡ Ok r → StandsAfter o b 4 (Some e) (hash_of (Some r))
hash_of_repro o b e r given = hash_after o b (Some e) (Some r) (ap (λ x. x >>= λ y. Ok (Some y)) given)

all_passed : {X : Type 0} (first second third last : Bool) (i j k l : Refusal) (v x : X) →
    outcome ((first, i) ∷ (second, j) ∷ (third, k) ∷ (last, l) ∷ []) v ≡ Ok x → (last ≡ true) × (v ≡ x)
all_passed first second third last i j k l v x e = grind arith

embedded_stands : (b : List ℕ) (p size : ℕ) (r : Embedded) → embedded_record b p size ≡ Ok r → StandAt b (p + 8) r.compressed
unfolding embedded_record
embedded_stands b p size r e =
    let v : Embedded = record { uncompressed_size = le b (p + 4) 4; compressed = range b (p + 8) (size - 8) } in
    let tests = all_passed (nat_le 8 size) (holds b p 8) (le b p 4 == 0x4244504D) (holds b (p + 8) (size - 8)) DebugSize Short BadMagic DebugData v r e in
    stand b (p + 8) (size - 8) r.compressed (inside_if_held b (p + 8) (size - 8) tests.0) (ap (λ (x : Embedded). x.compressed) tests.1)

pub compressed_of_embedded : (o : ParseOptions) (b : List ℕ) (e : ImageDebugDirectory) (r : Embedded) → embedded_of o b e ≡ Ok r → StandsAfter o b 8 (Some e) (Some r.compressed)
compressed_of_embedded o b e r given = embedded_stands b (record_offset o.resolve_rva e) e.size_of_data r given

-- the first n bytes of those that stand at an offset, and those after one more
beginning : (b : List ℕ) (p size n : ℕ) → p + size ≤ length b → n < size → StandAt b (p + 0) (take n (range b p size))
beginning b p size n h lt = record { inside = grind (arith, places); here = same_lists _ _ (grind (arith, places)) (λ j d below. grind (arith, places)) }

ending : (b : List ℕ) (p size n : ℕ) → p + size ≤ length b → n < size → StandAt b (p + (length (take n (range b p size)) + 1)) (drop (n + 1) (range b p size))
ending b p size n h lt = record { inside = grind (arith, places); here = same_lists _ _ (grind (arith, places)) (λ j d below. grind (arith, places)) }

abbrev ChecksumStands : List ℕ → ℕ → Checksum → Type 0
ChecksumStands b p r = StandAt b (p + 0) r.algorithm × StandAt b (p + (length r.algorithm + 1)) r.checksum

checksum_stands : (b : List ℕ) (p size : ℕ) (held : Bool) (r : Checksum) → holds b p size ≡ held → (outcome ((held, DebugData) ∷ []) (range b p size) >>= checksum_in) ≡ Ok r → ChecksumStands b p r
checksum_stands b p size held r h e = grind (arith, inside_if_held, length_range, beginning, ending, position-Some)

parts_of_sum : (b : List ℕ) (p size : ℕ) (r : Checksum) → checksum_record b p size ≡ Ok r → ChecksumStands b p r
unfolding checksum_record
parts_of_sum b p size r e = checksum_stands b p size (holds b p size) r refl e

pub parts_of_checksum : (o : ParseOptions) (b : List ℕ) (e : ImageDebugDirectory) (r : Checksum) → checksum_of o b e ≡ Ok r →
    StandsAfter o b 0 (Some e) (Some r.algorithm) × StandsAfter o b (length r.algorithm + 1) (Some e) (Some r.checksum)
parts_of_checksum o b e r given = parts_of_sum b (record_offset o.resolve_rva e) e.size_of_data r given

-- ---- all records of a table

-- the six records of a table are those of its first entries
pub record RecordsOf (o : ParseOptions) (b : List ℕ) (fixup : ℕ) (t : List ℕ) (d : DebugFields) : Type 0 where
  pub pdb70 : of_entry (pdb70_of o b) (first_of_type fixup 2 t) ≡ Ok d.pdb70
  pub pdb20 : of_entry (pdb20_of o b) (first_of_type fixup 2 t) ≡ Ok d.pdb20
  pub features : some_of_entry (features_of o b) (first_of_type fixup 12 t) ≡ Ok d.features
  pub characteristics : some_of_entry (characteristics_of o b) (first_of_type fixup 20 t) ≡ Ok d.characteristics
  pub repro : some_of_entry (repro_of o b) (first_of_type fixup 16 t) ≡ Ok d.repro
  pub pogo : of_entry (pogo_of o b) (first_of_type fixup 13 t) ≡ Ok d.pogo

pub records_are : (o : ParseOptions) (b : List ℕ) (fixup : ℕ) (t : List ℕ) (d : DebugFields) → records o b fixup t ≡ Ok d → RecordsOf o b fixup t d
unfolding records
records_are o b fixup t d e =
    let pdb70 = given (of_entry (pdb70_of o b) (first_of_type fixup 2 t)) _ d e in
    let pdb20 = given (of_entry (pdb20_of o b) (first_of_type fixup 2 t)) _ d pdb70.2 in
    let features = given (some_of_entry (features_of o b) (first_of_type fixup 12 t)) _ d pdb20.2 in
    let characteristics = given (some_of_entry (characteristics_of o b) (first_of_type fixup 20 t)) _ d features.2 in
    let repro = given (some_of_entry (repro_of o b) (first_of_type fixup 16 t)) _ d characteristics.2 in
    let pogo = given (of_entry (pogo_of o b) (first_of_type fixup 13 t)) _ d repro.2 in
    subst (RecordsOf o b fixup t) (same_inside _ d pogo.2) (record {
      pdb70 = pdb70.1;
      pdb20 = pdb20.1;
      features = features.1;
      characteristics = characteristics.1;
      repro = repro.1;
      pogo = pogo.1;
    })

parts_of_records : (o : ParseOptions) (b : List ℕ) (fixup : ℕ) (t : List ℕ) (d : DebugFields) → records o b fixup t ≡ Ok d → DebugPartsStand o b d
unfolding records
parts_of_records o b fixup t d e =
    let pdb70 = given (of_entry (pdb70_of o b) (first_of_type fixup 2 t)) _ d e in
    let pdb20 = given (of_entry (pdb20_of o b) (first_of_type fixup 2 t)) _ d pdb70.2 in
    let features = given (some_of_entry (features_of o b) (first_of_type fixup 12 t)) _ d pdb20.2 in
    let characteristics = given (some_of_entry (characteristics_of o b) (first_of_type fixup 20 t)) _ d features.2 in
    let repro = given (some_of_entry (repro_of o b) (first_of_type fixup 16 t)) _ d characteristics.2 in
    let pogo = given (of_entry (pogo_of o b) (first_of_type fixup 13 t)) _ d repro.2 in
    subst (DebugPartsStand o b) (same_inside _ d pogo.2) (record {
      pdb70 = after o b 24 (λ r. r.filename) (pdb70_of o b) (λ x. name70 o.parse_mode b (record_offset o.resolve_rva x) x.size_of_data) (first_of_type fixup 2 t) pdb70.0 pdb70.1;
      pdb20 = after o b 16 (λ r. r.filename) (pdb20_of o b) (λ x. name20 o.parse_mode b (record_offset o.resolve_rva x) x.size_of_data) (first_of_type fixup 2 t) pdb20.0 pdb20.1;
      repro = hash_after o b (first_of_type fixup 16 t) repro.0 repro.1;
      pogo = after o b 4 (λ r. r.bytes) (pogo_of o b) (λ x. pogo_entries b (record_offset o.resolve_rva x) x.size_of_data) (first_of_type fixup 13 t) pogo.0 pogo.1;
    })

pub parts_stand : (o : ParseOptions) (b : List ℕ) (d : DataDirectory) (sections : List SectionTable) (alignment fixup : ℕ) (x : DebugFields) → debug_data o b d sections alignment fixup ≡ Ok x → DebugPartsStand o b x
unfolding debug_data
parts_stand o b d sections alignment fixup x e =
    let table = given (directory_table o b d sections alignment) (records o b fixup) x e in
    parts_of_records o b fixup table.0 x table.2
