-- The ranges that are read of debug entries are the parts of their records; and where debug data can be read as a whole, each of
-- its records is read.
use Rattle.std.proofs.Common.{◌≡◌, ℕ, ◌+◌, Bool, List, length, Option, Some, None, Result, Ok, Err, refl, arith}
use Rattle.pe_c.proofs.Cited.{if◌then◌else◌, IsSome, option_map, Refusal, ◌>>=◌, SectionTable, RecordsOf, compressed_of_embedded}
use Rattle.pe_c.proofs.Cited.{entries_of_pogo, hash_of_repro, name_of_pdb20, name_of_pdb70, parts_of_checksum, records_are}
use Rattle.pe_c.proofs.Cited.{directory_table, first_of_type, DebugFields, debug_data, of_entry, some_of_entry, ImageDebugDirectory}
use Rattle.pe_c.proofs.Cited.{of_offset, characteristics_of, checksum_of, embedded_of, features_of, first_entry, flat_checksum}
use Rattle.pe_c.proofs.Cited.{flat_embedded, flat_key, flat_pdb20, flat_pogo, flat_repro, key_of, part_after, pdb20_of, pogo_of}
use Rattle.pe_c.proofs.Cited.{repro_of, ReportsPart, ReturnsRecord, image_debug, debug_directory, is_absent, options_of, IsPart}
use Rattle.pe_c.proofs.Cited.{Image, Range}
use Rattle.pe_records.specs.DebugRecords as records
use Rattle.pe_records.specs.ManagedDebug as managed
use Rattle.pe_records.specs.Parts.{StandsAfter, hash_of}
use Rattle.calls_headers.specs.declared.debug.records.Repro.{Repro}

-- ---- ranges are parts

-- what is made of a record that may be absent
made : {X Y : Type 0} (b : List ℕ) (mode n : ℕ) (e : ImageDebugDirectory) (part : X → List ℕ) (make : X → Y) (range_of : Y → Range) →
    ((x : X) → range_of (make x) ≡ part_after mode e n (part x)) →
    (r : Result (Option X) Refusal) (stands : (x : Option X) → r ≡ Ok x → StandsAfter (options_of mode) b n (Some e) (option_map part x)) (y : Y) →
    (r >>= λ x. Ok (option_map make x)) ≡ Ok (Some y) → (x : Option X) × (r ≡ Ok x) × IsPart b (range_of y) (option_map part x)
made b mode n e part make range_of h r stands y given = grind (arith, of_offset)

-- what is made of a record that every entry has
made_always : {X Y : Type 0} (b : List ℕ) (mode : ℕ) (n : X → ℕ) (e : ImageDebugDirectory) (part : X → List ℕ) (make : X → Y) (range_of : Y → Range) →
    ((x : X) → range_of (make x) ≡ part_after mode e (n x) (part x)) →
    (r : Result X Refusal) (stands : (x : X) → r ≡ Ok x → StandsAfter (options_of mode) b (n x) (Some e) (Some (part x))) (y : Y) →
    (r >>= λ x. Ok (Some (make x))) ≡ Ok (Some y) → (x : X) × (r ≡ Ok x) × IsPart b (range_of y) (Some (part x))
made_always b mode n e part make range_of h r stands y given = grind (arith, of_offset)

pub key_reports : ReportsPart (λ o b e. records.pdb70_of o b e) key_of (λ y. y.name) (λ x. option_map (λ r. r.filename) x)
key_reports b mode e y given =
    made b mode 24 e (λ r. r.filename) (flat_key mode e) (λ y. y.name) (λ x. refl) (records.pdb70_of (options_of mode) b e) (name_of_pdb70 (options_of mode) b e) y given

pub pdb20_reports : ReportsPart (λ o b e. records.pdb20_of o b e) pdb20_of (λ y. y.name) (λ x. option_map (λ r. r.filename) x)
pdb20_reports b mode e y given =
    made b mode 16 e (λ r. r.filename) (flat_pdb20 mode e) (λ y. y.name) (λ x. refl) (records.pdb20_of (options_of mode) b e) (name_of_pdb20 (options_of mode) b e) y given

pub pogo_reports : ReportsPart (λ o b e. records.pogo_of o b e) pogo_of (λ y. y.entries) (λ x. option_map (λ r. r.bytes) x)
pogo_reports b mode e y given =
    made b mode 4 e (λ r. r.bytes) (flat_pogo mode e) (λ y. y.entries) (λ x. refl) (records.pogo_of (options_of mode) b e) (entries_of_pogo (options_of mode) b e) y given

repro_by : (b : List ℕ) (mode : ℕ) (e : ImageDebugDirectory) (r : Result records.Repro Refusal) (stands : (x : records.Repro) → r ≡ Ok x → StandsAfter (options_of mode) b 4 (Some e) (hash_of (Some x))) (y : Repro) →
    (r >>= λ x. Ok (Some (flat_repro mode e x))) ≡ Ok (Some y) → (x : records.Repro) × (r ≡ Ok x) × IsPart b y.hash (hash_of (Some x))
repro_by b mode e r stands y given = grind (arith, of_offset)

pub repro_reports : ReportsPart (λ o b e. records.repro_of o b e) repro_of (λ y. y.hash) (λ x. hash_of (Some x))
repro_reports b mode e y given = repro_by b mode e (records.repro_of (options_of mode) b e) (hash_of_repro (options_of mode) b e) y given

pub embedded_reports : ReportsPart (λ o b e. managed.embedded_of o b e) embedded_of (λ y. y.compressed) (λ x. Some x.compressed)
embedded_reports b mode e y given =
    made_always b mode (λ x. 8) e (λ x. x.compressed) (flat_embedded mode e) (λ y. y.compressed) (λ x. refl) (managed.embedded_of (options_of mode) b e) (compressed_of_embedded (options_of mode) b e) y given

pub algorithm_reports : ReportsPart (λ o b e. managed.checksum_of o b e) checksum_of (λ y. y.algorithm) (λ x. Some x.algorithm)
algorithm_reports b mode e y given =
    made_always b mode (λ x. 0) e (λ x. x.algorithm) (flat_checksum mode e) (λ y. y.algorithm) (λ x. refl) (managed.checksum_of (options_of mode) b e) (λ x is. (parts_of_checksum (options_of mode) b e x is).0) y given

pub checksum_reports : ReportsPart (λ o b e. managed.checksum_of o b e) checksum_of (λ y. y.checksum) (λ x. Some x.checksum)
checksum_reports b mode e y given =
    made_always b mode (λ x. length x.algorithm + 1) e (λ x. x.checksum) (flat_checksum mode e) (λ y. y.checksum) (λ x. refl) (managed.checksum_of (options_of mode) b e) (λ x is. (parts_of_checksum (options_of mode) b e x is).1) y given

-- ---- the records of debug data that can be read as a whole

-- the table from which they are read, and the first entry in it
table_by : (absent : Bool) (kind : ℕ) (table : Result (List ℕ) Refusal) (read : List ℕ → Result DebugFields Refusal) (d : DebugFields) →
    (if absent then Ok None else ((table >>= read) >>= λ x. Ok (Some x))) ≡ Ok (Some d) →
    (t : List ℕ) × (read t ≡ Ok d) × ((if absent then Ok None else (table >>= λ t. Ok (first_of_type 0 kind t))) ≡ Ok (first_of_type 0 kind t))
table_by absent kind table read d e = grind arith

first_of : (kind : ℕ) (b : List ℕ) (image : Image) (s : List SectionTable) (d : DebugFields) → image_debug b image s ≡ Ok (Some d) →
    (t : List ℕ) × RecordsOf (options_of image.mode) b 0 t d × (first_entry b image s kind ≡ Ok (first_of_type 0 kind t))
unfolding image_debug debug_data first_entry
first_of kind b image s d e =
    let o = options_of image.mode in
    let given = table_by (is_absent (debug_directory image)) kind (directory_table o b (debug_directory image) s image.file_alignment) (records.records o b 0) d e in
    (given.0, records_are o b 0 given.0 d given.1, given.2)

read_one : {X Y : Type 0} (record_of : ImageDebugDirectory → Result (Option X) Refusal) (make : ImageDebugDirectory → X → Y) (entry : Option ImageDebugDirectory) (x : Option X) →
    of_entry record_of entry ≡ Ok x → IsSome x → (y : Y) × (of_entry (λ e. record_of e >>= λ r. Ok (option_map (make e) r)) entry ≡ Ok (Some y))
read_one record_of make entry None e some = absurd cc
read_one record_of make None (Some x) e some = absurd cc
read_one record_of make (Some entry) (Some x) e some = (make entry x, rw e refl)

read_always : {X Y : Type 0} (record_of : ImageDebugDirectory → Result X Refusal) (make : ImageDebugDirectory → X → Y) (entry : Option ImageDebugDirectory) (x : Option X) →
    some_of_entry record_of entry ≡ Ok x → IsSome x → (y : Y) × (of_entry (λ e. record_of e >>= λ r. Ok (Some (make e r))) entry ≡ Ok (Some y))
read_always record_of make entry None e some = absurd cc
read_always record_of make None (Some x) e some = absurd cc
read_always record_of make (Some entry) (Some x) e some = always_by (record_of entry) (make entry) x e where
  always_by : {X Y : Type 0} (r : Result X Refusal) (make : X → Y) (x : X) → (r >>= λ v. Ok (Some v)) ≡ Ok (Some x) → (y : Y) × ((r >>= λ v. Ok (Some (make v))) ≡ Ok (Some y))
  always_by (Ok v) make x e = (make v, refl)
  always_by (Err k) make x e = absurd cc

then_read : {Y : Type 0} (first : Result (Option ImageDebugDirectory) Refusal) (entry : Option ImageDebugDirectory) (read : ImageDebugDirectory → Result (Option Y) Refusal) → first ≡ Ok entry →
    (y : Y) × (of_entry read entry ≡ Ok (Some y)) → (y : Y) × ((first >>= of_entry read) ≡ Ok (Some y))
then_read first entry read e given = (given.0, rw e given.1)

pub key_is_returned : ReturnsRecord 2 key_of (λ d. d.pdb70)
key_is_returned b image s d e some =
    let given = first_of 2 b image s d e in
    then_read (first_entry b image s 2) _ (key_of b image.mode) given.2 (read_one (records.pdb70_of (options_of image.mode) b) (flat_key image.mode) (first_of_type 0 2 given.0) d.pdb70 given.1.pdb70 some)

pub pdb20_is_returned : ReturnsRecord 2 pdb20_of (λ d. d.pdb20)
pdb20_is_returned b image s d e some =
    let given = first_of 2 b image s d e in
    then_read (first_entry b image s 2) _ (pdb20_of b image.mode) given.2 (read_one (records.pdb20_of (options_of image.mode) b) (flat_pdb20 image.mode) (first_of_type 0 2 given.0) d.pdb20 given.1.pdb20 some)

pub features_is_returned : ReturnsRecord 12 features_of (λ d. d.features)
features_is_returned b image s d e some =
    let given = first_of 12 b image s d e in
    then_read (first_entry b image s 12) _ (features_of b image.mode) given.2 (read_always (records.features_of (options_of image.mode) b) (λ e r. r) (first_of_type 0 12 given.0) d.features given.1.features some)

pub characteristics_is_returned : ReturnsRecord 20 characteristics_of (λ d. d.characteristics)
characteristics_is_returned b image s d e some =
    let given = first_of 20 b image s d e in
    then_read (first_entry b image s 20) _ (characteristics_of b image.mode) given.2 (read_always (records.characteristics_of (options_of image.mode) b) (λ e r. r.characteristics_ex) (first_of_type 0 20 given.0) d.characteristics given.1.characteristics some)

pub repro_is_returned : ReturnsRecord 16 repro_of (λ d. d.repro)
repro_is_returned b image s d e some =
    let given = first_of 16 b image s d e in
    then_read (first_entry b image s 16) _ (repro_of b image.mode) given.2 (read_always (records.repro_of (options_of image.mode) b) (flat_repro image.mode) (first_of_type 0 16 given.0) d.repro given.1.repro some)

pub pogo_is_returned : ReturnsRecord 13 pogo_of (λ d. d.pogo)
pogo_is_returned b image s d e some =
    let given = first_of 13 b image s d e in
    then_read (first_entry b image s 13) _ (pogo_of b image.mode) given.2 (read_one (records.pogo_of (options_of image.mode) b) (flat_pogo image.mode) (first_of_type 0 13 given.0) d.pogo given.1.pogo some)
