-- Debug data: what calls return of the entries and of each record is what an image has.
use Rattle.std.proofs.Common.{◌≡◌, ℕ, ◌+◌, ◌-◌, ◌≤◌, Bool, true, false, List, length, Option, Some, None, Result, Ok, Err, refl, ap, subst, arith}
use Rattle.pe_c.proofs.Cited.{min, if◌then◌else◌, option_map, nat_tests, inside_if_held, length_range, same_inside, holds}
use Rattle.pe_c.proofs.Cited.{OptionalHeaderView, bytes_in, DebugBounds, DebugSize, Refusal, Short, outcome, ◌>>=◌, ByteRange}
use Rattle.pe_c.proofs.Cited.{DataDirectory, ParseMode, ParseOptions, SectionTable, debug_field, field, alignment, entries_of_pogo}
use Rattle.pe_c.proofs.Cited.{hash_of_repro, name_of_pdb20, name_of_pdb70, directory_range, directory_table, first_of_type, Buffer}
use Rattle.pe_c.proofs.Cited.{DebugFields, Stamp, debug_data, of_entry, pdb20_at, pdb20_record, pdb70_at, pdb70_record}
use Rattle.pe_c.proofs.Cited.{record_offset, repro_record, some_of_entry, ImageDebugDirectory, ExDllCharacteristicsInfo, of_offset}
use Rattle.pe_c.proofs.Cited.{characteristics_of, debug_entries_range, features_of, first_entry, flat_key, flat_pdb20, flat_pogo}
use Rattle.pe_c.proofs.Cited.{flat_repro, key_of, pdb20_of, pogo_of, read_first, repro_of, AreDebugData, DebugResults, IsDebugData}
use Rattle.pe_c.proofs.Cited.{IsKey, IsPdb20, IsPogo, IsRepro, debug_results, debug_results_after, HasOption, HasResult, Reports}
use Rattle.pe_c.proofs.Cited.{debug_directory, is_absent, options_of, resolves, IsRange, range_of, Image, Range}
use Rattle.pe_core.specs.Modes.{none_if_refused}
use Rattle.pe_image.specs.Layout as layout
use Rattle.pe_records.specs.DebugRecords as records
use Rattle.pe_c.proofs.ImageFields.{Says, all_passed, part_of, plain, there}

-- ---- the kind of a CodeView record

-- where a record is returned, it has its own signature, and all tests passed
is_own_by : {X : Type 0} (mode : ParseMode) (small there own : Bool) (tests : List (Bool × Refusal)) (x y : X) →
    (if small then none_if_refused mode (Err DebugSize) else (if there then (if own then outcome tests (Some x) else Ok None) else Err Short)) ≡ Ok (Some y) → (own ≡ true) × (x ≡ y)
is_own_by mode small there own tests x y e = grind (arith, all_passed)

-- ---- the records of an entry

key_by : (b : List ℕ) (mode : ℕ) (e : ImageDebugDirectory) (q : Result (Option records.Pdb70) Refusal) → records.pdb70_of (options_of mode) b e ≡ q →
    Reports (IsKey b) (q >>= λ r. Ok (option_map (flat_key mode e) r)) q
unfolding pdb70_record pdb70_at
key_by b mode e (Ok None) h = tt
key_by b mode e (Ok (Some r)) h = record {
  kind = grind (arith, is_own_by, nat_tests);
  guid = refl;
  age = refl;
  name = of_offset b (record_offset (resolves mode) e + 24) r.filename (name_of_pdb70 (options_of mode) b e (Some r) h);
}
key_by b mode e (Err refusal) h = refl

pdb20_by : (b : List ℕ) (mode : ℕ) (e : ImageDebugDirectory) (q : Result (Option records.Pdb20) Refusal) → records.pdb20_of (options_of mode) b e ≡ q →
    Reports (IsPdb20 b) (q >>= λ r. Ok (option_map (flat_pdb20 mode e) r)) q
unfolding pdb20_record pdb20_at
pdb20_by b mode e (Ok None) h = tt
pdb20_by b mode e (Ok (Some r)) h = record {
  kind = grind (arith, is_own_by, nat_tests);
  offset = refl;
  signature = refl;
  age = refl;
  name = of_offset b (record_offset (resolves mode) e + 16) r.filename (name_of_pdb20 (options_of mode) b e (Some r) h);
}
pdb20_by b mode e (Err refusal) h = refl

features : (b : List ℕ) (mode : ℕ) (entry : Option ImageDebugDirectory) → HasResult (λ y x. y ≡ x) (of_entry (features_of b mode) entry) (some_of_entry (records.features_of (options_of mode) b) entry)
features b mode entry = grind arith

characteristics : (b : List ℕ) (mode : ℕ) (entry : Option ImageDebugDirectory) →
    HasResult (λ y x. y ≡ option_map (λ (c : ExDllCharacteristicsInfo). c.characteristics_ex) x) (of_entry (characteristics_of b mode) entry) (some_of_entry (records.characteristics_of (options_of mode) b) entry)
characteristics b mode entry = grind arith

-- a hash is as long as its count says; a stamp is that of the entry
abbrev HasShape : ImageDebugDirectory → records.Repro → Type 0
HasShape e (Stamp stamp) = e.time_date_stamp ≡ stamp
HasShape e (Buffer count bytes) = length bytes ≡ count

shape_of : (b : List ℕ) (p : ℕ) (e : ImageDebugDirectory) (r : records.Repro) → repro_record b p e ≡ Ok r → HasShape e r
unfolding repro_record
shape_of b p e r is = grind (arith, same_inside, length_range, inside_if_held)

repro_by : (b : List ℕ) (mode : ℕ) (e : ImageDebugDirectory) (q : Result records.Repro Refusal) → records.repro_of (options_of mode) b e ≡ q →
    Reports (IsRepro b (Some e)) (q >>= λ r. Ok (Some (flat_repro mode e r))) (q >>= λ r. Ok (Some r))
repro_by b mode e (Ok (Stamp stamp)) h = (refl, ap (λ (n : ℕ). Some n) (shape_of b (record_offset (resolves mode) e) e (Stamp stamp) h))
repro_by b mode e (Ok (Buffer count bytes)) h = (
  refl,
  of_offset b (record_offset (resolves mode) e + 4) bytes (hash_of_repro (options_of mode) b e (Buffer count bytes) h),
  shape_of b (record_offset (resolves mode) e) e (Buffer count bytes) h,
)
repro_by b mode e (Err refusal) h = refl

pogo_by : (b : List ℕ) (mode : ℕ) (e : ImageDebugDirectory) (q : Result (Option records.Pogo) Refusal) → records.pogo_of (options_of mode) b e ≡ q →
    Reports (IsPogo b) (q >>= λ r. Ok (option_map (flat_pogo mode e) r)) q
pogo_by b mode e (Ok None) h = tt
pogo_by b mode e (Ok (Some r)) h = record {
  signature = refl;
  entries = of_offset b (record_offset (resolves mode) e + 4) r.bytes (entries_of_pogo (options_of mode) b e (Some r) h);
}
pogo_by b mode e (Err refusal) h = refl

-- ---- in turn

bind : {Y X A B : Type 0} (Has : Y → X → Type 0) (Goal : A → B → Type 0) (y : Result Y Refusal) (x : Result X Refusal) (k : Y → Result A Refusal) (l : X → Result B Refusal) →
    HasResult Has y x → ((v : Y) (w : X) → Has v w → HasResult Goal (k v) (l w)) → HasResult Goal (y >>= k) (x >>= l)
bind Has Goal y x k l h more = grind arith

after_first : {E A B : Type 0} (Goal : A → B → Type 0) (first : Result E Refusal) (entry : E) (k : E → Result A Refusal) (x : Result B Refusal) → first ≡ Ok entry → HasResult Goal (k entry) x → HasResult Goal (first >>= k) x
after_first Goal first entry k x e h = rw e h

-- debug data that an image has
abbrev IsSomeDebugData : List ℕ → Option DebugResults → DebugFields → Type 0
IsSomeDebugData b y x = HasOption (IsDebugData b) y (Some x)

results : (b : List ℕ) (image : Image) (sections : List SectionTable) (r : Range) (t : List ℕ) → IsRange b r t → ((kind : ℕ) → first_entry b image sections kind ≡ Ok (first_of_type 0 kind t)) →
    HasResult (IsSomeDebugData b) (debug_results_after b image sections (Some r)) (records.records (options_of image.mode) b 0 t)
unfolding records.records
results b image sections r t stands first =
    bind (HasOption (IsKey b)) (IsSomeDebugData b) (read_first key_of 2 b image sections) (of_entry (records.pdb70_of (options_of image.mode) b) (first_of_type 0 2 t)) _ _
    (after_first (HasOption (IsKey b)) (first_entry b image sections 2) (first_of_type 0 2 t) _ _ (first 2) (grind (arith, key_by)))
    (λ key pdb70 is_key.
    bind (HasOption (IsPdb20 b)) (IsSomeDebugData b) (read_first pdb20_of 2 b image sections) (of_entry (records.pdb20_of (options_of image.mode) b) (first_of_type 0 2 t)) _ _
    (after_first (HasOption (IsPdb20 b)) (first_entry b image sections 2) (first_of_type 0 2 t) _ _ (first 2) (grind (arith, pdb20_by)))
    (λ flat pdb20 is_pdb20.
    bind (λ y x. y ≡ x) (IsSomeDebugData b) (read_first features_of 12 b image sections) (some_of_entry (records.features_of (options_of image.mode) b) (first_of_type 0 12 t)) _ _
    (after_first (λ y x. y ≡ x) (first_entry b image sections 12) (first_of_type 0 12 t) _ _ (first 12) (features b image.mode (first_of_type 0 12 t)))
    (λ counts vc is_vc.
    bind (λ y x. y ≡ option_map (λ (c : ExDllCharacteristicsInfo). c.characteristics_ex) x) (IsSomeDebugData b) (read_first characteristics_of 20 b image sections) (some_of_entry (records.characteristics_of (options_of image.mode) b) (first_of_type 0 20 t)) _ _
    (after_first (λ y x. y ≡ option_map (λ (c : ExDllCharacteristicsInfo). c.characteristics_ex) x) (first_entry b image sections 20) (first_of_type 0 20 t) _ _ (first 20) (characteristics b image.mode (first_of_type 0 20 t)))
    (λ flags ex is_ex.
    bind (HasOption (IsRepro b (first_of_type 0 16 t))) (IsSomeDebugData b) (read_first repro_of 16 b image sections) (some_of_entry (records.repro_of (options_of image.mode) b) (first_of_type 0 16 t)) _ _
    (after_first (HasOption (IsRepro b (first_of_type 0 16 t))) (first_entry b image sections 16) (first_of_type 0 16 t) _ _ (first 16) (grind (arith, repro_by)))
    (λ hash repro is_repro.
    after_first (IsSomeDebugData b) (first_entry b image sections 16) (first_of_type 0 16 t) _ _ (first 16)
    (bind (HasOption (IsPogo b)) (IsSomeDebugData b) (read_first pogo_of 13 b image sections) (of_entry (records.pogo_of (options_of image.mode) b) (first_of_type 0 13 t)) _ _
    (after_first (HasOption (IsPogo b)) (first_entry b image sections 13) (first_of_type 0 13 t) _ _ (first 13) (grind (arith, pogo_by)))
    (λ parts pogo is_pogo. record {
      table = stands;
      fixup = refl;
      key = is_key;
      pdb20 = is_pdb20;
      features = is_vc;
      characteristics = is_ex;
      repro = is_repro;
      pogo = is_pogo;
    })))))))

-- ---- the directory

-- a table is in the bytes
within_by : (b : List ℕ) (size p : ℕ) (r : ByteRange) (inside permissive : Bool) → holds b p size ≡ inside →
    (if inside then Ok (record { offset = p; length = size }) else (if permissive then Ok (record { offset = min p (length b); length = length b - p }) else Err DebugBounds)) ≡ Ok r → r.offset + r.length ≤ length b
within_by b size p r inside permissive h e = grind (arith, same_inside, inside_if_held)

-- what the calls read where the directory is there
entries_by : (b : List ℕ) (image : Image) (sections : List SectionTable) → is_absent (debug_directory image) ≡ false →
    debug_entries_range b image sections image.mode ≡ (directory_range (options_of image.mode) b (debug_directory image) sections image.file_alignment >>= λ r. Ok (Some (range_of r)))
unfolding debug_entries_range
entries_by b image sections h = rw h refl

no_entries : (b : List ℕ) (image : Image) (sections : List SectionTable) → is_absent (debug_directory image) ≡ true → debug_entries_range b image sections image.mode ≡ Ok None
unfolding debug_entries_range
no_entries b image sections h = rw h refl

-- debug data as a part
as_part : (b : List ℕ) (y : Result (Option DebugResults) Refusal) (x : Result DebugFields Refusal) → HasResult (IsSomeDebugData b) y x → Reports (IsDebugData b) y (x >>= λ d. Ok (Some d))
as_part b y x h = grind arith

by_range : (b : List ℕ) (image : Image) (sections : List SectionTable) (q : Result ByteRange Refusal) → is_absent (debug_directory image) ≡ false →
    directory_range (options_of image.mode) b (debug_directory image) sections image.file_alignment ≡ q →
    Reports (IsDebugData b) ((q >>= λ r. Ok (Some (range_of r))) >>= debug_results_after b image sections)
    (((q >>= λ r. Ok (bytes_in b r)) >>= records.records (options_of image.mode) b 0) >>= λ d. Ok (Some d))
unfolding first_entry directory_table directory_range
by_range b image sections (Err e) h is = refl
by_range b image sections (Ok r) h is =
    as_part b (debug_results_after b image sections (Some (range_of r))) (records.records (options_of image.mode) b 0 (bytes_in b r))
    (results b image sections (range_of r) (bytes_in b r) (record { inside = (grind (arith, within_by)); same = refl })
    (λ kind. rw h (rw is refl)))

plain_part : (o : ParseOptions) (b : List ℕ) (d : Option DataDirectory) (sections : List SectionTable) (unit : ℕ) → part_of (field (λ d. debug_data (plain o) b d sections unit 0) d) ≡ part_of (field (λ d. debug_data o b d sections unit 0) d)
unfolding debug_data directory_table directory_range records.records
plain_part o b None sections unit = refl
plain_part o b (Some d) sections unit = ap (λ (r : Result DebugFields Refusal). r >>= λ x. Ok (Some x)) refl

pub debug_data_are : (b : List ℕ) (o : ParseOptions) (machine flags : ℕ) (header : Option OptionalHeaderView) (image : Image) (sections : List SectionTable) → Says o machine flags header image →
    AreDebugData b image sections (part_of (debug_field b o sections header))
unfolding debug_data directory_table
debug_data_are b o machine flags header image sections s =
    subst (λ (part : Result (Option DebugFields) Refusal). Reports (IsDebugData b) (debug_results b image sections) part) (plain_part o b (layout.directory 6 header) sections (alignment header))
    (subst (λ (unit : ℕ). Reports (IsDebugData b) (debug_results b image sections) (part_of (field (λ d. debug_data (plain o) b d sections unit 0) (layout.directory 6 header)))) s.unit
    (subst (λ (p : ParseOptions). Reports (IsDebugData b) (debug_results b image sections) (part_of (field (λ d. debug_data p b d sections image.file_alignment 0) (layout.directory 6 header)))) s.reads
    (grind (arith, no_entries, there, part_of, entries_by, by_range, there 6 header, s.debug))))
