-- Definitions whose refusals are tests never say that memory has run out.
use Rattle.std.proofs.Common.{◌≡◌, ℕ, ◌+◌, ◌-◌, ◌||◌, Bool, false, List, [], ◌∷◌, Option, Some, None, Result, Ok, Err, refl, arith, rules}
use Rattle.pe_image.proofs.Cited.{◌==◌, nat_lt, holds, le, header_at, header_tests, optional_header_tests, Refusal, Short}
use Rattle.pe_image.proofs.Cited.{DebugData, PogoSize, outcome, kind_of, IfMemory, directory_bytes, section_map, Error}
use Rattle.pe_image.proofs.Cited.{DataDirectory, ParseMode, ParseOptions, SectionTable, is_memory, Lacks, nothing_owed, TestsLack}
use Rattle.pe_image.proofs.Cited.{outcome_lacks, then_lacks, if_lacks, one_test_lacks, characteristics_of, debug_data, features_of}
use Rattle.pe_image.proofs.Cited.{of_entry, of_least_size, pdb20_at, pdb20_of, pdb20_record, pdb70_at, pdb70_of, pdb70_record}
use Rattle.pe_image.proofs.Cited.{pogo_of, pogo_record, record_offset, records, repro_of, repro_record, signed, some_of_entry}
use Rattle.pe_image.proofs.Cited.{exception_at}
use Rattle.pe_core.specs.Offsets.{bytes_in}
use Rattle.pe_core.specs.TeImages.{te_header_of, te_tests}
use Rattle.pe_records.specs.DebugDirectory.{directory_range, directory_table, first_of_type, range_at}
use Rattle.pe_records.specs.declared.debug.ImageDebugDirectory.{ImageDebugDirectory}

-- ---- headers

optional_lacks : (b : List ℕ) (p : ℕ) → TestsLack (optional_header_tests b p)
unfolding optional_header_tests
optional_lacks b p = (refl, (refl, (refl, (refl, tt))))

pub header_lacks : (b : List ℕ) (mode : ParseMode) → Lacks (header_at b mode)
unfolding header_at header_tests
header_lacks b mode = grind (arith, outcome_lacks, optional_lacks)

pub header_owes_nothing : (b : List ℕ) (mode : ParseMode) (e : Error) (P : Type 0) → header_at b mode ≡ Err (kind_of e) → IfMemory e P
header_owes_nothing b mode e P given = nothing_owed (header_at b mode) e P (header_lacks b mode) given

-- ---- headers of TE images

pub te_header_owes_nothing : (b : List ℕ) (e : Error) (P : Type 0) → te_header_of b ≡ Err (kind_of e) → IfMemory e P
unfolding te_header_of te_tests
te_header_owes_nothing b e P given = search (rules, arith, nothing_owed, outcome_lacks)

-- ---- exception data and base relocations

pub exception_lacks : (width : ℕ) (b : List ℕ) (d : DataDirectory) (sections : List SectionTable) (unit : ℕ) (o : ParseOptions) → Lacks (exception_at width b d sections unit o)
unfolding exception_at
exception_lacks width b d sections unit o = grind (arith, if_lacks, outcome_lacks)

pub relocations_lack : (o : ParseOptions) (b : List ℕ) (d : DataDirectory) (sections : List SectionTable) (unit : ℕ) → Lacks (directory_bytes o b d sections unit)
unfolding directory_bytes
relocations_lack o b d sections unit = grind (arith, then_lacks, one_test_lacks)

-- ---- debug data

signed_lacks : {X : Type 0} (is_own : ℕ → Bool) (b : List ℕ) (p : ℕ) (r : Result (Option X) Refusal) → Lacks r → Lacks (signed is_own b p r)
signed_lacks is_own b p r l = if_lacks (holds b p 4) _ (Err Short) (if_lacks (is_own (le b p 4)) r (Ok None) l tt) refl

least_lacks : {X : Type 0} (mode : ParseMode) (least size : ℕ) (r : Result (Option X) Refusal) → Lacks r → Lacks (of_least_size mode least size r)
least_lacks mode least size r l = grind (arith, if_lacks)

two_tests_lack : {X : Type 0} (s t : Bool) (d e : Refusal) (x : X) → is_memory d ≡ false → is_memory e ≡ false → Lacks (outcome ((s, d) ∷ (t, e) ∷ []) x)
two_tests_lack s t d e x is are = outcome_lacks ((s, d) ∷ (t, e) ∷ []) x (is, (are, tt))

pdb70_lacks : (mode : ParseMode) (b : List ℕ) (p size : ℕ) → Lacks (pdb70_record mode b p size)
unfolding pdb70_record
pdb70_lacks mode b p size = least_lacks mode 24 size _ (signed_lacks (λ n. n == 0x53445352) b p _ (two_tests_lack (holds b (p + 4) 20) (holds b (p + 24) (size - 24)) Short DebugData (Some (pdb70_at b p size)) refl refl))

pdb20_lacks : (mode : ParseMode) (b : List ℕ) (p size : ℕ) → Lacks (pdb20_record mode b p size)
unfolding pdb20_record
pdb20_lacks mode b p size = least_lacks mode 16 size _ (signed_lacks (λ n. n == 0x3031424E) b p _ (two_tests_lack (holds b (p + 4) 12) (holds b (p + 16) (size - 16)) Short DebugData (Some (pdb20_at b p size)) refl refl))

repro_lacks : (b : List ℕ) (p : ℕ) (e : ImageDebugDirectory) → Lacks (repro_record b p e)
unfolding repro_record
repro_lacks b p e = if_lacks (e.size_of_data == 0) (Ok _) _ tt (two_tests_lack (holds b p 4) (holds b (p + 4) (le b p 4)) Short DebugData _ refl refl)

pogo_lacks : (b : List ℕ) (p size : ℕ) → Lacks (pogo_record b p size)
unfolding pogo_record
pogo_lacks b p size = signed_lacks (λ n. n == 0x4C544347 || n == 0x50475500) b p _ (two_tests_lack (nat_lt 4 size) (holds b (p + 4) (size - 4)) PogoSize DebugData _ refl refl)

entry_lacks : {X : Type 0} (f : ImageDebugDirectory → Result (Option X) Refusal) (e : Option ImageDebugDirectory) → ((e : ImageDebugDirectory) → Lacks (f e)) → Lacks (of_entry f e)
entry_lacks f e l = grind arith

some_entry_lacks : {X : Type 0} (f : ImageDebugDirectory → Result X Refusal) (e : Option ImageDebugDirectory) → ((e : ImageDebugDirectory) → Lacks (f e)) → Lacks (some_of_entry f e)
some_entry_lacks f e l = grind (arith, then_lacks)

records_lack : (o : ParseOptions) (b : List ℕ) (fixup : ℕ) (t : List ℕ) → Lacks (records o b fixup t)
unfolding records
records_lack o b fixup t =
    then_lacks (of_entry (pdb70_of o b) (first_of_type fixup 2 t)) _ (entry_lacks (pdb70_of o b) (first_of_type fixup 2 t) (λ e. pdb70_lacks o.parse_mode b (record_offset o.resolve_rva e) e.size_of_data))
    (λ a. then_lacks (of_entry (pdb20_of o b) (first_of_type fixup 2 t)) _ (entry_lacks (pdb20_of o b) (first_of_type fixup 2 t) (λ e. pdb20_lacks o.parse_mode b (record_offset o.resolve_rva e) e.size_of_data))
    (λ c. then_lacks (some_of_entry (features_of o b) (first_of_type fixup 12 t)) _ (some_entry_lacks (features_of o b) (first_of_type fixup 12 t) (λ e. one_test_lacks (holds b (record_offset o.resolve_rva e) 20) Short _ refl))
    (λ d. then_lacks (some_of_entry (characteristics_of o b) (first_of_type fixup 20 t)) _ (some_entry_lacks (characteristics_of o b) (first_of_type fixup 20 t) (λ e. one_test_lacks (holds b (record_offset o.resolve_rva e) 4) Short _ refl))
    (λ f. then_lacks (some_of_entry (repro_of o b) (first_of_type fixup 16 t)) _ (some_entry_lacks (repro_of o b) (first_of_type fixup 16 t) (λ e. repro_lacks b (record_offset o.resolve_rva e) e))
    (λ g. then_lacks (of_entry (pogo_of o b) (first_of_type fixup 13 t)) _ (entry_lacks (pogo_of o b) (first_of_type fixup 13 t) (λ e. pogo_lacks b (record_offset o.resolve_rva e) e.size_of_data))
    (λ h. tt))))))

pub debug_lacks : (o : ParseOptions) (b : List ℕ) (d : DataDirectory) (sections : List SectionTable) (unit fixup : ℕ) → Lacks (debug_data o b d sections unit fixup)
unfolding debug_data directory_table directory_range
debug_lacks o b d sections unit fixup =
    then_lacks (directory_table o b d sections unit) (records o b fixup)
    (then_lacks (range_at b o.parse_mode d.size (section_map o sections unit d.virtual_address)) (λ r. Ok (bytes_in b r)) (grind (arith, if_lacks)) (λ r. tt))
    (records_lack o b fixup)
