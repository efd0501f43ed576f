-- What the calls return decides base relocations, exception data, certificates and exports of an image.
use Rattle.std.proofs.Common.{◌≡◌, ℕ, zero, suc, ◌+◌, ◌-◌, ◌<◌, ◌≤◌, Bool, true, false, List, Option, Some, None, Result, Ok, Err, refl, sym, ap, subst, ◌∙◌, arith, ⊎_elim}
use Rattle.std.specs.Prelude.{nat_le}
use Rattle.std.proofs.lemmas.Bool.{cases_lt}
use Rattle.std.proofs.lemmas.Bool.Decides.{nat_tests}
use Rattle.pe_core.specs.Exports.{ExportDataView, ExportView}
use Rattle.pe_core.specs.Refusals.{Refusal, ◌>>=◌}
use Rattle.pe_core.specs.declared.data_directories.DataDirectory.{DataDirectory}
use Rattle.pe_core.specs.declared.export.ExportDirectoryTable.{ExportDirectoryTable}
use Rattle.pe_core.specs.declared.section_table.SectionTable.{SectionTable}
use Rattle.pe_directories.specs.DirectoryRefusals.{of_image}
use Rattle.pe_records.specs.Certificates.{CertificateView, revision_number, revision_of, type_number, type_of}
use Rattle.pe_records.specs.declared.certificate_table.AttributeCertificateRevision.{AttributeCertificateRevision}
use Rattle.pe_records.specs.declared.certificate_table.AttributeCertificateRevision.TheVariants.{Revision1_0, Revision2_0}
use Rattle.pe_records.specs.declared.certificate_table.AttributeCertificateType.{AttributeCertificateType}
use Rattle.pe_records.specs.declared.certificate_table.AttributeCertificateType.TheVariants.{X509, PkcsSignedData, Reserved1, TsStackSigned}
use Rattle.pe_unwind.specs.ExceptionTable.{ExceptionView}
use Rattle.calls_failures.proofs.OneRun.{Moves, ReportsOne, one_list, one_option, one_result}
use Rattle.calls_directories.specs.Certificates.{ReportsCertificate, StepsCertificates, certificate_reported, certificate_step}
use Rattle.calls_base.specs.Directories.{table_at}
use Rattle.calls_directories.specs.DirectoryTables.{export_directory_at}
use Rattle.calls_directories.specs.ExportAddresses.{address_table_at}
use Rattle.calls_directories.specs.Exports.{FindsNext, StepsExports, StepsExportsIf, StepsOverExports, count_of, exports_after, reported_entry, tables_at, tables_or_short}
use Rattle.calls_base.specs.Ranges.{one_if_some, or_zero, IsPart, IsRange, no_bytes}
use Rattle.calls_failures.specs.ImageParts.{AreCertificates, AreExceptions, AreExports, AreExportsBy, AreListed, AreRelocations, HasOption, IsExportData, IsTable, function_table, is_left_out}
use Rattle.calls_base.specs.Images.{directory, map_of_image}
use Rattle.calls_directories.specs.Parts.{ReportsExport}
use Rattle.calls_directories.specs.declared.directories.certificates.Certificate.{Certificate}
use Rattle.calls_directories.specs.declared.names.export_addresses.AddressTable.{AddressTable}
use Rattle.calls_directories.specs.declared.names.exports.Export.{Export}
use Rattle.calls_directories.specs.declared.directories.tables.ExportFields.{ExportFields}
use Rattle.calls_directories.specs.declared.names.exports.Exports.{Exports}
use Rattle.calls_base.specs.declared.image.Image.{Image}
use Rattle.calls_base.specs.declared.ranges.Range.{Range}

-- ---- ranges

pub one_range : (b : List ℕ) → ReportsOne (IsRange b)
one_range b r x y g h = sym g.same ∙ h.same

-- a part that may be absent, of which a number says whether it is there
pub one_part : (b : List ℕ) (r : Range) (x y : Option (List ℕ)) → IsPart b r x → IsPart b r y → one_if_some x ≡ one_if_some y → x ≡ y
one_part b r None None g h e = refl
one_part b r None (Some y) g h e = absurd cc
one_part b r (Some x) None g h e = absurd cc
one_part b r (Some x) (Some y) g h e = ap (λ (v : List ℕ). Some v) (one_range b r x y g h)

-- ---- base relocations and exception data

same_of_image : {X : Type 0} (x y : Result X Refusal) → of_image x ≡ of_image y → x ≡ y
same_of_image {X} (Ok x) (Ok y) e = let same : x ≡ y = cc in ap (λ (v : X). Ok v) same
same_of_image (Ok x) (Err f) e = absurd cc
same_of_image (Err r) (Ok y) e = absurd cc
same_of_image (Err r) (Err f) e = let same : r ≡ f = cc in ap (λ (v : Refusal). Err v) same

pub one_relocations : (b : List ℕ) (image : Image) (sections : List SectionTable) (x y : Result (Option (List ℕ)) Refusal) → AreRelocations b image sections x → AreRelocations b image sections y → x ≡ y
one_relocations b image sections x y g h =
    same_of_image x y (one_result (HasOption (IsRange b)) (one_option (IsRange b) (one_range b)) (table_at 5 b image sections) (of_image x) (of_image y) g h)

one_table : (b : List ℕ) (unit : ℕ) → ReportsOne (IsTable b unit)
one_table b unit r x y g h = g ∙ sym h

pub one_exceptions : (b : List ℕ) (image : Image) (sections : List SectionTable) (x y : Result (Option ExceptionView) Refusal) → AreExceptions b image sections x → AreExceptions b image sections y → x ≡ y
one_exceptions b image sections x y g h =
    one_result (HasOption (IsTable b image.file_alignment)) (one_option (IsTable b image.file_alignment) (one_table b image.file_alignment)) (function_table b image sections) x y g h

-- ---- certificates

revision_is : (r : AttributeCertificateRevision) → revision_of (revision_number r) ≡ r
revision_is Revision1_0 = refl
revision_is Revision2_0 = refl

type_is : (t : AttributeCertificateType) → type_of (type_number t) ≡ t
type_is X509 = refl
type_is PkcsSignedData = refl
type_is Reserved1 = refl
type_is TsStackSigned = refl

one_certificate : (b : List ℕ) → ReportsOne (ReportsCertificate b)
one_certificate b x c d g h =
    let same : certificate_reported g.0.0 c ≡ certificate_reported h.0.0 d = sym g.0.1 ∙ h.0.1 in
    let size : c.length ≡ d.length = ap (λ (v : Certificate). v.length) same in
    let revision : c.revision ≡ d.revision = sym (revision_is c.revision) ∙ ap (λ (v : Certificate). revision_of v.revision) same ∙ revision_is d.revision in
    let kind : c.certificate_type ≡ d.certificate_type = sym (type_is c.certificate_type) ∙ ap (λ (v : Certificate). type_of v.certificate_type) same ∙ type_is d.certificate_type in
    let body : c.body ≡ d.body = one_range b x.body c.body d.body g.1 h.1 in
    ap (λ (n : ℕ). record c { length = n }) size
    ∙ ap (λ (r : AttributeCertificateRevision). record c { length = d.length; revision = r }) revision
    ∙ ap (λ (t : AttributeCertificateType). record c { length = d.length; revision = d.revision; certificate_type = t }) kind
    ∙ ap (λ (v : List ℕ). record d { body = v }) body

certificates_move : (b : List ℕ) → Moves (StepsCertificates b)
certificates_move b w = ((certificate_step b w).0, (certificate_step b w).1, (refl, refl))

one_listed : (b : List ℕ) (d : DataDirectory) (absent : Bool) (x y : Result (Option (List CertificateView)) Refusal) → AreListed absent b d x → AreListed absent b d y → x ≡ y
one_listed b d true x y g h = g ∙ sym h
one_listed b d false x y g h =
    let same : g.0 ≡ h.0 = one_list (StepsCertificates b) (ReportsCertificate b) (certificates_move b) (one_certificate b) (record { offset = d.virtual_address; length = d.size }) g.0 h.0 g.1 h.1 in
    g.2 ∙ ap (λ (l : Result (List CertificateView) Refusal). l >>= λ cs. Ok (Some cs)) same ∙ sym h.2

pub one_certificates : (wanted : Bool) (b : List ℕ) (image : Image) (x y : Result (Option (List CertificateView)) Refusal) → AreCertificates wanted b image x → AreCertificates wanted b image y → x ≡ y
one_certificates wanted b image x y g h = one_listed b (directory image 4) (is_left_out wanted (directory image 4)) x y g h

-- ---- exports

one_offset : (o p : Option ℕ) → or_zero o ≡ or_zero p → one_if_some o ≡ one_if_some p → o ≡ p
one_offset None None e f = refl
one_offset None (Some p) e f = absurd cc
one_offset (Some o) None e f = absurd cc
one_offset (Some o) (Some p) e f = ap (λ (n : ℕ). Some n) e

one_export : (b : List ℕ) → ReportsOne (λ (x : Export) (e : ExportView). ReportsExport b (Some x) (Some e))
one_export b x e f g h =
    let name : e.name ≡ f.name = one_range b x.name e.name f.name g.0 h.0 in
    let rva : e.rva ≡ f.rva = sym g.1 ∙ h.1 in
    let offset : e.offset ≡ f.offset = one_offset e.offset f.offset (sym g.2 ∙ h.2) (sym g.3 ∙ h.3) in
    ap (λ (n : List ℕ). record e { name = n }) name ∙ ap (λ (a : ℕ). record e { name = f.name; rva = a }) rva ∙ ap (λ (o : Option ℕ). record f { offset = o }) offset

found_by : (reported : ℕ → Option Export) (k n : ℕ) (first : Option Export) → reported k ≡ first → ((found : Option (Export × ℕ)) × FindsNext reported (k + 1) (k + 1 + n) found) → (found : Option (Export × ℕ)) × FindsNext reported k (k + suc n) found
found_by reported k n (Some x) e more = (Some (x, k + 1), (k, omega arith, omega arith, (λ j from below. absurd (omega (arith, from, below))), e, refl))
found_by reported k n None e (None, none) = (
  None,
  λ j from below. ⊎_elim (λ (later : k < j). none j (omega (arith, later)) (omega (arith, below))) (λ (here : j ≤ k). let same : k ≡ j = omega (arith, from, here) in ap reported (sym same) ∙ e) (cases_lt k j),
)
found_by reported k n None e (Some x, found) = (
  Some x,
  (
    found.0,
    omega (arith, found.1),
    omega (arith, found.2),
    (λ j from below. ⊎_elim (λ (later : k < j). found.3 j (omega (arith, later)) below) (λ (here : j ≤ k). let same : k ≡ j = omega (arith, from, here) in ap reported (sym same) ∙ e) (cases_lt k j)),
    found.4,
    found.5,
  ),
)

finds : (reported : ℕ → Option Export) (n k : ℕ) → (found : Option (Export × ℕ)) × FindsNext reported k (k + n) found
finds reported zero k = (None, λ j from below. absurd (omega (arith, from, below)))
finds reported (suc n) k = found_by reported k n (reported k) refl (finds reported n (k + 1))

moves_over : (offset : ℕ → Option ℕ) (b : List ℕ) (w : Exports) (d : Result ExportDataView Refusal) → w.next ≤ count_of w →
    (answer : Result (Option Export) Refusal) × (next : Exports) × StepsOverExports offset b d w answer next
moves_over offset b w (Err refusal) h = (Err refusal, record w { names = no_bytes }, (refl, refl))
moves_over offset b w (Ok d) h =
    let found = finds (reported_entry offset b w.directory d) (count_of w - w.next) w.next in
    let all : w.next + (count_of w - w.next) ≡ count_of w = omega (arith, h) in
    (_, exports_after w found.0, (found.0, subst (λ (end : ℕ). FindsNext (reported_entry offset b w.directory d) w.next end found.0) all found.1, refl, refl))

moves_if : (offset : ℕ → Option ℕ) (b : List ℕ) (w : Exports) (test : Bool) → nat_le (count_of w) w.next ≡ test → (answer : Result (Option Export) Refusal) × (next : Exports) × StepsExportsIf test offset b w answer next
moves_if offset b w true e = (Ok None, w, (refl, refl))
moves_if offset b w false e = moves_over offset b w (tables_or_short b w) (let below : w.next < count_of w = grind (arith, nat_tests) in omega (arith, below))

exports_move : (offset : ℕ → Option ℕ) (b : List ℕ) → Moves (StepsExports offset b)
exports_move offset b w = moves_if offset b w (nat_le (count_of w) w.next) refl

same_ok : {X : Type 0} (q : Result (Option X) Refusal) (x y : X) → q ≡ Ok (Some x) → q ≡ Ok (Some y) → x ≡ y
same_ok q x y e f = cc

-- the table that has these fields
table_with : ExportFields → ExportDirectoryTable
table_with x = record {
  characteristics = x.characteristics;
  time_date_stamp = x.time_date_stamp;
  major = x.major_version;
  minor = x.minor_version;
  name_rva = x.name;
  ordinal_base = x.base;
  address_table_entries = x.number_of_functions;
  number_of_name_pointers = x.number_of_names;
  address_table_rva = x.address_of_functions;
  name_pointer_rva = x.address_of_names;
  ordinal_table_rva = x.address_of_name_ordinals;
}

one_directory : (b : List ℕ) (image : Image) (sections : List SectionTable) (w : Exports) (d e : ExportDataView) → IsExportData b image sections w d → IsExportData b image sections w e → d ≡ e
unfolding table_with
one_directory b image sections w d e g h =
    let fields : g.numbers.0 ≡ h.numbers.0 = same_ok (export_directory_at b image (map_of_image image sections)) g.numbers.0 h.numbers.0 g.numbers.1 h.numbers.1 in
    let numbers : d.directory ≡ e.directory = ap table_with (sym g.numbers.2 ∙ fields ∙ h.numbers.2) in
    let table : g.name.0 ≡ h.name.0 = same_ok (address_table_at b image (map_of_image image sections)) g.name.0 h.name.0 g.name.1 h.name.1 in
    let name : d.name ≡ e.name = one_part b g.name.0.name d.name e.name g.name.2 (rw table h.name.2) (sym g.name.3 ∙ ap (λ (t : AddressTable). t.has_name) table ∙ h.name.3) in
    let addresses : d.addresses ≡ e.addresses = one_range b w.addresses d.addresses e.addresses g.tables.addresses h.tables.addresses in
    let names : d.names ≡ e.names = one_range b w.names d.names e.names g.tables.names h.tables.names in
    let ordinals : d.ordinals ≡ e.ordinals = one_range b w.ordinals d.ordinals e.ordinals g.tables.ordinals h.tables.ordinals in
    ap (λ (v : ExportDirectoryTable). record d { directory = v }) numbers
    ∙ ap (λ (v : Option (List ℕ)). record d { directory = e.directory; name = v }) name
    ∙ ap (λ (v : List ℕ). record d { directory = e.directory; name = e.name; addresses = v }) addresses
    ∙ ap (λ (v : List ℕ). record d { directory = e.directory; name = e.name; addresses = e.addresses; names = v }) names
    ∙ ap (λ (v : List ℕ). record e { ordinals = v }) ordinals

inside_ok : (x y : List ExportView) → ◌≡◌ {A = Result (List ExportView) Refusal} (Ok x) (Ok y) → x ≡ y
inside_ok x y e = cc

one_exports_by : (b : List ℕ) (image : Image) (sections : List SectionTable) (walk : Result (Option Exports) Refusal) (d e : Option ExportDataView) (xs ys : List ExportView) →
    AreExportsBy b image sections walk d xs → AreExportsBy b image sections walk e ys → (d ≡ e) × (xs ≡ ys)
one_exports_by b image sections (Ok (Some w)) d e xs ys g h = (
  g.1 ∙ ap (λ (v : ExportDataView). Some v) (one_directory b image sections w g.0 h.0 g.2 h.2) ∙ sym h.1,
  inside_ok xs ys (one_list (StepsExports (map_of_image image sections) b) (λ (x : Export) (e : ExportView). ReportsExport b (Some x) (Some e)) (exports_move (map_of_image image sections) b) (one_export b) w (Ok xs) (Ok ys) g.3 h.3),
)
one_exports_by b image sections (Ok None) d e xs ys g h = (g.0 ∙ sym h.0, g.1 ∙ sym h.1)
one_exports_by b image sections (Err refusal) d e xs ys g h = (g.0 ∙ sym h.0, g.1 ∙ sym h.1)

pub one_exports : (b : List ℕ) (image : Image) (sections : List SectionTable) (d e : Option ExportDataView) (xs ys : List ExportView) → AreExports b image sections d xs → AreExports b image sections e ys → (d ≡ e) × (xs ≡ ys)
one_exports b image sections d e xs ys g h = one_exports_by b image sections (tables_at b image (map_of_image image sections)) d e xs ys g h
