-- What memory is asked for.
use Rattle.std.proofs.Common.{◌≡◌, ◌<◌, ◌⊎◌, inr, ℕ, List, [], Option, None, Result, Ok, IsSome, IsSomeAnd, arith, rules}
use Rattle.pe_image.proofs.Cited.{if◌then◌else◌, IsOk, HeaderView, OptionalHeaderView, header_at, ImportRecordView, IfMemory, each}
use Rattle.pe_image.proofs.Cited.{sections_of, section_map, DataDirectory, Error, ParseOptions, SectionTable, CoreView, core_of}
use Rattle.pe_image.proofs.Cited.{export_data_of, import_data_of, layout_of, AsksForMemory, HasCertificates, HasExports, HasImports}
use Rattle.pe_image.proofs.Cited.{MemoryOnlyIf, Layout}
use Rattle.pe_core.specs.Exports.{ExportDataView}
use Rattle.pe_image.proofs.SectionsFirst.{headers_of_core}

-- ---- section headers

pub no_sections : (b : List ℕ) (h : HeaderView) (items : List SectionTable) → h.coff_header.number_of_sections ≡ 0 → items ≡ [] → sections_of b h ≡ Ok items
unfolding each
no_sections b h items none empty = search (rules, arith)

-- ---- by the kind of an error

pub if_more : (e : Error) (P Q : Type 0) → (P → Q) → IfMemory e P → IfMemory e Q
if_more e P Q f p = grind arith

pub from_nothing : (e : Error) (P : Type 0) → IfMemory e ⊥ → IfMemory e P
from_nothing e P h = if_more e ⊥ P (λ n. absurd n) h

-- ---- exports and imports

pub asks_for_imports : (e : Error) (offset : ℕ → Option ℕ) (width : ℕ) (b : List ℕ) (d : Option DataDirectory) (records : Option (List ImportRecordView)) →
    import_data_of offset width b d ≡ Ok records → IfMemory e (IsSome records) → IfMemory e (IsSomeAnd d (λ d. IsSome (offset d.virtual_address)))
asks_for_imports e offset width b d records is asked = grind (arith, if_more)

pub asks_for_exports : (e : Error) (b : List ℕ) (o : ParseOptions) (sections : List SectionTable) (h : Option OptionalHeaderView) (layout : Layout) (found : Option ExportDataView) → layout ≡ layout_of h →
    found ≡ export_data_of (section_map o sections layout.file_alignment) b layout.exports → IfMemory e (IsSome found) → IfMemory e (HasExports b o sections h ⊎ HasImports o sections h)
unfolding layout_of
asks_for_exports e b o sections h layout found lay is asked = grind (arith, if_more)

pub asks_for_index : (e : Error) (b : List ℕ) (o : ParseOptions) (sections : List SectionTable) (h : Option OptionalHeaderView) (layout : Layout) (found : Option ExportDataView) → layout ≡ layout_of h →
    found ≡ export_data_of (section_map o sections layout.file_alignment) b layout.exports →
    IfMemory e (IsSome found ⊎ IsSomeAnd (if o.parse_imports then layout.imports else None) (λ d. IsSome (section_map o sections layout.file_alignment d.virtual_address))) → IfMemory e (HasExports b o sections h ⊎ HasImports o sections h)
unfolding layout_of
asks_for_index e b o sections h layout found lay is asked = grind (arith, if_more)

pub asks_for_directory : (e : Error) (b : List ℕ) (o : ParseOptions) (sections : List SectionTable) (h : Option OptionalHeaderView) (layout : Layout) → layout ≡ layout_of h →
    IfMemory e (IsSomeAnd (if o.parse_imports then layout.imports else None) (λ d. IsSome (section_map o sections layout.file_alignment d.virtual_address))) → IfMemory e (HasExports b o sections h ⊎ HasImports o sections h)
unfolding layout_of
asks_for_directory e b o sections h layout lay asked = grind (arith, if_more)

-- ---- the core

pub asks_for_sections : (e : Error) (b : List ℕ) (o : ParseOptions) (h : HeaderView) → header_at b o.parse_mode ≡ Ok h → IfMemory e (IsOk (sections_of b h)) → IfMemory e (0 < h.coff_header.number_of_sections) → IfMemory e (AsksForMemory b o)
asks_for_sections e b o h is ok some = grind arith

pub asks_for_core : {X : Type 0} (r : Result X Error) (b : List ℕ) (o : ParseOptions) (h : HeaderView) (sections : List SectionTable) → header_at b o.parse_mode ≡ Ok h → sections_of b h ≡ Ok sections →
    MemoryOnlyIf (HasExports b o sections h.optional_header ⊎ HasImports o sections h.optional_header) r → MemoryOnlyIf (AsksForMemory b o) r
asks_for_core r b o h sections is are asked = grind (arith, if_more)

-- ---- the image

certificates_ask : (b : List ℕ) (o : ParseOptions) (c : CoreView) → core_of b o ≡ Ok c → HasCertificates b o c.header.optional_header → AsksForMemory b o
certificates_ask b o c given asked =
    let parts = headers_of_core b o c given in
    record { header = c.header; sections = c.sections; is_header = parts.0; are_sections = parts.1; list = inr (inr (inr asked)) }

pub asks_for_certificates : {X : Type 0} (r : Result X Error) (b : List ℕ) (o : ParseOptions) (c : CoreView) → core_of b o ≡ Ok c → MemoryOnlyIf (HasCertificates b o c.header.optional_header) r → MemoryOnlyIf (AsksForMemory b o) r
asks_for_certificates r b o c given asked = grind (arith, if_more, certificates_ask)
