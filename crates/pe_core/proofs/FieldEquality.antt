-- Equality of section headers, options and headers, field by field.
use Rattle.std.proofs.Common.{◌≡◌, ℕ, Bool, List, nat_eq, ◌&&◌, refl, ap, ◌∙◌}
use Rattle.std.specs.Prelude.{Option, None, Some}
use Rattle.std.specs.Option.{option_eq, option_map}
use Rattle.std.specs.Bool.{Decides}
use Rattle.std.specs.Cmp.{booleans_Decides}
use Rattle.std.proofs.lemmas.Bool.Decides.{Decides-and, Decides-like, Decides-eqb}
use Rattle.std.proofs.lemmas.Slice.Eq.{slice_eq-Decides}
use mathlib.Core.Bool.{beq}
use lib.Pointwise.{pointwise}
use Rattle.pe_core.specs.declared.options.ParseMode.{ParseMode}
use Rattle.pe_core.specs.declared.options.ParseOptions.{ParseOptions}
use Rattle.pe_core.specs.declared.section_table.SectionTable.{SectionTable}
use Rattle.pe_core.specs.declared.header.CoffHeader.{CoffHeader}
use Rattle.pe_core.specs.declared.header.DosHeader.{DosHeader}
use Rattle.pe_core.specs.declared.header.Header.{Header}
use Rattle.pe_core.specs.declared.optional_header.OptionalHeader.{OptionalHeader}
use Rattle.pe_core.specs.Header.{OptionalHeaderView, HeaderView, optional_header_view, optional_view, header_view}
use Rattle.pe_core.specs.Traits.{IsEquality, ComparesBy}

-- equal functions of equal values are equal
pub next : {A B : Type 0} {f g : A → B} {a b : A} → f ≡ g → a ≡ b → f a ≡ g b
next {A} {B} {f} {g} {a} {b} e h = ap (λ (k : A → B). k a) e ∙ ap g h

-- what may be missing is compared by its value, as seen
pub options_compare : {X Y : Type 0} (view : X → Y) (eq : X → X → Bool) → ComparesBy view eq → (a b : Option X) → Decides (option_eq eq a b) (option_map view a ≡ option_map view b)
options_compare view eq e None None = (λ h. refl, λ h. refl)
options_compare view eq e None (Some y) = (λ h. absurd cc, λ h. absurd cc)
options_compare view eq e (Some x) None = (λ h. absurd cc, λ h. absurd cc)
options_compare view eq e (Some x) (Some y) = (λ h. ap Some ((e x y).0 h), λ h. (e x y).1 cc)

abbrev section_of : List ℕ → ℕ → ℕ → ℕ → ℕ → ℕ → ℕ → ℕ → ℕ → ℕ → SectionTable
section_of a0 a1 a2 a3 a4 a5 a6 a7 a8 a9 = record { name = a0; virtual_size = a1; virtual_address = a2; size_of_raw_data = a3; pointer_to_raw_data = a4; pointer_to_relocations = a5; pointer_to_linenumbers = a6; number_of_relocations = a7; number_of_linenumbers = a8; characteristics = a9 }

abbrev SameSectionFields : SectionTable → SectionTable → Type 0
SameSectionFields x y = (x.name ≡ y.name) × ((x.virtual_size ≡ y.virtual_size) × ((x.virtual_address ≡ y.virtual_address) × ((x.size_of_raw_data ≡ y.size_of_raw_data) × ((x.pointer_to_raw_data ≡ y.pointer_to_raw_data) × ((x.pointer_to_relocations ≡ y.pointer_to_relocations) × ((x.pointer_to_linenumbers ≡ y.pointer_to_linenumbers) × ((x.number_of_relocations ≡ y.number_of_relocations) × ((x.number_of_linenumbers ≡ y.number_of_linenumbers) × (x.characteristics ≡ y.characteristics)))))))))

abbrev section_test : SectionTable → SectionTable → Bool
section_test x y = pointwise nat_eq x.name y.name && (nat_eq x.virtual_size y.virtual_size && (nat_eq x.virtual_address y.virtual_address && (nat_eq x.size_of_raw_data y.size_of_raw_data && (nat_eq x.pointer_to_raw_data y.pointer_to_raw_data && (nat_eq x.pointer_to_relocations y.pointer_to_relocations && (nat_eq x.pointer_to_linenumbers y.pointer_to_linenumbers && (nat_eq x.number_of_relocations y.number_of_relocations && (nat_eq x.number_of_linenumbers y.number_of_linenumbers && nat_eq x.characteristics y.characteristics))))))))

section_fields : (x y : SectionTable) → Decides (section_test x y) (SameSectionFields x y)
section_fields x y = Decides-and _ _ (slice_eq-Decides Decides-eqb x.name y.name _ refl) (Decides-and _ _ (Decides-eqb x.virtual_size y.virtual_size) (Decides-and _ _ (Decides-eqb x.virtual_address y.virtual_address) (Decides-and _ _ (Decides-eqb x.size_of_raw_data y.size_of_raw_data) (Decides-and _ _ (Decides-eqb x.pointer_to_raw_data y.pointer_to_raw_data) (Decides-and _ _ (Decides-eqb x.pointer_to_relocations y.pointer_to_relocations) (Decides-and _ _ (Decides-eqb x.pointer_to_linenumbers y.pointer_to_linenumbers) (Decides-and _ _ (Decides-eqb x.number_of_relocations y.number_of_relocations) (Decides-and _ _ (Decides-eqb x.number_of_linenumbers y.number_of_linenumbers) (Decides-eqb x.characteristics y.characteristics)))))))))

same_section : (x y : SectionTable) → SameSectionFields x y → x ≡ y
same_section x y h = next (next (next (next (next (next (next (next (next (next (refl {a = section_of}) h.0) h.1.0) h.1.1.0) h.1.1.1.0) h.1.1.1.1.0) h.1.1.1.1.1.0) h.1.1.1.1.1.1.0) h.1.1.1.1.1.1.1.0) h.1.1.1.1.1.1.1.1.0) h.1.1.1.1.1.1.1.1.1

pub sections_equal : (x y : SectionTable) → Decides (section_test x y) (x ≡ y)
sections_equal x y = Decides-like _ (same_section x y) (λ e. (ap (λ (s : SectionTable). s.name) e, (ap (λ (s : SectionTable). s.virtual_size) e, (ap (λ (s : SectionTable). s.virtual_address) e, (ap (λ (s : SectionTable). s.size_of_raw_data) e, (ap (λ (s : SectionTable). s.pointer_to_raw_data) e, (ap (λ (s : SectionTable). s.pointer_to_relocations) e, (ap (λ (s : SectionTable). s.pointer_to_linenumbers) e, (ap (λ (s : SectionTable). s.number_of_relocations) e, (ap (λ (s : SectionTable). s.number_of_linenumbers) e, ap (λ (s : SectionTable). s.characteristics) e)))))))))) (section_fields x y)

abbrev options_of : Bool → Bool → Bool → Bool → ParseMode → ParseOptions
options_of a0 a1 a2 a3 a4 = record { resolve_rva = a0; parse_attribute_certificates = a1; parse_imports = a2; parse_resources = a3; parse_mode = a4 }

abbrev SameOptions : ParseOptions → ParseOptions → Type 0
SameOptions x y = (x.resolve_rva ≡ y.resolve_rva) × ((x.parse_attribute_certificates ≡ y.parse_attribute_certificates) × ((x.parse_imports ≡ y.parse_imports) × ((x.parse_resources ≡ y.parse_resources) × (x.parse_mode ≡ y.parse_mode))))

abbrev options_test : (ParseMode → ParseMode → Bool) → ParseOptions → ParseOptions → Bool
options_test eq x y = beq x.resolve_rva y.resolve_rva && (beq x.parse_attribute_certificates y.parse_attribute_certificates && (beq x.parse_imports y.parse_imports && (beq x.parse_resources y.parse_resources && eq x.parse_mode y.parse_mode)))

option_fields : (eq : ParseMode → ParseMode → Bool) → IsEquality eq → (x y : ParseOptions) → Decides (options_test eq x y) (SameOptions x y)
option_fields eq e x y = Decides-and _ _ (booleans_Decides x.resolve_rva y.resolve_rva) (Decides-and _ _ (booleans_Decides x.parse_attribute_certificates y.parse_attribute_certificates) (Decides-and _ _ (booleans_Decides x.parse_imports y.parse_imports) (Decides-and _ _ (booleans_Decides x.parse_resources y.parse_resources) (e x.parse_mode y.parse_mode))))

same_options : (x y : ParseOptions) → SameOptions x y → x ≡ y
same_options x y h = next (next (next (next (next (refl {a = options_of}) h.0) h.1.0) h.1.1.0) h.1.1.1.0) h.1.1.1.1

pub options_equal : (eq : ParseMode → ParseMode → Bool) → IsEquality eq → (x y : ParseOptions) → Decides (options_test eq x y) (x ≡ y)
options_equal eq e x y = Decides-like _ (same_options x y) (λ e. (ap (λ (o : ParseOptions). o.resolve_rva) e, (ap (λ (o : ParseOptions). o.parse_attribute_certificates) e, (ap (λ (o : ParseOptions). o.parse_imports) e, (ap (λ (o : ParseOptions). o.parse_resources) e, ap (λ (o : ParseOptions). o.parse_mode) e))))) (option_fields eq e x y)

optionals_compare : (eq : OptionalHeader → OptionalHeader → Bool) → ComparesBy optional_header_view eq → (a b : Option OptionalHeader) → Decides (option_eq eq a b) (optional_view a ≡ optional_view b)
optionals_compare eq e None None = (λ h. refl, λ h. refl)
optionals_compare eq e None (Some y) = (λ h. absurd cc, λ h. absurd cc)
optionals_compare eq e (Some x) None = (λ h. absurd cc, λ h. absurd cc)
optionals_compare eq e (Some x) (Some y) = (λ h. ap Some ((e x y).0 h), λ h. (e x y).1 cc)

abbrev header_of : DosHeader → List ℕ → ℕ → CoffHeader → Option OptionalHeaderView → HeaderView
header_of a0 a1 a2 a3 a4 = record { dos_header = a0; dos_stub = a1; signature = a2; coff_header = a3; optional_header = a4 }

abbrev SameHeaders : HeaderView → HeaderView → Type 0
SameHeaders x y = (x.dos_header ≡ y.dos_header) × ((x.dos_stub ≡ y.dos_stub) × ((x.signature ≡ y.signature) × ((x.coff_header ≡ y.coff_header) × (x.optional_header ≡ y.optional_header))))

same_headers : (x y : HeaderView) → SameHeaders x y → x ≡ y
same_headers x y h = next (next (next (next (next (refl {a = header_of}) h.0) h.1.0) h.1.1.0) h.1.1.1.0) h.1.1.1.1

pub headers_equal : (dos : DosHeader → DosHeader → Bool) (coff : CoffHeader → CoffHeader → Bool) (optional : OptionalHeader → OptionalHeader → Bool) → IsEquality dos → IsEquality coff → ComparesBy optional_header_view optional → (x y : Header) → Decides (dos x.dos_header y.dos_header && (pointwise nat_eq x.dos_stub.now y.dos_stub.now && (nat_eq x.signature y.signature && (coff x.coff_header y.coff_header && option_eq optional x.optional_header y.optional_header)))) (header_view x ≡ header_view y)
headers_equal dos coff optional d c o x y =
    Decides-like _ (same_headers (header_view x) (header_view y)) (λ e. (ap (λ (h : HeaderView). h.dos_header) e, (ap (λ (h : HeaderView). h.dos_stub) e, (ap (λ (h : HeaderView). h.signature) e, (ap (λ (h : HeaderView). h.coff_header) e, ap (λ (h : HeaderView). h.optional_header) e)))))
    (Decides-and _ _ (d x.dos_header y.dos_header) (Decides-and _ _ (slice_eq-Decides Decides-eqb x.dos_stub.now y.dos_stub.now _ refl) (Decides-and _ _ (Decides-eqb x.signature y.signature) (Decides-and _ _ (c x.coff_header y.coff_header) (optionals_compare optional o x.optional_header y.optional_header)))))
