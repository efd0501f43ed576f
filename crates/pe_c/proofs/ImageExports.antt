-- Exports: what calls return of the export directory and of its names is what an image has.
use Rattle.std.proofs.Common.{◌≡◌, ℕ, true, false, List, length, Option, Some, None, Result, Ok, Err, refl, ap, ◌∙◌, arith}
use Rattle.pe_c.proofs.Cited.{option_map, given, same_inside, ExportDataView, export_data_at, OptionalHeaderView, Refusal, ◌>>=◌}
use Rattle.pe_c.proofs.Cited.{section_map, ParseOptions, SectionTable, export_data_of, exports_of, value_or_none, alignment}
use Rattle.pe_c.proofs.Cited.{tables_stand, directory_in_turn, tested, address_table, address_table_at, dll_name, one_if_some}
use Rattle.pe_c.proofs.Cited.{AreExports, AreExportsBy, export_directory, is_absent, map_of_image, Image, Range}
use Rattle.pe_image.specs.Layout as layout
use Rattle.calls_directories.proofs.AddressEntries.{name_is, names_stand}
use Rattle.pe_c.proofs.ImageFields.{Says, same_map, there}
use Rattle.calls_directories.specs.Exports.{tables_at, walk_over}

-- ---- the name

named_by : (b : List ℕ) (p : ℕ) (text : Option (List ℕ)) → one_if_some {X = Range} (option_map (λ t. record { offset = p; length = length t }) text) ≡ one_if_some text
named_by b p text = grind arith

has_name : (offset : ℕ → Option ℕ) (b : List ℕ) (rva : ℕ) (d : ExportDataView) → export_data_at offset b rva ≡ Ok d → one_if_some (dll_name offset b d.directory.name_rva) ≡ one_if_some d.name
has_name offset b rva d e = grind (arith, named_by) ∙ ap (λ (n : Option (List ℕ)). one_if_some n) (name_is offset b rva d e)

-- ---- the directory and its list

walk_by : (b : List ℕ) (image : Image) (sections : List SectionTable) → is_absent (export_directory image) ≡ false →
    tables_at b image (map_of_image image sections) ≡ (export_data_at (map_of_image image sections) b (export_directory image).virtual_address >>= λ d. Ok (Some (walk_over (map_of_image image sections) (export_directory image) d)))
unfolding tables_at
walk_by b image sections h = rw h refl

no_walk : (b : List ℕ) (image : Image) (sections : List SectionTable) → is_absent (export_directory image) ≡ true → tables_at b image (map_of_image image sections) ≡ Ok None
unfolding tables_at
no_walk b image sections h = rw h refl

by_data : (b : List ℕ) (image : Image) (sections : List SectionTable) (q : Result ExportDataView Refusal) → is_absent (export_directory image) ≡ false →
    export_data_at (map_of_image image sections) b (export_directory image).virtual_address ≡ q →
    AreExportsBy b image sections (q >>= λ d. Ok (Some (walk_over (map_of_image image sections) (export_directory image) d))) (value_or_none q) (exports_of (map_of_image image sections) b (value_or_none q))
unfolding address_table_at export_data_at
by_data b image sections (Err refusal) h e = (refl, refl)
by_data b image sections (Ok d) h e =
    let offset = map_of_image image sections in
    let rva = (export_directory image).virtual_address in (
      d,
      refl,
      record {
        tables = tables_stand offset b rva (export_directory image) d e;
        name = (address_table offset b (export_directory image) d, rw h (rw e refl), names_stand offset b rva (export_directory image) d e, has_name offset b rva d e);
        numbers = grind (arith, given, tested, same_inside, there);
      },
      directory_in_turn offset b rva (export_directory image) d e,
    )

pub exports_are : (b : List ℕ) (o : ParseOptions) (machine flags : ℕ) (header : Option OptionalHeaderView) (image : Image) (sections : List SectionTable) → Says o machine flags header image →
    AreExports b image sections (export_data_of (section_map o sections (alignment header)) b (layout.directory 0 header))
    (exports_of (section_map o sections (alignment header)) b (export_data_of (section_map o sections (alignment header)) b (layout.directory 0 header)))
exports_are b o machine flags header image sections s = grind (arith, same_map, there, no_walk, walk_by, by_data)
