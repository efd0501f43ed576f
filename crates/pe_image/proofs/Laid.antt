-- Records that are written field by field.
use Rattle.std.proofs.Common.{◌≡◌, ℕ, ◌+◌, ◌*◌, ◌≤◌, ◌<◌, cond, List, [], ◌∷◌, ◌++◌, length, get_or, take, refl, sym, arith}
use Rattle.pe_image.proofs.Cited.{◌==◌, flat_map, flat_map-append, append-nil, length-append, take-append-drop, take_more}
use Rattle.pe_image.proofs.Cited.{length-bytes_of, splice-splice, bytes_of, splice, OptionalHeaderView, spell_coff, spell_directory}
use Rattle.pe_image.proofs.Cited.{spell_dos, spell_optional, spell_section, spell_standard_fields_32, spell_standard_fields_64}
use Rattle.pe_image.proofs.Cited.{spell_windows_fields_32, spell_windows_fields_64, DataDirectory, SectionTable}
use Rattle.pe_core.specs.declared.header.CoffHeader.{CoffHeader}
use Rattle.pe_core.specs.declared.header.DosHeader.{DosHeader}
use Rattle.pe_core.specs.declared.optional_header.StandardFields.{StandardFields}
use Rattle.pe_core.specs.declared.optional_header.WindowsFields.{WindowsFields}

-- the bytes x, n of them, are put at p: the bytes b have become now
pub record Laid (b : List ℕ) (p n : ℕ) (now x : List ℕ) : Type 0 where
  pub inside : p ≤ length b
  pub count : length x ≡ n
  pub same : now ≡ splice b p x

pub laid_first : {b now : List ℕ} {p : ℕ} (x : List ℕ) (n : ℕ) → p ≤ length b → length x ≡ n → now ≡ splice b p x → Laid b p n now x
laid_first x n h l e = record { inside = h; count = l; same = e }

pub laid_next : {b old now x : List ℕ} {p n : ℕ} (y : List ℕ) (m : ℕ) → Laid b p n old x → length y ≡ m → now ≡ splice old (p + n) y → Laid b p (n + m) now (x ++ y)
laid_next y m l k e = grind (arith, splice-splice, length-append)

-- a number of w bytes is written at the offset, or after what is written there
pub number_first : {b now : List ℕ} {p : ℕ} (w v : ℕ) → p ≤ length b → now ≡ splice b p (bytes_of w v) → Laid b p w now (bytes_of w v)
number_first w v h e = laid_first (bytes_of w v) w h (length-bytes_of w v) e

pub then_number : {b old now x : List ℕ} {p n : ℕ} (w v : ℕ) → Laid b p n old x → now ≡ splice old (p + n) (bytes_of w v) → Laid b p (n + w) now (x ++ bytes_of w v)
then_number w v l e = laid_next (bytes_of w v) w l (length-bytes_of w v) e

-- ---- how long the records are

pub length_dos : (d : DosHeader) → length d.rest ≡ 58 → length (spell_dos d) ≡ 64
unfolding spell_dos
length_dos d h = simp (length-append, length-bytes_of) (omega (arith, h))

pub length_coff : (c : CoffHeader) → length (spell_coff c) ≡ 20
unfolding spell_coff
length_coff c = simp (length-append, length-bytes_of) refl

pub length_standard32 : (s : StandardFields) → length (spell_standard_fields_32 s) ≡ 28
unfolding spell_standard_fields_32 spell_standard_fields_64
length_standard32 s = simp (length-append, length-bytes_of) refl

pub length_standard64 : (s : StandardFields) → length (spell_standard_fields_64 s) ≡ 24
unfolding spell_standard_fields_64
length_standard64 s = simp (length-append, length-bytes_of) refl

pub length_windows32 : (w : WindowsFields) → length (spell_windows_fields_32 w) ≡ 68
unfolding spell_windows_fields_32
length_windows32 w = simp (length-append, length-bytes_of) refl

pub length_windows64 : (w : WindowsFields) → length (spell_windows_fields_64 w) ≡ 88
unfolding spell_windows_fields_64
length_windows64 w = simp (length-append, length-bytes_of) refl

pub length_directory : (d : DataDirectory) → length (spell_directory d) ≡ 8
unfolding spell_directory
length_directory d = simp (length-append, length-bytes_of) refl

pub length_section : (s : SectionTable) → length s.name ≡ 8 → length (spell_section s) ≡ 40
unfolding spell_section
length_section s h = simp (length-append, length-bytes_of) (omega (arith, h))

pub length_directories : (rows : List DataDirectory) → length (flat_map spell_directory rows) ≡ 8 * length rows
length_directories [] = refl
length_directories (d ∷ rows) = simp length-append (omega (arith, length_directory d, length_directories rows))

pub length_optional : (o : OptionalHeaderView) → length (spell_optional o) ≡ cond (o.standard_fields.magic == 0x20B) 112 96 + 8 * length o.data_directories
unfolding spell_optional
length_optional o =
    grind (arith, length-append, length_directories, length_standard64, length_windows64, length_standard32, length_windows32)

-- ---- directories, and the optional header

pub rows_first : (b : List ℕ) (p : ℕ) (rows : List DataDirectory) → p ≤ length b → Laid b p (8 * 0) b (flat_map spell_directory (take 0 rows))
unfolding splice
rows_first b p rows h = let z : p + 0 ≡ p = omega arith in record { inside = h; count = refl; same = rw z (sym (take-append-drop p b)) }

pub rows_next : {b old now : List ℕ} {p : ℕ} (rows : List DataDirectory) (i : ℕ) (d : DataDirectory) → i < length rows → Laid b p (8 * i) old (flat_map spell_directory (take i rows)) → now ≡ splice old (p + 8 * i) (spell_directory (get_or rows i d)) → Laid b p (8 * (i + 1)) now (flat_map spell_directory (take (i + 1) rows))
rows_next {b} {old} {now} {p} rows i d h l e =
    let more : take (i + 1) rows ≡ take i rows ++ get_or rows i d ∷ [] = take_more rows i d h in
    let n : 8 * (i + 1) ≡ 8 * i + 8 = omega arith in
    rw (more, n, flat_map-append spell_directory (take i rows) (get_or rows i d ∷ []), append-nil (spell_directory (get_or rows i d)))
    (laid_next (spell_directory (get_or rows i d)) 8 l (length_directory (get_or rows i d)) e)

-- the room that the parts of an optional header have, by its magic
pub pe32_plus_room : (o : OptionalHeaderView) (rows : List DataDirectory) (p n : ℕ) → rows ≡ o.data_directories → o.standard_fields.magic ≡ 0x20B → p + length (spell_optional o) ≤ n → p + 112 + 8 * length rows ≤ n
pe32_plus_room o rows p n e t h = grind (arith, length_optional)

pub pe32_room : (o : OptionalHeaderView) (rows : List DataDirectory) (p n : ℕ) → rows ≡ o.data_directories → (o.standard_fields.magic ≡ 0x20B → ⊥) → p + length (spell_optional o) ≤ n → p + 96 + 8 * length rows ≤ n
pe32_room o rows p n e t h = grind (arith, length_optional)
