-- An optional header that is read at an offset spells the bytes from there.
use Rattle.std.proofs.Common.{◌≡◌, ℕ, zero, suc, ◌+◌, ◌-◌, ◌*◌, ◌≤◌, Bool, true, false, List, [], ◌∷◌, ◌++◌, length, Ok, refl, ap, sym, ◌∙◌, arith}
use Rattle.std.specs.Prelude.{slice_range, ◌==◌, ◌||◌}
use Rattle.std.specs.List.{flat_map}
use Rattle.std.proofs.lemmas.Grind.{flat_map-append}
use Rattle.std.proofs.lemmas.List.{append-nil}
use Rattle.pe_core.proofs.Ranges.{length_range, inside_if_held}
use Rattle.pe_core.proofs.NumberBytes.{range_join}
use Rattle.pe_core.proofs.SpelledRecords.{spelled_standard_fields_32, spelled_standard_fields_64, spelled_windows_fields_32, spelled_windows_fields_64, spelled_directory}
use Rattle.pe_core.specs.Bytes.{AreBytes, le, holds, range}
use Rattle.pe_core.specs.Directories.{kept}
use Rattle.pe_core.specs.Header.{OptionalHeaderView, is_pe32_plus, directories_offset, optional_header, optional_header_tests, optional_header_at}
use Rattle.pe_core.specs.Records.{standard_fields_32, standard_fields_64, windows_fields_32, windows_fields_64, data_directory}
use Rattle.pe_core.specs.Refusals.{Refusal, Short, BadMagic, outcome}
use Rattle.pe_core.specs.Rows.{each}
use Rattle.pe_core.specs.Spelling.{spell_standard_fields_32, spell_standard_fields_64, spell_windows_fields_32, spell_windows_fields_64, spell_directory, spell_optional}

-- what is accepted passed its last test
passed_last : {Y : Type 0} (s t u w : Bool) (i j k l : Refusal) (v o : Y) → outcome ((s, i) ∷ (t, j) ∷ (u, k) ∷ (w, l) ∷ []) v ≡ Ok o → (w ≡ true) × (v ≡ o)
passed_last true true true true i j k l v o e = (refl, cc)
passed_last true true true false i j k l v o e = absurd cc
passed_last true true false w i j k l v o e = absurd cc
passed_last true false u w i j k l v o e = absurd cc
passed_last false t u w i j k l v o e = absurd cc

-- directories side by side
spelled_rows : (b : List ℕ) (p n : ℕ) → AreBytes b → p + 8 * n ≤ length b → flat_map spell_directory (each (λ i. data_directory b (p + 8 * i)) n) ≡ slice_range b p (p + 8 * n)
unfolding each
spelled_rows b p zero small h = let none : p + 0 - p ≡ 0 = omega arith in rw none refl
spelled_rows b p (suc n) small h =
    let d = data_directory b (p + 8 * n) in
    let front = spelled_rows b p n small (omega arith) in
    let last = spelled_directory b (p + 8 * n) small (omega arith) in
    let end : p + 8 * suc n ≡ p + 8 * n + 8 = omega arith in
    rw (flat_map-append spell_directory (each (λ i. data_directory b (p + 8 * i)) n) (d ∷ []), append-nil (spell_directory d), front, last, end)
    (range_join b p (p + 8 * n) (p + 8 * n + 8) (omega arith) (omega arith) (omega arith))

-- the fields by width, and n directories after them
spelled_pe32_plus : (b : List ℕ) (p n : ℕ) → AreBytes b → p + 112 + 8 * n ≤ length b →
    (spell_standard_fields_64 (standard_fields_64 b p) ++ spell_windows_fields_64 (windows_fields_64 b (p + 24))) ++ flat_map spell_directory (each (λ i. data_directory b (p + 112 + 8 * i)) n) ≡ slice_range b p (p + 112 + 8 * n)
spelled_pe32_plus b p n small h =
    let offset : p + 24 + 88 ≡ p + 112 = omega arith in
    rw (spelled_standard_fields_64 b p small (omega arith), spelled_windows_fields_64 b (p + 24) small (omega arith), offset, range_join b p (p + 24) (p + 112) (omega arith) (omega arith) (omega arith), spelled_rows b (p + 112) n small h)
    (range_join b p (p + 112) (p + 112 + 8 * n) (omega arith) (omega arith) h)

spelled_pe32 : (b : List ℕ) (p n : ℕ) → AreBytes b → p + 96 + 8 * n ≤ length b →
    (spell_standard_fields_32 (standard_fields_32 b p) ++ spell_windows_fields_32 (windows_fields_32 b (p + 28))) ++ flat_map spell_directory (each (λ i. data_directory b (p + 96 + 8 * i)) n) ≡ slice_range b p (p + 96 + 8 * n)
spelled_pe32 b p n small h =
    let offset : p + 28 + 68 ≡ p + 96 = omega arith in
    rw (spelled_standard_fields_32 b p small (omega arith), spelled_windows_fields_32 b (p + 28) small (omega arith), offset, range_join b p (p + 28) (p + 96) (omega arith) (omega arith) (omega arith), spelled_rows b (p + 96) n small h)
    (range_join b p (p + 96) (p + 96 + 8 * n) (omega arith) (omega arith) h)

magic64 : (b : List ℕ) (p : ℕ) → (standard_fields_64 b p).magic ≡ le b p 2
unfolding standard_fields_64
magic64 b p = refl

magic32 : (b : List ℕ) (p : ℕ) → (standard_fields_32 b p).magic ≡ le b p 2
unfolding standard_fields_32 standard_fields_64
magic32 b p = refl

-- the whole of it, by width
by_width : (w : Bool) (b : List ℕ) (p : ℕ) → AreBytes b → is_pe32_plus b p ≡ w →
    p + directories_offset (is_pe32_plus b p) + 8 * kept (optional_header b p).windows_fields.number_of_rva_and_sizes ≤ length b →
    spell_optional (optional_header b p) ≡ slice_range b p (p + directories_offset (is_pe32_plus b p) + 8 * kept (optional_header b p).windows_fields.number_of_rva_and_sizes)
unfolding spell_optional optional_header
by_width true b p small e h =
    let n = kept (windows_fields_64 b (p + 24)).number_of_rva_and_sizes in
    let inside : p + 112 + 8 * n ≤ length b = rw e at h in
    simp (e, magic64 b p) (spelled_pe32_plus b p n small inside)
by_width false b p small e h =
    let n = kept (windows_fields_32 b (p + 28)).number_of_rva_and_sizes in
    let inside : p + 96 + 8 * n ≤ length b = rw e at h in
    simp (e, magic32 b p) (spelled_pe32 b p n small inside)

-- how long the optional header is that starts at p
abbrev length_of : List ℕ → ℕ → ℕ
length_of b p = directories_offset (is_pe32_plus b p) + 8 * kept (optional_header b p).windows_fields.number_of_rva_and_sizes

-- one that is accepted is the one at the offset, and all of it is there
accepted : (b : List ℕ) (p : ℕ) (o : OptionalHeaderView) → optional_header_at b p ≡ Ok o → (p + length_of b p ≤ length b) × (optional_header b p ≡ o)
unfolding optional_header_tests
accepted b p o e =
    let last = passed_last (holds b p 2) (le b p 2 == 0x10B || is_pe32_plus b p) (holds b p (directories_offset (is_pe32_plus b p)))
    (holds b (p + directories_offset (is_pe32_plus b p)) (8 * kept (optional_header b p).windows_fields.number_of_rva_and_sizes))
    Short BadMagic Short Short (optional_header b p) o e in
    let inside = inside_if_held b (p + directories_offset (is_pe32_plus b p)) (8 * kept (optional_header b p).windows_fields.number_of_rva_and_sizes) last.0 in
    (omega (arith, inside), last.1)

-- its spelling stands at the offset
pub spelled_optional : (b : List ℕ) (p : ℕ) (o : OptionalHeaderView) → AreBytes b → optional_header_at b p ≡ Ok o → range b p (length (spell_optional o)) ≡ spell_optional o
spelled_optional b p o small e =
    let found = accepted b p o e in
    let n = 8 * kept (optional_header b p).windows_fields.number_of_rva_and_sizes in
    let end : p + directories_offset (is_pe32_plus b p) + n ≡ p + length_of b p = omega arith in
    let inside : p + directories_offset (is_pe32_plus b p) + n ≤ length b = omega (arith, found.0) in
    let spelled : spell_optional (optional_header b p) ≡ slice_range b p (p + directories_offset (is_pe32_plus b p) + n) = by_width (is_pe32_plus b p) b p small refl inside in
    let same : spell_optional o ≡ slice_range b p (p + length_of b p) = sym (ap spell_optional found.1) ∙ (rw end at spelled) in
    let count : length (spell_optional o) ≡ length_of b p = ap length same ∙ length_range b p (length_of b p) found.0 in
    rw count (sym same)
