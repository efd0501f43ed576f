-- A record that is read at an offset spells the bytes from there.
use Rattle.std.proofs.Common.{◌≡◌, ℕ, ◌+◌, ◌≤◌, List, [], ◌∷◌, ◌++◌, length, refl, arith}
use Rattle.std.specs.Prelude.{slice_range}
use Rattle.pe_core.proofs.NumberBytes.{bytes_of-le, range_join}
use Rattle.pe_core.specs.Bytes.{AreBytes, le, bytes_of, range}
use Rattle.pe_core.specs.Records.{dos_header, coff_header, standard_fields_32, standard_fields_64, windows_fields_32, windows_fields_64, data_directory, section_table, te_header}
use Rattle.pe_core.specs.Spelling.{spell_dos, spell_coff, spell_standard_fields_32, spell_standard_fields_64, spell_windows_fields_32, spell_windows_fields_64, spell_directory, spell_section, spell_te}

-- the sum of the widths
abbrev total : List ℕ → ℕ
total [] = 0
total (w ∷ ws) = w + total ws

-- numbers of these widths from offset p + k on, after what is spelled already
abbrev laid : List ℕ → List ℕ → ℕ → ℕ → List ℕ → List ℕ
laid done b p k [] = done
laid done b p k (w ∷ ws) = laid (done ++ bytes_of w (le b (p + k) w)) b p (k + w) ws

laid_is : (done b : List ℕ) (p k : ℕ) (ws : List ℕ) → AreBytes b → done ≡ slice_range b p (p + k) → p + (k + total ws) ≤ length b → laid done b p k ws ≡ slice_range b p (p + (k + total ws))
laid_is done b p k [] small e h = let all : k + 0 ≡ k = omega arith in rw all e
laid_is done b p k (w ∷ ws) small e h =
    let number : bytes_of w (le b (p + k) w) ≡ slice_range b (p + k) (p + k + w) = bytes_of-le b (p + k) w small (omega arith) in
    let offset : p + k + w ≡ p + (k + w) = omega arith in
    let widths : k + (w + total ws) ≡ (k + w) + total ws = omega arith in
    let more : done ++ bytes_of w (le b (p + k) w) ≡ slice_range b p (p + (k + w)) = rw (e, number, offset) (range_join b p (p + k) (p + (k + w)) (omega arith) (omega arith) (omega arith)) in
    rw widths (laid_is (done ++ bytes_of w (le b (p + k) w)) b p (k + w) ws small more (omega arith))

pub spelled_dos : (b : List ℕ) (p : ℕ) → AreBytes b → p + 64 ≤ length b → spell_dos (dos_header b p) ≡ range b p 64
unfolding spell_dos dos_header
spelled_dos b p small h =
    let offset : p + 2 + 58 ≡ p + 60 = omega arith in
    let front : bytes_of 2 (le b p 2) ++ slice_range b (p + 2) (p + 2 + 58) ≡ slice_range b p (p + 60) =
    rw (bytes_of-le b p 2 small (omega arith), offset) (range_join b p (p + 2) (p + 60) (omega arith) (omega arith) (omega arith)) in
    laid_is (bytes_of 2 (le b p 2) ++ range b (p + 2) 58) b p 60 (4 ∷ []) small front h

pub spelled_coff : (b : List ℕ) (p : ℕ) → AreBytes b → p + 20 ≤ length b → spell_coff (coff_header b p) ≡ range b p 20
unfolding spell_coff coff_header
spelled_coff b p small h =
    laid_is (bytes_of 2 (le b p 2)) b p 2 (2 ∷ 4 ∷ 4 ∷ 4 ∷ 2 ∷ 2 ∷ []) small (bytes_of-le b p 2 small (omega arith)) h

pub spelled_standard_fields_32 : (b : List ℕ) (p : ℕ) → AreBytes b → p + 28 ≤ length b → spell_standard_fields_32 (standard_fields_32 b p) ≡ range b p 28
unfolding spell_standard_fields_32 spell_standard_fields_64 standard_fields_32 standard_fields_64
spelled_standard_fields_32 b p small h =
    laid_is (bytes_of 2 (le b p 2)) b p 2 (1 ∷ 1 ∷ 4 ∷ 4 ∷ 4 ∷ 4 ∷ 4 ∷ 4 ∷ []) small (bytes_of-le b p 2 small (omega arith)) h

pub spelled_standard_fields_64 : (b : List ℕ) (p : ℕ) → AreBytes b → p + 24 ≤ length b → spell_standard_fields_64 (standard_fields_64 b p) ≡ range b p 24
unfolding spell_standard_fields_64 standard_fields_64
spelled_standard_fields_64 b p small h =
    laid_is (bytes_of 2 (le b p 2)) b p 2 (1 ∷ 1 ∷ 4 ∷ 4 ∷ 4 ∷ 4 ∷ 4 ∷ []) small (bytes_of-le b p 2 small (omega arith)) h

pub spelled_windows_fields_32 : (b : List ℕ) (p : ℕ) → AreBytes b → p + 68 ≤ length b → spell_windows_fields_32 (windows_fields_32 b p) ≡ range b p 68
unfolding spell_windows_fields_32 windows_fields_32
spelled_windows_fields_32 b p small h =
    laid_is (bytes_of 4 (le b p 4)) b p 4 (4 ∷ 4 ∷ 2 ∷ 2 ∷ 2 ∷ 2 ∷ 2 ∷ 2 ∷ 4 ∷ 4 ∷ 4 ∷ 4 ∷ 2 ∷ 2 ∷ 4 ∷ 4 ∷ 4 ∷ 4 ∷ 4 ∷ 4 ∷ []) small (bytes_of-le b p 4 small (omega arith)) h

pub spelled_windows_fields_64 : (b : List ℕ) (p : ℕ) → AreBytes b → p + 88 ≤ length b → spell_windows_fields_64 (windows_fields_64 b p) ≡ range b p 88
unfolding spell_windows_fields_64 windows_fields_64
spelled_windows_fields_64 b p small h =
    laid_is (bytes_of 8 (le b p 8)) b p 8 (4 ∷ 4 ∷ 2 ∷ 2 ∷ 2 ∷ 2 ∷ 2 ∷ 2 ∷ 4 ∷ 4 ∷ 4 ∷ 4 ∷ 2 ∷ 2 ∷ 8 ∷ 8 ∷ 8 ∷ 8 ∷ 4 ∷ 4 ∷ []) small (bytes_of-le b p 8 small (omega arith)) h

pub spelled_directory : (b : List ℕ) (p : ℕ) → AreBytes b → p + 8 ≤ length b → spell_directory (data_directory b p) ≡ range b p 8
unfolding spell_directory data_directory
spelled_directory b p small h =
    laid_is (bytes_of 4 (le b p 4)) b p 4 (4 ∷ []) small (bytes_of-le b p 4 small (omega arith)) h

pub spelled_section : (b : List ℕ) (p : ℕ) → AreBytes b → p + 40 ≤ length b → spell_section (section_table b p) ≡ range b p 40
unfolding spell_section section_table
spelled_section b p small h =
    laid_is (range b p 8) b p 8 (4 ∷ 4 ∷ 4 ∷ 4 ∷ 4 ∷ 4 ∷ 2 ∷ 2 ∷ 4 ∷ []) small refl h

pub spelled_te : (b : List ℕ) (p : ℕ) → AreBytes b → p + 40 ≤ length b → spell_te (te_header b p) ≡ range b p 40
unfolding spell_te te_header
spelled_te b p small h =
    let front = laid_is (bytes_of 2 (le b p 2)) b p 2 (2 ∷ 1 ∷ 1 ∷ 2 ∷ 4 ∷ 4 ∷ 8 ∷ []) small (bytes_of-le b p 2 small (omega arith)) (omega arith) in
    let offset : p + 24 + 8 ≡ p + 32 = omega arith in
    let last : p + 32 + 8 ≡ p + 40 = omega arith in
    rw (front, spelled_directory b (p + 24) small (omega arith), spelled_directory b (p + 32) small (omega arith), offset, last, range_join b p (p + 24) (p + 32) (omega arith) (omega arith) (omega arith))
    (range_join b p (p + 32) (p + 40) (omega arith) (omega arith) (omega arith))
