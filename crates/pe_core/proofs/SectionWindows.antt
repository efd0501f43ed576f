-- Lookup by an index of the sections, and the RVAs around one.
use Rattle.std.proofs.Common.{◌≡◌, ℕ, ◌+◌, ◌-◌, ◌^◌, ◌<◌, ◌≤◌, Bool, true, cond, List, length, get_or, Option, Some, None, ap, sym, ◌∙◌, arith}
use Rattle.std.specs.Prelude.{nat_le, nat_lt, ◌&&◌}
use Rattle.std.specs.List.{find}
use Rattle.std.specs.Option.{option_map}
use Rattle.std.proofs.lemmas.Bool.Decides.{nat_tests}
use Rattle.std.proofs.lemmas.List.{get_or_default}
use Rattle.pe_core.specs.declared.options.ParseOptions.{ParseOptions}
use Rattle.pe_core.specs.declared.range_index.RangeEntry.{RangeEntry}
use Rattle.pe_core.specs.declared.section_table.SectionTable.{SectionTable}
use Rattle.pe_core.specs.declared.section_window.Window.{Window}
use Rattle.pe_core.specs.RangeIndexes.{Rises, number_at}
use Rattle.pe_core.specs.SectionIndex.{Agrees}
use Rattle.pe_core.specs.SectionMap.{SectionMapView, covers, map_view, offset_by, offset_in, offset_of, raw_start, reach, section_map}
use Rattle.pe_core.specs.SectionWindow.{IsPieceOf, IsWindow}
use Rattle.pe_core.proofs.Map.{find_first, found_passes}
use Rattle.pe_core.proofs.RangeCuts.{last_starts, same_start}
use Rattle.pe_core.proofs.RangeFounds.{index_found, index_none, index_within}

-- y is at or after the start of entry i - 1, and so of the entries before it
before_of : (es : List RangeEntry) (i y : ℕ) (d : RangeEntry) → Rises es → 0 < i → i ≤ length es → (get_or es (i - 1) d).start ≤ y → (k : ℕ) (e : RangeEntry) → k < i → k < length es → (get_or es k e).start ≤ y
before_of es i y d rising some within low k e lt h =
    let rise : (get_or es k d).start ≤ (get_or es (i - 1) d).start = rising k (i - 1) d (omega arith) (omega arith) in
    let same = same_start es k d e h in
    omega (arith, rise, same)

-- y is before the start of entry i, and so of those after it
after_of : (es : List RangeEntry) (i y : ℕ) (d : RangeEntry) → Rises es → y < (get_or es i d).start → (k : ℕ) (e : RangeEntry) → i ≤ k → k < length es → y < (get_or es k e).start
after_of es i y d rising high k e le h =
    let rise : (get_or es i d).start ≤ (get_or es k d).start = rising i k d (omega arith) h in
    let same = same_start es k d e h in
    omega (arith, rise, same)

-- the RVAs from one entry up to the next
pub piece_between : (es : List RangeEntry) (i x : ℕ) (d e : RangeEntry) → Rises es → 0 < i → i < length es → (get_or es (i - 1) d).start ≤ x → x < (get_or es i e).start → 0 < (get_or es (i - 1) d).number
    → IsPieceOf es x (get_or es (i - 1) d) (get_or es i e).start
piece_between es i x d e rising some within low high one = record {
  some = one;
  starts = low;
  ends = high;
  numbered = λ y from to. sym (last_starts es i y d some (omega arith) (before_of es i y d rising some (omega arith) from) (after_of es i y e rising to));
}

-- the RVAs from the last entry on
pub piece_at_end : (es : List RangeEntry) (i x : ℕ) (d : RangeEntry) → Rises es → 0 < i → i ≤ length es → length es ≤ i → x < 2 ^ 32 → (get_or es (i - 1) d).start ≤ x → 0 < (get_or es (i - 1) d).number
    → IsPieceOf es x (get_or es (i - 1) d) (2 ^ 64 - 1)
piece_at_end es i x d rising some within last small low one = record {
  some = one;
  starts = low;
  ends = omega arith;
  numbered = λ y from to. sym (last_starts es i y d some within (before_of es i y d rising some within from) (λ k e le h. absurd (omega arith)));
}

-- the section of an RVA's number is the first that covers it
section_found : (opts : ParseOptions) (alignment : ℕ) (sections : List SectionTable) (es : List RangeEntry) (x k : ℕ) (d : SectionTable) → Agrees (map_view opts sections alignment) es → x < 2 ^ 64 → number_at es x ≡ k → 0 < k → find (covers alignment x) sections ≡ Some (get_or sections (k - 1) d)
section_found opts alignment sections es x k d a small e some = index_found (λ (s : SectionTable). s.virtual_address) (reach alignment) x sections es k d a.indexes small e some

-- so there is a section with the number
pub section_there : (opts : ParseOptions) (alignment : ℕ) (sections : List SectionTable) (es : List RangeEntry) (x k : ℕ) → Agrees (map_view opts sections alignment) es → x < 2 ^ 64 → k ≡ number_at es x → 0 < k → k - 1 < length sections
section_there opts alignment sections es x k a small e some = index_within (λ (s : SectionTable). s.virtual_address) (reach alignment) x sections es k a.indexes small (sym e) some

pub section_of_piece : (opts : ParseOptions) (alignment : ℕ) (sections : List SectionTable) (es : List RangeEntry) (x : ℕ) (e : RangeEntry) (end : ℕ) → Agrees (map_view opts sections alignment) es → IsPieceOf es x e end → x < 2 ^ 32 → e.number - 1 < length sections
section_of_piece opts alignment sections es x e end a piece small = section_there opts alignment sections es x e.number a (omega arith) (sym (piece.numbered x piece.starts piece.ends)) piece.some

offset_if : (alignment x : ℕ) (s : SectionTable) → covers alignment x s ≡ true → offset_by alignment x s ≡ Some (x - s.virtual_address + raw_start s)
offset_if alignment x s covered = ap (λ (b : Bool). cond b (Some (x - s.virtual_address + raw_start s)) None) covered

offset_first : (opts : ParseOptions) (alignment : ℕ) (sections : List SectionTable) (es : List RangeEntry) (x : ℕ) (o : Option SectionTable) → Agrees (map_view opts sections alignment) es → find (covers alignment x) sections ≡ o → option_map (λ (s : SectionTable). x - s.virtual_address + raw_start s) o ≡ section_map opts sections alignment x
unfolding offset_of
offset_first opts alignment sections es x o a e =
    rw (a.resolves, a.aligns) (ap (option_map (λ (s : SectionTable). x - s.virtual_address + raw_start s)) (sym e ∙ find_first (covers alignment x) sections))

-- the file offset of an RVA by the section of its number
pub offset_found : (m : SectionMapView) (opts : ParseOptions) (alignment : ℕ) (sections : List SectionTable) (es : List RangeEntry) (x k : ℕ) (d : SectionTable) → map_view opts sections alignment ≡ m → Agrees (map_view opts sections alignment) es → x < 2 ^ 64 → number_at es x ≡ k → 0 < k → offset_by alignment x (get_or sections (k - 1) d) ≡ offset_in m x
offset_found m opts alignment sections es x k d same a small e some =
    let s : SectionTable = get_or sections (k - 1) d in
    let found : find (covers alignment x) sections ≡ Some s = section_found opts alignment sections es x k d a small e some in
    offset_if alignment x s (found_passes (covers alignment x) sections s found) ∙ offset_first opts alignment sections es x (Some s) a found ∙ ap (λ (v : SectionMapView). offset_in v x) same

-- without a number it has none
pub offset_missing : (m : SectionMapView) (opts : ParseOptions) (alignment : ℕ) (sections : List SectionTable) (es : List RangeEntry) (x : ℕ) → map_view opts sections alignment ≡ m → Agrees (map_view opts sections alignment) es → x < 2 ^ 64 → number_at es x ≡ 0 → None ≡ offset_in m x
offset_missing m opts alignment sections es x same a small e =
    let none : find (covers alignment x) sections ≡ None = index_none (λ (s : SectionTable). s.virtual_address) (reach alignment) x sections es a.indexes small e in
    offset_first opts alignment sections es x None a none ∙ ap (λ (v : SectionMapView). offset_in v x) same

reaches : (s : SectionTable) (alignment x : ℕ) → covers alignment x s ≡ true → s.virtual_address ≤ x
reaches s alignment x e = grind (arith, nat_tests)

-- a piece of the map's index is a window of the map
pub window_from : (m : SectionMapView) (opts : ParseOptions) (alignment : ℕ) (sections : List SectionTable) (es : List RangeEntry) (x : ℕ) (e : RangeEntry) (end address offset : ℕ) (d : SectionTable) → map_view opts sections alignment ≡ m → Agrees (map_view opts sections alignment) es → IsPieceOf es x e end
    → address ≡ (get_or sections (e.number - 1) d).virtual_address → offset ≡ raw_start (get_or sections (e.number - 1) d)
    → IsWindow m (record { start = e.start; end = end; address = address; offset = offset })
window_from m opts alignment sections es x e end address offset d same a piece is_address is_offset =
    let s : SectionTable = get_or sections (e.number - 1) d in
    let found : (y : ℕ) → y < 2 ^ 32 → e.start ≤ y → y < end → find (covers alignment y) sections ≡ Some s = λ y small from to. section_found opts alignment sections es y e.number d a (omega arith) (piece.numbered y from to) piece.some in
    record {
      above = λ y small from to. omega (arith, is_address, reaches s alignment y (found_passes (covers alignment y) sections s (found y small from to)));
      maps = λ y small from to. rw (is_address, is_offset) (offset_first opts alignment sections es y (Some s) a (found y small from to) ∙ ap (λ (v : SectionMapView). offset_in v y) same);
    }
