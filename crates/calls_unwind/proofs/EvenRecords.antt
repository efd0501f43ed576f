-- An even unwind RVA is no link: its record is at that RVA.
use Rattle.std.proofs.Common.{[], ◌≡◌, ◌⊎◌, arith, ℕ, ◌+◌, ◌-◌, ◌*◌, ◌/◌, ◌%◌, ◌<◌, ◌≤◌, true, List, ◌∷◌, length, Option, Some, Result, Ok, refl, ap, sym, subst, ◌∙◌}
use Rattle.calls_unwind.proofs.Cited.{◌==◌, Refusal, ◌>>=◌, slice_get, covers, mapped, offset_of, raw_start, SectionTable, map_of_image}
use Rattle.calls_unwind.proofs.Cited.{bytes_at, HandsOut, FindsOffset, HandsOutRecord, flat_record_at, links_at, Range, DONE, UnwindRecord}
use Rattle.calls_unwind.proofs.Cited.{Table, linked_table}
use Rattle.std.specs.Int.{is_power_of_two}
use Rattle.pe_core.proofs.Map.{positive, same_some}
use Rattle.pe_core.proofs.Reaches.{inside}
use Rattle.pe_core.specs.Sections.{raw_end}
use Rattle.calls_base.specs.declared.view.View.{View}
use Rattle.calls_base.specs.Views.{map_of}
use Rattle.calls_base.proofs.NearMaps.{all_sections}

pub even_offsets : (offset : ℕ → Option ℕ) (b : List ℕ) (table : Range) (u : ℕ) (entries : List ℕ) → bytes_at b table ≡ Ok entries → u % 2 ≡ 0 → FindsOffset (links_at offset b table) u (mapped (offset u))
even_offsets offset b table u entries inside even =
    subst (λ (x : Result (List ℕ) Refusal). FindsOffset (x >>= λ e. Ok (linked_table e table.offset offset)) u (mapped (offset u)))
    (sym inside) (Ok u, ((0, refl), even), refl)

-- the first section maps an RVA that it covers, by tests that round the RVA down
by_first : (alignment rva : ℕ) (s : SectionTable) (more : List SectionTable) → is_power_of_two alignment ≡ true → covers alignment rva s ≡ true → offset_of true alignment (s ∷ more) rva ≡ Some (rva - s.virtual_address + raw_start s)
unfolding offset_of
by_first alignment rva s more power here = rw (power, here) refl

pub first_offset : (alignment rva : ℕ) (xs : List SectionTable) (s : SectionTable) → is_power_of_two alignment ≡ true → Some s ≡ slice_get xs 0 → s.virtual_address ≤ rva → (rva - s.virtual_address) / 4096 * 4096 < s.size_of_raw_data → (0 < s.virtual_size → (rva - s.virtual_address) / 4096 * 4096 < s.virtual_size) → (rva - s.virtual_address + raw_start s) / alignment * alignment < raw_end s → offset_of true alignment xs rva ≡ Some (rva - s.virtual_address + raw_start s)
first_offset alignment rva [] s power e after raw size end = absurd cc
first_offset alignment rva (x ∷ more) s power e after raw size end = grind (arith, same_some, by_first, inside, positive)

-- a test of a size that may be 0
pub below_some : (size page : ℕ) → ((size ≡ 0 → ⊥) × (page < size)) ⊎ (size ≡ 0) → 0 < size → page < size
below_some size page q some = grind arith

-- where the map has an offset, the record is there
pub near_offset : (offset : ℕ → Option ℕ) (b : List ℕ) (table : Range) (u p : ℕ) (entries : List ℕ) → bytes_at b table ≡ Ok entries → u % 2 ≡ 0 → offset u ≡ Some p → FindsOffset (links_at offset b table) u (Ok p)
near_offset offset b table u p entries inside even here =
    subst (λ (x : Option ℕ). FindsOffset (links_at offset b table) u (mapped x)) here (even_offsets offset b table u entries inside even)

-- without an index the map is that of the sections
pub by_sections : (v : View) (u p : ℕ) → true ≡ (length v.index.now == 0) → map_of_image v.image.now v.sections.now u ≡ Some p → map_of v u ≡ Some p
by_sections v u p none here = ap (λ (s : List SectionTable). map_of_image v.image.now s u) (all_sections v.sections.now v.index.now u none) ∙ here

-- the record at the offset that is found is handed out
pub near_done : (b : List ℕ) (links : Result Table Refusal) (u p : ℕ) (old new : UnwindRecord) → FindsOffset links u (Ok p) → flat_record_at b p ≡ Ok new → HandsOutRecord b links u DONE old new
near_done b links u p old new found e = (Ok new, (Ok p, found, sym e), (refl, refl))

pub near_any : (b : List ℕ) (links : Result Table Refusal) (u p number : ℕ) (old new : UnwindRecord) → FindsOffset links u (Ok p) → HandsOut number old new (flat_record_at b p) → HandsOutRecord b links u number old new
near_any b links u p number old new found h = (flat_record_at b p, (Ok p, found, refl), h)
