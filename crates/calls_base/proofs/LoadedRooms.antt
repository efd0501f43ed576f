-- What is read of a room to which an image was written as a loader lays it out.
use Rattle.std.proofs.Common.{◌≡◌, ℕ, ◌+◌, ◌<◌, ◌≤◌, ◌++◌, Bool, false, List, length, drop, Some, sym, ◌∙◌, arith}
use Rattle.calls_base.proofs.Cited.{get_or_append_left, get_or_default, length-append, same_lists, range, offset_of, SectionTable}
use Rattle.calls_base.proofs.Cited.{byte_of_range, length_range, PutsImage, PutsImageIf, loaded_of, resolves, map_of, may_map, View}
use Rattle.pe_core.proofs.EntryItems.{length-each}
use Rattle.pe_directories.proofs.LoadedReads.{range_is}
use Rattle.calls_base.specs.declared.results.TheConstants.{DONE}

unresolved : (resolve : Bool) (alignment x : ℕ) (sections : List SectionTable) → resolve ≡ false → offset_of resolve alignment sections x ≡ Some x
unfolding offset_of
unresolved resolve alignment x sections e = grind arith

pub own_offset : (v : View) (x : ℕ) → resolves v.image.now.mode ≡ false → map_of v x ≡ Some x
own_offset v x e = unresolved (resolves v.image.now.mode) v.image.now.file_alignment x (may_map v x) e

-- a range of the front is one of the whole
front_range : (front rest : List ℕ) (p n : ℕ) → p + n ≤ length front → range (front ++ rest) p n ≡ range front p n
front_range front rest p n h =
    let whole : length (front ++ rest) ≡ length front + length rest = length-append front rest in
    let long : length (range (front ++ rest) p n) ≡ n = length_range (front ++ rest) p n (omega (arith, whole, h)) in
    let front_long : length (range front p n) ≡ n = length_range front p n h in
    same_lists _ _ (long ∙ sym front_long) (λ k d i.
    let below : k < n = omega (arith, i, long) in
    get_or_default (range (front ++ rest) p n) k d 0 i
    ∙ sym (byte_of_range (front ++ rest) p n k below)
    ∙ get_or_append_left front rest 0 (p + k) (omega (arith, below, h))
    ∙ byte_of_range front p n k below
    ∙ get_or_default (range front p n) k 0 d (omega (arith, below, front_long)))

-- what a call that returned DONE left in the room
written_if : (small : Bool) (v : View) (old new : List ℕ) → PutsImageIf small v DONE old new → new ≡ loaded_of v ++ drop v.image.now.size_of_image old
written_if small v old new h = grind arith

pub same_bytes : (v : View) (old new : List ℕ) (written rva p n : ℕ) → PutsImage v DONE old new written → ((k : ℕ) → k < n → map_of v (rva + k) ≡ Some (p + k)) → p + n ≤ length v.bytes.now → rva + n ≤ v.image.now.size_of_image →
    range new rva n ≡ range v.bytes.now p n
same_bytes v old new written rva p n puts maps there fits = grind (arith, length-each, written_if, front_range, range_is)
