-- What is read of an image as a loader lays it out.
use Rattle.std.proofs.Common.{◌≡◌, ℕ, ◌+◌, ◌<◌, ◌≤◌, List, length, get_or, Option, Some, sym, ◌∙◌, arith}
use Rattle.pe_directories.proofs.Cited.{get_or_default, same_lists, range, get_or-each, length-each, byte_of_range, length_range, loaded}
use Rattle.pe_directories.proofs.Cited.{loaded_byte}

pub byte_is : (to_offset : ℕ → Option ℕ) (b : List ℕ) (headers size rva p : ℕ) → rva < size → to_offset rva ≡ Some p
    → get_or (loaded to_offset b headers size) rva 0 ≡ get_or b p 0
byte_is to_offset b headers size rva p inside maps = grind (arith, get_or-each)

pub range_is : (to_offset : ℕ → Option ℕ) (b : List ℕ) (headers size rva p n : ℕ) → ((k : ℕ) → k < n → to_offset (rva + k) ≡ Some (p + k))
    → p + n ≤ length b → rva + n ≤ size → range (loaded to_offset b headers size) rva n ≡ range b p n
range_is to_offset b headers size rva p n maps there fits =
    let image = loaded to_offset b headers size in
    let size_is : length image ≡ size = length-each (λ x. loaded_byte b headers x (to_offset x)) size in
    let long : length (range image rva n) ≡ n = length_range image rva n (omega (arith, size_is, fits)) in
    let file_long : length (range b p n) ≡ n = length_range b p n there in
    same_lists _ _ (long ∙ sym file_long) (λ k d h.
    let below : k < n = omega (arith, h, long) in
    get_or_default (range image rva n) k d 0 h
    ∙ sym (byte_of_range image rva n k below)
    ∙ byte_is to_offset b headers size (rva + k) (p + k) (omega (arith, below, fits)) (maps k below)
    ∙ byte_of_range b p n k below
    ∙ get_or_default (range b p n) k 0 d (omega (arith, below, file_long)))
