-- The entries of delay imports lead to what pe_directories defines, where RVAs are mapped by the sections of the image.
use Rattle.std.proofs.Common.{◌≡◌, ℕ, ◌-◌, ◌%◌, Bool, List, length, Option, Result, Ok, Err, arith}
use Rattle.calls_directories.proofs.Cited.{◌==◌, nat_le, if◌then◌else◌, ◌>>=◌, mapped, SectionTable, Ordinal, delay_name}
use Rattle.calls_directories.proofs.Cited.{hint_and_name, hint_offset, imported_by, offset_in_entry, DirectoryRefusal, VaBelowBase}
use Rattle.calls_directories.proofs.Cited.{of_image, offset_of_va, DelayImport, address_in, address_offset, dll_range, function_of}
use Rattle.calls_directories.proofs.Cited.{functions_of, name_range, named_at, dll_reported, function_reported, table_reported}
use Rattle.calls_directories.proofs.Cited.{image_parts, map_of_image, no_bytes}
use Rattle.calls_base.specs.declared.image.Image as images

-- ---- addresses

-- by whether the address is an RVA, and whether it is at or above the base
by_tests : (at : ℕ → Result ℕ DirectoryRefusal) (address rva : ℕ) (is_rva above : Bool) →
    ((if is_rva then Ok address else if above then Ok rva else Err VaBelowBase) >>= at) ≡ (if is_rva then at address else if above then at rva else Err VaBelowBase)
by_tests at address rva is_rva above = grind arith

abbrev offset_at : (ℕ → Option ℕ) → ℕ → Result ℕ DirectoryRefusal
offset_at offset rva = of_image (mapped (offset rva))

pub same_offset : (b : List ℕ) (image : images.Image) (sections : List SectionTable) (e : DelayImport) (address : ℕ) →
    address_offset (map_of_image image sections) image.base e.attributes address ≡ offset_in_entry (image_parts b image sections) e address
unfolding address_offset offset_in_entry offset_of_va
same_offset b image sections e address = by_tests (offset_at (map_of_image image sections)) address (address - image.base) (e.attributes % 2 == 1) (nat_le image.base address)

pub same_hint : (b : List ℕ) (image : images.Image) (sections : List SectionTable) (e : DelayImport) (number : ℕ) →
    address_offset (map_of_image image sections) image.base e.attributes (address_in (image.width == 64) e.attributes number) ≡ hint_offset (image_parts b image sections) e number
unfolding address_offset hint_offset offset_of_va
same_hint b image sections e number = grind (arith, by_tests)

-- ---- names of DLLs

dll_by : (b : List ℕ) (image : images.Image) (sections : List SectionTable) (at : Result ℕ DirectoryRefusal) →
    (at >>= name_range b) ≡ ((at >>= delay_name (image_parts b image sections)) >>= λ name. at >>= λ p. Ok (record { offset = p; length = length name }))
unfolding name_range delay_name
dll_by b image sections at = grind arith

pub same_dll : (b : List ℕ) (image : images.Image) (sections : List SectionTable) (e : DelayImport) → dll_range (map_of_image image sections) b image e ≡ dll_reported (image_parts b image sections) e
same_dll b image sections e =
    simp (same_offset b image sections e e.name, dll_by b image sections (offset_in_entry (image_parts b image sections) e e.name))

-- ---- tables

pub same_table : (b : List ℕ) (image : images.Image) (sections : List SectionTable) (e : DelayImport) → functions_of (map_of_image image sections) b image e ≡ table_reported (image_parts b image sections) e
same_table b image sections e = grind (arith, same_offset)

-- ---- what numbers import

names_by : (b : List ℕ) (image : images.Image) (sections : List SectionTable) (at : Result ℕ DirectoryRefusal) →
    (at >>= named_at b) ≡ ((at >>= hint_and_name (image_parts b image sections)) >>= function_reported at)
unfolding named_at name_range hint_and_name delay_name
names_by b image sections at = grind arith

number_by : (b : List ℕ) (image : images.Image) (sections : List SectionTable) (at : Result ℕ DirectoryRefusal) (ordinal : ℕ) (is_ordinal : Bool) →
    (if is_ordinal then Ok (record { name = no_bytes; ordinal = ordinal; has_name = 0 }) else (at >>= named_at b))
    ≡ ((if is_ordinal then Ok (Ordinal ordinal) else (at >>= hint_and_name (image_parts b image sections))) >>= function_reported at)
number_by b image sections at ordinal is_ordinal = grind (arith, names_by)

pub same_function : (b : List ℕ) (image : images.Image) (sections : List SectionTable) (e : DelayImport) (number : ℕ) →
    function_of (map_of_image image sections) b image e.attributes number ≡ (imported_by (image_parts b image sections) e number >>= function_reported (hint_offset (image_parts b image sections) e number))
unfolding function_of imported_by
same_function b image sections e number = grind (arith, same_hint, number_by)
