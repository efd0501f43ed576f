-- An unsigned image comes back once what was attached to it is detached.
use Rattle.std.proofs.Common.{rules, ◌≡◌, ℕ, ◌+◌, ◌*◌, ◌%◌, ◌<◌, ◌≤◌, ◌==◌, ◌&&◌, Bool, false, List, length, Ok, Some, None, ap, sym, ◌∙◌, subst, arith}
use Rattle.pe_sign.proofs.Cited.{not, slice_index_or, if◌then◌else◌, nat_tests, append-nil, places, same_lists, AreBytes, le}
use Rattle.pe_sign.proofs.Cited.{bytes_of, splice, absent_directory, kept, HeaderView, directories_offset, header, header_at}
use Rattle.pe_sign.proofs.Cited.{is_pe32_plus, optional_header, coff_header, data_directory, dos_header, windows_fields_32}
use Rattle.pe_sign.proofs.Cited.{windows_fields_64, sections_offset, DataDirectory, ParseMode, get_or-each, length-each}
use Rattle.pe_sign.proofs.Cited.{bytes_of-le, attached_of, detached_of, is_signed, padded, with_both_fields, with_checksum}
use Rattle.pe_sign.proofs.Cited.{with_entry, Fits, checksum_of, certificates_range, left_out_of, directories_end, Placement}
use Rattle.pe_sign.proofs.Cited.{LeftOut}
use Rattle.std.proofs.Math.Seq.{take-length}
use Rattle.pe_sign.proofs.DetachedAgain.{is_detached}
use Rattle.pe_sign.proofs.HeadersStay.{Fields, fields_at, magic_is, parsed, parts}
use Rattle.pe_sign.proofs.WrittenHeaders.{many_of}
use Rattle.pe_sign.proofs.WrittenImages.{attached_is}

-- ---- what stands there is written over itself

number_over : (b : List ℕ) (p n m : ℕ) → AreBytes b → p + n ≤ length b → le b p n ≡ m → splice b p (bytes_of n m) ≡ b
unfolding splice
number_over b p n m small h e =
    ap (λ (k : ℕ). splice b p (bytes_of n k)) (sym e) ∙ ap (λ (s : List ℕ). splice b p s) (bytes_of-le b p n small h)
    ∙ same_lists _ _ (search (rules, places)) (λ k d lt. grind (arith, places))

-- ---- the entry of an unsigned image is zeros

zeros_if : (row : DataDirectory) → not ((certificates_range (if row.virtual_address == 0 && row.size == 0 then None else Some row)).offset == 0 && (certificates_range (if row.virtual_address == 0 && row.size == 0 then None else Some row)).length == 0) ≡ false →
    (row.virtual_address ≡ 0) × (row.size ≡ 0)
zeros_if row h = grind (arith, nat_tests)

-- the fifth directory is kept, and all zero
pub record ZeroRow (rows : List DataDirectory) : Type 0 where
  pub kept : 4 < length rows
  pub offset : (slice_index_or rows 4 absent_directory).virtual_address ≡ 0
  pub size : (slice_index_or rows 4 absent_directory).size ≡ 0

-- both numbers of the entry are 0
pub record ZeroEntry (b : List ℕ) (p : ℕ) : Type 0 where
  pub offset : le b p 4 ≡ 0
  pub size : le b (p + 4) 4 ≡ 0

zero_entry : (b : List ℕ) (q : ℕ) → ZeroRow (optional_header b q).data_directories → ZeroEntry b (q + directories_offset (is_pe32_plus b q) + 32)
unfolding optional_header data_directory
zero_entry b q z =
    let m : ℕ = kept (if is_pe32_plus b q then windows_fields_64 b (q + 24) else windows_fields_32 b (q + 28)).number_of_rva_and_sizes in
    let start : ℕ = q + directories_offset (is_pe32_plus b q) in
    let many : 4 < m = omega (arith, z.kept, length-each (λ i. data_directory b (start + 8 * i)) m) in
    let row = get_or-each (λ i. data_directory b (start + 8 * i)) m 4 absent_directory many in
    record { offset = (ap (λ (d : DataDirectory). d.virtual_address) (sym row) ∙ z.offset); size = (ap (λ (d : DataDirectory). d.size) (sym row) ∙ z.size) }

entry_of_header : (b : List ℕ) (l : LeftOut) → left_out_of (header b) ≡ Ok l → l.directory_entry.length ≡ 8 → is_signed l ≡ false → ZeroEntry b l.directory_entry.offset
unfolding header
entry_of_header b l e eight bare =
    let p : ℕ = (dos_header b 0).pe_pointer in
    let q : ℕ = p + 24 in
    let t : Bool = (coff_header b (p + 4)).size_of_optional_header == 0 in
    let fields : Fields t p (optional_header b q) l = fields_at t p (optional_header b q) l e eight in
    let at : l.directory_entry.offset ≡ q + directories_offset (is_pe32_plus b q) + 32 = fields.entry ∙ ap (λ (m : ℕ). p + 24 + directories_offset (m == 0x20B) + 32) (magic_is b q) in
    subst (λ (k : ℕ). ZeroEntry b k) (sym at) (zero_entry b q (grind (arith, parts, zeros_if, many_of)))

entry_is_zero : (mode : ParseMode) (b : List ℕ) (h : HeaderView) (l : LeftOut) → header_at b mode ≡ Ok h → left_out_of h ≡ Ok l → l.directory_entry.length ≡ 8 → is_signed l ≡ false → ZeroEntry b l.directory_entry.offset
entry_is_zero mode b h l e i eight bare = entry_of_header b l (ap (λ (k : HeaderView). left_out_of k) (parsed b mode h e).value ∙ i) eight bare

-- ---- the fields are what they were

entry_stays : (l : LeftOut) (b : List ℕ) → AreBytes b → l.directory_entry.offset + 8 ≤ length b → ZeroEntry b l.directory_entry.offset → with_entry l absent_directory b ≡ b
unfolding with_entry
entry_stays l b small h z = grind (arith, number_over)

checksum_stays : (l : LeftOut) (b : List ℕ) → AreBytes b → l.checksum.offset + 4 ≤ length b → le b l.checksum.offset 4 ≡ checksum_of b l.checksum.offset → with_checksum l b ≡ b
unfolding with_checksum
checksum_stays l b small h e = number_over b l.checksum.offset 4 (checksum_of b l.checksum.offset) small h e

-- ---- nothing is added before the table

padded_whole : (b : List ℕ) → length b % 8 ≡ 0 → padded b ≡ b
unfolding padded
padded_whole b h = rw h (append-nil b)

-- ---- the image comes back

pub but_for_checksum : (mode : ParseMode) (placement : Placement) (b : List ℕ) (h k : HeaderView) (c f : List ℕ) (l : LeftOut) → AreBytes b → header_at b mode ≡ Ok h → left_out_of h ≡ Ok l → is_signed l ≡ false → length b % 8 ≡ 0 →
    attached_of placement b h c ≡ Ok f → directories_end h ≤ sections_offset h → header_at f mode ≡ Ok k → detached_of f k ≡ Ok (with_checksum l b)
but_for_checksum mode placement b h k c f l small e i bare even j ends m =
    let fits : Fits l (length b) = (attached_is placement b h c f l i j).fits in
    let entry : l.directory_entry.offset + 8 ≤ length b = omega (arith, fits.entry, fits.inside) in
    is_detached mode placement b h k c f l e i j ends m
    ∙ ap (λ (x : List ℕ). Ok (with_both_fields l absent_directory x)) (grind (arith, padded_whole, take-length))
    ∙ ap (λ (x : List ℕ). Ok (with_checksum l x)) (entry_stays l b small entry (entry_is_zero mode b h l e i fits.entry_size bare))

pub comes_back : (mode : ParseMode) (placement : Placement) (b : List ℕ) (h k : HeaderView) (c f : List ℕ) (l : LeftOut) → AreBytes b → header_at b mode ≡ Ok h → left_out_of h ≡ Ok l → is_signed l ≡ false → length b % 8 ≡ 0 →
    le b l.checksum.offset 4 ≡ checksum_of b l.checksum.offset → attached_of placement b h c ≡ Ok f → directories_end h ≤ sections_offset h → header_at f mode ≡ Ok k → detached_of f k ≡ Ok b
comes_back mode placement b h k c f l small e i bare even sum j ends m =
    let fits : Fits l (length b) = (attached_is placement b h c f l i j).fits in
    but_for_checksum mode placement b h k c f l small e i bare even j ends m
    ∙ ap (λ (x : List ℕ). Ok x) (checksum_stays l b small (omega (arith, fits.checksum, fits.inside)) sum)
