-- The laws of what is written of an image, as the clauses state them.
use Rattle.std.proofs.Common.{◌≡◌, ℕ, ◌%◌, ◌<◌, ◌≤◌, false, List, length, Ok, Err}
use Rattle.pe_sign.proofs.Cited.{AreBytes, le, absent_directory, HeaderView, header_at, Short, sections_offset, ParseMode}
use Rattle.pe_sign.proofs.Cited.{IsAttached, IsDetached, detached_of, entry_to, is_signed, kept_length, table_start}
use Rattle.pe_sign.proofs.Cited.{unsigned_length, with_checksum, checksum_of, directories_end, headers_with, Placement, LeftOut}
use Rattle.pe_sign.proofs.UnsignedImages.{but_for_checksum, comes_back}
use Rattle.pe_sign.proofs.WrittenHeaders.{attached_header, detached_header, detached_lost}

pub header_attached : (mode : ParseMode) (placement : Placement) (b : List ℕ) (h : HeaderView) (c f : List ℕ) (l : LeftOut) → IsAttached mode placement b h c f l → directories_end h ≤ kept_length placement l (length b) →
    header_at f mode ≡ Ok (headers_with (entry_to (table_start placement l (length b)) (length f)) (checksum_of f l.checksum.offset) h)
header_attached mode placement b h c f l is room = attached_header mode placement b h c f l is.parsed is.parts is.written room

pub header_detached : (mode : ParseMode) (b : List ℕ) (h : HeaderView) (f : List ℕ) (l : LeftOut) → IsDetached mode b h f l → directories_end h ≤ unsigned_length l (length b) →
    header_at f mode ≡ Ok (headers_with absent_directory (checksum_of f l.checksum.offset) h)
header_detached mode b h f l is room = detached_header mode b h f l is.parsed is.parts is.written room

pub header_lost : (mode : ParseMode) (b : List ℕ) (h : HeaderView) (f : List ℕ) (l : LeftOut) → IsDetached mode b h f l → unsigned_length l (length b) < directories_end h → header_at f mode ≡ Err Short
header_lost mode b h f l is less = detached_lost mode b h f l is.parsed is.parts is.written less

pub whole_again : (mode : ParseMode) (placement : Placement) (b : List ℕ) (h k : HeaderView) (c f : List ℕ) (l : LeftOut) → AreBytes b → IsAttached mode placement b h c f l → is_signed l ≡ false → length b % 8 ≡ 0 →
    le b l.checksum.offset 4 ≡ checksum_of b l.checksum.offset → directories_end h ≤ sections_offset h → header_at f mode ≡ Ok k → detached_of f k ≡ Ok b
whole_again mode placement b h k c f l small is bare even sum ends m = comes_back mode placement b h k c f l small is.parsed is.parts bare even sum is.written ends m

pub checked_again : (mode : ParseMode) (placement : Placement) (b : List ℕ) (h k : HeaderView) (c f : List ℕ) (l : LeftOut) → AreBytes b → IsAttached mode placement b h c f l → is_signed l ≡ false → length b % 8 ≡ 0 →
    directories_end h ≤ sections_offset h → header_at f mode ≡ Ok k → detached_of f k ≡ Ok (with_checksum l b)
checked_again mode placement b h k c f l small is bare even ends m = but_for_checksum mode placement b h k c f l small is.parsed is.parts bare even is.written ends m
