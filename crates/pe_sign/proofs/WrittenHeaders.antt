-- The headers of what is written are parsed.
use Rattle.std.proofs.Common.{◌≡◌, ℕ, ◌+◌, ◌-◌, ◌<◌, ◌≤◌, ◌==◌, ◌&&◌, Bool, false, List, ◌++◌, length, get_or, take, Result, Ok, Err, Option, Some, None, refl, ap, sym, ◌∙◌, subst, arith}
use Rattle.pe_sign.proofs.Cited.{nat_lt, if◌then◌else◌, nat_tests, places, length-set, length-take, length-take-le, get_or-set_same}
use Rattle.pe_sign.proofs.Cited.{absent_directory, HeaderView, OptionalHeaderView, directories_offset, header_at, empty_range}
use Rattle.pe_sign.proofs.Cited.{data_directory, Refusal, Short, ◌>>=◌, rounded_up, sections_offset, ByteRange, DataDirectory}
use Rattle.pe_sign.proofs.Cited.{ParseMode, unsigned_length, unsigned_file, padded, kept_length, table_start, entry_to, joined_file}
use Rattle.pe_sign.proofs.Cited.{attached_of, detached_of, with_both_fields, with_table, without_table, before_table, Fits}
use Rattle.pe_sign.proofs.Cited.{checksum_of, Covered, certificates_range, covered, covered_bytes, digest_of, left_out_before}
use Rattle.pe_sign.proofs.Cited.{left_out_of, optional_with, headers_with, directories_end, Placement, LeftOut}
use Rattle.std.specs.Option.{option_map}
use Rattle.pe_sign.proofs.Agreement.{Agree}
use Rattle.pe_sign.proofs.Detaching.{attached_sum, detached_again_of, detached_sum, holds_start}
use Rattle.pe_sign.proofs.Digests.{Holds, agree_fields, in_fields, holds_joined, holds_more, holds_unsigned, range_below, range_past}
use Rattle.pe_sign.proofs.Entries.{Reads, apart_of, attached_entry, image_at, reads_fields}
use Rattle.pe_sign.proofs.HeadersStay.{Stays, headers_lost, headers_stay}
use Rattle.pe_sign.proofs.Tests.{headers_before}
use Rattle.pe_sign.proofs.WrittenImages.{attached_digest_of, attached_is, bare_image_at, detached_digest_of, detached_is}
use Rattle.pe_sign.proofs.Writes.{kept_holds, length-detached, length-kept, length-joined_file}

-- ---- the entry is one of the directories

abbrev EndsBy : {R : Type 0} → ℕ → Result LeftOut R → Type 0
EndsBy n (Ok l) = l.directory_entry.length ≡ 8 → l.directory_entry.offset + 8 ≤ n
EndsBy n (Err r) = Unit {0}

pub entry_ends : (h : HeaderView) (l : LeftOut) → left_out_of h ≡ Ok l → l.directory_entry.length ≡ 8 → l.directory_entry.offset + 8 ≤ directories_end h
entry_ends h l e i = grind (arith, nat_tests)

-- ---- what stays

pub stays_if : (l : LeftOut) (f x b : List ℕ) (n : ℕ) → l.checksum.length ≡ 4 → l.directory_entry.length ≡ 8 → l.checksum.offset + 4 ≤ l.directory_entry.offset → l.directory_entry.offset + 8 ≤ n →
    Agree (in_fields l) f x → n ≤ length x → n ≤ length b → ((k : ℕ) → k < n → get_or x k 0 ≡ get_or b k 0) → Stays f b l.checksum.offset l.directory_entry.offset n
stays_if l f x b n four eight apart within a h i same = grind (arith, range_below, range_past)

-- the bytes before what is added
pub front_same : (x y : List ℕ) (k : ℕ) → k < length x → get_or (padded x ++ y) k 0 ≡ get_or x k 0
unfolding padded
front_same x y k h = grind (arith, places)

pub take_same : (n : ℕ) (b : List ℕ) (k : ℕ) → k < n → get_or (take n b) k 0 ≡ get_or b k 0
take_same n b k h = grind (arith, places)

row_of : (f : List ℕ) (p : ℕ) (entry : DataDirectory) → Reads f p entry → data_directory f p ≡ entry
unfolding data_directory
row_of f p entry r = rw (r.offset, r.size) refl

-- ---- the headers are parsed

pub stays_attached : (placement : Placement) (b : List ℕ) (h : HeaderView) (c f : List ℕ) (l : LeftOut) (n : ℕ) → left_out_of h ≡ Ok l → attached_of placement b h c ≡ Ok f →
    l.directory_entry.offset + 8 ≤ n → n ≤ kept_length placement l (length b) → Stays f b l.checksum.offset l.directory_entry.offset n
stays_attached placement b h c f l n i j within room =
    let is = attached_is placement b h c f l i j in
    let fits : Fits l (length b) = is.fits in
    let kept : ℕ = kept_length placement l (length b) in
    let x : List ℕ = joined_file placement l c b in
    let agree : Agree (in_fields l) f x =
    subst (λ (g : List ℕ). Agree (in_fields l) g x) (sym is.is_file) (agree_fields l (entry_to (table_start placement l (length b)) (length x)) x (holds_joined placement l c b fits)) in
    let size : length x ≡ rounded_up kept 8 + rounded_up (length c) 8 = length-joined_file placement l c b fits in
    let front : length (take kept b) ≡ kept = length-kept placement l b fits in
    let same : (k : ℕ) → k < n → get_or x k 0 ≡ get_or b k 0 = λ k lt. front_same (take kept b) (padded c) k (omega (arith, front)) ∙ take_same kept b k (omega arith) in
    stays_if l f x b n fits.checksum_size fits.entry_size (apart_of h l i fits.entry_size) within agree (omega (arith, size)) (omega (arith, length-take kept b, front)) same

pub attached_header : (mode : ParseMode) (placement : Placement) (b : List ℕ) (h : HeaderView) (c f : List ℕ) (l : LeftOut) → header_at b mode ≡ Ok h → left_out_of h ≡ Ok l → attached_of placement b h c ≡ Ok f →
    directories_end h ≤ kept_length placement l (length b) →
    header_at f mode ≡ Ok (headers_with (entry_to (table_start placement l (length b)) (length f)) (checksum_of f l.checksum.offset) h)
attached_header mode placement b h c f l e i j room =
    let eight : l.directory_entry.length ≡ 8 = (attached_is placement b h c f l i j).fits.entry_size in
    let entry : DataDirectory = entry_to (table_start placement l (length b)) (length f) in
    headers_stay f b mode h l entry e i eight (stays_attached placement b h c f l (directories_end h) i j (entry_ends h l i eight) room) (row_of f l.directory_entry.offset entry (attached_entry placement b h c f l i j))
    ∙ ap (λ (m : ℕ). Ok (headers_with entry m h)) (attached_sum placement b h c f l i j)

pub stays_detached : (b : List ℕ) (h : HeaderView) (f : List ℕ) (l : LeftOut) (n : ℕ) → left_out_of h ≡ Ok l → detached_of b h ≡ Ok f →
    l.directory_entry.offset + 8 ≤ n → n ≤ unsigned_length l (length b) → Stays f b l.checksum.offset l.directory_entry.offset n
stays_detached b h f l n i j within room =
    let is = detached_is b h f l i j in
    let fits : Fits l (length b) = is.fits in
    let u : ℕ = unsigned_length l (length b) in
    let x : List ℕ = unsigned_file l b in
    let size : length x ≡ u = length-take-le u b fits.inside in
    let holds : Holds l (length x) = holds_more l u (length x) (holds_unsigned l (length b) fits) (omega (arith, size)) in
    let agree : Agree (in_fields l) f x = subst (λ (g : List ℕ). Agree (in_fields l) g x) (sym is.is_file) (agree_fields l absent_directory x holds) in
    stays_if l f x b n fits.checksum_size fits.entry_size (apart_of h l i fits.entry_size) within agree (omega (arith, size)) (omega (arith, fits.inside)) (λ k lt. take_same u b k (omega arith))

detached_entry : (b : List ℕ) (h : HeaderView) (f : List ℕ) (l : LeftOut) → left_out_of h ≡ Ok l → detached_of b h ≡ Ok f → Reads f l.directory_entry.offset absent_directory
detached_entry b h f l i j =
    let is = detached_is b h f l i j in
    let fits : Fits l (length b) = is.fits in
    let u : ℕ = unsigned_length l (length b) in
    let x : List ℕ = unsigned_file l b in
    let holds : Holds l (length x) = holds_more l u (length x) (holds_unsigned l (length b) fits) (omega (arith, length-take-le u b fits.inside)) in
    subst (λ (g : List ℕ). Reads g l.directory_entry.offset absent_directory) (sym is.is_file) (reads_fields l absent_directory x holds (apart_of h l i fits.entry_size) (omega arith) (omega arith))

pub detached_header : (mode : ParseMode) (b : List ℕ) (h : HeaderView) (f : List ℕ) (l : LeftOut) → header_at b mode ≡ Ok h → left_out_of h ≡ Ok l → detached_of b h ≡ Ok f →
    directories_end h ≤ unsigned_length l (length b) → header_at f mode ≡ Ok (headers_with absent_directory (checksum_of f l.checksum.offset) h)
detached_header mode b h f l e i j room =
    let eight : l.directory_entry.length ≡ 8 = (detached_is b h f l i j).fits.entry_size in
    headers_stay f b mode h l absent_directory e i eight (stays_detached b h f l (directories_end h) i j (entry_ends h l i eight) room) (row_of f l.directory_entry.offset absent_directory (detached_entry b h f l i j))
    ∙ ap (λ (m : ℕ). Ok (headers_with absent_directory m h)) (detached_sum b h f l i j)

-- without all of its directories
pub detached_lost : (mode : ParseMode) (b : List ℕ) (h : HeaderView) (f : List ℕ) (l : LeftOut) → header_at b mode ≡ Ok h → left_out_of h ≡ Ok l → detached_of b h ≡ Ok f →
    unsigned_length l (length b) < directories_end h → header_at f mode ≡ Err Short
detached_lost mode b h f l e i j less =
    let is = detached_is b h f l i j in
    let u : ℕ = unsigned_length l (length b) in
    let size : length f ≡ u = ap (λ (g : List ℕ). length g) is.is_file ∙ length-detached l b is.fits in
    let stays : Stays f b l.checksum.offset l.directory_entry.offset (length f) = stays_detached b h f l (length f) i j (omega (arith, size, is.fits.entry)) (omega (arith, size)) in
    headers_lost f b mode h l e i is.fits.entry_size stays (omega (arith, size))

-- ---- their parts

-- the range of a table with this entry
abbrev named : DataDirectory → ByteRange
named entry = certificates_range (if entry.virtual_address == 0 && entry.size == 0 then None else Some entry)

-- the parts with the certificates in another range
abbrev with_range : LeftOut → ByteRange → LeftOut
with_range l r = record { checksum = l.checksum; directory_entry = l.directory_entry; certificates = r }

pub many_of : (t w : Bool) (n p : ℕ) → nat_lt 4 n ≡ t → (if t then record { offset = p + 24 + directories_offset w + 32; length = 8 } else empty_range).length ≡ 8 → 4 < n
many_of t w n p e h = grind (arith, nat_tests)

parts_with : (p : ℕ) (o : Option OptionalHeaderView) (l : LeftOut) (entry : DataDirectory) (sum : ℕ) → left_out_before p o ≡ Ok l → l.directory_entry.length ≡ 8 →
    left_out_before p (option_map (optional_with entry sum) o) ≡ Ok (with_range l (named entry))
parts_with p o l entry sum e h = grind (arith, many_of, length-set, get_or-set_same)

some_entry : (start size : ℕ) → 0 < start → (start == 0 && size == 0) ≡ false
some_entry start size h = grind (arith, nat_tests)

pub attached_parts : (placement : Placement) (b : List ℕ) (h : HeaderView) (c f : List ℕ) (l : LeftOut) (sum : ℕ) → left_out_of h ≡ Ok l → attached_of placement b h c ≡ Ok f →
    left_out_of (headers_with (entry_to (table_start placement l (length b)) (length f)) sum h) ≡ Ok (with_table l (table_start placement l (length b)) (length f))
attached_parts placement b h c f l sum e i =
    let is = attached_is placement b h c f l e i in
    let start : ℕ = table_start placement l (length b) in
    let holds : Holds l start = holds_start placement l b is.fits in
    parts_with h.dos_header.pe_pointer h.optional_header l (entry_to start (length f)) sum e is.fits.entry_size
    ∙ ap (λ (r : ByteRange). Ok (with_range l r)) (rw (some_entry start ((length f) - start) (omega (arith, holds.checksum))) refl)

pub detached_parts : (b : List ℕ) (h : HeaderView) (f : List ℕ) (l : LeftOut) (sum : ℕ) → left_out_of h ≡ Ok l → detached_of b h ≡ Ok f → left_out_of (headers_with absent_directory sum h) ≡ Ok (without_table l)
detached_parts b h f l sum e i =
    let is = detached_is b h f l e i in
    parts_with h.dos_header.pe_pointer h.optional_header l absent_directory sum e is.fits.entry_size

-- ---- by the headers that are parsed

-- a result has one value
pub same_ok : {X R : Type 0} (r : Result X R) (x y : X) → r ≡ Ok x → r ≡ Ok y → x ≡ y
same_ok r x y e i = cc

pub attached_parsed : (mode : ParseMode) (placement : Placement) (b : List ℕ) (h k : HeaderView) (c f : List ℕ) (l : LeftOut) → header_at b mode ≡ Ok h → left_out_of h ≡ Ok l → attached_of placement b h c ≡ Ok f →
    directories_end h ≤ kept_length placement l (length b) → header_at f mode ≡ Ok k → left_out_of k ≡ Ok (with_table l (table_start placement l (length b)) (length f))
attached_parsed mode placement b h k c f l e i j room m =
    let sum : ℕ = checksum_of f l.checksum.offset in
    subst (λ (x : HeaderView). left_out_of x ≡ Ok (with_table l (table_start placement l (length b)) (length f))) (same_ok (header_at f mode) (headers_with (entry_to (table_start placement l (length b)) (length f)) sum h) k (attached_header mode placement b h c f l e i j room) m)
    (attached_parts placement b h c f l sum i j)

pub detached_parsed : (mode : ParseMode) (b : List ℕ) (h k : HeaderView) (f : List ℕ) (l : LeftOut) → header_at b mode ≡ Ok h → left_out_of h ≡ Ok l → detached_of b h ≡ Ok f →
    directories_end h ≤ unsigned_length l (length b) → header_at f mode ≡ Ok k → left_out_of k ≡ Ok (without_table l)
detached_parsed mode b h k f l e i j room m =
    let sum : ℕ = checksum_of f l.checksum.offset in
    subst (λ (x : HeaderView). left_out_of x ≡ Ok (without_table l)) (same_ok (header_at f mode) (headers_with absent_directory sum h) k (detached_header mode b h f l e i j room) m) (detached_parts b h f l sum i j)

pub detached_by_headers : (mode : ParseMode) (placement : Placement) (b : List ℕ) (h k : HeaderView) (c f g : List ℕ) (l : LeftOut) → header_at b mode ≡ Ok h → left_out_of h ≡ Ok l → attached_of placement b h c ≡ Ok f →
    directories_end h ≤ kept_length placement l (length b) → header_at f mode ≡ Ok k → detached_of f k ≡ Ok g → g ≡ with_both_fields l absent_directory (before_table placement l b)
detached_by_headers mode placement b h k c f g l e i j room m d = detached_again_of placement b h k c f g l i j (attached_parsed mode placement b h k c f l e i j room m) d

digest_by : (b : List ℕ) (h : HeaderView) (l : LeftOut) → left_out_of h ≡ Ok l → digest_of b h ≡ Ok (covered l b)
digest_by b h l e = ap (λ (r : Result LeftOut Refusal). r >>= λ k. Ok (covered k b)) e

pub attached_digest_parsed : (mode : ParseMode) (placement : Placement) (b : List ℕ) (h k : HeaderView) (certificate f : List ℕ) (l : LeftOut) (c d : Covered) → header_at b mode ≡ Ok h → left_out_of h ≡ Ok l →
    attached_of placement b h certificate ≡ Ok f → directories_end h ≤ kept_length placement l (length b) → header_at f mode ≡ Ok k → digest_of b h ≡ Ok c → digest_of f k ≡ Ok d → covered_bytes d ≡ covered_bytes c
attached_digest_parsed mode placement b h k certificate f l c d e i j room m x y =
    let now : LeftOut = with_table l (table_start placement l (length b)) (length f) in
    let old : covered l b ≡ c = same_ok (digest_of b h) (covered l b) c (digest_by b h l i) x in
    let new : covered now f ≡ d = same_ok (digest_of f k) (covered now f) d (digest_by f k now (attached_parsed mode placement b h k certificate f l e i j room m)) y in
    ap (λ (z : Covered). covered_bytes z) (sym new) ∙ attached_digest_of placement b h certificate f l i j ∙ ap (λ (z : Covered). covered_bytes z) old

pub detached_digest_parsed : (mode : ParseMode) (b : List ℕ) (h k : HeaderView) (f : List ℕ) (l : LeftOut) → header_at b mode ≡ Ok h → left_out_of h ≡ Ok l → detached_of b h ≡ Ok f →
    directories_end h ≤ unsigned_length l (length b) → header_at f mode ≡ Ok k → digest_of f k ≡ digest_of b h
detached_digest_parsed mode b h k f l e i j room m = grind (arith, digest_by, detached_parsed, detached_digest_of)

-- ---- directories that stay

pub attached_keeps : (placement : Placement) (b : List ℕ) (h : HeaderView) (c f : List ℕ) (l : LeftOut) → left_out_of h ≡ Ok l → attached_of placement b h c ≡ Ok f →
    directories_end h ≤ sections_offset h → directories_end h ≤ kept_length placement l (length b)
attached_keeps placement b h c f l e i small =
    let is = attached_is placement b h c f l e i in
    let before : sections_offset h ≤ unsigned_length l (length b) = headers_before b h l (image_at placement b h c f l e i) in
    omega (arith, before, kept_holds placement l (length b) is.fits)

pub detached_keeps : (b : List ℕ) (h : HeaderView) (f : List ℕ) (l : LeftOut) → left_out_of h ≡ Ok l → detached_of b h ≡ Ok f → directories_end h ≤ sections_offset h → directories_end h ≤ unsigned_length l (length b)
detached_keeps b h f l e i small = grind (arith, headers_before, bare_image_at)
