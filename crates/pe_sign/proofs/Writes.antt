-- The parts of a file, written one after the other into a buffer.
use Rattle.std.proofs.Common.{◌≡◌, ℕ, ◌+◌, ◌≤◌, List, ◌++◌, length, take, drop, ap, sym, ◌∙◌, arith, length-append}
use Rattle.pe_sign.proofs.Cited.{take_at, drop_at, take-append-drop, length-take-le, bytes_of, splice, rounded_up, DataDirectory}
use Rattle.pe_sign.proofs.Cited.{with_entry, with_checksum, with_both_fields, unsigned_length, kept_length, joined_file}
use Rattle.pe_sign.proofs.Cited.{attached_file, detached_file, Fits, checksum_of, Placement, LeftOut, length-splice, splice-splice}
use Rattle.pe_sign.proofs.Cited.{length-bytes_of}
use Rattle.pe_sign.proofs.Splices.{splice_front, splice_first, length-padded}

-- ---- lengths

pub length-entry : (l : LeftOut) (row : DataDirectory) (b : List ℕ) → l.directory_entry.offset + 8 ≤ length b → length (with_entry l row b) ≡ length b
unfolding with_entry
length-entry l row b h = grind (arith, length-splice, length-bytes_of)

pub length-checksum : (l : LeftOut) (b : List ℕ) → l.checksum.offset + 4 ≤ length b → length (with_checksum l b) ≡ length b
unfolding with_checksum
length-checksum l b h = let n : ℕ = checksum_of b l.checksum.offset in length-splice b l.checksum.offset (bytes_of 4 n) (omega (arith, length-bytes_of 4 n))

pub length-fields : (l : LeftOut) (row : DataDirectory) (b : List ℕ) → l.checksum.offset + 4 ≤ length b → l.directory_entry.offset + 8 ≤ length b → length (with_both_fields l row b) ≡ length b
length-fields l row b h i = grind (arith, length-entry, length-checksum)

-- ---- fields that are set in the first bytes of a buffer

entry_first : (l : LeftOut) (row : DataDirectory) (x y : List ℕ) → l.directory_entry.offset + 8 ≤ length x → with_entry l row (x ++ y) ≡ with_entry l row x ++ y
unfolding with_entry
entry_first l row x y h = grind (arith, length-splice, length-bytes_of, splice_first)

pub checksum_set : (l : LeftOut) (old now : List ℕ) (end sum : ℕ) → end ≤ length old → l.checksum.offset + 4 ≤ end →
    sum ≡ checksum_of (take end old) l.checksum.offset → now ≡ splice old l.checksum.offset (bytes_of 4 sum) → now ≡ with_checksum l (take end old) ++ drop end old
unfolding with_checksum
checksum_set l old now end sum h i s e =
    let p : ℕ = l.checksum.offset in
    let n : ℕ = checksum_of (take end old) p in
    let front : length (take end old) ≡ end = length-take-le end old h in
    e ∙ ap (λ (k : ℕ). splice old p (bytes_of 4 k)) s
    ∙ ap (λ (b : List ℕ). splice b p (bytes_of 4 n)) (sym (take-append-drop end old))
    ∙ splice_first (take end old) (drop end old) p (bytes_of 4 n) (omega (arith, front, length-bytes_of 4 n))

pub fields_set : (l : LeftOut) (row : DataDirectory) (old between now : List ℕ) (end : ℕ) → end ≤ length old → l.directory_entry.offset + 8 ≤ end →
    between ≡ with_entry l row old → now ≡ with_checksum l (take end between) ++ drop end between → now ≡ with_both_fields l row (take end old) ++ drop end old
fields_set l row old between now end h i e f =
    let x : List ℕ = take end old in
    let y : List ℕ = drop end old in
    let front : length x ≡ end = length-take-le end old h in
    let room : l.directory_entry.offset + 8 ≤ length x = omega (arith, front) in
    let size : length (with_entry l row x) ≡ end = length-entry l row x room ∙ front in
    let same : between ≡ with_entry l row x ++ y = e ∙ ap (λ (b : List ℕ). with_entry l row b) (sym (take-append-drop end old)) ∙ entry_first l row x y room in
    grind (arith, f, same, take_at (with_entry l row x) y end size, drop_at (with_entry l row x) y end size)

-- ---- a file at the start of a buffer

pub two_set : (old x y : List ℕ) (p : ℕ) → p ≡ length x → splice (splice old 0 x) p y ≡ splice old 0 (x ++ y)
two_set old x y p h =
    let at : p ≡ 0 + length x = omega (arith, h) in
    ap (λ (k : ℕ). splice (splice old 0 x) k y) at ∙ splice-splice old 0 x y (omega arith)

pub file_set : (l : LeftOut) (row : DataDirectory) (file old between now : List ℕ) (end : ℕ) → length file ≡ end →
    between ≡ splice old 0 file → now ≡ with_both_fields l row (take end between) ++ drop end between → now ≡ with_both_fields l row file ++ drop end old
file_set l row file old between now end size e f = grind (arith, splice_front, take_at, drop_at)

-- ---- lengths of the files that are written

pub length-kept : (placement : Placement) (l : LeftOut) (b : List ℕ) → Fits l (length b) → length (take (kept_length placement l (length b)) b) ≡ kept_length placement l (length b)
length-kept placement l b f = grind (arith, length-take-le)

-- all fields are in what stays
pub kept_holds : (placement : Placement) (l : LeftOut) (n : ℕ) → Fits l n → unsigned_length l n ≤ kept_length placement l n
kept_holds placement l n f = grind arith

pub length-joined_file : (placement : Placement) (l : LeftOut) (c b : List ℕ) → Fits l (length b) → length (joined_file placement l c b) ≡ rounded_up (kept_length placement l (length b)) 8 + rounded_up (length c) 8
length-joined_file placement l c b f = grind (arith, length-kept, length-append, length-padded)

pub length-attached : (placement : Placement) (l : LeftOut) (c b : List ℕ) → Fits l (length b) → length (attached_file placement l c b) ≡ rounded_up (kept_length placement l (length b)) 8 + rounded_up (length c) 8
length-attached placement l c b f = grind (arith, length-joined_file, kept_holds, length-fields)

pub length-detached : (l : LeftOut) (b : List ℕ) → Fits l (length b) → length (detached_file l b) ≡ unsigned_length l (length b)
length-detached l b f = grind (arith, length-take-le, length-fields)

-- ---- the file is the first bytes of the buffer

pub first_of : (file old now : List ℕ) (n : ℕ) → n ≡ length file → now ≡ file ++ drop n old → take n now ≡ file
first_of file old now n h e = ap (λ (x : List ℕ). take n x) e ∙ take_at file (drop n old) n (sym h)
