-- What is read of the first debug entry of a type depends on that entry and on the bytes of its record alone.
use Rattle.std.proofs.Common.{◌≡◌, ℕ, ◌+◌, ◌-◌, ◌<◌, ◌≤◌, Bool, true, false, List, [], ◌∷◌, length, get_or, Option, Some, Result, Ok, refl, ap, sym, subst, ◌∙◌, inl, inr, arith}
use Rattle.pe_c.proofs.Cited.{nat_tests, places, AllZip, find, option_map, ◌==◌, nat_le, nat_lt, if◌then◌else◌, holds, le, range}
use Rattle.pe_c.proofs.Cited.{Refusal, BadMagic, DebugData, DebugSize, Short, outcome, ◌>>=◌, ParseMode, SectionTable}
use Rattle.pe_c.proofs.Cited.{byte_of_range, directory_range, directory_table, whole_debug_entries, pdb70_at, pdb70_record}
use Rattle.pe_c.proofs.Cited.{pdb20_at, pdb20_record, features_at, pogo_record, record_offset, repro_record, ImageDebugDirectory}
use Rattle.pe_c.proofs.Cited.{characteristics_of, checksum_of, embedded_of, features_of, first_entry, flat_checksum, flat_embedded}
use Rattle.pe_c.proofs.Cited.{flat_key, flat_pdb20, flat_pogo, flat_repro, key_of, pdb20_of, pogo_of, repro_of, ReadsItsBytes}
use Rattle.pe_c.proofs.Cited.{SameBytes, SameOrOther, StandsAlone, by_kind, by_length, by_signature, by_size, debug_table}
use Rattle.pe_c.proofs.Cited.{options_of, resolves, Image, not_below}
use Rattle.std.proofs.lemmas.Grind.{same_number_lists}
use Rattle.pe_core.proofs.NumberBytes as numbers
use Rattle.pe_records.specs.DebugRecords as records
use Rattle.pe_records.specs.ManagedDebug.{Embedded, checksum_record, embedded_record}

-- ---- parts of the same bytes

number : (b c : List ℕ) (p n k m : ℕ) → SameBytes b c p n → k + m ≤ n → le b (p + k) m ≡ le c (p + k) m
number b c p n k m h i =
    numbers.le-same b c (p + k) (p + k) m (λ j lt. let at : p + k + j ≡ p + (k + j) = omega arith in rw at (h (k + j) (omega arith)))

part : (b c : List ℕ) (p n k m : ℕ) → length b ≡ length c → SameBytes b c p n → k + m ≤ n → range b (p + k) m ≡ range c (p + k) m
part b c p n k m e h i =
    same_number_lists _ _ (grind (arith, places, e)) (λ j lt.
    let below : j < m = grind (arith, places) in
    let at : p + k + j ≡ p + (k + j) = omega arith in
    let byte : get_or b (p + k + j) 0 ≡ get_or c (p + k + j) 0 = rw at (h (k + j) (omega arith)) in
    sym (byte_of_range b (p + k) m j below) ∙ byte ∙ byte_of_range c (p + k) m j below)

-- the number at the start
first : (b c : List ℕ) (p n m : ℕ) → SameBytes b c p n → m ≤ n → le b p m ≡ le c p m
first b c p n m h i = numbers.le-same b c p p m (λ j lt. h j (omega arith))

whole : (b c : List ℕ) (p n m : ℕ) → length b ≡ length c → SameBytes b c p n → m ≤ n → range b p m ≡ range c p m
whole b c p n m e h i = grind (arith, same_number_lists, places, byte_of_range)

-- ---- each record

unless : {X : Type 0} (short : Bool) (a x y : X) → (short ≡ false → x ≡ y) → (if short then a else x) ≡ (if short then a else y)
unless short a x y h = grind arith

pdb70 : (b c : List ℕ) (mode : ParseMode) (p size : ℕ) → length b ≡ length c → SameBytes b c p size → pdb70_record mode b p size ≡ pdb70_record mode c p size
unfolding pdb70_record pdb70_at
pdb70 b c mode p size e h = unless (nat_lt size 24) _ _ _ (λ enough.
    let room : 24 ≤ size = not_below size 24 enough in
    let magic = first b c p size 4 h (omega arith) in
    let guid = part b c p size 4 16 e h (omega arith) in
    let age = number b c p size 20 4 h (omega arith) in
    let name = part b c p size 24 (size - 24) e h (omega arith) in
    rw e (rw magic (rw guid (rw age (rw name refl)))))

pdb20 : (b c : List ℕ) (mode : ParseMode) (p size : ℕ) → length b ≡ length c → SameBytes b c p size → pdb20_record mode b p size ≡ pdb20_record mode c p size
unfolding pdb20_record pdb20_at
pdb20 b c mode p size e h = unless (nat_lt size 16) _ _ _ (λ enough.
    let room : 16 ≤ size = not_below size 16 enough in
    let magic = first b c p size 4 h (omega arith) in
    let offset = number b c p size 4 4 h (omega arith) in
    let signature = number b c p size 8 4 h (omega arith) in
    let age = number b c p size 12 4 h (omega arith) in
    let name = part b c p size 16 (size - 16) e h (omega arith) in
    rw e (rw magic (rw offset (rw signature (rw age (rw name refl))))))

repro : (b c : List ℕ) (p : ℕ) (entry : ImageDebugDirectory) → length b ≡ length c → SameBytes b c p (if entry.size_of_data == 0 then 0 else 4 + le b p 4) → repro_record b p entry ≡ repro_record c p entry
unfolding repro_record
repro b c p entry e h = unless (entry.size_of_data == 0) _ _ _ (λ some.
    let all : SameBytes b c p (4 + le b p 4) = subst (λ (empty : Bool). SameBytes b c p (if empty then 0 else 4 + le b p 4)) some h in
    let count = first b c p (4 + le b p 4) 4 all (omega arith) in
    let hash = part b c p (4 + le b p 4) 4 (le b p 4) e all (omega arith) in
    rw (sym count) (rw hash (rw e refl)))

refused_unless : {X : Type 0} (test : Bool) (k : Refusal) (tests others : List (Bool × Refusal)) (x y : X) → (test ≡ true → outcome tests x ≡ outcome others y) →
    outcome ((test, k) ∷ tests) x ≡ outcome ((test, k) ∷ others) y
refused_unless test k tests others x y h = grind arith

embedded : (b c : List ℕ) (p size : ℕ) → length b ≡ length c → SameBytes b c p size → embedded_record b p size ≡ embedded_record c p size
unfolding embedded_record
embedded b c p size e h =
    let v : Embedded = record { uncompressed_size = le b (p + 4) 4; compressed = range b (p + 8) (size - 8) } in
    let w : Embedded = record { uncompressed_size = le c (p + 4) 4; compressed = range c (p + 8) (size - 8) } in
    refused_unless (nat_le 8 size) DebugSize
    ((holds b p 8, Short) ∷ (le b p 4 == 0x4244504D, BadMagic) ∷ (holds b (p + 8) (size - 8), DebugData) ∷ [])
    ((holds c p 8, Short) ∷ (le c p 4 == 0x4244504D, BadMagic) ∷ (holds c (p + 8) (size - 8), DebugData) ∷ []) v w (λ enough.
    let room : 8 ≤ size = grind (arith, nat_tests) in
    let magic = first b c p size 4 h (omega arith) in
    let count = number b c p size 4 4 h (omega arith) in
    let packed = part b c p size 8 (size - 8) e h (omega arith) in
    rw e (rw magic (rw count (rw packed refl))))

pub key_reads : ReadsItsBytes key_of by_size
key_reads b c mode e lengths h = ap (λ r. r >>= λ x. Ok (option_map (flat_key mode e) x)) (pdb70 b c (options_of mode).parse_mode (record_offset (resolves mode) e) e.size_of_data lengths h)

pub pdb20_reads : ReadsItsBytes pdb20_of by_size
pdb20_reads b c mode e lengths h = ap (λ r. r >>= λ x. Ok (option_map (flat_pdb20 mode e) x)) (pdb20 b c (options_of mode).parse_mode (record_offset (resolves mode) e) e.size_of_data lengths h)

pub features_reads : ReadsItsBytes features_of (by_kind 20)
unfolding features_at
features_reads b c mode e lengths h = ap (λ r. r >>= λ x. Ok (Some x)) (grind (arith, first, number))

pub characteristics_reads : ReadsItsBytes characteristics_of (by_kind 4)
characteristics_reads = grind (arith, first)

pub repro_reads : ReadsItsBytes repro_of by_length
repro_reads b c mode e lengths h = ap (λ r. r >>= λ x. Ok (Some (flat_repro mode e x))) (repro b c (record_offset (resolves mode) e) e lengths h)

pub pogo_reads : ReadsItsBytes pogo_of by_signature
unfolding pogo_record
pogo_reads b c mode e lengths h = ap (λ r. r >>= λ x. Ok (option_map (flat_pogo mode e) x)) (grind (arith, first, part))

pub embedded_reads : ReadsItsBytes embedded_of by_size
embedded_reads b c mode e lengths h = ap (λ r. r >>= λ x. Ok (Some (flat_embedded mode e x))) (embedded b c (record_offset (resolves mode) e) e.size_of_data lengths h)

pub checksum_reads : ReadsItsBytes checksum_of by_size
unfolding checksum_record
checksum_reads b c mode e lengths h = ap (λ r. r >>= λ x. Ok (Some (flat_checksum mode e x))) (grind (arith, whole))

-- ---- the first entry of a type

same_find : (kind : ℕ) (xs ys : List ImageDebugDirectory) → AllZip (SameOrOther kind) xs ys → find (λ e. e.data_type == kind) xs ≡ find (λ e. e.data_type == kind) ys
same_find kind [] [] h = refl
same_find kind [] (y ∷ ys) h = absurd h
same_find kind (x ∷ xs) [] h = absurd h
same_find kind (x ∷ xs) (y ∷ ys) (inl same, h) = let rest = same_find kind xs ys h in rw same (rw rest refl)
same_find kind (x ∷ xs) (y ∷ ys) (inr others, h) = let rest = same_find kind xs ys h in rw others.0 (rw others.1 rest)

same_first : (kind : ℕ) (b c : List ℕ) (image : Image) (s : List SectionTable) → length b ≡ length c →
    ((t u : List ℕ) → debug_table b image s ≡ Ok t → debug_table c image s ≡ Ok u → AllZip (SameOrOther kind) (whole_debug_entries 0 t) (whole_debug_entries 0 u)) →
    first_entry b image s kind ≡ first_entry c image s kind
unfolding first_entry directory_table directory_range
same_first kind b c image s e h = grind (arith, same_find)

-- ---- both together

alone_by : {Y : Type 0} (read other : ImageDebugDirectory → Result (Option Y) Refusal) (r : Result (Option ImageDebugDirectory) Refusal) →
    ((e : ImageDebugDirectory) → r ≡ Ok (Some e) → read e ≡ other e) → (r >>= records.of_entry read) ≡ (r >>= records.of_entry other)
alone_by read other r h = grind arith

pub alone : {Y : Type 0} (kind : ℕ) (read : List ℕ → ℕ → ImageDebugDirectory → Result (Option Y) Refusal) (count : List ℕ → ℕ → ImageDebugDirectory → ℕ) → ReadsItsBytes read count → StandsAlone kind read count
alone kind read count h = grind (arith, alone_by, same_first)

pub key_alone : StandsAlone 2 key_of by_size
key_alone = alone 2 key_of by_size key_reads

pub pdb20_alone : StandsAlone 2 pdb20_of by_size
pdb20_alone = alone 2 pdb20_of by_size pdb20_reads

pub features_alone : StandsAlone 12 features_of (by_kind 20)
features_alone = alone 12 features_of (by_kind 20) features_reads

pub characteristics_alone : StandsAlone 20 characteristics_of (by_kind 4)
characteristics_alone = alone 20 characteristics_of (by_kind 4) characteristics_reads

pub repro_alone : StandsAlone 16 repro_of by_length
repro_alone = alone 16 repro_of by_length repro_reads

pub pogo_alone : StandsAlone 13 pogo_of by_signature
pogo_alone = alone 13 pogo_of by_signature pogo_reads
