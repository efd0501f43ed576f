-- Streams of a PDB whose blocks follow one another: their range of the file has their bytes.
use Rattle.std.proofs.Common.{◌≡◌, ℕ, ◌+◌, ◌*◌, ◌<◌, ◌≤◌, List, [], ◌∷◌, Bool, true, false, Option, Some, None, Result, Ok, Err, refl, ap, sym, subst, ◌∙◌, arith, length}
use Rattle.std.specs.Int.{div_ceil}
use Rattle.std.specs.Option.{option_map}
use Rattle.std.specs.Prelude.{nat_le, nat_lt, slice_get}
use Rattle.pe_core.specs.Bytes.{range}
use Rattle.pe_core.specs.Offsets.{bytes_in}
use Rattle.pe_core.specs.Refusals.{◌>>=◌, outcome}
use Rattle.pe_core.specs.declared.byte_range.ByteRange.{ByteRange}
use Rattle.pe_pdb.specs.Msf.{MsfView, directory_of, has_directory, lists_map, lists_sizes, msf_of, superblock_of, view_of, word_of}
use Rattle.pe_pdb.specs.Places.{all_below}
use Rattle.pe_pdb.specs.Refusals.{Block, BlockMap, Directory, NoStream, PdbRefusal, StreamSize}
use Rattle.pe_pdb.specs.Streams.{HasBlocks, StreamView, blocks_of, contiguous_of, list_start, size_of, stream_bytes, stream_from, streams}
use Rattle.pe_pdb.specs.declared.msf.SuperBlock.{SuperBlock}
use Rattle.pe_pdb.proofs.Blocks.{all_each, block_inside, blocks_inside, parsed, words_some}
use Rattle.pe_pdb.proofs.Contiguous.{of_range}
use Rattle.calls_pdb.specs.Pdbs.{pdb_number, stream_at, stream_by, stream_numbered, stream_range}
use Rattle.calls_base.specs.Ranges.{range_of}
use Rattle.calls_base.specs.WrittenFiles.{numbered}
use Rattle.calls_base.specs.declared.ranges.Range.{Range}

passed : {Y R : Type 0} (t : Bool) (k : R) (tests : List (Bool × R)) (v y : Y) → outcome ((t, k) ∷ tests) v ≡ Ok y → (t ≡ true) × (outcome tests v ≡ Ok y)
passed true k tests v y e = (refl, e)
passed false k tests v y e = absurd cc

ok_same : {Y R : Type 0} (v y : Y) → ◌≡◌ {A = Result Y R} (Ok v) (Ok y) → v ≡ y
ok_same v y e = cc

-- ---- the file

abbrev IsFile : List ℕ → MsfView → Type 0
IsFile b m = (m.bytes ≡ b) × (0 < m.words) × (m.blocks * (4 * m.words) ≤ length b)

directory_is : (v m : MsfView) → directory_of v ≡ Ok m → v ≡ m
unfolding directory_of
directory_is v m e =
    let one = passed (lists_map v) BlockMap ((has_directory v, Block) ∷ (lists_sizes v, Directory) ∷ []) v m e in
    let two = passed (has_directory v) Block ((lists_sizes v, Directory) ∷ []) v m one.1 in
    let three = passed (lists_sizes v) Directory [] v m two.1 in
    ok_same {Y = MsfView} {R = PdbRefusal} v m three.1

file_by : (b : List ℕ) (m : MsfView) (r : Result SuperBlock PdbRefusal) → superblock_of b ≡ r → (r >>= λ s. directory_of (view_of b s)) ≡ Ok m → IsFile b m
file_by b m (Err k) is e = absurd cc
file_by b m (Ok s) is e =
    let known = parsed b s is in
    subst (λ q. IsFile b q) (directory_is (view_of b s) m e)
    (refl, words_some s.block_size known.0, blocks_inside s.block_size s.number_of_blocks (length b) known.0 known.1)

file_is : (b : List ℕ) (m : MsfView) → msf_of b ≡ Ok m → IsFile b m
file_is b m e = file_by b m (superblock_of b) refl e

-- ---- a stream

abbrev IsStream : List ℕ → StreamView → Type 0
IsStream b s = (s.msf.bytes ≡ b) × (0 < s.msf.words) × HasBlocks s

opened : (m : MsfView) (i first : ℕ) (s : StreamView) → stream_from m i first ≡ Ok s →
    (all_below m.blocks (λ k. word_of m (first + k)) (blocks_of m i) ≡ true) × (◌≡◌ {A = StreamView} (record { msf = m; first = first; size = size_of m i }) s)
unfolding stream_from
opened m i first s e =
    let v : StreamView = record { msf = m; first = first; size = size_of m i } in
    let below = all_below m.blocks (λ k. word_of m (first + k)) (blocks_of m i) in
    let one = passed (nat_lt i (streams m)) NoStream ((nat_le (blocks_of m i) m.blocks, StreamSize) ∷ (nat_le (first + blocks_of m i) m.directory_words, Directory) ∷ (below, Block) ∷ []) v s e in
    let two = passed (nat_le (blocks_of m i) m.blocks) StreamSize ((nat_le (first + blocks_of m i) m.directory_words, Directory) ∷ (below, Block) ∷ []) v s one.1 in
    let three = passed (nat_le (first + blocks_of m i) m.directory_words) Directory ((below, Block) ∷ []) v s two.1 in
    let four = passed below Block [] v s three.1 in
    (four.0, ok_same {Y = StreamView} {R = PdbRefusal} v s four.1)

stream_is : (b : List ℕ) (m : MsfView) (i first : ℕ) (s : StreamView) → IsFile b m → stream_from m i first ≡ Ok s → IsStream b s
stream_is b m i first s file e =
    let found = opened m i first s e in
    let inside : m.blocks * (4 * m.words) ≤ length m.bytes = subst (λ (xs : List ℕ). m.blocks * (4 * m.words) ≤ length xs) (sym file.0) file.2 in
    let v : StreamView = record { msf = m; first = first; size = size_of m i } in
    let has : HasBlocks v = λ k lt. block_inside m.words m.blocks (word_of m (first + k)) (length m.bytes) inside
    (all_each m.blocks (λ k. word_of m (first + k)) (blocks_of m i) found.0 k lt) in
    subst (λ q. IsStream b q) found.1 (file.0, file.1, has)

stream_by_is : (b : List ℕ) (m : MsfView) (i : ℕ) (start : Option ℕ) (s : StreamView) → IsFile b m → stream_by m i start ≡ Ok s → IsStream b s
stream_by_is b m i None s file e = stream_is b m i (list_start m i) s file e
stream_by_is b m i (Some first) s file e = stream_is b m i first s file e

stream_of_file : (b starts : List ℕ) (i : ℕ) (s : StreamView) (r : Result MsfView PdbRefusal) → msf_of b ≡ r → (r >>= λ m. stream_by m i (slice_get starts i)) ≡ Ok s → IsStream b s
stream_of_file b starts i s (Err k) is e = absurd cc
stream_of_file b starts i s (Ok m) is e = stream_by_is b m i (slice_get starts i) s (file_is b m is) e

-- ---- its range

bytes_by : (b : List ℕ) (s : StreamView) (r : Range) (found : Option ByteRange) → IsStream b s → contiguous_of s ≡ found →
    ◌≡◌ {A = Result (Option Range) PdbRefusal} (Ok (option_map range_of found)) (Ok (Some r)) → stream_bytes s ≡ range b r.offset r.length
bytes_by b s r None known is e = absurd cc
bytes_by b s r (Some q) known is e =
    let same : range_of q ≡ r = cc in
    sym (of_range s q known.1 known.2 is) ∙ ap (λ (xs : List ℕ). bytes_in xs q) known.0 ∙ ap (λ (k : Range). range b k.offset k.length) same

range_by : (b starts : List ℕ) (i : ℕ) (r : Range) (found : Result StreamView PdbRefusal) → stream_at b starts i ≡ found →
    (found >>= λ s. Ok (option_map range_of (contiguous_of s))) ≡ Ok (Some r) → (numbered pdb_number found >>= λ s. Ok (stream_bytes s)) ≡ Ok (range b r.offset r.length)
range_by b starts i r (Err k) is e = absurd cc
range_by b starts i r (Ok s) is e =
    ap (λ (xs : List ℕ). Ok xs) (bytes_by b s r (contiguous_of s) (stream_of_file b starts i s (msf_of b) refl is) refl e)

pub range_is_stream : (b starts : List ℕ) (i : ℕ) (r : Range) → stream_range b starts i ≡ Ok (Some r) → stream_numbered b starts i ≡ Ok (range b r.offset r.length)
range_is_stream b starts i r e = range_by b starts i r (stream_at b starts i) refl e
