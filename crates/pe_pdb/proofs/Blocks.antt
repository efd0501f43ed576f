-- Lists of blocks, and where words stand that are scattered over blocks.
use Rattle.std.proofs.Common.{◌≡◌, ℕ, zero, suc, ◌+◌, ◌-◌, ◌*◌, ◌/◌, ◌%◌, ◌<◌, ◌≤◌, ◌&&◌, Bool, true, false, nat_lt, refl, ap, subst, sym, ◌∙◌, arith, below_more, Result, Ok, List, ◌∷◌, length}
use Rattle.std.proofs.lemmas.Bool.Decides.{nat_tests}
use Rattle.std.proofs.lemmas.Nat.{mod_below}
use Rattle.std.proofs.Math.Nat.{mul_comm, mul-le-mul_right, div-lt_iff_lt-mul, div-le_self}
use Rattle.std.specs.Int.{div_ceil}
use Rattle.std.proofs.lemmas.Grind.{div_ceil_times}
use Rattle.pe_pdb.specs.Places.{all_below}
use Rattle.pe_core.specs.Refusals.{outcome}
use Rattle.pe_pdb.specs.Msf.{is_block_size, superblock, superblock_of}
use Rattle.pe_pdb.specs.declared.msf.SuperBlock.{SuperBlock}

-- ---- tests of all blocks

below_step : (limit : ℕ) (f : ℕ → ℕ) (n : ℕ) → all_below limit f (n + 1) ≡ (all_below limit f n && nat_lt (f n) limit)
below_step limit f n =
    let one : n + 1 ≡ suc n = omega arith in
    ap (all_below limit f) one ∙ unfold all_below in refl

-- a block that is not below the limit fails each longer list
below_false : (limit : ℕ) (f : ℕ → ℕ) (i d : ℕ) → all_below limit f i ≡ false → all_below limit f (i + d) ≡ false
below_false limit f i zero e = let same : i + 0 ≡ i = omega arith in ap (all_below limit f) same ∙ e
below_false limit f i (suc d) e =
    let next : i + suc d ≡ (i + d) + 1 = omega arith in
    let before : all_below limit f (i + d) ≡ false = below_false limit f i d e in
    ap (all_below limit f) next ∙ below_step limit f (i + d) ∙ ap (λ x. x && nat_lt (f (i + d)) limit) before

pub all_none : (limit : ℕ) (f : ℕ → ℕ) → all_below limit f 0 ≡ true
all_none limit f = unfold all_below in refl

pub all_fails : (limit : ℕ) (f : ℕ → ℕ) (i n : ℕ) → i < n → limit ≤ f i → all_below limit f n ≡ false
all_fails limit f i n lt ge =
    let parts : (i + 1) + (n - (i + 1)) ≡ n = omega (arith, lt) in
    let here : all_below limit f (i + 1) ≡ false = (let step = below_step limit f i in grind (arith, nat_tests)) in
    subst (λ k. all_below limit f k ≡ false) parts (below_false limit f (i + 1) (n - (i + 1)) here)

pub all_next : (limit : ℕ) (f : ℕ → ℕ) (n : ℕ) → all_below limit f n ≡ true → f n < limit → all_below limit f (n + 1) ≡ true
all_next limit f n all lt = let step = below_step limit f n in grind (arith, nat_tests)

pub ruleset all_tested = (all_none, all_fails, all_next)

-- where the test passes, each block is below the limit
pub all_each : (limit : ℕ) (f : ℕ → ℕ) (n : ℕ) → all_below limit f n ≡ true → (k : ℕ) → k < n → f k < limit
all_each limit f zero all k lt = omega (arith, lt)
all_each limit f (suc n) all k lt =
    let one : suc n ≡ n + 1 = omega arith in
    let both : (all_below limit f n && nat_lt (f n) limit) ≡ true = sym (below_step limit f n) ∙ ap (all_below limit f) (sym one) ∙ all in
    let first : all_below limit f n ≡ true = grind (arith, nat_tests) in
    let last : f n < limit = grind (arith, nat_tests) in
    below_more _ _ (all_each limit f n first) last k (omega (arith, lt, one))

-- ---- words and blocks

-- a word lies in its block
pub word_inside : (words i : ℕ) → 0 < words → 4 * (i % words) + 4 ≤ 4 * words
word_inside words i some = let low : i % words < words = mod_below i words some in omega (arith, low)

-- a block lies in the file
pub block_inside : (words blocks block size : ℕ) → blocks * (4 * words) ≤ size → block < blocks → 4 * words * block + 4 * words ≤ size
block_inside words blocks block size inside lt = grind (arith, mul-le-mul_right, mul_comm)

-- the block of a byte or a word is one of those that so many take
pub block_counted : (n size o : ℕ) → 0 < size → o < n → o / size < div_ceil n size
block_counted n size o some lt = grind (arith, div_ceil_times, div-lt_iff_lt-mul)

-- bytes take few blocks
pub blocks_few : (n size : ℕ) → div_ceil n size ≤ n + 1
blocks_few n size = let part : n / size ≤ n = div-le_self n size in grind arith

-- ---- the size of a block

pub words_some : (n : ℕ) → is_block_size n ≡ true → 0 < n / 4
words_some n e = grind (arith, nat_tests)

pub words_small : (n : ℕ) → is_block_size n ≡ true → n / 4 ≤ 8192
words_small n e = grind (arith, nat_tests)

pub blocks_inside : (n m size : ℕ) → is_block_size n ≡ true → m * n ≤ size → m * (4 * (n / 4)) ≤ size
blocks_inside n m size e inside = grind (arith, nat_tests)

pub one_block : (blocks width size : ℕ) → 0 < blocks → blocks * width ≤ size → width ≤ size
one_block blocks width size some inside = grind (arith, mul-le-mul_right)

-- ---- what the tests of a superblock say of the one that passes them

passed : {Y R : Type 0} (t : Bool) (k : R) (tests : List (Bool × R)) (v y : Y) → outcome ((t, k) ∷ tests) v ≡ Ok y → (t ≡ true) × (outcome tests v ≡ Ok y)
passed t k tests v y e = grind arith

ok_same : {Y R : Type 0} (v y : Y) → ◌≡◌ {A = Result Y R} (Ok v) (Ok y) → v ≡ y
ok_same v y e = cc

pub parsed : (b : List ℕ) (s : SuperBlock) → superblock_of b ≡ Ok s → (is_block_size s.block_size ≡ true) × (s.number_of_blocks * s.block_size ≤ length b)
unfolding superblock
parsed b s e = grind (arith, nat_tests, passed, ok_same)
