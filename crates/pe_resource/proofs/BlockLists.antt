-- The blocks of a byte string, one by one.
use Rattle.std.proofs.Common.{◌≡◌, ℕ, zero, suc, ◌<◌, ◌≤◌, ◌==◌, Bool, true, false, List, [], ◌∷◌, length, take, length-drop, map, Option, Some, None, Result, Ok, Err, refl, ap, sym, ◌∙◌, subst, arith, IsTrue, ◌↔◌}
use Rattle.pe_resource.proofs.Cited.{false≢true, nat_tests, places, take_all, bytes_eq-Decides, bytes_eq, Yields, is_some}
use Rattle.pe_resource.specs.declared.version_block.VersionBlock.{VersionBlock}
use Rattle.pe_resource.specs.declared.version_block.VersionBlocks.{VersionBlocks}
use Rattle.pe_resource.specs.declared.version_block_error.VersionBlockError.{VersionBlockError}
use Rattle.pe_resource.proofs.Names.{same_test}
use Rattle.pe_resource.specs.VersionBlocks.{BlockRefusal, Block, block_view, block_answer, block_kind_of, ends_blocks, whole_block, rest_of, own_bytes, first_block, then_blocks, blocks_up_to, blocks, ReturnsBlock, has_key, found_or, block_with_key}

-- ---- parts of bytes

pub all_before : (b : List ℕ) (n : ℕ) → length b < n → b ≡ take n b
all_before b n h = sym (take_all n b (omega (arith, h)))

-- ---- fewer bytes are left after a block

abbrev Item : Type 0
Item = Result Block BlockRefusal

own_size : (b x : List ℕ) → own_bytes b ≡ Ok x → 6 ≤ length x
unfolding own_bytes
own_size b x h = grind (arith, places, nat_tests)

pub fewer : (b : List ℕ) (item : Item) (t : List ℕ) → first_block b ≡ Some (item, t) → length t < length b
unfolding first_block
fewer b item t h = grind (arith, nat_tests, length-drop, own_size)

-- ---- the list of blocks, by its first

none_first : (b : List ℕ) → length b ≤ 0 → first_block b ≡ None
unfolding first_block
none_first b h = let test : (length b == 0) ≡ true = grind (arith, nat_tests, h) in rw test refl

abbrev First : Type 0
First = Option (Item × List ℕ)

-- the bound on their number doesn't matter
agree_at : (f g : List ℕ → List Item) (b : List ℕ) (r : First) → first_block b ≡ r → ((t : List ℕ) → length t < length b → f t ≡ g t) → then_blocks f r ≡ then_blocks g r
agree_at f g b None is h = refl
agree_at f g b (Some x) is h = ap (λ (xs : List Item). x.0 ∷ xs) (h x.1 (fewer b x.0 x.1 is))

agree : (n m : ℕ) (b : List ℕ) → length b ≤ n → length b ≤ m → blocks_up_to n b ≡ blocks_up_to m b
agree zero zero b h k = refl
agree zero (suc m) b h k = rw (none_first b h) refl
agree (suc n) zero b h k = rw (none_first b k) refl
agree (suc n) (suc m) b h k =
    agree_at (blocks_up_to n) (blocks_up_to m) b (first_block b) refl (λ t few. agree n m t (omega (arith, few, h)) (omega (arith, few, k)))

pub blocks_start : (b : List ℕ) → blocks b ≡ then_blocks blocks (first_block b)
unfolding blocks
blocks_start b = grind (arith, none_first, agree_at, agree)

abbrev Read : Type 0
Read = Result VersionBlock VersionBlockError

pub blocks_more : (b left : List ℕ) (r : Read) → ReturnsBlock b (Some r) left → blocks b ≡ block_answer block_view r ∷ blocks left
blocks_more b left r h = blocks_start b ∙ ap (then_blocks blocks) h

pub blocks_none : (b left : List ℕ) → ReturnsBlock b None left → blocks b ≡ []
blocks_none b left h = blocks_start b ∙ ap (then_blocks blocks) h.0

-- ---- the first block with a key

abbrev Found : Type 0
Found = Result (Option Block) BlockRefusal

-- what is found after blocks without the key, of which the first that is not read has this error
abbrev pub after_refusal : Option VersionBlockError → Found → Found
after_refusal None r = r
after_refusal (Some e) r = found_or (block_kind_of e) r

pub key_test : (us bytes name : List ℕ) (r : Bool) → bytes ≡ name → (IsTrue r ↔ (us ≡ bytes)) → r ≡ bytes_eq us name
key_test us bytes name r is h = grind (arith, same_test, bytes_eq-Decides)

pub found : (name b left : List ℕ) (r : Read) (k : VersionBlock) (e : Option VersionBlockError) (all : Found) → ReturnsBlock b (Some r) left → r ≡ Ok k → has_key name (block_view k) ≡ true → after_refusal e (block_with_key name (blocks b)) ≡ all → all ≡ Ok (Some (block_view k))
found name b left r k e all h is key rest = grind (arith, blocks_more)

pub goes_on : (name b left : List ℕ) (r : Read) (k : VersionBlock) (e : Option VersionBlockError) (all : Found) → ReturnsBlock b (Some r) left → r ≡ Ok k → has_key name (block_view k) ≡ false → after_refusal e (block_with_key name (blocks b)) ≡ all → after_refusal e (block_with_key name (blocks left)) ≡ all
goes_on name b left r k e all h is key rest =
    let first : blocks b ≡ Ok (block_view k) ∷ blocks left = blocks_more b left r h ∙ ap (λ (i : Read). block_answer block_view i ∷ blocks left) is in
    ap (after_refusal e) (sym (ap (block_with_key name) first ∙ (rw key refl))) ∙ rest

-- a block that is not read: the first such one, and each after it
refused : (name b left : List ℕ) (r : Read) (f : VersionBlockError) → ReturnsBlock b (Some r) left → r ≡ Err f → block_with_key name (blocks b) ≡ found_or (block_kind_of f) (block_with_key name (blocks left))
refused name b left r f h is = grind (arith, blocks_more)

pub refused_first : (name b left : List ℕ) (r : Read) (f : VersionBlockError) (e : Option VersionBlockError) (all : Found) → ReturnsBlock b (Some r) left → r ≡ Err f → is_some e ≡ false → after_refusal e (block_with_key name (blocks b)) ≡ all → found_or (block_kind_of f) (block_with_key name (blocks left)) ≡ all
refused_first name b left r f e all h is test rest = grind (arith, refused, false≢true)

first_kept : (r s : BlockRefusal) (w : Found) → found_or r (found_or s w) ≡ found_or r w
first_kept r s w = grind arith

pub refused_again : (name b left : List ℕ) (r : Read) (f : VersionBlockError) (e : Option VersionBlockError) (all : Found) → ReturnsBlock b (Some r) left → r ≡ Err f → is_some e ≡ true → after_refusal e (block_with_key name (blocks b)) ≡ all → after_refusal e (block_with_key name (blocks left)) ≡ all
refused_again name b left r f None all h is test rest = absurd (false≢true test)
refused_again name b left r f (Some e) all h is test rest =
    sym (first_kept (block_kind_of e) (block_kind_of f) (block_with_key name (blocks left))) ∙ ap (found_or (block_kind_of e)) (sym (refused name b left r f h is)) ∙ rest

-- none has the key
pub not_found : (name b left : List ℕ) (e f : Option VersionBlockError) (all : Found) → ReturnsBlock b None left → e ≡ f → after_refusal e (block_with_key name (blocks b)) ≡ all → all ≡ after_refusal f (Ok None)
not_found name b left e f all h is rest = grind (arith, rest, blocks_none b left h, is)

-- ---- whole runs

abbrev pub Next : VersionBlocks → Option Read → VersionBlocks → Type 0
Next s r t = ReturnsBlock (rest_of s) r (rest_of t)

pub blocks_from_yields : (s t u : VersionBlocks) (xs : List Read) → Yields Next s xs t → Next t None u → map (block_answer block_view) xs ≡ blocks (rest_of s)
blocks_from_yields s t u [] y end = sym (subst (λ (r : VersionBlocks). blocks (rest_of r) ≡ []) (sym y) (blocks_none (rest_of t) (rest_of u) end))
blocks_from_yields s t u (x ∷ xs) y end = grind (arith, blocks_more, blocks_from_yields y.0 t u xs y.2 end)

-- nothing comes after the bytes
pub no_more : (b left : List ℕ) (r : Option Read) → b ≡ [] → ReturnsBlock b r left → r ≡ None
no_more b left r e h = grind (arith, none_first)

key_alone : (x : List ℕ) (r : BlockRefusal) → whole_block x ≡ Err r → ends_blocks r ≡ true → ⊥
unfolding whole_block
key_alone x r h e = grind (arith, false≢true)

pub last : (b : List ℕ) (r : BlockRefusal) (t : List ℕ) → ends_blocks r ≡ true → first_block b ≡ Some (Err r, t) → t ≡ []
unfolding first_block
last b r t e h = grind (arith, key_alone)
