-- Base relocations applied: what is read of the relocations that are left, and what they make of the image.
use Rattle.std.proofs.Common.{◌≡◌, ℕ, ◌==◌, Bool, true, false, List, [], ◌∷◌, ◌++◌, map, length, Option, Some, None, Result, Ok, Err, refl, ap, sym, subst, ◌∙◌, length-append, length-take, length-drop, arith}
use Rattle.pe_directories.proofs.Cited.{nat_tests, bytes_of, splice, ◌>>=◌, length-bytes_of, length-splice, Block, block_view, blocks_left}
use Rattle.pe_directories.proofs.Cited.{first_block, first_relocation, page_of, relocations_left, DirectoryRefusal, directory_answer}
use Rattle.pe_directories.proofs.Cited.{all_moved, base_words, block_words, blocks_moved, moved, stands_in, word_of, Steps, all_items}
use Rattle.pe_directories.proofs.Cited.{each_read, BaseRelocation, BaseRelocations, RelocationBlock, RelocationBlocks, DirectoryError, Word}
use Rattle.pe_core.specs.Gathered.{all_or_refusal, with_rest}
use Rattle.pe_directories.proofs.RelocationWalks.{block_shrinks, relocation_shrinks}
use Rattle.pe_directories.proofs.WalkLists.{ReadSoFar, all_read, first_taken, none_left, one_read}

-- ---- the steps

-- the relocations of a page that are left
abbrev pub relocations_of : ℕ → BaseRelocations → List (Result BaseRelocation DirectoryRefusal)
relocations_of page s = all_items (first_relocation page) (relocations_left s)

-- the blocks that are left
abbrev pub blocks_of : RelocationBlocks → List (Result Block DirectoryRefusal)
blocks_of s = all_items first_block (blocks_left s)

-- those of a block, and the blocks of a table
abbrev pub items_of_block : Block → List (Result BaseRelocation DirectoryRefusal)
items_of_block k = all_items (first_relocation k.page_rva) (Some k.entries)

abbrev pub items_of_table : List ℕ → List (Result Block DirectoryRefusal)
items_of_table table = all_items first_block (Some table)

pub relocation_taken : (page : ℕ) (s t : BaseRelocations) (r : Result BaseRelocation DirectoryError) → page_of s ≡ page
    → Steps (λ x. x) (first_relocation (page_of s)) (relocations_left s) (Some r) (relocations_left t) × (page_of t ≡ page_of s)
    → relocations_of page s ≡ directory_answer (λ x. x) r ∷ relocations_of page t
relocation_taken page s t r at h = grind (arith, first_taken, relocation_shrinks)

pub no_relocation : (page : ℕ) (s t : BaseRelocations) → page_of s ≡ page
    → Steps {Y = BaseRelocation} (λ x. x) (first_relocation (page_of s)) (relocations_left s) None (relocations_left t) × (page_of t ≡ page_of s) → relocations_of page s ≡ []
no_relocation page s t at h = grind (arith, none_left, relocation_shrinks)

pub block_taken : (s t : RelocationBlocks) (r : Result RelocationBlock DirectoryError) → Steps block_view first_block (blocks_left s) (Some r) (blocks_left t)
    → blocks_of s ≡ directory_answer block_view r ∷ blocks_of t
block_taken s t r h = first_taken block_view first_block block_shrinks (blocks_left s) (blocks_left t) r h

pub no_block : (s t : RelocationBlocks) → Steps {Y = RelocationBlock} block_view first_block (blocks_left s) None (blocks_left t) → blocks_of s ≡ []
no_block s t h = none_left block_view first_block block_shrinks (blocks_left s) (blocks_left t) h

-- the item is this one
pub item_is : {X Y : Type 0} (view : Y → X) (left more : List (Result X DirectoryRefusal)) (r q : Result Y DirectoryError) → left ≡ directory_answer view r ∷ more → r ≡ q
    → left ≡ directory_answer view q ∷ more
item_is {X} {Y} view left more r q h is = h ∙ ap (λ (r : Result Y DirectoryError). directory_answer view r ∷ more) is

-- ---- what was read

-- something was read of the items so far
pub record SomeRead {X Y : Type 0} (read : X → Result Y DirectoryRefusal) (items left : List (Result X DirectoryRefusal)) : Type 0 where
  pub done : List Y
  pub so_far : ReadSoFar read items left done

pub nothing_read : {X Y : Type 0} (read : X → Result Y DirectoryRefusal) (items : List (Result X DirectoryRefusal)) → SomeRead read items items
nothing_read read items = grind arith

pub started_block : {Y : Type 0} (read : BaseRelocation → Result Y DirectoryRefusal) (k : Block) (s : BaseRelocations) → relocations_left s ≡ Some k.entries
    → SomeRead read (items_of_block k) (relocations_of k.page_rva s)
started_block read k s is = grind (arith, nothing_read)

pub started_table : {Y : Type 0} (read : Block → Result Y DirectoryRefusal) (table : List ℕ) (s : RelocationBlocks) → blocks_left s ≡ Some table
    → SomeRead read (items_of_table table) (blocks_of s)
started_table read table s is = grind (arith, nothing_read)

pub base_tested : (size : ℕ) (base : Option BaseRelocation) (r : BaseRelocation) (w : Word) → base ≡ Some r → word_of size r ≡ Ok w
    → (x : List Word) × (base_words size base ≡ Ok x)
base_tested size base r w is ok =
    subst (λ (o : Option BaseRelocation). (x : List Word) × (base_words size o ≡ Ok x)) (sym is) (w ∷ [], ap (λ (q : Result Word DirectoryRefusal). q >>= λ w. Ok (w ∷ [])) ok)

pub one_more_read : {X Y : Type 0} (read : X → Result Y DirectoryRefusal) (items left more : List (Result X DirectoryRefusal)) (x : X) (y : Y)
    → SomeRead read items left → left ≡ Ok x ∷ more → read x ≡ Ok y → SomeRead read items more
one_more_read read items left more x y g is ok = record {
  done = g.done ++ y ∷ [];
  so_far = one_read read items left more g.done x y g.so_far is ok;
}

pub one_more_tested : {X Y : Type 0} (read : X → Result Y DirectoryRefusal) (items left more : List (Result X DirectoryRefusal)) (x : X)
    → SomeRead read items left → left ≡ Ok x ∷ more → (y : Y) × (read x ≡ Ok y) → SomeRead read items more
one_more_tested read items left more x g is tested = one_more_read read items left more x tested.0 g is tested.1

pub all_tested : {X Y : Type 0} (read : X → Result Y DirectoryRefusal) (items left : List (Result X DirectoryRefusal)) → SomeRead read items left → left ≡ []
    → (ys : List Y) × (each_read read items ≡ Ok ys)
all_tested read items left g is = (g.done, all_read read items left g.done g.so_far is)

pub item_refused : {X Y : Type 0} (read : X → Result Y DirectoryRefusal) (items left more : List (Result X DirectoryRefusal)) (r : DirectoryRefusal)
    → SomeRead read items left → left ≡ Err r ∷ more → each_read read items ≡ Err r
unfolding each_read
item_refused read items left more r g is = grind arith

pub read_refused : {X Y : Type 0} (read : X → Result Y DirectoryRefusal) (items left more : List (Result X DirectoryRefusal)) (x : X) (r : DirectoryRefusal)
    → SomeRead read items left → left ≡ Ok x ∷ more → read x ≡ Err r → each_read read items ≡ Err r
unfolding each_read
read_refused read items left more x r g is not = grind arith

-- ---- what the words that are left make of the image

-- what is read of the items that are left makes of the image what is read of all of them makes of the one before
pub record MovesLeft {X Y : Type 0} (apply : List Y → List ℕ → List ℕ) (read : X → Result Y DirectoryRefusal) (items left : List (Result X DirectoryRefusal)) (old image : List ℕ) : Type 0 where
  pub long : length image ≡ length old
  pub rest : (ys : List Y) → each_read read items ≡ Ok ys → (zs : List Y) × (each_read read left ≡ Ok zs) × (apply zs image ≡ apply ys old)

pub nothing_moved : {X Y : Type 0} (apply : List Y → List ℕ → List ℕ) (read : X → Result Y DirectoryRefusal) (items : List (Result X DirectoryRefusal)) (old : List ℕ)
    → MovesLeft apply read items items old old
nothing_moved apply read items old = record { long = refl; rest = λ ys e. (ys, e, refl) }

-- what is read of more items, where it is all there with one before
after_one : {Y : Type 0} (y : Y) (zs : List Y) (r : Result (List Y) DirectoryRefusal) → with_rest (y ∷ []) r ≡ Ok zs → (ws : List Y) × (r ≡ Ok ws) × (zs ≡ y ∷ ws)
after_one y zs r e = grind arith

pub started_words : {Y : Type 0} (apply : List Y → List ℕ → List ℕ) (read : BaseRelocation → Result Y DirectoryRefusal) (k : Block) (s : BaseRelocations) (old : List ℕ)
    → relocations_left s ≡ Some k.entries → MovesLeft apply read (items_of_block k) (relocations_of k.page_rva s) old old
started_words apply read k s old is =
    subst (λ (l : Option (List ℕ)). MovesLeft apply read (items_of_block k) (all_items (first_relocation k.page_rva) l) old old) (sym is)
    (nothing_moved apply read (items_of_block k) old)

pub started_blocks : {Y : Type 0} (apply : List Y → List ℕ → List ℕ) (read : Block → Result Y DirectoryRefusal) (table : List ℕ) (s : RelocationBlocks) (old : List ℕ)
    → blocks_left s ≡ Some table → MovesLeft apply read (items_of_table table) (blocks_of s) old old
started_blocks apply read table s old is =
    subst (λ (l : Option (List ℕ)). MovesLeft apply read (items_of_table table) (all_items first_block l) old old) (sym is)
    (nothing_moved apply read (items_of_table table) old)

first_by : {X Y : Type 0} (read : X → Result Y DirectoryRefusal) (more : List (Result X DirectoryRefusal)) (zs : List Y) (q : Result Y DirectoryRefusal)
    → all_or_refusal (q ∷ map (λ item. item >>= read) more) ≡ Ok zs
    → (y : Y) × (rest : (ws : List Y) × Unit {0}) × ((q ≡ Ok y) × (each_read read more ≡ Ok rest.0) × (zs ≡ y ∷ rest.0))
unfolding each_read
first_by read more zs (Ok y) e = let parts = after_one y zs (each_read read more) e in (y, (parts.0, tt), (refl, parts.1, parts.2))
first_by read more zs (Err r) e = absurd cc

-- the first of what is read of items, and the others
pub of_first : {X Y : Type 0} (read : X → Result Y DirectoryRefusal) (x : X) (more : List (Result X DirectoryRefusal)) (zs : List Y) → each_read read (Ok x ∷ more) ≡ Ok zs
    → (y : Y) × (rest : (ws : List Y) × Unit {0}) × ((read x ≡ Ok y) × (each_read read more ≡ Ok rest.0) × (zs ≡ y ∷ rest.0))
unfolding each_read
of_first {X} {Y} read x more zs e = first_by read more zs (read x) e

pub one_moved : {X Y : Type 0} (apply : List Y → List ℕ → List ℕ) (read : X → Result Y DirectoryRefusal) (items left more : List (Result X DirectoryRefusal)) (old image after : List ℕ) (x : X)
    → MovesLeft apply read items left old image → left ≡ Ok x ∷ more → ((y : Y) → read x ≡ Ok y → (zs : List Y) → apply (y ∷ zs) image ≡ apply zs after)
    → (y : Y) → read x ≡ Ok y → length after ≡ length image → MovesLeft apply read items more old after
unfolding each_read
one_moved apply read items left more old image after x g is step y ok long = grind (arith, after_one)

pub all_are_moved : {X Y : Type 0} (apply : List Y → List ℕ → List ℕ) (read : X → Result Y DirectoryRefusal) (items left : List (Result X DirectoryRefusal)) (old image : List ℕ)
    → ((b : List ℕ) → apply [] b ≡ b) → MovesLeft apply read items left old image → left ≡ [] → (ys : List Y) → each_read read items ≡ Ok ys → image ≡ apply ys old
unfolding each_read
all_are_moved apply read items left old image none g is ys e = grind arith

-- an item that is refused, or of which nothing is read, is not among items of which all is read
pub not_item : {X Y Z : Type 0} (apply : List Y → List ℕ → List ℕ) (read : X → Result Y DirectoryRefusal) (items left more : List (Result X DirectoryRefusal)) (old image : List ℕ) (r : DirectoryRefusal)
    → MovesLeft apply read items left old image → left ≡ Err r ∷ more → (ys : List Y) → each_read read items ≡ Ok ys → Z
unfolding each_read
not_item apply read items left more old image r g is ys e = grind arith

pub not_read : {X Y Z : Type 0} (apply : List Y → List ℕ → List ℕ) (read : X → Result Y DirectoryRefusal) (items left more : List (Result X DirectoryRefusal)) (old image : List ℕ) (x : X) (r : DirectoryRefusal)
    → MovesLeft apply read items left old image → left ≡ Ok x ∷ more → read x ≡ Err r → (ys : List Y) → each_read read items ≡ Ok ys → Z
unfolding each_read
not_read apply read items left more old image x r g is not ys e = grind arith

-- ---- one word

pub word_stands_in : (size : ℕ) (r : BaseRelocation) (w : Word) → word_of size r ≡ Ok w → stands_in size w ≡ true
word_stands_in size r w e = grind (arith, nat_tests)

-- the image stays as long
long_by : (difference : ℕ) (w : Word) (b : List ℕ) (zero_width : Bool) → (w.width == 0) ≡ zero_width → stands_in (length b) w ≡ true → length (moved difference w b) ≡ length b
unfolding moved splice bytes_of
long_by difference w b true is stands = grind (arith, nat_tests, is, length-append, length-take, length-drop, length-bytes_of)
long_by difference w b false is stands = length-splice b w.rva _ (grind (arith, nat_tests, is, stands, length-bytes_of))

pub long_moved : (difference : ℕ) (w : Word) (b : List ℕ) → stands_in (length b) w ≡ true → length (moved difference w b) ≡ length b
long_moved difference w b stands = long_by difference w b (w.width == 0) refl stands

-- the words of a relocation, and of a block, moved
pub word_moved : (difference size : ℕ) (items left more : List (Result BaseRelocation DirectoryRefusal)) (old image after : List ℕ) (r : BaseRelocation) (w : Word)
    → MovesLeft (all_moved difference) (word_of size) items left old image → left ≡ Ok r ∷ more → word_of size r ≡ Ok w → size ≡ length old
    → after ≡ moved difference w image → MovesLeft (all_moved difference) (word_of size) items more old after
word_moved difference size items left more old image after r w g is ok long is_after =
    let stands : stands_in (length image) w ≡ true = subst (λ (n : ℕ). stands_in n w ≡ true) (long ∙ sym g.long) (word_stands_in size r w ok) in
    one_moved (all_moved difference) (word_of size) items left more old image after r g is
    (λ y is_y zs. let same : ◌≡◌ {A = Result Word DirectoryRefusal} (Ok w) (Ok y) = sym ok ∙ is_y in
    let word : w ≡ y = cc same in
    ap (λ (v : Word). all_moved difference zs (moved difference v image)) (sym word) ∙ ap (all_moved difference zs) (sym is_after))
    w ok (ap length is_after ∙ long_moved difference w image stands)

pub block_moved : (difference size : ℕ) (items left more : List (Result Block DirectoryRefusal)) (old image after : List ℕ) (k : Block)
    → MovesLeft (blocks_moved difference) (block_words size) items left old image → left ≡ Ok k ∷ more → size ≡ length image
    → ((ws : List Word) → block_words (length image) k ≡ Ok ws → after ≡ all_moved difference ws image) → length after ≡ length image
    → MovesLeft (blocks_moved difference) (block_words size) items more old after
block_moved difference size items left more old image after k g is long is_after same_length = grind (arith, of_first)
