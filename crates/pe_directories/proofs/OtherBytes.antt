-- The words of a whole table of base relocations, and the bytes that are none of theirs.
use Rattle.std.proofs.Common.{◌≡◌, ℕ, true, List, [], ◌∷◌, length, get_or, Option, Result, Ok, Err, refl, sym, subst, ◌∙◌, arith}
use Rattle.pe_directories.proofs.Cited.{AllByRecursion, ◌>>=◌, DirectoryRefusal, AllPassBy, AllStand, IsOutside, all_moved, blocks_moved}
use Rattle.pe_directories.proofs.Cited.{moved, passes_by, relocated, stands_in, words_of, each_read, BaseRelocation, Word}
use Rattle.pe_directories.proofs.MovedWords.{others_stay}
use Rattle.pe_directories.proofs.WordsLeft.{long_moved, of_first, word_stands_in}

-- ---- each word stands in the image

none_of_none : {X Y : Type 0} (read : X → Result Y DirectoryRefusal) (ys : List Y) → each_read read [] ≡ Ok ys → ys ≡ []
unfolding each_read
none_of_none {X} {Y} read ys e = let same : ◌≡◌ {A = Result (List Y) DirectoryRefusal} (Ok []) (Ok ys) = e in cc

not_refused : {X Y Z : Type 0} (read : X → Result Y DirectoryRefusal) (r : DirectoryRefusal) (more : List (Result X DirectoryRefusal)) (ys : List Y)
    → each_read read (Err r ∷ more) ≡ Ok ys → Z
unfolding each_read
not_refused {X} {Y} read r more ys e = absurd cc

-- what holds of each that is read holds of all
all_have : {X Y : Type 0} (Has : Y → Type 0) (read : X → Result Y DirectoryRefusal) → ((x : X) (y : Y) → read x ≡ Ok y → Has y)
    → (items : List (Result X DirectoryRefusal)) (ys : List Y) → each_read read items ≡ Ok ys → AllByRecursion Has ys
all_have Has read each [] ys e = subst (AllByRecursion Has) (sym (none_of_none read ys e)) tt
all_have Has read each (Ok x ∷ more) ys e =
    let parts = of_first read x more ys e in
    subst (AllByRecursion Has) (sym parts.2.2) (each x parts.0 parts.2.0, all_have Has read each more parts.1.0 parts.2.1)
all_have Has read each (Err r ∷ more) ys e = not_refused read r more ys e

stand : (size : ℕ) (ws : List Word) → AllByRecursion (λ w. stands_in size w ≡ true) ws → AllStand size ws
stand size ws all = grind arith

-- what comes first, where both of two are there
bound : {A B : Type 0} (r : Result A DirectoryRefusal) (next : A → Result B DirectoryRefusal) (b : B) → (r >>= next) ≡ Ok b → (a : A) × (r ≡ Ok a) × (next a ≡ Ok b)
bound r next b e = grind arith

the_same : {A : Type 0} (x y : A) → ◌≡◌ {A = Result A DirectoryRefusal} (Ok x) (Ok y) → y ≡ x
the_same x y e = cc

all_stand : (size : ℕ) (base : Option BaseRelocation) (table : List ℕ) (words : List (List Word)) → words_of size base table ≡ Ok words → AllByRecursion (AllStand size) words
all_stand size base table words e = grind (arith, bound, the_same, all_have, word_stands_in, stand)

-- ---- the image stays as long, and keeps its other bytes

long_block : (difference : ℕ) (ws : List Word) (b : List ℕ) → AllStand (length b) ws → length (all_moved difference ws b) ≡ length b
long_block difference [] b all = refl
long_block difference (w ∷ ws) b all =
    let long = long_moved difference w b all.0 in
    long_block difference ws (moved difference w b) (subst (λ (n : ℕ). AllStand n ws) (sym long) all.1) ∙ long

long_blocks : (difference : ℕ) (words : List (List Word)) (b : List ℕ) → AllByRecursion (AllStand (length b)) words → length (blocks_moved difference words b) ≡ length b
long_blocks difference [] b all = refl
long_blocks difference (ws ∷ more) b all =
    let long = long_block difference ws b all.0 in
    long_blocks difference more (all_moved difference ws b) (subst (λ (n : ℕ). AllByRecursion (AllStand n) more) (sym long) all.1) ∙ long

pass_by : (size p : ℕ) (ws : List Word) → AllStand size ws → AllByRecursion (λ w. passes_by p w ≡ true) ws → AllPassBy size p ws
pass_by size p [] all outside = tt
pass_by size p (w ∷ ws) all outside = (all.0, outside.0, pass_by size p ws all.1 outside.1)

blocks_stay : (difference p : ℕ) (words : List (List Word)) (b : List ℕ) → AllByRecursion (AllStand (length b)) words → IsOutside p words
    → get_or (blocks_moved difference words b) p 0 ≡ get_or b p 0
blocks_stay difference p [] b all outside = refl
blocks_stay difference p (ws ∷ more) b all outside =
    let long = long_block difference ws b all.0 in
    blocks_stay difference p more (all_moved difference ws b) (subst (λ (n : ℕ). AllByRecursion (AllStand n) more) (sym long) all.1) outside.1
    ∙ others_stay difference p ws b (pass_by (length b) p ws all.0 outside.0)

pub same_length : (difference : ℕ) (base : Option BaseRelocation) (table b image : List ℕ) → relocated difference base table b ≡ Ok image → length image ≡ length b
same_length difference base table b image e = grind (arith, bound, the_same, long_blocks, all_stand)

pub others_kept : (difference p : ℕ) (base : Option BaseRelocation) (table b image : List ℕ) (words : List (List Word))
    → words_of (length b) base table ≡ Ok words → IsOutside p words → relocated difference base table b ≡ Ok image → get_or image p 0 ≡ get_or b p 0
others_kept difference p base table b image words are outside e = grind (arith, bound, the_same, blocks_stay, all_stand)
