-- The ranges of a block of version information are its parts.
use Rattle.std.proofs.Common.{◌≡◌, ℕ, zero, suc, ◌+◌, ◌-◌, ◌<◌, ◌≤◌, Bool, List, [], ◌∷◌, length, take, drop, min, Option, Some, None, Result, Ok, Err, if◌then◌else◌, refl, sym, ap, ◌∙◌, subst, arith}
use Rattle.calls_directories.proofs.Cited.{nat_tests, places, same_lists, drop_all, AllZip, length_range, le, range, holds, Refusal}
use Rattle.calls_directories.proofs.Cited.{outcome, there, size_of, range_left, IsRange, bytes_at, Range}
use Rattle.pe_resource.specs.VersionBlocks.{BlockRefusal, KeyEnd, Block, block_of, whole_block, own_bytes, blocks_end, block_and_rest, first_block, then_blocks, blocks}
use Rattle.pe_resource.specs.VersionStrings.{key_length, value_offset, value_bytes, up_to_four}
use Rattle.pe_resource.proofs.Keys.{le_two}
use Rattle.pe_resource.proofs.BlockLists.{blocks_start, fewer}
use Rattle.calls_base.proofs.LeftBytes.{left_after}
use Rattle.calls_directories.specs.VersionBlocks.{ArePartsOf, parts_reported, reported, with_language, ReportsBlock, StepsThrough, block_step, block_walk, item_of, left_by, refusal_of}
use Rattle.calls_directories.specs.declared.resources.version_blocks.VersionBlock.{VersionBlock}
use Rattle.pe_resource.specs.declared.version_block.Translation.{Translation}

-- ---- the bytes of a block

pub record IsOwn (left x : List ℕ) : Type 0 where
  pub is : x ≡ range left 0 (le left 0 2)
  pub head : 6 ≤ le left 0 2
  pub inside : le left 0 2 ≤ length left

pub own : (left x : List ℕ) → own_bytes left ≡ Ok x → IsOwn left x
unfolding own_bytes
own left x h = grind (arith, nat_tests)

abbrev pub First : List ℕ → Result Block BlockRefusal → List ℕ → Type 0
First left item rest = first_block left ≡ Some (item, rest)

first_at : (ends : Bool) (o : Result (List ℕ) BlockRefusal) (left : List ℕ) (k : Block) (rest : List ℕ) → (if ends then None else Some (block_and_rest left o)) ≡ Some (Ok k, rest) → (x : List ℕ) × (o ≡ Ok x) × (whole_block x ≡ Ok k)
first_at ends o left k rest h = grind arith

whole_at : (ended : Bool) (x : List ℕ) (k : Block) → holds x (6 + key_length x 6) 2 ≡ ended → outcome ((ended, KeyEnd) ∷ []) (block_of x) ≡ Ok k → (6 + key_length x 6 + 2 ≤ length x) × (block_of x ≡ k)
whole_at ended x k e h = grind (arith, nat_tests)

-- ---- its parts

-- n bytes from q on in a range that starts at p
inner_range : (b : List ℕ) (p l n q m : ℕ) → p + l ≤ length b → n ≤ l → q + m ≤ n → range b (p + q) m ≡ range (range (range b p l) 0 n) q m
inner_range b p l n q m h i j = same_lists _ _ (grind (arith, places)) (λ k d lt. grind (arith, places))

-- a front of what follows v is a range from there on, and nothing from the end on if v is past it
front_of_rest : (x : List ℕ) (v s : ℕ) → take s (drop v x) ≡ range x (min v (length x)) (length (take s (drop v x)))
front_of_rest x v s = same_lists _ _ (grind (arith, places)) (λ k d lt. grind (arith, places))

front_inside : (x : List ℕ) (v s : ℕ) → min v (length x) + length (take s (drop v x)) ≤ length x
front_inside x v s = grind (arith, places)

-- what follows others is the last part
last_of : (x : List ℕ) (v c : ℕ) → drop c (drop v x) ≡ range x (length x - length (drop c (drop v x))) (length (drop c (drop v x)))
last_of x v c = same_lists _ _ (grind (arith, places)) (λ k d lt. grind (arith, places))

last_inside : (x : List ℕ) (v c : ℕ) → length x - length (drop c (drop v x)) + length (drop c (drop v x)) ≤ length x
last_inside x v c = grind (arith, places)

part_at : (b : List ℕ) (p l n : ℕ) (x part : List ℕ) (q : ℕ) → p + l ≤ length b → n ≤ l → x ≡ range (range b p l) 0 n → q + length part ≤ n → part ≡ range x q (length part) → IsRange b (record { offset = p + q; length = length part }) part
part_at b p l n x part q h i e j is = grind (arith, inner_range)

-- the same at an offset that is another term
part_by : (b : List ℕ) (p q o : ℕ) (part : List ℕ) → o ≡ q → IsRange b (record { offset = p + q; length = length part }) part → IsRange b (record { offset = p + o; length = length part }) part
part_by b p q o part e h = subst (λ (i : ℕ). IsRange b (record { offset = p + i; length = length part }) part) (sym e) h

parts_of : (b : List ℕ) (r : Range) (n : ℕ) (x : List ℕ) → r.offset + r.length ≤ length b → n ≤ r.length → x ≡ range (range b r.offset r.length) 0 n → length x ≡ n → le x 0 2 ≡ n → 6 + key_length x 6 + 2 ≤ length x → ArePartsOf b (parts_reported r (block_of x)) (block_of x)
unfolding block_of value_offset
parts_of b r n x h i e size number ended =
    let key : length (range x 6 (key_length x 6)) ≡ key_length x 6 = length_range x 6 (key_length x 6) (omega (arith, ended)) in
    let offset : min (up_to_four (8 + length (range x 6 (key_length x 6)))) (le x 0 2) ≡ min (value_offset x 0) (length x) =
    ap (λ (m : ℕ). min (up_to_four (8 + m)) (le x 0 2)) key ∙ ap (λ (v : ℕ). min v (le x 0 2)) (ap up_to_four (omega arith))
    ∙ ap (λ (m : ℕ). min (value_offset x 0) m) (number ∙ sym size) in
    let children : List ℕ = drop (up_to_four (value_bytes x 0)) (drop (value_offset x 0) x) in
    let last : le x 0 2 - length children ≡ length x - length children = ap (λ (m : ℕ). m - length children) (number ∙ sym size) in
    record {
      key = part_at b r.offset r.length n x (range x 6 (key_length x 6)) 6 h i e (omega (arith, key, ended, size)) (ap (λ (m : ℕ). range x 6 m) (sym key));
      value = part_by b r.offset (min (value_offset x 0) (length x)) _ (take (value_bytes x 0) (drop (value_offset x 0) x)) offset
          (part_at b r.offset r.length n x (take (value_bytes x 0) (drop (value_offset x 0) x)) (min (value_offset x 0) (length x)) h i e
          (omega (arith, front_inside x (value_offset x 0) (value_bytes x 0), size)) (front_of_rest x (value_offset x 0) (value_bytes x 0)));
      children = part_by b r.offset (length x - length children) _ children last
          (part_at b r.offset r.length n x children (length x - length children) h i e
          (omega (arith, last_inside x (value_offset x 0) (up_to_four (value_bytes x 0)), size)) (last_of x (value_offset x 0) (up_to_four (value_bytes x 0))));
    }

in_language : (b : List ℕ) (x : VersionBlock) (k : Block) (t : Option Translation) → ArePartsOf b x k → ArePartsOf b (with_language x t) k
in_language b x k t h = grind arith

pub parts : (b : List ℕ) (r : Range) (left rest : List ℕ) (k : Block) → bytes_at b r ≡ Ok left → First left (Ok k) rest → ArePartsOf b (reported r k) k
unfolding first_block whole_block
parts b r left rest k e first =
    let inside = there b r left (holds b r.offset r.length) refl e in
    let found = first_at (blocks_end left) (own_bytes left) left k rest first in
    let mine = own left found.0 found.1 in
    let ended = whole_at (holds found.0 (6 + key_length found.0 6) 2) found.0 k refl found.2 in
    let all : length left ≡ r.length = ap length inside.1 ∙ length_range b r.offset r.length inside.0 in
    let n : ℕ = le left 0 2 in
    let size : length found.0 ≡ n = ap length mine.is ∙ length_range left 0 n (omega (arith, mine.inside)) in
    let number : le found.0 0 2 ≡ n =
    ap (λ (z : List ℕ). le z 0 2) mine.is ∙ (grind (arith, places, le_two, mine.head, mine.inside)) in
    let is : found.0 ≡ range (range b r.offset r.length) 0 n = mine.is ∙ ap (λ (z : List ℕ). range z 0 n) inside.1 in
    in_language b (parts_reported r k) k _
    (subst (λ (k : Block). ArePartsOf b (parts_reported r k) k) ended.1
    (parts_of b r n found.0 inside.0 (omega (arith, mine.inside, all)) is size number ended.0))

-- ---- whole walks

abbrev Item : Type 0
Item = Result Block BlockRefusal

abbrev pub Listed : List ℕ → Range → List ℕ → Type 0
Listed b w left = (items : List (Result VersionBlock Refusal)) × StepsThrough b w items × AllZip (ReportsBlock b) items (blocks left)

step_is : (b : List ℕ) (w : Range) (left : List ℕ) (f : Option (Item × List ℕ)) → bytes_at b w ≡ Ok left → first_block left ≡ f → (block_step b w ≡ item_of w f) × (block_walk b w ≡ left_by w f)
step_is b w left f e is = grind arith

next_bytes : (b : List ℕ) (w : Range) (left : List ℕ) (item : Item) (rest : List ℕ) → bytes_at b w ≡ Ok left → First left item rest → length rest < length left → bytes_at b (range_left w (length rest)) ≡ Ok rest
unfolding first_block
next_bytes b w left item rest e first few =
    let size : length left ≡ w.length = size_of b w left e in
    left_after b w (range_left w (length rest)) left e (omega (arith, size, few)) (omega (arith, size, few))
    ∙ ap (λ (t : List ℕ). Ok t) (grind (arith, drop_all, same_lists, places))

listed_step : (b : List ℕ) (w : Range) (left : List ℕ) (f : Option (Item × List ℕ)) → bytes_at b w ≡ Ok left → first_block left ≡ f → ((v : Range) (t : List ℕ) → length t < length left → bytes_at b v ≡ Ok t → Listed b v t) → Listed b w left
listed_step b w left None e is more = grind (arith, step_is, blocks_start)
listed_step b w left (Some (Ok k, rest)) e is more =
    let step = step_is b w left (Some (Ok k, rest)) e is in
    let few : length rest < length left = fewer left (Ok k) rest is in
    let later = more (range_left w (length rest)) rest few (next_bytes b w left (Ok k) rest e is few) in (
      Ok (reported w k) ∷ later.0,
      (step.0, subst (λ (v : Range). StepsThrough b v later.0) (sym step.1) later.1),
      subst (λ (ks : List Item). AllZip (ReportsBlock b) (Ok (reported w k) ∷ later.0) ks) (sym (blocks_start left ∙ ap (then_blocks blocks) is))
          ((w, refl, parts b w left rest k e is), later.2),
    )
listed_step b w left (Some (Err r, rest)) e is more =
    let step = step_is b w left (Some (Err r, rest)) e is in
    let few : length rest < length left = fewer left (Err r) rest is in
    let later = more (range_left w (length rest)) rest few (next_bytes b w left (Err r) rest e is few) in (
      Err (refusal_of r) ∷ later.0,
      (step.0, subst (λ (v : Range). StepsThrough b v later.0) (sym step.1) later.1),
      subst (λ (ks : List Item). AllZip (ReportsBlock b) (Err (refusal_of r) ∷ later.0) ks) (sym (blocks_start left ∙ ap (then_blocks blocks) is))
          (refl, later.2),
    )

listed : (n : ℕ) (b : List ℕ) (w : Range) (left : List ℕ) → length left < n → bytes_at b w ≡ Ok left → Listed b w left
listed zero b w left few e = absurd (omega (arith, few))
listed (suc n) b w left few e =
    listed_step b w left (first_block left) e refl (λ v t less k. listed n b v t (omega (arith, few, less)) k)

pub steps_through : (b : List ℕ) (w : Range) (left : List ℕ) → bytes_at b w ≡ Ok left → Listed b w left
steps_through b w left e = listed (length left + 1) b w left (omega arith) e
