-- Blocks that are written are read.
use Rattle.std.proofs.Common.{◌≡◌, ℕ, zero, suc, ◌+◌, ◌-◌, ◌*◌, ◌/◌, ◌%◌, ◌<◌, ◌≤◌, ◌==◌, ◌||◌, ◌&&◌, Bool, true, false, List, [], ◌∷◌, ◌++◌, length, drop, map, replicate, Some, Result, Ok, if◌then◌else◌, refl, ap, sym, ◌∙◌, subst, arith, length-append}
use Rattle.pe_version.proofs.Cited.{nat_le, length-replicate, append_assoc, append-nil, take_at, drop_at, drop_all, nil_from_length}
use Rattle.pe_version.proofs.Cited.{nat_tests, le, bytes_of, range, holds, Short, outcome, length-bytes_of, BlockRefusal, BelowHead}
use Rattle.pe_version.proofs.Cited.{PastEnd, whole_block, own_bytes, blocks_end, first_block, blocks, units, before_zero}
use Rattle.pe_version.proofs.Cited.{key_length, value_offset, up_to_four, Stands, whole, left, right, number, part, moved}
use Rattle.pe_version.proofs.Cited.{rest_of_number, AllFit, BlockValue, Fits, NoZero, before_others, block_bytes, block_length}
use Rattle.pe_version.proofs.Cited.{blocks_bytes, padded_block, read_block, type_number, value_length, value_start}
use Rattle.pe_resource.specs.VersionBlocks.{Image, block_of}
use Rattle.pe_resource.proofs.BlockLists.{blocks_start}

-- ---- keys

two_zeros : (n : ℕ) → 2 ≤ n → replicate {A = ℕ} n 0 ≡ 0 ∷ 0 ∷ replicate (n - 2) 0
two_zeros zero h = absurd (omega (arith, h))
two_zeros (suc zero) h = absurd (omega (arith, h))
two_zeros (suc (suc n)) h = ap (λ (m : ℕ). 0 ∷ 0 ∷ replicate m 0) (omega arith)

-- the code units of a key before the zero one
key_units : (key rest : List ℕ) → length key % 2 ≡ 0 → NoZero (units key) → before_zero (units (key ++ (0 ∷ 0 ∷ rest))) ≡ units key
key_units [] rest e n = refl
key_units (x ∷ []) rest e n = absurd (omega (arith, e))
key_units (x ∷ y ∷ key) rest e n =
    let t : (x + 256 * y == 0) ≡ false = grind (arith, nat_tests, n.0) in
    rw t (ap (λ (us : List ℕ). (x + 256 * y) ∷ us) (key_units key rest (omega (arith, e)) n.1))

pub units_length : (b : List ℕ) → length b % 2 ≡ 0 → 2 * length (units b) ≡ length b
units_length [] e = refl
units_length (x ∷ []) e = absurd (omega (arith, e))
units_length (x ∷ y ∷ b) e = omega (arith, units_length b (omega (arith, e)))

-- ---- what follows a place

-- what stands last is all from its place on
rest_from : (x : List ℕ) (p : ℕ) (tail : List ℕ) → Stands x p tail → length x ≡ p + length tail → drop p x ≡ tail
rest_from x p tail s e = grind (arith, length-append, nil_from_length, drop_at, append-nil)

-- ---- the parts of a block

-- the value and the blocks with the zeros between them
abbrev pub value_and_children : BlockValue → List ℕ
value_and_children k = k.value ++ (replicate (before_others (length k.value) k.children - length k.value) 0 ++ k.children)

pub more_by : (n : ℕ) (c : List ℕ) → n ≤ before_others n c
more_by n c = grind arith

length_after : (k : BlockValue) → value_start k + length (value_and_children k) ≡ block_length k
length_after k = grind (arith, more_by, length-append, length-replicate)

half_by : (t : Bool) (n : ℕ) → (if t then n / 2 else n) ≤ n
half_by t n = grind arith

type_by : (t : Bool) → type_number t < 2
type_by t = grind arith

pub length_value : (k : BlockValue) → length k.value ≤ block_length k
length_value k = let more : length k.value ≤ before_others (length k.value) k.children = more_by (length k.value) k.children in omega (arith, more)

-- a block up to its value, and these bytes from there on
abbrev pub with_head : BlockValue → List ℕ → List ℕ
with_head k rest =
    bytes_of 2 (block_length k) ++ (bytes_of 2 (value_length k) ++ (bytes_of 2 (type_number k.is_text)
    ++ (k.key ++ (replicate (value_start k - (6 + length k.key)) 0 ++ rest))))

pub record HeadParts (x : List ℕ) (k : BlockValue) (tail : List ℕ) : Type 0 where
  pub size : length x ≡ value_start k + length tail
  pub first : le x 0 2 ≡ block_length k
  pub second : le x 2 2 ≡ value_length k
  pub third : le x 4 2 ≡ type_number k.is_text
  pub key : range x 6 (length k.key) ≡ k.key
  pub key_size : key_length x 6 ≡ length k.key
  pub rest : drop (value_start k) x ≡ tail

pub head_parts : (k : BlockValue) (tail : List ℕ) → Fits k → HeadParts (with_head k tail) k tail
head_parts k tail f =
    let n : ℕ = block_length k in
    let v : ℕ = value_length k in
    let t : ℕ = type_number k.is_text in
    let z : ℕ = value_start k - (6 + length k.key) in
    let x5 : List ℕ = replicate z 0 ++ tail in
    let x4 : List ℕ = k.key ++ x5 in
    let x3 : List ℕ = bytes_of 2 t ++ x4 in
    let x2 : List ℕ = bytes_of 2 v ++ x3 in
    let x : List ℕ = bytes_of 2 n ++ x2 in
    let s1 : Stands x 0 x = whole x in
    let s2 : Stands x 2 x2 = rest_of_number x 0 2 n x2 s1 in
    let s3 : Stands x 4 x3 = moved x (2 + 2) 4 x3 (omega arith) (rest_of_number x 2 2 v x3 s2) in
    let s4 : Stands x 6 x4 = moved x (4 + 2) 6 x4 (omega arith) (rest_of_number x 4 2 t x4 s3) in
    let s5 : Stands x (6 + length k.key) x5 = right x 6 (length k.key) k.key x5 refl s4 in
    let s6 : Stands x (value_start k) tail = moved x (6 + length k.key + z) (value_start k) tail (omega arith) (right x (6 + length k.key) z (replicate z 0) tail (length-replicate {A = ℕ} z 0) s5) in
    let small : v < 65536 = omega (arith, f.short, half_by k.is_text (length k.value), length_value k) in
    let six : length x ≡ 6 + length x4 = length-append (bytes_of 2 n) x2 ∙ omega (arith, length-append (bytes_of 2 v) x3, length-append (bytes_of 2 t) x4, length-bytes_of 2 n, length-bytes_of 2 v, length-bytes_of 2 t) in
    let zeros : length x5 ≡ z + length tail = length-append (replicate z 0) tail ∙ omega (arith, length-replicate {A = ℕ} z 0) in
    let all : length x ≡ value_start k + length tail = omega (arith, six, length-append k.key x5, zeros) in
    let two : x5 ≡ 0 ∷ 0 ∷ (replicate (z - 2) 0 ++ tail) = ap (λ (l : List ℕ). l ++ tail) (two_zeros z (omega arith)) in
    record {
      size = all;
      first = number x 0 2 n f.short (left x 0 (bytes_of 2 n) x2 s1);
      second = number x 2 2 v small (left x 2 (bytes_of 2 v) x3 s2);
      third = number x 4 2 t (omega (arith, type_by k.is_text)) (left x 4 (bytes_of 2 t) x4 s3);
      key = part x 6 (length k.key) k.key refl (left x 6 k.key x5 s4);
      key_size = ap (λ (l : List ℕ). 2 * length (before_zero (units l))) (rest_from x 6 x4 s4 six ∙ ap (λ (l : List ℕ). k.key ++ l) two)
          ∙ ap (λ (us : List ℕ). 2 * length us) (key_units k.key (replicate (z - 2) 0 ++ tail) f.key_even f.key_plain) ∙ units_length k.key f.key_even;
      rest = rest_from x (value_start k) tail s6 all;
    }

pub record Parts (x : List ℕ) (k : BlockValue) : Type 0 where
  pub size : length x ≡ block_length k
  pub first : le x 0 2 ≡ block_length k
  pub second : le x 2 2 ≡ value_length k
  pub third : le x 4 2 ≡ type_number k.is_text
  pub key : range x 6 (length k.key) ≡ k.key
  pub key_size : key_length x 6 ≡ length k.key
  pub rest : drop (value_start k) x ≡ value_and_children k

pub parts : (k : BlockValue) → Fits k → Parts (block_bytes k) k
unfolding block_bytes
parts k f =
    let h : HeadParts (with_head k (value_and_children k)) k (value_and_children k) = head_parts k (value_and_children k) f in
    record { size = h.size ∙ length_after k; first = h.first; second = h.second; third = h.third; key = h.key; key_size = h.key_size; rest = h.rest }

-- ---- one block

pub bytes_by : (t : Bool) (n : ℕ) → (t ≡ true → n % 2 ≡ 0) → (if type_number t == 1 then 2 * (if t then n / 2 else n) else (if t then n / 2 else n)) ≡ n
bytes_by t n e = grind arith

children_by : (value children : List ℕ) → drop (up_to_four (length value)) (value ++ (replicate (before_others (length value) children - length value) 0 ++ children)) ≡ children
children_by value [] = grind (arith, drop_all, length-append)
children_by value (c ∷ cs) =
    let zeros : List ℕ = replicate (up_to_four (length value) - length value) 0 in
    let size : length (value ++ zeros) ≡ up_to_four (length value) = length-append value zeros ∙ omega (arith, length-replicate {A = ℕ} (up_to_four (length value) - length value) 0) in
    ap (drop (up_to_four (length value))) (sym (append_assoc value zeros (c ∷ cs))) ∙ drop_at (value ++ zeros) (c ∷ cs) (up_to_four (length value)) size

whole_read : (x : List ℕ) (k : BlockValue) → Fits k → Parts x k → whole_block x ≡ Ok (read_block k)
unfolding whole_block block_of value_offset
whole_read x k f p = grind (arith, bytes_by, nat_tests, take_at, children_by)

-- ---- one block and what follows it

own_by : (a c d : Bool) (x y : List ℕ) → a ≡ true → c ≡ true → d ≡ true → x ≡ y → ◌≡◌ {A = Result (List ℕ) BlockRefusal} (outcome ((a, Image Short) ∷ (c, BelowHead) ∷ (d, PastEnd) ∷ []) x) (Ok y)
own_by a c d x y e f g h = rw (e, f, g, h) refl

head_number : (b rest : List ℕ) (k : BlockValue) → Fits k → b ≡ block_bytes k ++ rest → le b 0 2 ≡ block_length k
unfolding block_bytes
head_number b rest k f e =
    subst (λ (c : List ℕ). le c 0 2 ≡ block_length k) (sym e)
    (number (block_bytes k ++ rest) 0 2 (block_length k) f.short (left (block_bytes k ++ rest) 0 (bytes_of 2 (block_length k)) _ (left (block_bytes k ++ rest) 0 (block_bytes k) rest (whole (block_bytes k ++ rest)))))

pub ends_by : (n h : ℕ) (c : Bool) → 0 < n → 0 < h → (n == 0 || (c && h == 0)) ≡ false
ends_by n h c i j = grind (arith, nat_tests)

pub first_read : (k : BlockValue) (more : List ℕ) → Fits k → first_block (padded_block k ++ more) ≡ Some (Ok (read_block k), more)
unfolding first_block padded_block own_bytes
first_read k more f =
    let x : List ℕ = block_bytes k in
    let n : ℕ = block_length k in
    let pad : List ℕ = replicate (up_to_four n - n) 0 in
    let b : List ℕ = (x ++ pad) ++ more in
    let p : Parts x k = parts k f in
    let joined : b ≡ x ++ (pad ++ more) = append_assoc x pad more in
    let head : le b 0 2 ≡ n = head_number b (pad ++ more) k f joined in
    let size : length b ≡ n + length (pad ++ more) = ap length joined ∙ length-append x (pad ++ more) ∙ ap (λ (m : ℕ). m + length (pad ++ more)) p.size in
    let eight : 8 ≤ n = omega arith in
    let here : range b 0 n ≡ x = part b 0 n x p.size (left b 0 x pad (left b 0 (x ++ pad) more (whole b))) in
    let ends : blocks_end b ≡ false = ends_by (length b) (le b 0 2) (holds b 0 2) (omega (arith, size, eight)) (omega (arith, head, eight)) in
    let own : own_bytes b ≡ Ok x = own_by (holds b 0 6) (nat_le 6 (le b 0 2)) (holds b 0 (le b 0 2)) (range b 0 (le b 0 2)) x
    (grind (arith, nat_tests, size, eight)) (rw head (grind (arith, nat_tests, eight))) (rw head (grind (arith, nat_tests, size))) (rw head here) in
    let long : length (x ++ pad) ≡ up_to_four n = length-append x pad ∙ omega (arith, p.size, length-replicate {A = ℕ} (up_to_four n - n) 0) in
    let rest : drop (up_to_four (length x)) b ≡ more = ap (λ (m : ℕ). drop (up_to_four m) b) p.size ∙ drop_at (x ++ pad) more (up_to_four n) long in
    rw (ends, own, (whole_read x k f p), rest) refl

-- ---- all

pub blocks_read : (ks : List BlockValue) → AllFit ks → blocks (blocks_bytes ks) ≡ map (λ k. Ok (read_block k)) ks
unfolding blocks_bytes first_block
blocks_read [] f = blocks_start []
blocks_read (k ∷ ks) f = grind (arith, blocks_start, first_read, blocks_read ks f.1)
