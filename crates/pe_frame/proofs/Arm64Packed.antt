-- The codes of canonical prologs: how many there are, and that each is undone alone.
use Rattle.std.proofs.Common.{◌≡◌, ℕ, zero, suc, ◌+◌, ◌-◌, ◌/◌, ◌<◌, ◌≤◌, ◌==◌, ◌&&◌, ◌||◌, not, nat_le, nat_lt, Bool, true, false, if◌then◌else◌, All, List, ◌∷◌, ◌++◌, length, take, drop, Option, None, refl, ap, sym, ◌∙◌, arith, append-nil, length-append, rules, []}
use Rattle.pe_frame.proofs.Cited.{nat_tests, take_all, take_rest, All-nil, All-append, All-head, All-tail, All-same, All-take, All-drop}
use Rattle.pe_frame.proofs.Cited.{or_right, both, Arm64UnwindCode, SetFp, EndC, PacSignLr, bits, PackedFrame, Arm64Registers}
use Rattle.pe_frame.proofs.Cited.{caller_by_list, entry_by, is_save_next, is_end_c, prolog_length, ran_arm64, epilog_start, Adds}
use Rattle.pe_frame.proofs.Cited.{packed_frame, is_chained, sign_codes, integer_pair, integer_pairs, last_integers, alone_codes, float_pair}
use Rattle.pe_frame.proofs.Cited.{float_pairs, last_float, home_codes, frame_codes, point_codes, freed_codes, saved_codes, canonical_codes}
use Rattle.pe_frame.proofs.Cited.{epilog_codes, packed_codes, packed_length, left_after, packed_left, is_canonical, stepped_arm64_packed}
use Rattle.pe_frame.proofs.Arm64Places.{left_yes, left_no}

-- a code that neither depends on others nor ends a prolog nor is of a frame of the operating system
record IsPlain (c : Arm64UnwindCode) : Type 0 where
  pub one : is_save_next c ≡ false
  pub inside : is_end_c c ≡ false
  pub called : (entry_by c).has_pc ≡ false

-- at most so many codes, each of which is undone alone and belongs to the prolog
pub record Short (n : ℕ) (cs : List Arm64UnwindCode) : Type 0 where
  pub alone : All (λ c. is_save_next c ≡ false) cs
  pub inside : All (λ c. is_end_c c ≡ false) cs
  pub called : All (λ c. (entry_by c).has_pc ≡ false) cs
  pub few : length cs ≤ n

plain : (c : Arm64UnwindCode) → is_save_next c ≡ false → is_end_c c ≡ false → (entry_by c).has_pc ≡ false → IsPlain c
plain c one inside called = record { one = one; inside = inside; called = called }

plain_if : (b : Bool) (c d : Arm64UnwindCode) → IsPlain c → IsPlain d → IsPlain (if b then c else d)
plain_if b c d h k = grind arith

short_nil : (n : ℕ) → Short n []
short_nil n = record { alone = All-nil (λ c. is_save_next c ≡ false); inside = All-nil (λ c. is_end_c c ≡ false); called = All-nil (λ c. (entry_by c).has_pc ≡ false); few = omega arith }

short_cons : (n : ℕ) (c : Arm64UnwindCode) (cs : List Arm64UnwindCode) → IsPlain c → Short n cs → Short (n + 1) (c ∷ cs)
short_cons n c cs h k = grind arith

short_more : (m n : ℕ) (cs : List Arm64UnwindCode) → m ≤ n → Short m cs → Short n cs
short_more m n cs le h = record { alone = h.alone; inside = h.inside; called = h.called; few = omega (arith, h.few, le) }

short_if : (n : ℕ) (b : Bool) (cs ds : List Arm64UnwindCode) → Short n cs → Short n ds → Short n (if b then cs else ds)
short_if n b cs ds h k = grind arith

short_append : (m n : ℕ) (cs ds : List Arm64UnwindCode) → Short m cs → Short n ds → Short (m + n) (cs ++ ds)
short_append m n cs ds h k = record {
  alone = All-append (λ c. is_save_next c ≡ false) cs ds h.alone k.alone;
  inside = All-append (λ c. is_end_c c ≡ false) cs ds h.inside k.inside;
  called = All-append (λ c. (entry_by c).has_pc ≡ false) cs ds h.called k.called;
  few = omega (arith, h.few, k.few, length-append cs ds);
}

short_one : (c : Arm64UnwindCode) → IsPlain c → Short 1 (c ∷ [])
short_one c h = short_cons 0 c [] h (short_nil 0)

sign_short : (p : PackedFrame) → Short 1 (sign_codes p)
sign_short p = short_if 1 (p.cr == 2) (PacSignLr ∷ []) [] (short_one PacSignLr (plain PacSignLr refl refl refl)) (short_nil 1)

integer_plain : (p : PackedFrame) (i : ℕ) → IsPlain (integer_pair p i)
integer_plain p i = grind (arith, plain_if, plain)

integers_short : (p : PackedFrame) (i : ℕ) → Short i (integer_pairs p i)
integers_short p zero = short_nil 0
integers_short p (suc i) = grind (arith, short_more, short_cons, integer_plain, integers_short p i)

last_integers_short : (p : PackedFrame) (i : ℕ) → Short 1 (last_integers p i)
last_integers_short p i = search (rules, arith, short_if, short_one, plain_if, plain, short_nil)

float_plain : (p : PackedFrame) (i : ℕ) → IsPlain (float_pair p i)
float_plain p i = grind (arith, plain_if, plain)

floats_short : (p : PackedFrame) (i : ℕ) → Short i (float_pairs p i)
floats_short p zero = short_nil 0
floats_short p (suc i) = grind (arith, short_more, short_cons, float_plain, floats_short p i)

last_float_short : (p : PackedFrame) (i : ℕ) → Short 1 (last_float p i)
last_float_short p i = grind (arith, short_if, short_one, plain, short_nil)

home_short : (p : PackedFrame) → Short 4 (home_codes p)
home_short p = grind (arith, plain, short_if, short_cons, short_one, plain_if, short_nil)

frame_short : (p : PackedFrame) → Short 3 (frame_codes p)
frame_short p = search (rules, arith, short_if, nat_le, short_more, short_one, plain, short_cons, short_nil, plain_if, nat_lt)

point_short : (p : PackedFrame) → Short 1 (point_codes p)
point_short p = short_if 1 (is_chained p) (SetFp ∷ []) [] (short_one SetFp (plain SetFp refl refl refl)) (short_nil 1)

freed_short : (p : PackedFrame) → Short 1 (freed_codes p)
freed_short p = grind (arith, short_if, short_one, plain, short_nil)

alone_short : (p : PackedFrame) → Short 1 (alone_codes p)
alone_short p = grind (arith, short_if, short_one, plain, short_nil)

saved_short : (p : PackedFrame) → p.integers ≤ 11 → p.floats ≤ 9 → Short 13 (saved_codes p)
saved_short p integers floats =
    short_more (1 + (p.floats / 2 + (1 + (p.integers / 2 + (1 + 1))))) 13 (saved_codes p) (omega (arith, integers, floats))
    (short_append 1 _ _ _ (last_float_short p (p.floats / 2)) (short_append (p.floats / 2) _ _ _ (floats_short p (p.floats / 2))
    (short_append 1 _ _ _ (last_integers_short p (p.integers / 2)) (short_append (p.integers / 2) (1 + 1) _ _ (integers_short p (p.integers / 2)) (short_append 1 1 _ _ (alone_short p) (sign_short p))))))

canonical_short : (p : PackedFrame) → p.integers ≤ 11 → p.floats ≤ 9 → Short 21 (canonical_codes p)
canonical_short p integers floats =
    short_append 1 20 (point_codes p) (frame_codes p ++ (home_codes p ++ saved_codes p)) (point_short p)
    (short_append 3 17 (frame_codes p) (home_codes p ++ saved_codes p) (frame_short p)
    (short_append 4 13 (home_codes p) (saved_codes p) (home_short p) (saved_short p integers floats)))

epilog_short : (p : PackedFrame) → p.integers ≤ 11 → p.floats ≤ 9 → Short 17 (epilog_codes p)
epilog_short p integers floats =
    short_append 3 14 (frame_codes p) (freed_codes p ++ saved_codes p) (frame_short p)
    (short_append 1 13 (freed_codes p) (saved_codes p) (freed_short p) (saved_short p integers floats))

-- the parts of a test
few_integers : (d : ℕ) → is_canonical d ≡ true → (packed_frame d).integers ≤ 10
few_integers d e = grind (arith, both, nat_le, nat_tests)

few_floats : (d : ℕ) → (packed_frame d).floats ≤ 8
few_floats d = grind (arith, nat_tests)

pub codes_short : (d : ℕ) → is_canonical d ≡ true → Short 21 (canonical_codes (packed_frame d))
codes_short d e = canonical_short (packed_frame d) (omega (arith, few_integers d e)) (omega (arith, few_floats d))

prolog-length : (cs : List Arm64UnwindCode) → All (λ c. is_end_c c ≡ false) cs → prolog_length cs ≡ length cs
prolog-length [] all = refl
prolog-length (c ∷ cs) all =
    rw (All-head (λ d. is_end_c d ≡ false) c cs all) (omega (arith, prolog-length cs (All-tail (λ d. is_end_c d ≡ false) c cs all)))

-- each of the codes is undone alone
pub packed_alone : (d : ℕ) → is_canonical d ≡ true → All (λ c. is_save_next c ≡ false) (packed_codes d)
packed_alone d e = grind (arith, codes_short)

packed_few_if : (b : Bool) (cs : List Arm64UnwindCode) → Short 21 cs → length (if b then EndC ∷ cs else cs) ≤ 24
packed_few_if b cs h = grind arith

-- a list has room for all of them
pub packed_whole : (d : ℕ) (xs : List Arm64UnwindCode) → is_canonical d ≡ true → length xs ≤ 24 → Adds [] xs (packed_codes d) → xs ≡ packed_codes d
packed_whole d xs e few adds =
    let most : length (packed_codes d) ≤ 24 = packed_few_if (bits d 0 2 == 2) (canonical_codes (packed_frame d)) (codes_short d e) in
    sym (ap (take 24) (append-nil xs) ∙ take_all 24 xs few)
    ∙ (adds [] ∙ (ap (take 24) (append-nil (packed_codes d)) ∙ take_all 24 (packed_codes d) most))

length_if : (b : Bool) (cs : List Arm64UnwindCode) → Short 21 cs → prolog_length (if b then EndC ∷ cs else cs) ≡ (if b then 0 else length (if b then EndC ∷ cs else cs))
length_if b cs h = grind (arith, prolog-length)

-- how many of them are a prolog's
prolog_is : (d : ℕ) → is_canonical d ≡ true → prolog_length (packed_codes d) ≡ packed_length d (length (packed_codes d))
prolog_is d e = length_if (bits d 0 2 == 2) (canonical_codes (packed_frame d)) (codes_short d e)

-- the same of the codes of the epilog
pub epilog_alone : (d : ℕ) → is_canonical d ≡ true → Short 17 (epilog_codes (packed_frame d))
epilog_alone d e = epilog_short (packed_frame d) (omega (arith, few_integers d e)) (omega (arith, few_floats d))

pub epilog_whole : (d : ℕ) (xs : List Arm64UnwindCode) → is_canonical d ≡ true → length xs ≤ 24 → Adds [] xs (epilog_codes (packed_frame d)) → xs ≡ epilog_codes (packed_frame d)
epilog_whole d xs e few adds =
    let es = epilog_codes (packed_frame d) in
    let most : length es ≤ 24 = omega (arith, (epilog_alone d e).few) in
    sym (ap (take 24) (append-nil xs) ∙ take_all 24 xs few) ∙ (adds [] ∙ (ap (take 24) (append-nil es) ∙ take_all 24 es most))

pub epilog_is : (d : ℕ) (xs : List Arm64UnwindCode) → is_canonical d ≡ true → xs ≡ epilog_codes (packed_frame d) → length xs ≡ prolog_length (epilog_codes (packed_frame d))
epilog_is d xs e whole = ap (λ (ys : List Arm64UnwindCode). length ys) whole ∙ sym (prolog-length (epilog_codes (packed_frame d)) (epilog_alone d e).inside)

-- a step undoes what is left
pub canonical_step : (m : ℕ → Option ℕ) (d place : ℕ) (g : Arm64Registers) → is_canonical d ≡ true → stepped_arm64_packed m d place g ≡ caller_by_list m (packed_left d place) g
canonical_step m d place g canonical = rw canonical refl

-- what is left before the end of the prolog, or in a fragment
pub left_before : (d place n s : ℕ) (xs : List Arm64UnwindCode) → is_canonical d ≡ true → xs ≡ packed_codes d → n ≡ packed_length d (length xs) → s ≡ n - place → (bits d 0 2 == 2 || nat_lt place n) ≡ true →
    take (length xs - s) (drop s xs) ≡ packed_left d place
left_before d place n s xs canonical whole count is test = grind (arith, prolog_is, nat_lt, take_rest)

-- what is left after it
pub left_later : (d place n : ℕ) (xs : List Arm64UnwindCode) → is_canonical d ≡ true → xs ≡ packed_codes d → n ≡ packed_length d (length xs) → (bits d 0 2 == 2 || nat_lt place n) ≡ false → left_after d place xs ≡ packed_left d place
left_later d place n xs canonical whole count test = grind (arith, prolog_is, nat_lt)

-- each code that is left is undone alone
pub rest_alone : (s : ℕ) (xs ys : List Arm64UnwindCode) → xs ≡ ys → All (λ c. is_save_next c ≡ false) ys → All (λ c. is_save_next c ≡ false) (take (length xs - s) (drop s xs))
rest_alone s xs ys whole alone =
    let all : All (λ c. is_save_next c ≡ false) xs = All-same (λ c. is_save_next c ≡ false) xs ys whole alone in
    All-take (λ c. is_save_next c ≡ false) (length xs - s) (drop s xs) (All-drop (λ c. is_save_next c ≡ false) s xs all)

pub whole_alone : (d : ℕ) (xs : List Arm64UnwindCode) → is_canonical d ≡ true → xs ≡ packed_codes d → All (λ c. is_save_next c ≡ false) xs
whole_alone d xs canonical whole = All-same (λ c. is_save_next c ≡ false) xs (packed_codes d) whole (packed_alone d canonical)

-- where the epilog starts
starts : (d count start : ℕ) (xs : List Arm64UnwindCode) → is_canonical d ≡ true → xs ≡ epilog_codes (packed_frame d) → count ≡ bits d 2 11 → start ≡ epilog_start count None (length xs) →
    start ≡ epilog_start (bits d 2 11) None (prolog_length (epilog_codes (packed_frame d)))
starts d count start xs canonical whole count_is is = grind (arith, epilog_is)

-- what is left in it, and outside of it
pub after_yes : (d place count start s : ℕ) (xs codes : List Arm64UnwindCode) → is_canonical d ≡ true → xs ≡ epilog_codes (packed_frame d) → count ≡ bits d 2 11 → start ≡ epilog_start count None (length xs) → s ≡ place - start →
    (nat_le start place && nat_le (place - start) (length xs)) ≡ true → take (length xs - s) (drop s xs) ≡ left_after d place codes
after_yes d place count start s xs codes canonical whole count_is start_is is test = grind (arith, take_rest, left_yes, epilog_is, starts)

pub after_no : (d place count start : ℕ) (xs codes : List Arm64UnwindCode) → is_canonical d ≡ true → xs ≡ epilog_codes (packed_frame d) → count ≡ bits d 2 11 → start ≡ epilog_start count None (length xs) →
    (nat_le start place && nat_le (place - start) (length xs)) ≡ false → codes ≡ left_after d place codes
after_no d place count start xs codes canonical whole count_is start_is test = grind (arith, left_no, epilog_is, starts)

pub not_true : (b : Bool) → true ≡ not b → b ≡ false
not_true b e = grind arith

pub not_false : (b : Bool) → false ≡ not b → b ≡ true
not_false b e = grind arith

or_none : (a b : Bool) → a ≡ false → b ≡ false → (a || b) ≡ false
or_none a b h k = grind arith

-- what is left in a prolog, and in the epilog of a function
pub left_prolog : (d place : ℕ) → place < prolog_length (packed_codes d) → packed_left d place ≡ ran_arm64 place (packed_codes d)
left_prolog d place early = rw (or_right (bits d 0 2 == 2) (nat_lt place (prolog_length (packed_codes d))) (grind (arith, nat_tests))) refl

pub left_epilog : (d place run : ℕ) → bits d 0 2 ≡ 1 → prolog_length (packed_codes d) ≤ place → place ≡ epilog_start (bits d 2 11) None (prolog_length (epilog_codes (packed_frame d))) + run → run ≤ prolog_length (epilog_codes (packed_frame d)) →
    packed_left d place ≡ ran_arm64 (prolog_length (epilog_codes (packed_frame d)) - run) (epilog_codes (packed_frame d))
left_epilog d place run flag late is few =
    let es = epilog_codes (packed_frame d) in
    let start = epilog_start (bits d 2 11) None (prolog_length es) in
    let whole : (bits d 0 2 == 2) ≡ false = ap (λ (k : ℕ). k == 2) flag in
    let test : nat_lt place (prolog_length (packed_codes d)) ≡ false = grind (arith, nat_tests) in
    let outside : (bits d 0 2 == 2 || nat_lt place (prolog_length (packed_codes d))) ≡ false = or_none (bits d 0 2 == 2) (nat_lt place (prolog_length (packed_codes d))) whole test in
    let first : nat_le start place ≡ true = grind (arith, nat_tests) in
    let both : (nat_le start place && nat_le (place - start) (prolog_length es)) ≡ true = rw first (grind (arith, nat_tests)) in
    let left : left_after d place (packed_codes d) ≡ drop (place - start) es = left_yes place start (prolog_length es) es (packed_codes d) refl both in
    (rw outside refl) ∙ (left ∙ ap (λ (k : ℕ). drop k es) (omega (arith, is, few)))

-- ---- no code is of a frame of the operating system

abbrev Called : List Arm64UnwindCode → Type 0
Called cs = All (λ c. (entry_by c).has_pc ≡ false) cs

called_if : (b : Bool) (cs ds : List Arm64UnwindCode) → Called cs → Called ds → Called (if b then cs else ds)
called_if b cs ds h k = grind arith

packed_called : (d : ℕ) → is_canonical d ≡ true → Called (packed_codes d)
packed_called d e = grind (arith, codes_short, called_if)

after_called : (d place : ℕ) → is_canonical d ≡ true → Called (left_after d place (packed_codes d))
after_called d place e =
    let es = epilog_codes (packed_frame d) in
    let start = epilog_start (bits d 2 11) None (prolog_length es) in
    called_if (nat_le start place && nat_le (place - start) (prolog_length es)) (drop (place - start) es) (packed_codes d)
    (All-drop (λ c. (entry_by c).has_pc ≡ false) (place - start) es (epilog_alone d e).called) (packed_called d e)

pub left_called : (d place : ℕ) → is_canonical d ≡ true → Called (packed_left d place)
left_called d place e =
    called_if (bits d 0 2 == 2 || nat_lt place (prolog_length (packed_codes d))) (ran_arm64 place (packed_codes d)) (left_after d place (packed_codes d))
    (All-drop (λ c. (entry_by c).has_pc ≡ false) (prolog_length (packed_codes d) - place) (packed_codes d) (packed_called d e)) (after_called d place e)
