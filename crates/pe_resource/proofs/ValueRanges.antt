-- Where values lie among strings.
use Rattle.std.proofs.Common.{◌≡◌, ℕ, zero, suc, ◌+◌, ◌-◌, ◌<◌, ◌≤◌, Bool, true, List, [], ◌∷◌, length, drop, length-drop, All, IfSome, map, ext_get_or, get_or, Option, Some, None, Result, Ok, Err, if◌then◌else◌, refl, ap, sym, ◌∙◌, subst, arith, rules}
use Rattle.pe_resource.proofs.Cited.{nat_tests, places, same_lists, get_or-map, length-map, drop-drop, option_map, option_or, length_range}
use Rattle.pe_resource.proofs.Cited.{range_in_range, range, holds, bytes_in, IsWithin, Refusal, ◌>>=◌, ByteRange, Error, ResourceString}
use Rattle.pe_resource.proofs.Cited.{IsThere, inner, content_of, VersionString, string_view, version_string_at, string_and_next, key_length}
use Rattle.pe_resource.proofs.Cited.{value_bytes, value_offset, value_start, value_range, lengthened, up_to_four, ReturnsString, then_more}
use Rattle.pe_resource.proofs.Cited.{strings, read, all_read, value_of, value_ranges, is_name, text}
use Rattle.pe_resource.proofs.StringLists.{string_read, further, strings_start, strings_empty, strings_more, strings_none, reads_all}
use Rattle.pe_resource.proofs.Names.{whole_key}

abbrev Pair : Type 0
Pair = Option VersionString × ℕ

-- a range after bytes that are dropped
range_after : (b : List ℕ) (k p n : ℕ) → p + n ≤ length (drop k b) → range (drop k b) p n ≡ range b (k + p) n
range_after b k p n h = same_lists _ _ (grind (arith, places)) (λ j d lt. grind (arith, places))

-- a range of a range
pub inner_bytes : (b : List ℕ) (outer r : ByteRange) → IsWithin b outer → IsWithin (bytes_in b outer) r → IsWithin b (inner outer r) × (bytes_in b (inner outer r) ≡ bytes_in (bytes_in b outer) r)
inner_bytes b outer r h i = grind (arith, length_range, range_in_range)

-- ---- one string

lengthened_fits : (b : List ℕ) (p : ℕ) → holds b (value_offset b p) (value_bytes b p) ≡ true → value_offset b p + lengthened b p ≤ length b
unfolding lengthened
lengthened_fits b p h = grind (arith, nat_tests)

key_fits : (b : List ℕ) (n : ℕ) → value_offset b 0 + n ≤ length b → 6 + key_length b 6 ≤ length b
unfolding value_offset
key_fits b n h = omega arith

starts : (b : List ℕ) → up_to_four (6 + key_length b 6 + 2) ≡ value_offset b 0
unfolding value_offset
starts b = refl

abbrev key_in : Option VersionString → List ℕ
key_in None = []
key_in (Some s) = s.key

abbrev value_in : Option VersionString → List ℕ
value_in None = []
value_in (Some s) = s.value

-- the value of a string lies after its key, and ends where the next string starts
pub record IsPlaced (b : List ℕ) (s : VersionString) (q : ℕ) : Type 0 where
  pub end : value_start s + length s.value ≡ q
  pub within : q ≤ length b
  pub value : s.value ≡ range b (value_start s) (length s.value)

placed : (b : List ℕ) (s : VersionString) (q v n : ℕ) → value_start s ≡ v → v + n ≡ q → v + n ≤ length b → s.value ≡ range b v n → IsPlaced b s q
placed b s q v n begin next fits value = grind (arith, length_range)

pub string_placed : (b : List ℕ) (s : VersionString) (q : ℕ) → version_string_at b 0 ≡ Ok (Some s, q) → IsPlaced b s q
unfolding string_and_next
string_placed b s q h = search (rules, arith, string_read, lengthened_fits, length_range, key_fits, placed, starts)

-- ---- all strings

there_by : (t : Bool) (f : List ℕ) (s : VersionString) (r : ByteRange) (rest : Option ByteRange) (o : Option VersionString) → IsWithin f r → s.value ≡ bytes_in f r → IsThere f rest (option_map (λ x. x.value) o) → IsThere f (if t then Some r else rest) (option_map (λ (x : VersionString). x.value) (if t then Some s else o))
there_by t f s r rest o within value later = grind arith

there_at : (name f b : List ℕ) (p : ℕ) (r : Result Pair Refusal) → version_string_at b 0 ≡ r → b ≡ drop p f → p ≤ length f → ((q : ℕ) → 0 < q → q ≤ length b → IsThere f (value_range name (p + q) (read (strings (drop q b)))) (value_of name (read (strings (drop q b))))) → IsThere f (value_range name p (read (then_more strings b r))) (value_of name (read (then_more strings b r)))
there_at name f b p (Err e) is after in_file later = refl
there_at name f b p (Ok (None, q)) is after in_file later = refl
there_at name f b p (Ok (Some s, q)) is after in_file later =
    grind (arith, string_placed, length-drop, range_after, there_by, further)

there_within : (n : ℕ) (name f b : List ℕ) (p : ℕ) → length b ≤ n → b ≡ drop p f → p ≤ length f → IsThere f (value_range name p (read (strings b))) (value_of name (read (strings b)))
there_within n name f [] p h after in_file = subst (λ (xs : List (Result VersionString Refusal)). IsThere f (value_range name p (read xs)) (value_of name (read xs))) (sym strings_empty) refl
there_within zero name f (x ∷ xs) p h after in_file = absurd (omega arith)
there_within (suc n) name f (x ∷ xs) p h after in_file =
    let size : length (x ∷ xs) ≡ length f - p = ap length after ∙ length-drop p f in
    subst (λ (ys : List (Result VersionString Refusal)). IsThere f (value_range name p (read ys)) (value_of name (read ys))) (sym (strings_start (x ∷ xs) (λ e. cc)))
    (there_at name f (x ∷ xs) p (version_string_at (x ∷ xs) 0) refl after in_file
    (λ q some inside. there_within n name f (drop q (x ∷ xs)) (p + q) (grind (arith, length-drop {A = ℕ})) (ap (drop q) after ∙ drop-drop q p f) (omega (arith, size))))

pub value_there : (name b : List ℕ) → IsThere b (value_range name 0 (read (strings b))) (value_of name (read (strings b)))
value_there name b = there_within (length b) name b b 0 (omega arith) refl (omega arith)

bytes_there : (b : List ℕ) (r : Option ByteRange) (v : Option (List ℕ)) → IsThere b r v → content_of b r ≡ v
bytes_there b r v h = grind arith

-- the bytes of the range are the value
pub range_of_value : (name b : List ℕ) → content_of b (value_range name 0 (read (strings b))) ≡ value_of name (read (strings b))
range_of_value name b = bytes_there b (value_range name 0 (read (strings b))) (value_of name (read (strings b))) (value_there name b)

-- ---- a pass over the strings, of which `left` is left of `size` bytes

abbrev Item : Type 0
Item = Result ResourceString Error

given : (b left : List ℕ) (item : Item) (s : ResourceString) → ReturnsString b (Some item) left → item ≡ Ok s → ReturnsString b (Some (Ok s)) left
given b left item s h is = subst (λ (i : Item). ReturnsString b (Some i) left) is h

-- a string's value and what is left are no more than what was left before
pub value_ends : (b left : List ℕ) (item : Item) (s : ResourceString) → ReturnsString b (Some item) left → item ≡ Ok s → value_start (string_view s) + length s.value.now + length left ≡ length b
value_ends b left item s h is = grind (arith, given, string_placed, length-drop)

-- the key of a string is measured
pub key_measured : (b left : List ℕ) (item : Item) (s : ResourceString) → ReturnsString b (Some item) left → item ≡ Ok s → key_length s.key.now 0 ≡ length s.key.now
unfolding string_and_next value_offset
key_measured b left item s h is =
    let gives = given b left item s h is in
    let reads = string_read b (string_view s) gives.1 gives.2 in
    let fits : value_offset b 0 + lengthened b 0 ≤ length b = lengthened_fits b 0 reads.0 in
    let key : range b 6 (key_length b 6) ≡ s.key.now = ap (λ (x : Pair). key_in x.0) reads.1 in
    subst (λ (k : List ℕ). key_length k 0 ≡ length k) key (whole_key b 6 (key_length b 6) refl (key_fits b (lengthened b 0) fits))

abbrev if_here : Bool → ByteRange → Option ByteRange
if_here t r = if t then Some r else None

one_by : (t : Bool) (here range : ByteRange) (rest old v : Option ByteRange) → range ≡ here → option_or old (if t then Some here else rest) ≡ v → option_or (option_or old (if_here t range)) rest ≡ v
one_by t here range rest old v is e = grind arith

-- what is kept of a name, one string further
pub one_further : (size : ℕ) (name b left : List ℕ) (item : Item) (s : ResourceString) (old new v : Option ByteRange) → length b ≤ size → ReturnsString b (Some item) left → item ≡ Ok s → new ≡ option_or old (if_here (is_name name (text s.key.now)) (record { offset = size - length left - length s.value.now; length = length s.value.now })) → option_or old (value_range name (size - length b) (read (strings b))) ≡ v → option_or new (value_range name (size - length left) (read (strings left))) ≡ v
one_further size name b left item s old new v inside h is kept e =
    let ends = value_ends b left item s h is in
    let offset : size - length left - length s.value.now ≡ size - length b + value_start (string_view s) = omega (arith, ends, inside) in
    let next : size - length left ≡ size - length b + (value_start (string_view s) + length s.value.now) = omega (arith, ends, inside) in
    ap (λ (o : Option ByteRange). option_or o (value_range name (size - length left) (read (strings left)))) kept
    ∙ ap (λ (p : ℕ). option_or (option_or old (if_here (is_name name (text s.key.now)) (record { offset = size - length left - length s.value.now; length = length s.value.now }))) (value_range name p (read (strings left)))) next
    ∙ one_by (is_name name (text s.key.now)) (record { offset = size - length b + value_start (string_view s); length = length s.value.now }) _ _ old v
    (ap (λ (p : ℕ). record { offset = p; length = length s.value.now }) offset)
    (ap (λ (xs : List (Result VersionString Refusal)). option_or old (value_range name (size - length b) (read xs))) (sym (strings_more b left s (given b left item s h is))) ∙ e)

kept_alone : (o : Option ByteRange) → option_or o None ≡ o
kept_alone o = grind arith

-- and at the end
all_kept : (p : ℕ) (name b left : List ℕ) (old v : Option ByteRange) → ReturnsString b None left → option_or old (value_range name p (read (strings b))) ≡ v → v ≡ old
all_kept p name b left old v h e = grind (arith, e, strings_none b left h, kept_alone old)

-- before the first string nothing is kept
pub start_kept : (name b left : List ℕ) (old : Option ByteRange) → left ≡ b → old ≡ None → option_or old (value_range name (length b - length left) (read (strings left))) ≡ value_range name 0 (read (strings b))
start_kept name b left old is none = grind arith

within_there : (b : List ℕ) (r : Option ByteRange) (v : Option (List ℕ)) → IsThere b r v → IfSome r (IsWithin b)
within_there b r v h = grind arith

pub all_within : (names : List (List ℕ)) (b : List ℕ) → All (λ r. IfSome r (IsWithin b)) (map (λ name. value_range name 0 (read (strings b))) names)
all_within names b k d h =
    let at = get_or-map (λ (name : List ℕ). value_range name 0 (read (strings b))) names k [] d (omega (arith, h, length-map names (λ (name : List ℕ). value_range name 0 (read (strings b))))) in
    subst (λ (r : Option ByteRange). IfSome r (IsWithin b)) (sym at) (within_there b _ _ (value_there (get_or names k []) b))

-- after the last string: what is kept is what was sought
pub found : {X : Type 0} (now : X → List ℕ) (keys : List X) (all b left : List ℕ) (ranges : List (Option ByteRange)) → ReturnsString b None left → length ranges ≡ length keys → all_read (strings b) ≡ all_read (strings all) → ((k : ℕ) → k < length keys → option_or (get_or ranges k None) (value_range (get_or (map now keys) k []) (length all - length b) (read (strings b))) ≡ value_range (get_or (map now keys) k []) 0 (read (strings all))) → (value_ranges (map now keys) all ≡ Ok ranges) × All (λ r. IfSome r (IsWithin all)) ranges
unfolding value_ranges
found now keys all b left ranges ends many reads kept =
    let range_of : List ℕ → Option ByteRange = λ name. value_range name 0 (read (strings all)) in
    let named : length (map now keys) ≡ length keys = length-map keys now in
    let ranged : length (map range_of (map now keys)) ≡ length (map now keys) = length-map (map now keys) range_of in
    let same : map range_of (map now keys) ≡ ranges = ext_get_or None (map range_of (map now keys)) ranges (ranged ∙ named ∙ sym many)
    (λ k h. get_or-map range_of (map now keys) k [] None (omega (arith, h, ranged)) ∙ all_kept (length all - length b) (get_or (map now keys) k []) b left (get_or ranges k None) _ ends (kept k (omega (arith, h, ranged, named)))) in (
      ap (λ (r : Result (Unit {0}) Refusal). r >>= λ _. Ok (map range_of (map now keys))) (reads_all b left (all_read (strings all)) ends reads) ∙ ap (λ (rs : List (Option ByteRange)). Ok rs) same,
      subst (All (λ r. IfSome r (IsWithin all))) same (all_within (map now keys) all),
    )

pub value_of_range : (names : List (List ℕ)) (b : List ℕ) (ranges : List (Option ByteRange)) (k : ℕ) (d : Option ByteRange) → value_ranges names b ≡ Ok ranges → k < length names → content_of b (get_or ranges k d) ≡ value_of (get_or names k []) (read (strings b))
unfolding value_ranges
value_of_range names b ranges k d h lt = grind (arith, get_or-map, range_of_value)
