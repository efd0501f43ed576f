-- One range of a digest after the other.
use Rattle.std.proofs.Common.{◌≡◌, ℕ, ◌+◌, ◌-◌, ◌<◌, ◌≤◌, true, false, [], ◌∷◌, arith}
use Rattle.pe_sign.proofs.Cited.{cases_lt, nat_tests, ByteRange, is_in, is_left_out, in_array, kept_ranges, Between, IsFirstRange}
use Rattle.pe_sign.proofs.Cited.{one_if_after, parts_after, LeftOut}
use Rattle.pe_sign.proofs.KeptRanges.{first_of_array}
use Rattle.pe_sign.proofs.Slices.{in_checksum, in_entry, in_certificates}

-- ---- past the parts

pub in_range : (r : ByteRange) (offset left end : ℕ) → is_in r offset ≡ true → left ≡ r.length - (offset - r.offset) → end ≤ offset + left → Between (is_in r) true offset end
in_range r offset left end h e i k from to = grind (arith, nat_tests)

pub passed_three : (l : LeftOut) (p x y z : ℕ) → Between (is_in l.checksum) true p x → Between (is_in l.directory_entry) true x y → Between (is_in l.certificates) true y z → Between (is_left_out l) true p z
passed_three l p x y z a b c = grind (arith, in_checksum, in_entry, in_certificates, cases_lt)

pub moves_three : (l : LeftOut) (p x y z end : ℕ) → p ≤ x → x ≤ y → y ≤ z → (is_in l.checksum p ≡ true → p < end → p < x) → (is_in l.directory_entry x ≡ true → x < end → x < y) →
    (is_in l.certificates y ≡ true → y < end → y < z) → is_left_out l p ≡ true → p < end → p < z
moves_three l p x y z end u v w a b c h small = grind (arith, cases_lt)

-- ---- up to the next part

pub starts_later : (r : ByteRange) (start end : ℕ) → end ≤ r.offset → Between (is_in r) false start end
starts_later r start end h k from to = grind (arith, nat_tests)

pub is_over : (r : ByteRange) (start end : ℕ) → r.offset ≤ start → is_in r start ≡ false → Between (is_in r) false start end
is_over r start end h i k from to = grind (arith, nat_tests)

pub has_none : (r : ByteRange) (start end : ℕ) → r.length ≡ 0 → Between (is_in r) false start end
has_none r start end h k from to = grind (arith, nat_tests)

pub has_first : (r : ByteRange) → 0 < r.length → is_in r r.offset ≡ true
has_first r h = grind (arith, nat_tests)

-- ---- four ranges are all of them

few_one : (p : ℕ) (r : ByteRange) → one_if_after p r ≤ 1
few_one p r = grind (arith, nat_tests)

pub four_ranges : (l : LeftOut) (n a b c d : ℕ) (r s t u : ByteRange) →
    IsFirstRange (is_left_out l) n 0 r a → IsFirstRange (is_left_out l) n a s b → IsFirstRange (is_left_out l) n b t c → IsFirstRange (is_left_out l) n c u d →
    a ≤ b → b ≤ c → c ≤ d → d ≤ n →
    (a < n → parts_after l a < parts_after l 0) → (b < n → parts_after l b < parts_after l a) → (c < n → parts_after l c < parts_after l b) → (d < n → parts_after l d < parts_after l c) →
    r ∷ s ∷ t ∷ u ∷ [] ≡ in_array 4 (kept_ranges (is_left_out l) 0 n)
unfolding kept_ranges
four_ranges l n a b c d r s t u one two three four v w x y f g h i = grind (arith, first_of_array, cases_lt, few_one)
