-- What a section covers, by tests that round the RVA down in place of the sizes up.
use Rattle.std.proofs.Common.{◌≡◌, ℕ, ◌+◌, ◌-◌, ◌*◌, ◌/◌, ◌<◌, ◌≤◌, arith, Bool, true, false, cond, refl}
use Rattle.std.specs.Prelude.{nat_lt, nat_le, ◌&&◌, ◌==◌, min}
use Rattle.std.proofs.lemmas.Bool.Decides.{nat_tests}
use Rattle.std.proofs.Math.Nat.{add-mul, one-mul, lt-div-mul-add, le-div_iff_mul-le, div-lt_iff_lt-mul, mul-le-mul_right, div-mul-le_self}
use Rattle.pe_core.specs.SectionMap.{covers, reach, rounded_up, raw_start}
use Rattle.pe_core.specs.Sections.{raw_end}
use Rattle.pe_core.specs.declared.section_table.SectionTable.{SectionTable}

-- x is before n rounded up to a unit if, and only if, x rounded down to it is before n
unit_below : (x n u : ℕ) → 0 < u → x / u * u < n → x < (n + (u - 1)) / u * u
unit_below x n u some e =
    let after : x < x / u * u + u = lt-div-mul-add some in
    let unit : (x / u + 1) * u ≡ x / u * u + 1 * u = add-mul (x / u) 1 u in
    let fits : (x / u + 1) * u ≤ n + (u - 1) = omega (arith, one-mul u) in
    let next : x / u + 1 ≤ (n + (u - 1)) / u = (le-div_iff_mul-le some).1 fits in
    let more : (x / u + 1) * u ≤ (n + (u - 1)) / u * u = mul-le-mul_right u next in
    omega (arith, one-mul u)

unit_past : (x n u : ℕ) → 0 < u → n ≤ x / u * u → (n + (u - 1)) / u * u ≤ x
unit_past x n u some e =
    let unit : (x / u + 1) * u ≡ x / u * u + 1 * u = add-mul (x / u) 1 u in
    let fits : n + (u - 1) < (x / u + 1) * u = omega (arith, one-mul u) in
    let below : (n + (u - 1)) / u < x / u + 1 = (div-lt_iff_lt-mul some).1 fits in
    let more : (n + (u - 1)) / u * u ≤ x / u * u = mul-le-mul_right u (omega arith) in
    let down : x / u * u ≤ x = div-mul-le_self x u in
    omega arith

-- the least of what a section's sizes allow
least_raw : (t : Bool) (a b c : ℕ) → cond t (min a b) (min (min a b) c) ≤ b
least_raw true a b c = omega arith
least_raw false a b c = omega arith

least_end : (t : Bool) (a b c : ℕ) → cond t (min a b) (min (min a b) c) ≤ a
least_end true a b c = omega arith
least_end false a b c = omega arith

least_all : (t : Bool) (a b c d : ℕ) → d < a → d < b → (t ≡ false → d < c) → d < cond t (min a b) (min (min a b) c)
least_all true a b c d x y z = omega arith
least_all false a b c d x y z = let w : d < c = z refl in omega arith

least_virtual : (t : Bool) (a b c : ℕ) → t ≡ false → cond t (min a b) (min (min a b) c) ≤ c
least_virtual true a b c e = absurd cc
least_virtual false a b c e = omega arith

zero_test : (n : ℕ) → (n == 0) ≡ false → 0 < n
zero_test n e = grind (arith, nat_tests)

some_test : (n : ℕ) → 0 < n → (n == 0) ≡ false
some_test n e = grind (arith, nat_tests)

pub reach_by_raw : (alignment : ℕ) (s : SectionTable) → reach alignment s ≤ rounded_up s.size_of_raw_data 4096
unfolding reach
reach_by_raw alignment s = least_raw (s.virtual_size == 0) (rounded_up (raw_end s) alignment - raw_start s) (rounded_up s.size_of_raw_data 4096) (rounded_up s.virtual_size 4096)

reach_by_end : (alignment : ℕ) (s : SectionTable) → reach alignment s ≤ rounded_up (raw_end s) alignment - raw_start s
unfolding reach
reach_by_end alignment s = least_end (s.virtual_size == 0) (rounded_up (raw_end s) alignment - raw_start s) (rounded_up s.size_of_raw_data 4096) (rounded_up s.virtual_size 4096)

reach_by_virtual : (alignment : ℕ) (s : SectionTable) → 0 < s.virtual_size → reach alignment s ≤ rounded_up s.virtual_size 4096
unfolding reach
reach_by_virtual alignment s some = least_virtual (s.virtual_size == 0) (rounded_up (raw_end s) alignment - raw_start s) (rounded_up s.size_of_raw_data 4096) (rounded_up s.virtual_size 4096) (some_test s.virtual_size some)

reach_by_all : (alignment d : ℕ) (s : SectionTable) → d < rounded_up (raw_end s) alignment - raw_start s → d < rounded_up s.size_of_raw_data 4096 → (0 < s.virtual_size → d < rounded_up s.virtual_size 4096) → d < reach alignment s
unfolding reach
reach_by_all alignment d s x y z = least_all (s.virtual_size == 0) (rounded_up (raw_end s) alignment - raw_start s) (rounded_up s.size_of_raw_data 4096) (rounded_up s.virtual_size 4096) d x y (λ e. z (zero_test s.virtual_size e))

pub outside : (va a r : ℕ) → (va ≤ a → a < va + r → ⊥) → (nat_le va a && nat_lt a (va + r)) ≡ false
outside va a r h = grind (arith, nat_tests, h)

within : (va a r : ℕ) → va ≤ a → a < va + r → (nat_le va a && nat_lt a (va + r)) ≡ true
within va a r i j = grind (arith, nat_tests)

pub starts_after : (alignment address : ℕ) (s : SectionTable) → address < s.virtual_address → covers alignment address s ≡ false
starts_after alignment address s e = outside s.virtual_address address (reach alignment s) (λ i j. omega arith)

pub past_raw_size : (alignment address : ℕ) (s : SectionTable) → s.size_of_raw_data ≤ (address - s.virtual_address) / 4096 * 4096 → covers alignment address s ≡ false
past_raw_size alignment address s e =
    let small : reach alignment s ≤ (s.size_of_raw_data + 4095) / 4096 * 4096 = reach_by_raw alignment s in
    outside s.virtual_address address (reach alignment s) (λ i j. omega arith)

pub past_virtual_size : (alignment address : ℕ) (s : SectionTable) → 0 < s.virtual_size → s.virtual_size ≤ (address - s.virtual_address) / 4096 * 4096 → covers alignment address s ≡ false
past_virtual_size alignment address s some e =
    let small : reach alignment s ≤ (s.virtual_size + 4095) / 4096 * 4096 = reach_by_virtual alignment s some in
    outside s.virtual_address address (reach alignment s) (λ i j. omega arith)

pub past_raw_end : (alignment address : ℕ) (s : SectionTable) → 0 < alignment → raw_end s ≤ (address - s.virtual_address + raw_start s) / alignment * alignment → covers alignment address s ≡ false
past_raw_end alignment address s some e =
    let small : reach alignment s ≤ rounded_up (raw_end s) alignment - raw_start s = reach_by_end alignment s in
    let past : rounded_up (raw_end s) alignment ≤ address - s.virtual_address + raw_start s = unit_past _ _ alignment some e in
    outside s.virtual_address address (reach alignment s) (λ i j. omega arith)

pub inside : (alignment address : ℕ) (s : SectionTable) → 0 < alignment → s.virtual_address ≤ address → (address - s.virtual_address) / 4096 * 4096 < s.size_of_raw_data → (0 < s.virtual_size → (address - s.virtual_address) / 4096 * 4096 < s.virtual_size) → (address - s.virtual_address + raw_start s) / alignment * alignment < raw_end s → covers alignment address s ≡ true
inside alignment address s some after raw size end =
    let by_end : address - s.virtual_address + raw_start s < rounded_up (raw_end s) alignment = unit_below _ _ alignment some end in
    let by_all : address - s.virtual_address < reach alignment s = reach_by_all alignment (address - s.virtual_address) s (omega arith) (omega arith) (λ some. let h : (address - s.virtual_address) / 4096 * 4096 < s.virtual_size = size some in omega arith) in
    within s.virtual_address address (reach alignment s) after (omega arith)
