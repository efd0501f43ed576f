-- Two lists that go together, one of which is written entry by entry.
use Rattle.std.proofs.Common.{ℕ, ◌+◌, ◌<◌, List, length, slice_index_or, slice_set, arith}
use Rattle.calls_base.proofs.Cited.{cases_eq, get_or_default, get_or-set_other, get_or-set_same}

-- one more of a list goes with the other list
pub one_more : {A N : Type 0} (P : A → N → Type 0) (xs : List A) (ys : List N) (i : ℕ) (x : A) (y : N) → i < length xs → i < length ys →
    ((k : ℕ) (a : A) (n : N) → k < i → P (slice_index_or xs k a) (slice_index_or ys k n)) → P (slice_index_or xs i x) y →
    (k : ℕ) (a : A) (n : N) → k < i + 1 → P (slice_index_or xs k a) (slice_index_or (slice_set ys i y) k n)
one_more P xs ys i x y in_xs in_ys before is k a n lt = grind (arith, cases_eq, get_or-set_same, get_or_default, get_or-set_other)
