-- Parts of the bytes, up to the end of an element.
use Rattle.std.proofs.Common.{◌≡◌, ℕ, ◌<◌, List, [], length, take, drop, sym, arith}
use Rattle.std.proofs.lemmas.List.{take_all, drop_all}

pub all_before : (b : List ℕ) (n : ℕ) → length b < n → b ≡ take n b
all_before b n h = sym (take_all n b (omega (arith, h)))

pub all_dropped : (b : List ℕ) (n : ℕ) → length b < n → [] ≡ drop n b
all_dropped b n h = sym (drop_all n b (omega (arith, h)))
