-- The first of some pairs with a name.
use Rattle.std.proofs.Common.{◌≡◌, ℕ, ◌+◌, ◌-◌, ◌<◌, true, false, List, Some, None, arith}
use Rattle.pe_core.specs.Bytes.{le}
use Rattle.pe_pdb.specs.Names.{first_named, is_text_at}

pub named_none : (texts name b : List ℕ) (n p : ℕ) → n ≡ 0 → first_named texts name b n p ≡ None
unfolding first_named
named_none texts name b n p is = grind arith

pub named_here : (texts name b : List ℕ) (n p o : ℕ) → 0 < n → o ≡ le b p 4 → is_text_at texts o name ≡ true → first_named texts name b n p ≡ Some (le b (p + 4) 4)
unfolding first_named
named_here texts name b n p o some at is = grind arith

pub named_later : (texts name b : List ℕ) (n p o : ℕ) → 0 < n → o ≡ le b p 4 → is_text_at texts o name ≡ false → first_named texts name b n p ≡ first_named texts name b (n - 1) (p + 8)
unfolding first_named
named_later texts name b n p o some at is = grind arith

pub ruleset pairs = (named_none, named_here, named_later)
