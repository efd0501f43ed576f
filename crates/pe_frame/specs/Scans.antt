-- Scans of a stack: the first word that is a return address into executable code, and the word after the call that leads highest.
use Rattle.std.specs.Prelude.{◌≡◌, ℕ, zero, suc, ◌+◌, ◌*◌, ◌<◌, ◌≤◌, ◌^◌, nat_lt, if◌then◌else◌, IfSome, Option, Some, None}
use Rattle.std.specs.Option.{option_and_then, option_map, option_map_or}
use Rattle.pe_frame.specs.declared.scan.FoundCall.{FoundCall}

-- The return address that the word at an address of the stack is, if it is one: `returns` says of a number which one it is.
abbrev pub return_at : (ℕ → Option ℕ) → (ℕ → Option ℕ) → ℕ → Option ℕ
return_at memory returns a = if nat_lt (a + 8) (2 ^ 64) then option_and_then returns (memory a) else None

-- the first of n words from an address on that is one, and its address
unfoldable pub first_return : ℕ → (ℕ → Option ℕ) → (ℕ → Option ℕ) → ℕ → Option (ℕ × ℕ)
first_return zero memory returns a = None
first_return (suc n) memory returns a =
    option_map_or (λ w. Some (a, w)) (return_at memory returns a) (first_return n memory returns (a + 8))

-- the word at an address is the first of those n
pub record IsFirstReturn (n : ℕ) (memory returns : ℕ → Option ℕ) (start a w : ℕ) : Type 0 where
  pub index : ℕ
  pub within : index < n
  pub at : a ≡ start + 8 * index
  pub is : return_at memory returns a ≡ Some w
  pub first : (j : ℕ) → j < index → return_at memory returns (start + 8 * j) ≡ None

-- how many words a scan reads at most
abbrev pub most_words : ℕ
most_words = 128

-- ---- by where calls lead

-- a call by the return address that stands at an address of the stack
abbrev pub call_to : ℕ → ℕ → ℕ → FoundCall
call_to a w target = record { address = a; word = w; target = target }

-- The call that ends at the word at an address of the stack: `targets` says of a number where the call leads that ends there, if it
-- is one that is looked for.
abbrev pub call_at : (ℕ → Option ℕ) → (ℕ → Option ℕ) → ℕ → Option FoundCall
call_at memory targets a =
    if nat_lt (a + 8) (2 ^ 64) then option_and_then (λ w. option_map (call_to a w) (targets w)) (memory a) else None

-- of two calls that which leads higher, of two that lead to one address the first
abbrev pub higher_call : Option FoundCall → Option FoundCall → Option FoundCall
higher_call None d = d
higher_call (Some c) None = Some c
higher_call (Some c) (Some d) = if nat_lt c.target d.target then Some d else Some c

-- of the calls that end at n words from an address on that which leads highest
unfoldable pub highest_call : ℕ → (ℕ → Option ℕ) → (ℕ → Option ℕ) → ℕ → Option FoundCall
highest_call zero memory targets a = None
highest_call (suc n) memory targets a = higher_call (call_at memory targets a) (highest_call n memory targets (a + 8))

-- the call is one of those n, and none leads higher, nor one before it as high
pub record IsHighestCall (n : ℕ) (memory targets : ℕ → Option ℕ) (start : ℕ) (c : FoundCall) : Type 0 where
  pub index : ℕ
  pub within : index < n
  pub is : call_at memory targets (start + 8 * index) ≡ Some c
  pub before : (j : ℕ) → j < index → IfSome (call_at memory targets (start + 8 * j)) (λ d. d.target < c.target)
  pub highest : (j : ℕ) → j < n → IfSome (call_at memory targets (start + 8 * j)) (λ d. d.target ≤ c.target)
