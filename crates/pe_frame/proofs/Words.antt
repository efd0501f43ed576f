-- Stores and loads of eight bytes.
use Rattle.std.proofs.Common.{◌≡◌, ℕ, zero, suc, ◌+◌, ◌-◌, ◌/◌, ◌%◌, ◌^◌, ◌<◌, ◌≤◌, ◌⊎◌, inl, inr, refl, arith}
use Rattle.pe_frame.proofs.Cited.{nat_tests, from_le_bytes-to_le_bytes_8, number_at, loaded, stored, Apart}

-- a byte of what was stored
pub stored_in : (m : ℕ → ℕ) (a v i : ℕ) → i < 8 → stored m a v (a + i) ≡ v / 256 ^ i % 256
stored_in m a v i small = grind (arith, nat_tests)

-- a byte outside
pub stored_out : (m : ℕ → ℕ) (a v b : ℕ) → (b < a) ⊎ (a + 8 ≤ b) → stored m a v b ≡ m b
stored_out m a v b h4 = grind (arith, nat_tests)

pub loaded-stored : (m : ℕ → ℕ) (a v : ℕ) → v < 2 ^ 64 → loaded (stored m a v) a ≡ v
loaded-stored m a v fits = grind (arith, stored_in, from_le_bytes-to_le_bytes_8)

pub number-apart : (m : ℕ → ℕ) (a v b n : ℕ) → n ≤ 8 → Apart a b → number_at (stored m a v) b n ≡ number_at m b n
number-apart m a v b zero small h = refl
number-apart m a v b (suc n) small (inl h) = grind (arith, stored_out, number-apart m a v b n)
number-apart m a v b (suc n) small (inr h) = grind (arith, stored_out, number-apart m a v b n)

pub loaded-apart : (m : ℕ → ℕ) (a v b : ℕ) → Apart a b → loaded (stored m a v) b ≡ loaded m b
loaded-apart m a v b h = number-apart m a v b 8 (omega arith) h
