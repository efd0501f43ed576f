-- The digits of sixteen.
use Rattle.std.proofs.Common.{◌≡◌, ℕ, zero, suc, ◌<◌, arith, get_or, refl}
use Rattle.std.specs.Prelude.{codes}
use Rattle.peinfo.specs.Hex.{hex_digit}

pub digit_at : (n : ℕ) → n < 16 → get_or (codes "0123456789abcdef") n 0 ≡ hex_digit n
digit_at zero lt = refl
digit_at (suc zero) lt = refl
digit_at (suc (suc zero)) lt = refl
digit_at (suc (suc (suc zero))) lt = refl
digit_at (suc (suc (suc (suc zero)))) lt = refl
digit_at (suc (suc (suc (suc (suc zero))))) lt = refl
digit_at (suc (suc (suc (suc (suc (suc zero)))))) lt = refl
digit_at (suc (suc (suc (suc (suc (suc (suc zero))))))) lt = refl
digit_at (suc (suc (suc (suc (suc (suc (suc (suc zero)))))))) lt = refl
digit_at (suc (suc (suc (suc (suc (suc (suc (suc (suc zero))))))))) lt = refl
digit_at (suc (suc (suc (suc (suc (suc (suc (suc (suc (suc zero)))))))))) lt = refl
digit_at (suc (suc (suc (suc (suc (suc (suc (suc (suc (suc (suc zero))))))))))) lt = refl
digit_at (suc (suc (suc (suc (suc (suc (suc (suc (suc (suc (suc (suc zero)))))))))))) lt = refl
digit_at (suc (suc (suc (suc (suc (suc (suc (suc (suc (suc (suc (suc (suc zero))))))))))))) lt = refl
digit_at (suc (suc (suc (suc (suc (suc (suc (suc (suc (suc (suc (suc (suc (suc zero)))))))))))))) lt = refl
digit_at (suc (suc (suc (suc (suc (suc (suc (suc (suc (suc (suc (suc (suc (suc (suc zero))))))))))))))) lt = refl
digit_at (suc (suc (suc (suc (suc (suc (suc (suc (suc (suc (suc (suc (suc (suc (suc (suc n)))))))))))))))) lt = absurd (omega arith)
