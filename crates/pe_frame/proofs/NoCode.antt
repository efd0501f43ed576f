-- Without code there is no epilog.
use Rattle.std.proofs.Common.{◌≡◌, ℕ, ◌==◌, Bool, true, List, ◌∷◌, length, None, refl, sym, arith, []}
use Rattle.pe_frame.proofs.Cited.{nat_tests, UnwindInfoView, add_at, after_pops, epilog_at, exit_at, frame_register_of, is_frame_register}
use Rattle.pe_frame.proofs.Cited.{jump_at, lea_at, marked_jump, operand, pop_at, return_number, tail_at, unmarked_jump}

lea_none : (r : ℕ) (is_frame is_twelve : Bool) → is_frame_register r ≡ is_frame → (r == 12) ≡ is_twelve → lea_at r [] ≡ None
unfolding lea_at operand
lea_none r is_frame is_twelve e twelve = grind arith

tail_none : (plan : List UnwindInfoView) (start end : ℕ) → tail_at plan start end [] ≡ None
unfolding add_at operand exit_at return_number jump_at marked_jump unmarked_jump after_pops pop_at
tail_none plan start end = rw (lea_none (frame_register_of plan) _ _ refl refl) refl

pub no_epilog : (plan : List UnwindInfoView) (start rva : ℕ) → epilog_at plan start rva [] ≡ None
no_epilog plan start rva = grind (arith, tail_none)

-- the same of code that is tested for it
pub no_epilog_of : (plan : List UnwindInfoView) (start rva : ℕ) (code : List ℕ) → (length code == 0) ≡ true → None ≡ epilog_at plan start rva code
no_epilog_of plan start rva [] e = sym (no_epilog plan start rva)
no_epilog_of plan start rva (b ∷ code) e = absurd (grind (arith, nat_tests))
