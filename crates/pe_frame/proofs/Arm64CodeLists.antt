-- Lists of codes that grow, and codes of a prolog that are undone one by one.
use Rattle.std.proofs.Common.{◌≡◌, ℕ, zero, suc, ◌≤◌, List, ◌∷◌, ◌++◌, length, sym, ◌∙◌, arith, []}
use Rattle.pe_frame.proofs.Cited.{take_at, Arm64UnwindCode, PackedFrame, extended, Adds, integer_pair, integer_pairs, float_pair}
use Rattle.pe_frame.proofs.Cited.{float_pairs}

-- a full list stays as it is
pub full_adds : (old codes : List Arm64UnwindCode) → length old ≡ 24 → Adds old old codes
full_adds old codes full more = take_at old more 24 full ∙ sym (take_at old (codes ++ more) 24 full)

-- one pair less is left of those that are added
pub integers_more : (p : PackedFrame) (old new start all : List Arm64UnwindCode) (c : Arm64UnwindCode) (i j : ℕ) → i ≡ suc j → c ≡ integer_pair p j → Adds old new (c ∷ []) →
    ((more : List Arm64UnwindCode) → extended old (integer_pairs p i ++ more) ≡ extended start (all ++ more)) → (more : List Arm64UnwindCode) → extended new (integer_pairs p j ++ more) ≡ extended start (all ++ more)
integers_more p old new start all c i j e is adds inv more = grind arith

pub floats_more : (p : PackedFrame) (old new start all : List Arm64UnwindCode) (c : Arm64UnwindCode) (i j : ℕ) → i ≡ suc j → c ≡ float_pair p j → Adds old new (c ∷ []) →
    ((more : List Arm64UnwindCode) → extended old (float_pairs p i ++ more) ≡ extended start (all ++ more)) → (more : List Arm64UnwindCode) → extended new (float_pairs p j ++ more) ≡ extended start (all ++ more)
floats_more p old new start all c i j e is adds inv more = grind arith

-- none is left
pub integers_all : (p : PackedFrame) (old start all : List Arm64UnwindCode) (i : ℕ) → i ≤ 0 →
    ((more : List Arm64UnwindCode) → extended old (integer_pairs p i ++ more) ≡ extended start (all ++ more)) → Adds start old all
integers_all p old start all zero none inv = inv
integers_all p old start all (suc i) none inv = absurd (omega (arith, none))

pub floats_all : (p : PackedFrame) (old start all : List Arm64UnwindCode) (i : ℕ) → i ≤ 0 →
    ((more : List Arm64UnwindCode) → extended old (float_pairs p i ++ more) ≡ extended start (all ++ more)) → Adds start old all
floats_all p old start all zero none inv = inv
floats_all p old start all (suc i) none inv = absurd (omega (arith, none))
