-- What the loops over the codes of an ARM64 record keep.
use Rattle.std.proofs.Common.{◌≡◌, ℕ, zero, suc, ◌+◌, ◌≤◌, true, false, eqb, List, ◌∷◌, length, drop, Option, Some, None, Result, Ok, Err, refl, ap, sym, ◌∙◌, subst, arith, []}
use Rattle.pe_frame.proofs.Cited.{◌>>=◌, eqb-true, length-drop, drop-drop, drop_all, Arm64UnwindCode, SaveNext, Arm64Registers, FrameError}
use Rattle.pe_frame.proofs.Cited.{Arm64Code, is_save_next, undone_codes, is_end_c, CodesThen, AreOver, HasArm64Codes, prolog_length}
use Rattle.pe_frame.proofs.Cited.{IsFirstCode, ReadsCodes, read_only, with_nexts}
use Rattle.pe_frame.proofs.Arm64Streams.{with_code, has_more, same_read, has_truncated, over_codes, truncated_none, next_arm64}
use Rattle.pe_frame.proofs.Arm64Nexts.{is_the_next, nexts_more, nexts_then, nexts_alone}

-- the codes are over where no bytes are left
pub none_left : (rest : List ℕ) → true ≡ eqb (length rest) 0 → AreOver rest
none_left rest e = grind (arith, eqb-true)

-- all codes are read exactly if those that are left are
abbrev pub Reads : List ℕ → List ℕ → Type 0
Reads codes rest =
    (more : Result (List Arm64UnwindCode) FrameError) → HasArm64Codes rest more →
    (all : Result (List Arm64UnwindCode) FrameError) × HasArm64Codes codes all × (read_only all ≡ read_only more)

pub reads_more : (codes rest : List ℕ) (c : Arm64UnwindCode) (n : ℕ) → IsFirstCode rest (Ok (Some (c, n))) → Reads codes rest → Reads codes (drop n rest)
reads_more codes rest c n first inv more are =
    let i = inv (with_code c more) (has_more rest c n more first are) in
    (i.0, i.1, i.2 ∙ same_read c more)

pub reads_error : (codes rest : List ℕ) (e : FrameError) → IsFirstCode rest (Err e) → Reads codes rest → ReadsCodes codes (Err e)
reads_error codes rest e first inv =
    let i = inv (Err e) (has_truncated rest e first) in
    (i.0, i.1, sym i.2)

pub reads_all : (codes rest : List ℕ) → IsFirstCode rest (Ok None) → Reads codes rest → ReadsCodes codes (Ok tt)
reads_all codes rest first inv =
    let i = inv (Ok []) first in
    (i.0, i.1, sym i.2)

-- the codes of the whole, and those that are left
abbrev pub Counts : List ℕ → List ℕ → ℕ → Type 0
Counts codes rest n =
    (cs : List Arm64UnwindCode) → CodesThen AreOver codes cs →
    (ds : List Arm64UnwindCode) × CodesThen AreOver rest ds × (prolog_length cs ≡ n + prolog_length ds)

counted_one : (c : Arm64UnwindCode) (ds : List Arm64UnwindCode) (n : ℕ) → is_end_c c ≡ false → n + prolog_length (c ∷ ds) ≡ n + 1 + prolog_length ds
counted_one c ds n not = rw not (omega arith)

counted_end : (c : Arm64UnwindCode) (ds : List Arm64UnwindCode) (n : ℕ) → is_end_c c ≡ true → n + prolog_length (c ∷ ds) ≡ n
counted_end c ds n is = rw is (omega arith)

pub counts_more : (codes rest : List ℕ) (c : Arm64UnwindCode) (k n : ℕ) → IsFirstCode rest (Ok (Some (c, k))) → is_end_c c ≡ false → Counts codes rest n → Counts codes (drop k rest) (n + 1)
counts_more codes rest c k n first not inv cs are =
    let i = inv cs are in
    let next = next_arm64 rest c k i.0 first i.1 in
    (next.rest, next.are, i.2 ∙ (ap (λ (ds : List Arm64UnwindCode). n + prolog_length ds) next.is ∙ counted_one c next.rest n not))

pub counts_end : (codes rest : List ℕ) (c : Arm64UnwindCode) (k n : ℕ) → IsFirstCode rest (Ok (Some (c, k))) → is_end_c c ≡ true → Counts codes rest n → (cs : List Arm64UnwindCode) → CodesThen AreOver codes cs → n ≡ prolog_length cs
counts_end codes rest c k n first is inv cs are =
    let i = inv cs are in
    let next = next_arm64 rest c k i.0 first i.1 in
    sym (i.2 ∙ (ap (λ (ds : List Arm64UnwindCode). n + prolog_length ds) next.is ∙ counted_end c next.rest n is))

pub counts_all : (codes rest : List ℕ) (n : ℕ) → IsFirstCode rest (Ok None) → Counts codes rest n → (cs : List Arm64UnwindCode) → CodesThen AreOver codes cs → n ≡ prolog_length cs
counts_all codes rest n first inv cs are = grind (arith, over_codes)

pub counts_none : (codes rest : List ℕ) (e : FrameError) (n : ℕ) → IsFirstCode rest (Err e) → Counts codes rest n → (cs : List Arm64UnwindCode) → CodesThen AreOver codes cs → n ≡ prolog_length cs
counts_none codes rest e n first inv cs are = let i = inv cs are in absurd (truncated_none rest i.0 first.0 i.1)

-- so many codes are left out
abbrev pub Drops : List ℕ → List ℕ → ℕ → Type 0
Drops codes rest n = (cs : List Arm64UnwindCode) → CodesThen AreOver codes cs → CodesThen AreOver rest (drop n cs)

pub drops_more : (codes rest : List ℕ) (c : Arm64UnwindCode) (k n : ℕ) → IsFirstCode rest (Ok (Some (c, k))) → Drops codes rest n → Drops codes (drop k rest) (n + 1)
drops_more codes rest c k n first inv cs are =
    let next = next_arm64 rest c k (drop n cs) first (inv cs are) in
    let left : next.rest ≡ drop (n + 1) cs = sym (ap (λ (xs : List Arm64UnwindCode). drop 1 xs) next.is) ∙ drop-drop 1 n cs in
    subst (λ (xs : List Arm64UnwindCode). CodesThen AreOver (drop k rest) xs) left next.are

pub drops_all : (codes rest : List ℕ) (n count : ℕ) → IsFirstCode rest (Ok None) → n ≤ count → Drops codes rest n → Drops codes rest count
drops_all codes rest n count first le inv cs are =
    let none : drop n cs ≡ [] = over_codes rest (drop n cs) first (inv cs are) in
    let few : length cs ≤ count = omega (arith, le, length-drop n cs, ap (λ (xs : List Arm64UnwindCode). length xs) none) in
    subst (λ (xs : List Arm64UnwindCode). CodesThen AreOver rest xs) (sym (drop_all count cs few)) first

pub drops_none : (codes rest : List ℕ) (e : FrameError) (n count : ℕ) → IsFirstCode rest (Err e) → Drops codes rest n → Drops codes rest count
drops_none codes rest e n count first inv cs are = absurd (truncated_none rest (drop n cs) first.0 (inv cs are))

-- undoing the codes that are left, and the `save_next` before them, is undoing all
abbrev pub Undoing : (ℕ → Option ℕ) → List ℕ → List ℕ → ℕ → Arm64Registers → Arm64Registers → Type 0
Undoing m codes rest n current registers =
    (cs : List Arm64UnwindCode) → CodesThen AreOver codes cs →
    (ds : List Arm64UnwindCode) × CodesThen AreOver rest ds × (undone_codes m (with_nexts n ds) current ≡ undone_codes m cs registers)

abbrev pub Undone : (ℕ → Option ℕ) → List ℕ → Arm64Registers → Result Arm64Registers FrameError → Type 0
Undone m codes registers r = (cs : List Arm64UnwindCode) → CodesThen AreOver codes cs → r ≡ undone_codes m cs registers

pub undoing_next : (m : ℕ → Option ℕ) (codes rest : List ℕ) (c : Arm64UnwindCode) (k n : ℕ) (current registers : Arm64Registers) → IsFirstCode rest (Ok (Some (c, k))) → is_save_next c ≡ true →
    Undoing m codes rest n current registers → Undoing m codes (drop k rest) (n + 1) current registers
undoing_next m codes rest c k n current registers first is inv cs are =
    let i = inv cs are in
    let next = next_arm64 rest c k i.0 first i.1 in
    let stands : i.0 ≡ SaveNext ∷ next.rest = next.is ∙ ap (λ (x : Arm64UnwindCode). x ∷ next.rest) (is_the_next c is) in
    (next.rest, next.are, ap (λ (xs : List Arm64UnwindCode). undone_codes m xs current) (sym (ap (with_nexts n) stands ∙ nexts_more n (n + 1) next.rest refl)) ∙ i.2)

-- the code that is read and the `save_next` before it are undone, and then the others
pub undone_first : (m : ℕ → Option ℕ) (c : Arm64UnwindCode) (n : ℕ) (ds rest : List Arm64UnwindCode) (current : Arm64Registers) (r all : Result Arm64Registers FrameError) → ds ≡ c ∷ rest → is_save_next c ≡ false →
    r ≡ undone_codes m (with_nexts n (c ∷ [])) current → undone_codes m (with_nexts n ds) current ≡ all → (r >>= undone_codes m rest) ≡ all
undone_first m c n ds rest current r all is not e h = grind (arith, nexts_then)

pub undoing_code : (m : ℕ → Option ℕ) (codes rest : List ℕ) (c : Arm64UnwindCode) (k n : ℕ) (current after registers : Arm64Registers) → IsFirstCode rest (Ok (Some (c, k))) → is_save_next c ≡ false →
    Ok after ≡ undone_codes m (with_nexts n (c ∷ [])) current → Undoing m codes rest n current registers → Undoing m codes (drop k rest) 0 after registers
undoing_code m codes rest c k n current after registers first not e inv cs are =
    let i = inv cs are in
    let next = next_arm64 rest c k i.0 first i.1 in
    (next.rest, next.are, undone_first m c n i.0 next.rest current (Ok after) (undone_codes m cs registers) next.is not e i.2)

pub undoing_refused : (m : ℕ → Option ℕ) (codes rest : List ℕ) (c : Arm64UnwindCode) (k n : ℕ) (current registers : Arm64Registers) (x : FrameError) → IsFirstCode rest (Ok (Some (c, k))) → is_save_next c ≡ false →
    Err x ≡ undone_codes m (with_nexts n (c ∷ [])) current → Undoing m codes rest n current registers → Undone m codes registers (Err x)
undoing_refused m codes rest c k n current registers x first not e inv cs are =
    let i = inv cs are in
    let next = next_arm64 rest c k i.0 first i.1 in
    undone_first m c n i.0 next.rest current (Err x) (undone_codes m cs registers) next.is not e i.2

pub undoing_never : (m : ℕ → Option ℕ) (codes rest : List ℕ) (n : ℕ) (current registers : Arm64Registers) (e : FrameError) → IsFirstCode rest (Err e) →
    Undoing m codes rest n current registers → (cs : List Arm64UnwindCode) → CodesThen AreOver codes cs → ⊥
undoing_never m codes rest n current registers e first inv cs are = let i = inv cs are in truncated_none rest i.0 first.0 i.1

over_nexts : (m : ℕ → Option ℕ) (n : ℕ) (ds : List Arm64UnwindCode) (current : Arm64Registers) (all : Result Arm64Registers FrameError) → ds ≡ [] → undone_codes m (with_nexts n ds) current ≡ all → undone_codes m (with_nexts n []) current ≡ all
over_nexts m n ds current all none h = ap (λ (xs : List Arm64UnwindCode). undone_codes m (with_nexts n xs) current) (sym none) ∙ h

pub undoing_none : (m : ℕ → Option ℕ) (codes rest : List ℕ) (n : ℕ) (current registers : Arm64Registers) → IsFirstCode rest (Ok None) → n ≡ 0 →
    Undoing m codes rest n current registers → Undone m codes registers (Ok current)
undoing_none m codes rest n current registers first is inv cs are = grind (arith, over_nexts, over_codes)

pub undoing_nexts : (m : ℕ → Option ℕ) (codes rest : List ℕ) (n : ℕ) (current registers : Arm64Registers) → IsFirstCode rest (Ok None) → 1 ≤ n →
    Undoing m codes rest n current registers → Undone m codes registers (Err (Arm64Code SaveNext))
undoing_nexts m codes rest zero current registers first some inv cs are = absurd (omega (arith, some))
undoing_nexts m codes rest (suc n) current registers first some inv cs are = grind (arith, nexts_alone, over_nexts, over_codes)
