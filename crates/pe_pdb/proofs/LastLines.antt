-- What the last line before an RVA is.
use Rattle.std.proofs.Common.{◌≡◌, ℕ, ◌+◌, ◌-◌, ◌<◌, ◌≤◌, ◌&&◌, Bool, true, List, get_or, Option, Some, None, refl, ap, sym, ◌∙◌, arith}
use Rattle.std.proofs.lemmas.Bool.Decides.{nat_tests}
use Rattle.std.specs.List.{All}
use Rattle.std.specs.Prelude.{nat_lt, if◌then◌else◌}
use Rattle.pe_pdb.specs.LineIndexes.{IsLastBefore, LastBefore, LineAt, NoneStarts, if_covers, is_line}
use Rattle.pe_pdb.specs.declared.line_entries.CodeLine.{CodeLine}

same_index : (xs : List CodeLine) (rva i j : ℕ) (d : CodeLine) → IsLastBefore xs rva i → IsLastBefore xs rva j → i ≡ j
same_index xs rva i j d one other =
    let a : (get_or xs i d).rva ≤ (get_or xs j d).rva = other.last i d one.listed (one.before d) in
    let b : (get_or xs j d).rva ≤ (get_or xs i d).rva = one.last j d other.listed (other.before d) in
    let same : (get_or xs i d).rva ≡ (get_or xs j d).rva = omega (arith, a, b) in
    let low : i ≤ j = other.latest i d one.listed same in
    let high : j ≤ i = one.latest j d other.listed (sym same) in
    omega (arith, low, high)

none_last : (xs : List CodeLine) (rva i : ℕ) (d : CodeLine) → All (λ x. rva < x.rva) xs → IsLastBefore xs rva i → ⊥
none_last xs rva i d all last = let late = all i d last.listed in let before = last.before d in omega (arith, late, before)

same_last : (xs : List CodeLine) (rva : ℕ) (one other : Option CodeLine) → LastBefore xs rva one → LastBefore xs rva other → one ≡ other
same_last xs rva None None one other = refl
same_last xs rva None (Some y) one other = absurd (none_last xs rva other.0 y one other.1)
same_last xs rva (Some x) None one other = absurd (none_last xs rva one.0 x other one.1)
same_last xs rva (Some x) (Some y) one other =
    let same : one.0 ≡ other.0 = same_index xs rva one.0 other.0 x one.1 other.1 in
    ap (λ (x : CodeLine). Some x) (sym (one.2 x) ∙ ap (λ (i : ℕ). get_or xs i x) same ∙ other.2 x)

pub line_once : (xs : List CodeLine) (rva : ℕ) (one other : Option CodeLine) → LineAt xs rva one → LineAt xs rva other → one ≡ other
line_once xs rva one other a b = a.2 ∙ ap (if_covers rva) (same_last xs rva a.0 b.0 a.1 b.1) ∙ sym b.2

pub last_later : (xs : List CodeLine) (rva x i : ℕ) → IsLastBefore xs rva i → rva ≤ x → NoneStarts xs rva x → IsLastBefore xs x i
last_later xs rva x i last le none = grind arith

covers_by : (rva : ℕ) (x line : CodeLine) (t u : Bool) → nat_lt (rva - x.rva) x.code_size ≡ t → is_line x.line ≡ u → (if t && u then Some x else None) ≡ Some line → (x ≡ line) × (rva - x.rva < x.code_size) × (is_line x.line ≡ true)
covers_by rva x line t u low is found = grind (arith, nat_tests)

pub line_covers : (xs : List CodeLine) (rva : ℕ) (line : CodeLine) → LineAt xs rva (Some line) → (line.rva ≤ rva) × (rva < line.rva + line.code_size) × (is_line line.line ≡ true)
line_covers xs rva line at = grind (arith, covers_by)
