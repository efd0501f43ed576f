-- Lists that are read from their start, where what is found so far is kept.
use Rattle.std.proofs.Common.{◌≡◌, ℕ, zero, suc, ◌+◌, ◌-◌, ◌*◌, ◌^◌, ◌<◌, ◌≤◌, ◌⊎◌, Bool, true, false, List, [], ◌∷◌, ◌++◌, filter, min, Option, Some, None, refl, ap, sym, subst, ◌∙◌, arith, append_assoc, leb, ltb, inl, inr, rules}
use Rattle.std.proofs.lemmas.Bool.{cases_lt}
use Rattle.std.proofs.lemmas.Bool.Decides.{nat_tests}
use Rattle.std.proofs.lemmas.List.{append-nil}
use Rattle.std.proofs.lemmas.List.Elements.{filter-append}
use Rattle.std.specs.Option.{option_map, option_to_list}
use Rattle.pe_pdb.specs.Frames.{address_before, greatest, later, row_before}
use Rattle.pe_pdb.specs.LineEntries.{LineCode, block_lines, code_line, column_of}
use Rattle.pe_pdb.specs.Lines.{BlockView, line_row}
use Rattle.pe_pdb.specs.Scans.{Finds, least_of}
use Rattle.pe_pdb.specs.SymbolEntries.{address, rva_in}
use Rattle.pe_pdb.specs.declared.line_entries.CodeLine.{CodeLine}
use Rattle.pe_pdb.proofs.LineEntries.{lines_next, lines_none}

-- ---- one item more

-- what was found, or an item that is as great
abbrev joined : {X : Type 0} → (X → ℕ) → Option X → X → Option X
joined key None x = Some x
joined key (Some y) x = later key y (Some x)

later_joined : {X : Type 0} (key : X → ℕ) (y : X) (o : Option X) (x : X) → later key y (joined key o x) ≡ joined key (later key y o) x
later_joined key y o x = grind (arith, nat_tests)

greatest_next : {X : Type 0} (key : X → ℕ) (xs : List X) (x : X) → greatest key (xs ++ x ∷ []) ≡ joined key (greatest key xs) x
unfolding greatest
greatest_next key [] x = refl
greatest_next key (y ∷ xs) x = ap (later key y) (greatest_next key xs x) ∙ later_joined key y (greatest key xs) x

-- ---- no items

pub no_address : (rva : ℕ) → None ≡ address_before rva []
unfolding greatest
no_address rva = refl

pub no_row : (rva : ℕ) → None ≡ row_before rva []
unfolding greatest
no_row rva = refl

-- ---- from one list to another

pub finds_none : {X Y : Type 0} (find : List X → Option Y) (old : Option Y) → Finds find [] old old
finds_none find old xs is = is ∙ ap find (sym (append-nil xs))

pub finds_both : {X Y : Type 0} (find : List X → Option Y) (ys zs : List X) (old between new : Option Y) → Finds find ys old between → Finds find zs between new → Finds find (ys ++ zs) old new
finds_both find ys zs old between new one other xs is = other (xs ++ ys) (one xs is) ∙ ap find (append_assoc xs ys zs)

finds_kept : {X : Type 0} (key : X → ℕ) (p : X → Bool) (x : X) (old : Option X) → p x ≡ false → Finds (λ xs. greatest key (filter p xs)) (x ∷ []) old old
finds_kept key p x old fails = grind (arith, filter-append, append-nil)

finds_next : {X : Type 0} (key : X → ℕ) (p : X → Bool) (x : X) (old : Option X) → p x ≡ true → Finds (λ xs. greatest key (filter p xs)) (x ∷ []) old (joined key old x)
finds_next key p x old passes = grind (arith, filter-append, greatest_next)

-- one that is no less than what was found, or less
taken : {X : Type 0} (key : X → ℕ) (old : Option X) (x : X) → ((y : X) → old ≡ Some y → key y ≤ key x) → joined key old x ≡ Some x
taken key old x no_less = grind (arith, nat_tests)

left : {X : Type 0} (key : X → ℕ) (y x : X) → key x < key y → joined key (Some y) x ≡ Some y
left key y x less = let t : leb (key y) (key x) ≡ false = grind (arith, nat_tests) in rw t

-- ---- symbols

one_address : (rva offset s : ℕ) (start old new : Option ℕ) → start ≡ Some s → Finds (address_before rva) (address s offset ∷ []) old new →
    Finds (address_before rva) (option_to_list (option_map (λ x. address x offset) start)) old new
one_address rva offset s start old new is finds = subst (λ (o : Option ℕ). Finds (address_before rva) (option_to_list (option_map (λ x. address x offset) o)) old new) (sym is) finds

address_passes : (rva offset s : ℕ) → offset < 2 ^ 32 → s ≤ rva → leb (rva_in (address s offset)) rva ≡ true
address_passes rva offset s small low = grind (arith, nat_tests)

pub address_taken : (rva offset s : ℕ) (start found : Option ℕ) → start ≡ Some s → offset < 2 ^ 32 → s ≤ rva → ((y : ℕ) → found ≡ Some y → y ≤ address s offset) →
    Finds (address_before rva) (option_to_list (option_map (λ x. address x offset) start)) found (Some (address s offset))
address_taken rva offset s start found is small low no_less =
    one_address rva offset s start found (Some (address s offset)) is
    (subst (λ (o : Option ℕ). Finds (address_before rva) (address s offset ∷ []) found o) (taken (λ a. a) found (address s offset) no_less)
    (finds_next (λ a. a) (λ a. leb (rva_in a) rva) (address s offset) found (address_passes rva offset s small low)))

pub address_first : (rva offset s : ℕ) (start found : Option ℕ) → start ≡ Some s → offset < 2 ^ 32 → s ≤ rva → found ≡ None →
    Finds (address_before rva) (option_to_list (option_map (λ x. address x offset) start)) found (Some (address s offset))
address_first rva offset s start found is small low none = address_taken rva offset s start found is small low (λ y same. absurd (cc (none, same)))

pub address_left : (rva offset s y : ℕ) (start found : Option ℕ) → start ≡ Some s → offset < 2 ^ 32 → s ≤ rva → found ≡ Some y → address s offset < y →
    Finds (address_before rva) (option_to_list (option_map (λ x. address x offset) start)) found found
address_left rva offset s y start found is small low old less =
    one_address rva offset s start found found is
    (subst (λ (o : Option ℕ). Finds (address_before rva) (address s offset ∷ []) found o) (ap (λ (o : Option ℕ). joined (λ a. a) o (address s offset)) old ∙ left (λ a. a) y (address s offset) less ∙ sym old)
    (finds_next (λ a. a) (λ a. leb (rva_in a) rva) (address s offset) found (address_passes rva offset s small low)))

-- ---- rows of a block

-- what was found, or the row with an index
abbrev pub best_of : LineCode → BlockView → Option CodeLine → Option ℕ → Option CodeLine
best_of c b found None = found
best_of c b found (Some i) = code_line c b i

-- offsets of rows that are at or before an RVA and in the code are below this one
abbrev pub IsEnd : LineCode → ℕ → ℕ → Type 0
IsEnd c rva end = end ≡ min ((rva + 1) - c.rva) (c.header).size

line_is : (c : LineCode) (b : BlockView) (i : ℕ) (x : CodeLine) → code_line c b i ≡ Some x →
    (x.rva ≡ c.rva + (line_row b.rows (8 * i)).offset) × ((line_row b.rows (8 * i)).offset < (c.header).size)
unfolding code_line
line_is c b i x is = grind (arith, nat_tests)

line_there : (c : LineCode) (b : BlockView) (i : ℕ) → (line_row b.rows (8 * i)).offset < (c.header).size → c.rva + (line_row b.rows (8 * i)).offset < 2 ^ 32 → (x : CodeLine) × (code_line c b i ≡ Some x)
unfolding code_line
line_there c b i inside few =
    let o = (line_row b.rows (8 * i)).offset in
    let one : ltb o (c.header).size ≡ true = grind (arith, nat_tests) in
    let other : ltb (c.rva + o) (2 ^ 32) ≡ true = grind (arith, nat_tests) in
    let x : CodeLine = record { rva = c.rva + o; code_size = (c.header).size - o; file = b.file; line = (line_row b.rows (8 * i)).line; column = column_of c b i } in
    (x, rw one (rw other))

-- a row with an offset from `least` on and before the end
pub row_taken : (c : LineCode) (b : BlockView) (i rva least end : ℕ) (old : Option CodeLine) → rva < 2 ^ 32 → IsEnd c rva end → least ≡ least_of c.rva old →
    least ≤ (line_row b.rows (8 * i)).offset → (line_row b.rows (8 * i)).offset < end →
    Finds (row_before rva) (option_to_list (code_line c b i)) old (code_line c b i) × ((line_row b.rows (8 * i)).offset ≡ least_of c.rva (code_line c b i))
row_taken c b i rva least end old small ends from low high =
    let o = (line_row b.rows (8 * i)).offset in
    let last : end ≡ min ((rva + 1) - c.rva) (c.header).size = ends in
    let there = line_there c b i (omega (arith, last, high)) (omega (arith, last, high, small)) in
    let x = there.0 in
    let at = line_is c b i x there.1 in
    let start : x.rva ≡ c.rva + o = at.0 in
    let t : leb x.rva rva ≡ true = grind (arith, nat_tests) in
    let no_less : (y : CodeLine) → old ≡ Some y → y.rva ≤ x.rva = λ y is. let e : least ≡ y.rva - c.rva = from ∙ ap (least_of c.rva) is in omega (arith, e, low, start) in
    let finds = subst (λ (o : Option CodeLine). Finds (row_before rva) (x ∷ []) old o) (taken (λ (x : CodeLine). x.rva) old x no_less) (finds_next (λ (x : CodeLine). x.rva) (λ x. leb x.rva rva) x old t) in (
      subst (λ (o : Option CodeLine). Finds (row_before rva) (option_to_list o) old o) (sym there.1) finds,
      (let e : o ≡ x.rva - c.rva = omega (arith, start) in e ∙ ap (least_of c.rva) (sym there.1)),
    )

row_earlier : (x : CodeLine) (rva : ℕ) (old : Option CodeLine) → (y : CodeLine) → old ≡ Some y → x.rva < y.rva → (t : Bool) → leb x.rva rva ≡ t → Finds (row_before rva) (x ∷ []) old old
row_earlier x rva old y is less true passes =
    subst (λ (o : Option CodeLine). Finds (row_before rva) (x ∷ []) old o) (ap (λ (o : Option CodeLine). joined (λ (x : CodeLine). x.rva) o x) is ∙ left (λ (x : CodeLine). x.rva) y x less ∙ sym is)
    (finds_next (λ (x : CodeLine). x.rva) (λ x. leb x.rva rva) x old passes)
row_earlier x rva old y is less false fails = finds_kept (λ (x : CodeLine). x.rva) (λ x. leb x.rva rva) x old fails

row_below : (x : CodeLine) (rva start : ℕ) (old whole : Option CodeLine) → whole ≡ old → x.rva - start < least_of start old → start ≤ x.rva → Finds (row_before rva) (x ∷ []) whole whole
row_below x rva start None whole is less after = let l : x.rva - start < 0 = less in absurd (omega (arith, l))
row_below x rva start (Some y) whole is less after = let l : x.rva - start < y.rva - start = less in row_earlier x rva whole y is (omega (arith, l, after)) (leb x.rva rva) refl

row_past : (x : CodeLine) (rva : ℕ) (old : Option CodeLine) → rva < x.rva → Finds (row_before rva) (x ∷ []) old old
row_past x rva old later = let t : leb x.rva rva ≡ false = grind (arith, nat_tests) in finds_kept (λ (x : CodeLine). x.rva) (λ x. leb x.rva rva) x old t

-- any other row
pub row_left : (c : LineCode) (b : BlockView) (i rva least end : ℕ) (old : Option CodeLine) → IsEnd c rva end → least ≡ least_of c.rva old →
    ((line_row b.rows (8 * i)).offset < least) ⊎ (end ≤ (line_row b.rows (8 * i)).offset) → Finds (row_before rva) (option_to_list (code_line c b i)) old old
row_left c b i rva least end old ends from which = search (rules, arith, finds_none, line_is, row_below, row_past)

pub rows_next : (c : LineCode) (b : BlockView) (i rva : ℕ) (old between new : Option CodeLine) → Finds (row_before rva) (block_lines c b i) old between →
    Finds (row_before rva) (option_to_list (code_line c b i)) between new → Finds (row_before rva) (block_lines c b (i + 1)) old new
rows_next c b i rva old between new one other =
    subst (λ (l : List CodeLine). Finds (row_before rva) l old new) (sym (lines_next c b i)) (finds_both (row_before rva) (block_lines c b i) (option_to_list (code_line c b i)) old between new one other)

pub rows_none : (c : LineCode) (b : BlockView) (rva : ℕ) (old : Option CodeLine) → Finds (row_before rva) (block_lines c b 0) old old
rows_none c b rva old = subst (λ (l : List CodeLine). Finds (row_before rva) l old old) (sym (lines_none c b)) (finds_none (row_before rva) old)

-- where no row can be better
pub rows_left : (c : LineCode) (b : BlockView) (n rva least end : ℕ) (old : Option CodeLine) → IsEnd c rva end → least ≡ least_of c.rva old → end ≤ least → Finds (row_before rva) (block_lines c b n) old old
rows_left c b zero rva least end old ends from over = rows_none c b rva old
rows_left c b (suc n) rva least end old ends from over =
    let which : ((line_row b.rows (8 * n)).offset < least) ⊎ (end ≤ (line_row b.rows (8 * n)).offset) = elim (cases_lt (line_row b.rows (8 * n)).offset least) [ inl lt ↦ inl lt | inr ge ↦ inr (omega (arith, over, ge)) ] in
    let one : n + 1 ≡ suc n = omega arith in
    subst (λ (k : ℕ). Finds (row_before rva) (block_lines c b k) old old) one
    (rows_next c b n rva old old old (rows_left c b n rva least end old ends from over) (row_left c b n rva least end old ends from which))
