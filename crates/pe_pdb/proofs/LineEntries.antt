-- The lines of a module, as loops over rows, blocks and subsections write them to a room.
use Rattle.std.proofs.Common.{◌≡◌, ℕ, suc, ◌+◌, ◌^◌, ◌<◌, true, ltb, List, [], ◌∷◌, ◌++◌, length, set, Option, Some, None, Result, Ok, Err, refl, ap, sym, subst, ◌∙◌, arith, append_assoc, length-append, rules}
use Rattle.std.proofs.lemmas.Bool.{cases_lt}
use Rattle.std.proofs.lemmas.Bool.Decides.{nat_tests}
use Rattle.std.proofs.lemmas.List.{append-nil, set_past, take-append-le, take_all, take_more_set}
use Rattle.std.proofs.Math.ListN.{length-set}
use Rattle.std.specs.Option.{option_to_list}
use Rattle.pe_core.specs.Gathered.{with_rest}
use Rattle.pe_pdb.specs.LineEntries.{HasEntries, LineCode, Writes, block_lines, code_line, entries_from, gathered, lines_of_subsection, module_lines}
use Rattle.pe_pdb.specs.Lines.{BlockView, subsections}
use Rattle.pe_pdb.specs.Refusals.{PdbRefusal}
use Rattle.pe_pdb.specs.declared.line_entries.CodeLine.{CodeLine}
use Rattle.pe_pdb.specs.declared.line_entries.LineEntry.{LineEntry}

-- ---- entries

pub length_entries : (n : ℕ) (xs : List CodeLine) → length (entries_from n xs) ≡ length xs
unfolding entries_from
length_entries n [] = refl
length_entries n (x ∷ xs) = ap suc (length_entries (n + 1) xs)

-- the entry of a line
abbrev pub entry : CodeLine → ℕ → LineEntry
entry x n = record { line = x; index = n }

entries_joined : (n : ℕ) (xs : List CodeLine) (y : CodeLine) → entries_from n (xs ++ y ∷ []) ≡ entries_from n xs ++ entry y (n + length xs) ∷ []
unfolding entries_from
entries_joined n [] y = let same : n ≡ n + 0 = omega arith in ap (λ (k : ℕ). entry y k ∷ []) same
entries_joined n (x ∷ xs) y =
    let rest = entries_joined (n + 1) xs y in
    let same : (n + 1) + length xs ≡ n + suc (length xs) = omega arith in
    ap (λ (l : List LineEntry). entry x n ∷ l) (rest ∙ ap (λ (k : ℕ). entries_from (n + 1) xs ++ entry y k ∷ []) same)

-- ---- a room

pub writes_nothing : (count : ℕ) (room : List LineEntry) → Writes [] count room count room
writes_nothing count room xs has = subst (λ (l : List CodeLine). HasEntries l count room) (sym (append-nil xs)) has

pub writes_none : (line : Option CodeLine) (count : ℕ) (room : List LineEntry) → line ≡ None → Writes (option_to_list line) count room count room
writes_none line count room is = subst (λ (o : Option CodeLine). Writes (option_to_list o) count room count room) (sym is) (writes_nothing count room)

pub writes_some : (o : Option CodeLine) (line : CodeLine) (count : ℕ) (room after : List LineEntry) → o ≡ Some line → after ≡ set room count (entry line count) → Writes (option_to_list o) count room (count + 1) after
writes_some o line count room after is made =
    grind (arith, length-append, length_entries, entries_joined, cases_lt, length-set, take_all, take_more_set, set_past, take-append-le)

-- a room without entries
pub no_entries : (room : List LineEntry) → HasEntries [] 0 room
unfolding entries_from
no_entries room = record { counted = refl; written = sym (take_all (length room) [] (omega arith)) }

pub writes_both : (ys zs : List CodeLine) (count n m : ℕ) (room next after : List LineEntry) → Writes ys count room n next → Writes zs n next m after → Writes (ys ++ zs) count room m after
writes_both ys zs count n m room next after one other = grind (arith, append_assoc)

-- ---- rows of a block

pub lines_none : (c : LineCode) (b : BlockView) → block_lines c b 0 ≡ []
unfolding block_lines
lines_none c b = refl

pub lines_next : (c : LineCode) (b : BlockView) (n : ℕ) → block_lines c b (n + 1) ≡ block_lines c b n ++ option_to_list (code_line c b n)
lines_next c b n =
    let one : n + 1 ≡ suc n = omega arith in
    ap (block_lines c b) one ∙ unfold block_lines in refl

pub rows_written : (c : LineCode) (b : BlockView) (i count n m : ℕ) (room next after : List LineEntry) → Writes (block_lines c b i) count room n next →
    Writes (option_to_list (code_line c b i)) n next m after → Writes (block_lines c b (i + 1)) count room m after
rows_written c b i count n m room next after sofar one = search (rules, arith, lines_next, writes_both)

pub rows_none : (c : LineCode) (b : BlockView) (count : ℕ) (room : List LineEntry) → Writes (block_lines c b 0) count room count room
rows_none c b count room = subst (λ (l : List CodeLine). Writes l count room count room) (sym (lines_none c b)) (writes_nothing count room)

-- ---- loops over items

-- of the lines of the items before those that are left this holds
pub record Gathers {X : Type 0} (f : X → Result (List CodeLine) PdbRefusal) (whole left : List (Result X PdbRefusal)) (P : List CodeLine → Type 0) : Type 0 where
  pub sofar : List CodeLine
  pub holds : P sofar
  pub more : gathered f whole ≡ with_rest sofar (gathered f left)

with_joined : (xs ys : List CodeLine) (r : Result (List CodeLine) PdbRefusal) → with_rest xs (with_rest ys r) ≡ with_rest (xs ++ ys) r
with_joined xs ys r = grind (arith, append_assoc)

gathered_none : {X : Type 0} (f : X → Result (List CodeLine) PdbRefusal) → gathered f [] ≡ Ok []
unfolding gathered
gathered_none f = refl

gathered_refused : {X : Type 0} (f : X → Result (List CodeLine) PdbRefusal) (x : X) (more : List (Result X PdbRefusal)) (r : PdbRefusal) → f x ≡ Err r → gathered f (Ok x ∷ more) ≡ Err r
unfolding gathered
gathered_refused f x more r is = rw is

gathered_error : {X : Type 0} (f : X → Result (List CodeLine) PdbRefusal) (more : List (Result X PdbRefusal)) (r : PdbRefusal) → gathered f (Err r ∷ more) ≡ Err r
unfolding gathered
gathered_error f more r = refl

pub gathers_none : {X : Type 0} (f : X → Result (List CodeLine) PdbRefusal) (whole : List (Result X PdbRefusal)) (P : List CodeLine → Type 0) → P [] → Gathers f whole whole P
gathers_none f whole P none = grind arith

pub gathers_more : {X : Type 0} (f : X → Result (List CodeLine) PdbRefusal) (whole left rest : List (Result X PdbRefusal)) (x : X) (ys : List CodeLine) (P Q : List CodeLine → Type 0) →
    Gathers f whole left P → left ≡ Ok x ∷ rest → f x ≡ Ok ys → ((xs : List CodeLine) → P xs → Q (xs ++ ys)) → Gathers f whole rest Q
unfolding gathered
gathers_more {X} f whole left rest x ys P Q so is lines next = record {
  sofar = so.sofar ++ ys;
  holds = next so.sofar so.holds;
  more = so.more ∙ ap (λ (l : List (Result X PdbRefusal)). with_rest so.sofar (gathered f l)) is
      ∙ ap (λ (r : Result (List CodeLine) PdbRefusal). with_rest so.sofar r) (rw lines) ∙ with_joined so.sofar ys (gathered f rest);
}

-- an item that is refused
pub gathers_error : {X : Type 0} (f : X → Result (List CodeLine) PdbRefusal) (whole left : List (Result X PdbRefusal)) (r : PdbRefusal) (P : List CodeLine → Type 0) →
    Gathers f whole left P → left ≡ Err r ∷ [] → gathered f whole ≡ Err r
gathers_error f whole left r P so is = grind (arith, gathered_error)

-- an item whose lines are refused
pub gathers_refused : {X : Type 0} (f : X → Result (List CodeLine) PdbRefusal) (whole left rest : List (Result X PdbRefusal)) (x : X) (r : PdbRefusal) (P : List CodeLine → Type 0) →
    Gathers f whole left P → left ≡ Ok x ∷ rest → f x ≡ Err r → gathered f whole ≡ Err r
gathers_refused {X} f whole left rest x r P so is refused = grind (arith, so.more, is, gathered_refused f x rest r refused)

-- no more items
pub gathers_all : {X : Type 0} (f : X → Result (List CodeLine) PdbRefusal) (whole left : List (Result X PdbRefusal)) (P : List CodeLine → Type 0) →
    (so : Gathers f whole left P) → left ≡ [] → gathered f whole ≡ Ok so.sofar
gathers_all f whole left P so is = grind (arith, gathered_none, append-nil)

pub lines_small : (sections b : List ℕ) → length b < 2 ^ 32 → module_lines sections b ≡ gathered (lines_of_subsection sections) (subsections b 0)
lines_small sections b small = let t : ltb (length b) (2 ^ 32) ≡ true = grind (arith, nat_tests) in rw t
