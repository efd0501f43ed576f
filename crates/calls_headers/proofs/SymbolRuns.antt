-- A walk over symbols returns those of its table.
use Rattle.std.proofs.Common.{◌≡◌, ℕ, ◌+◌, ◌<◌, ◌≤◌, true, false, List, [], ◌∷◌, map, Option, Some, None, Result, Ok, Err, refl, sym, ap, subst, ◌∙◌, arith}
use Rattle.std.specs.Prelude.{nat_lt}
use Rattle.std.proofs.lemmas.Bool.Decides.{nat_tests}
use Rattle.pe_core.specs.Refusals.{Refusal}
use Rattle.pe_core.specs.Symbols.{AreSymbols, SymbolItem, row_count, symbol_in}
use Rattle.calls_base.proofs.LeftBytes.{bytes_there, nothing_there}
use Rattle.calls_base.proofs.Runs.{Makes, gives_first, gives_nothing, gives_refusal}
use Rattle.calls_headers.specs.Coff.{StepsSymbols, symbol_at, symbol_reported, symbol_with, symbols_after}
use Rattle.calls_base.specs.Ranges.{bytes_at, no_bytes}
use Rattle.calls_base.specs.Runs.{ReturnsItems, IsOver}
use Rattle.calls_headers.specs.declared.coff.Symbol.{Symbol}
use Rattle.calls_headers.specs.declared.coff.SymbolWalk.{SymbolWalk}

-- ---- one step

makes : (b : List ℕ) (w : SymbolWalk) (answer : Result (Option Symbol) Refusal) → symbol_at b w.table w.next ≡ answer → Makes (StepsSymbols b) w answer (symbols_after w answer)
makes b w answer e given v s = (s.0 ∙ e, s.1 ∙ ap (λ (a : Result (Option Symbol) Refusal). symbols_after w a) e)

past : (b : List ℕ) (w : SymbolWalk) (t : List ℕ) → bytes_at b w.table ≡ Ok t → row_count t ≤ w.next → symbol_at b w.table w.next ≡ Ok None
past b w t e h = let test : nat_lt w.next (row_count t) ≡ false = grind (arith, nat_tests) in rw e (rw test refl)

there : (b : List ℕ) (w : SymbolWalk) (t : List ℕ) → bytes_at b w.table ≡ Ok t → w.next < row_count t →
    symbol_at b w.table w.next ≡ Ok (Some (symbol_with w.table (row_count t) w.next (symbol_in t w.next)))
there b w t e h = let test : nat_lt w.next (row_count t) ≡ true = grind (arith, nat_tests) in rw e (rw test refl)

ends : (b : List ℕ) (w : SymbolWalk) (t : List ℕ) → bytes_at b w.table ≡ Ok t → row_count t ≤ w.next → IsOver (StepsSymbols b) w
ends b w t e h = makes b w (Ok None) (past b w t e h)

-- ---- all steps

pub symbols_in_turn : (b : List ℕ) (w : SymbolWalk) (t : List ℕ) (items : List SymbolItem) → bytes_at b w.table ≡ Ok t → AreSymbols t w.next items →
    ReturnsItems (StepsSymbols b) w (map (symbol_reported w.table t) items)
symbols_in_turn b w t [] e are = gives_nothing (StepsSymbols b) w w (ends b w t e are) (ends b w t e are)
symbols_in_turn b w t (item ∷ more) e are =
    let next : SymbolWalk = record { table = w.table; next = w.next + 1 + (symbol_in t w.next).number_of_aux_symbols } in
    let rest : ReturnsItems (StepsSymbols b) next (map (symbol_reported w.table t) more) = symbols_in_turn b next t more e are.2 in
    let first : ReturnsItems (StepsSymbols b) w (Ok (symbol_with w.table (row_count t) w.next (symbol_in t w.next)) ∷ map (symbol_reported w.table t) more) =
    gives_first (StepsSymbols b) w next (symbol_with w.table (row_count t) w.next (symbol_in t w.next)) (map (symbol_reported w.table t) more)
    (makes b w (Ok (Some (symbol_with w.table (row_count t) w.next (symbol_in t w.next)))) (there b w t e are.0)) rest in
    subst (λ (i : SymbolItem). ReturnsItems (StepsSymbols b) w (symbol_reported w.table t i ∷ map (symbol_reported w.table t) more)) (sym are.1) first

-- a table that is not inside the bytes
no_table : (b : List ℕ) → bytes_at b no_bytes ≡ Ok []
no_table b = bytes_there b no_bytes (omega arith) ∙ ap (λ (x : List ℕ). Ok x) (nothing_there b)

pub outside : (b : List ℕ) (w : SymbolWalk) (refusal : Refusal) → bytes_at b w.table ≡ Err refusal → ReturnsItems (StepsSymbols b) w (Err refusal ∷ [])
outside b w refusal e =
    let over : SymbolWalk = record { table = no_bytes; next = w.next } in
    gives_refusal (StepsSymbols b) w over refusal (makes b w (Err refusal) (rw e refl)) (ends b over [] (no_table b) (omega arith))
