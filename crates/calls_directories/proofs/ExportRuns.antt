-- A walk over exports returns all of them.
use Rattle.std.proofs.Common.{◌≡◌, ℕ, zero, suc, ◌+◌, ◌-◌, ◌/◌, ◌<◌, ◌≤◌, Bool, false, List, [], ◌∷◌, length, map, Option, Some, None, Result, Ok, Err, refl, ap, subst, arith}
use Rattle.calls_directories.proofs.Cited.{AllZip, cons_option, filter_map, range_with_len, option_map, nat_tests, ExportDataView}
use Rattle.calls_directories.proofs.Cited.{ExportView, export_at, export_data_at, exports, Refusal, each, DataDirectory}
use Rattle.calls_directories.proofs.Cited.{bytes_of_range, length_of_range, FindsNext, StepsExports, StepsExportsIf}
use Rattle.calls_directories.proofs.Cited.{StepsOverExports, count_of, exports_after, tables_or_short, reported_entry}
use Rattle.calls_directories.proofs.Cited.{reported_from, walk_over, with_tables, HasTables, ReportsExport, ReturnsItems, IsOver}
use Rattle.calls_directories.proofs.Cited.{Export, Exports}
use Rattle.std.proofs.lemmas.Bool.{cases_lt}
use Rattle.pe_core.proofs.EntryItems.{each_as_map}
use Rattle.calls_directories.proofs.ExportParts.{reports, tables_stand}

-- ---- one step

after_all : (offset : ℕ → Option ℕ) (b : List ℕ) (w : Exports) → count_of w ≤ w.next → IsOver (StepsExports offset b) w
after_all offset b w h = grind (arith, nat_tests)

-- one that has entries left reads them
step_if : (offset : ℕ → Option ℕ) (b : List ℕ) (w v : Exports) (answer : Result (Option Export) Refusal) (test : Bool) → test ≡ false → StepsExportsIf test offset b w answer v →
    StepsOverExports offset b (tables_or_short b w) w answer v
step_if offset b w v answer test e s = grind arith

step_over : (offset : ℕ → Option ℕ) (b : List ℕ) (d : ExportDataView) (w v : Exports) (answer : Result (Option Export) Refusal) → w.next < count_of w → tables_or_short b w ≡ Ok d →
    StepsExports offset b w answer v → StepsOverExports offset b (Ok d) w answer v
step_over offset b d w v answer h t s = grind (arith, step_if, nat_tests)

-- the walk after one more entry
abbrev one_further : Exports → Exports
one_further w = record w { next = w.next + 1 }

no_export : (x : Export) (o : Option Export) → o ≡ Some x → o ≡ None → ⊥
no_export x o e f = cc

-- the next entry has an export: a step returns it
gives_it : (offset : ℕ → Option ℕ) (b : List ℕ) (d : ExportDataView) (x : Export) (w v : Exports) (answer : Result (Option Export) Refusal) (found : Option (Export × ℕ)) → w.next < count_of w →
    reported_entry offset b w.directory d w.next ≡ Some x → FindsNext (reported_entry offset b w.directory d) w.next (count_of w) found → answer ≡ Ok (option_map (λ y. y.0) found) → v ≡ exports_after w found →
    (answer ≡ Ok (Some x)) × (v ≡ one_further w)
gives_it offset b d x w v answer found h is f a e = grind (arith, no_export, cases_lt)

-- the next entry has no export: a step does what it does after it
passes_by : (offset : ℕ → Option ℕ) (b : List ℕ) (d : ExportDataView) (w v : Exports) (answer : Result (Option Export) Refusal) → w.next < count_of w → tables_or_short b w ≡ Ok d →
    reported_entry offset b w.directory d w.next ≡ None → StepsExports offset b w answer v → StepsExports offset b (one_further w) answer v
passes_by offset b d w v answer h t none s = grind (arith, step_over, nat_tests, no_export, cases_lt)

-- ---- all steps

-- where the steps of one walk are those of another, it returns what that returns
same_items : (Steps : Exports → Result (Option Export) Refusal → Exports → Type 0) (w u : Exports) (items : List (Result Export Refusal)) →
    ((answer : Result (Option Export) Refusal) (v : Exports) → Steps w answer v → Steps u answer v) → ReturnsItems Steps u items → ReturnsItems Steps w items
same_items Steps w u [] same g = λ answer v s. g answer v (same answer v s)
same_items Steps w u (Ok x ∷ items) same g = λ answer v s. g answer v (same answer v s)
same_items Steps w u (Err r ∷ items) same g = (g.0, λ answer v s. g.1 answer v (same answer v s))

by_entry : (offset : ℕ → Option ℕ) (b : List ℕ) (d : ExportDataView) (w : Exports) (rest : List Export) (o : Option Export) → reported_entry offset b w.directory d w.next ≡ o → w.next < count_of w → tables_or_short b w ≡ Ok d →
    ReturnsItems (StepsExports offset b) (one_further w) (map (λ x. Ok x) rest) → ReturnsItems (StepsExports offset b) w (map (λ x. Ok x) (cons_option o rest))
by_entry offset b d w rest o e h t more = grind (arith, same_items, passes_by, step_over, gives_it)

in_turn : (offset : ℕ → Option ℕ) (b : List ℕ) (d : ExportDataView) (n : ℕ) (w : Exports) → w.next + n ≡ count_of w → tables_or_short b w ≡ Ok d →
    ReturnsItems (StepsExports offset b) w (map (λ x. Ok x) (filter_map (reported_entry offset b w.directory d) (range_with_len w.next n)))
in_turn offset b d zero w h t = grind (arith, after_all)
in_turn offset b d (suc n) w h t =
    by_entry offset b d w (filter_map (reported_entry offset b w.directory d) (range_with_len (w.next + 1) n)) (reported_entry offset b w.directory d w.next) refl (omega (arith, h)) t
    (in_turn offset b d n (one_further w) (omega (arith, h)) t)

none_left : (offset : ℕ → Option ℕ) (b : List ℕ) (w : Exports) → count_of w ≤ w.next → ReturnsItems (StepsExports offset b) w []
none_left offset b w h = grind (arith, after_all)

pub exports_in_turn : (offset : ℕ → Option ℕ) (b : List ℕ) (w : Exports) (d : ExportDataView) → tables_or_short b w ≡ Ok d →
    ReturnsItems (StepsExports offset b) w (map (λ x. Ok x) (reported_from (reported_entry offset b w.directory d) w.next (count_of w)))
exports_in_turn offset b w d t = grind (arith, none_left, in_turn)

-- ---- the exports of a directory

-- what is reported of exports, one after the other, is these
abbrev ReportsExports : List ℕ → List Export → List ExportView → Type 0
ReportsExports b = AllZip (λ x e. ReportsExport b (Some x) (Some e))

reports_more : (b : List ℕ) (o : Option Export) (p : Option ExportView) (xs : List Export) (es : List ExportView) → ReportsExport b o p → ReportsExports b xs es →
    ReportsExports b (cons_option o xs) (cons_option p es)
reports_more b o p xs es h more = grind arith

reports_all : (offset : ℕ → Option ℕ) (b : List ℕ) (directory : DataDirectory) (d : ExportDataView) (is : List ℕ) →
    ReportsExports b (filter_map (reported_entry offset b directory (with_tables d.names d.ordinals d.addresses)) is) (filter_map (λ (e : Option ExportView). e) (map (export_at offset b d) is))
reports_all offset b directory d [] = tt
reports_all offset b directory d (i ∷ is) = grind (arith, reports_more, reports, reports_all offset b directory d is)

reports_exports : (offset : ℕ → Option ℕ) (b : List ℕ) (directory : DataDirectory) (d : ExportDataView) →
    ReportsExports b (reported_from (reported_entry offset b directory (with_tables d.names d.ordinals d.addresses)) 0 (length d.names / 4)) (exports offset b d)
unfolding exports
reports_exports offset b directory d =
    let n : ℕ = length d.names / 4 in
    let all : n ≡ n - 0 = omega arith in
    subst (λ (k : ℕ). ReportsExports b (filter_map (reported_entry offset b directory (with_tables d.names d.ordinals d.addresses)) (range_with_len 0 k)) (filter_map (λ (e : Option ExportView). e) (each (export_at offset b d) n))) all
    (subst (λ (es : List (Option ExportView)). ReportsExports b (filter_map (reported_entry offset b directory (with_tables d.names d.ordinals d.addresses)) (range_with_len 0 n)) (filter_map (λ (e : Option ExportView). e) es))
    (each_as_map (export_at offset b d) n)
    (reports_all offset b directory d (range_with_len 0 n)))

tables_of : (b : List ℕ) (w : Exports) (d : ExportDataView) → HasTables b w d → tables_or_short b w ≡ Ok (with_tables d.names d.ordinals d.addresses)
tables_of b w d h = rw (bytes_of_range b w.names d.names h.names) (rw (bytes_of_range b w.ordinals d.ordinals h.ordinals) (rw (bytes_of_range b w.addresses d.addresses h.addresses) refl))

pub directory_in_turn : (offset : ℕ → Option ℕ) (b : List ℕ) (rva : ℕ) (directory : DataDirectory) (d : ExportDataView) → export_data_at offset b rva ≡ Ok d →
    (reported : List Export) × ReturnsItems (StepsExports offset b) (walk_over offset directory d) (map (λ x. Ok x) reported) × ReportsExports b reported (exports offset b d)
directory_in_turn offset b rva directory d e =
    let has : HasTables b (walk_over offset directory d) d = tables_stand offset b rva directory d e in
    let count : length d.names / 4 ≡ count_of (walk_over offset directory d) = ap (λ (n : ℕ). n / 4) (length_of_range b (walk_over offset directory d).names d.names has.names) in (
      reported_from (reported_entry offset b directory (with_tables d.names d.ordinals d.addresses)) 0 (count_of (walk_over offset directory d)),
      exports_in_turn offset b (walk_over offset directory d) (with_tables d.names d.ordinals d.addresses) (tables_of b (walk_over offset directory d) d has),
      subst (λ (n : ℕ). ReportsExports b (reported_from (reported_entry offset b directory (with_tables d.names d.ordinals d.addresses)) 0 n) (exports offset b d)) count (reports_exports offset b directory d),
    )

-- ---- tables that are not there

pub lies_once : (offset : ℕ → Option ℕ) (b : List ℕ) (w : Exports) (r : Refusal) → w.next < count_of w → tables_or_short b w ≡ Err r → ReturnsItems (StepsExports offset b) w (Err r ∷ [])
lies_once offset b w r h t = grind (arith, after_all, step_if, nat_tests)
