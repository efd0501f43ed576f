-- The exports of a list of names are those of the name table.
use Rattle.std.proofs.Common.{◌≡◌, ℕ, zero, suc, ◌+◌, ◌*◌, ◌/◌, ◌-◌, ◌^◌, ◌<◌, ◌≤◌, List, [], ◌∷◌, ◌++◌, map, length, Option, Some, None, Result, Ok, refl, sym, ap, ◌∙◌, arith}
use Rattle.std.specs.List.{filter_map, cons_option}
use Rattle.std.specs.Option.{option_and_then}
use Rattle.std.proofs.lemmas.List.{drop_all, length-map, map-append}
use Rattle.std.proofs.lemmas.List.Elements.{filter_map-append}
use Rattle.pe_core.proofs.EntryItems.{length-each}
use Rattle.pe_core.specs.Bytes.{le}
use Rattle.pe_core.specs.Refusals.{Refusal}
use Rattle.pe_core.specs.Rows.{each}
use Rattle.pe_core.specs.SectionIndex.{offset_or_end}
use Rattle.pe_core.specs.Text.{text_at, text_to_zero}
use Rattle.pe_core.specs.ExportSteps.{exports_from}
use Rattle.pe_core.specs.Exports.{ExportDataView, ExportView, named_export, export_at, exports, text_at_address}
use Rattle.pe_core.proofs.Texts.{zero_missing}

-- there is no text after the end
pub no_text : (b : List ℕ) (p : ℕ) → length b ≤ p → text_at b p ≡ None
no_text b p le = ap text_to_zero (drop_all p b le) ∙ zero_missing [] refl

-- where an RVA that is not mapped gets an offset after the end, it still has no text
pub text_or_end : (b : List ℕ) (offset : Option ℕ) → length b < 2 ^ 64 → text_at b (offset_or_end offset) ≡ option_and_then (text_at b) offset
text_or_end b None lt = no_text b (2 ^ 64 - 1) (omega arith)
text_or_end b (Some p) lt = refl

consed : {X : Type 0} (o : Option X) (xs ys zs : List X) → zs ≡ xs ++ ys → cons_option o zs ≡ cons_option o xs ++ ys
consed None xs ys zs e = e
consed (Some x) xs ys zs e = ap (λ l. x ∷ l) e

exports_from-append : (offset : ℕ → Option ℕ) (d : ExportDataView) (k : ℕ) (xs ys : List (Option (List ℕ))) → exports_from offset d k (xs ++ ys) ≡ exports_from offset d k xs ++ exports_from offset d (k + length xs) ys
exports_from-append offset d k [] ys = let e : k ≡ k + 0 = omega arith in ap (λ i. exports_from offset d i ys) e
exports_from-append offset d k (x ∷ xs) ys =
    let e : k + 1 + length xs ≡ k + suc (length xs) = omega arith in
    let rest : exports_from offset d (k + 1) (xs ++ ys) ≡ exports_from offset d (k + 1) xs ++ exports_from offset d (k + suc (length xs)) ys = exports_from-append offset d (k + 1) xs ys ∙ ap (λ i. exports_from offset d (k + 1) xs ++ exports_from offset d i ys) e in
    consed (option_and_then (named_export offset d k) x) _ _ _ rest

-- the exports of the texts at the offsets of the name table
from_table : (offset : ℕ → Option ℕ) (b : List ℕ) (d : ExportDataView) (n : ℕ) → length b < 2 ^ 64
    → exports_from offset d 0 (map (text_at b) (each (λ i. offset_or_end (offset (le d.names (4 * i) 4))) n)) ≡ filter_map (λ (e : Option ExportView). e) (each (export_at offset b d) n)
unfolding each
from_table offset b d zero lt = refl
from_table offset b d (suc n) lt =
    let offsets : ℕ → ℕ = λ i. offset_or_end (offset (le d.names (4 * i) 4)) in
    let texts : List (Option (List ℕ)) = map (text_at b) (each offsets n) in
    let many : 0 + length texts ≡ n = omega (arith, length-map (each offsets n) (text_at b), length-each offsets n) in
    let text : text_at b (offsets n) ≡ text_at_address offset b (le d.names (4 * n) 4) = text_or_end b (offset (le d.names (4 * n) 4)) lt in
    ap (exports_from offset d 0) (map-append (text_at b) (each offsets n) (offsets n ∷ []))
    ∙ exports_from-append offset d 0 texts (text_at b (offsets n) ∷ [])
    ∙ ap (λ xs. xs ++ exports_from offset d (0 + length texts) (text_at b (offsets n) ∷ [])) (from_table offset b d n lt)
    ∙ ap (λ i. filter_map (λ (e : Option ExportView). e) (each (export_at offset b d) n) ++ exports_from offset d i (text_at b (offsets n) ∷ [])) many
    ∙ ap (λ t. filter_map (λ (e : Option ExportView). e) (each (export_at offset b d) n) ++ exports_from offset d n (t ∷ [])) text
    ∙ sym (filter_map-append (λ (e : Option ExportView). e) (each (export_at offset b d) n) (export_at offset b d n ∷ []))

-- without an entry there are none
pub none_named : (offset : ℕ → Option ℕ) (b : List ℕ) (d : ExportDataView) → length d.names < 4 → ◌≡◌ {A = Result (List ExportView) Refusal} (Ok (exports offset b d)) (Ok [])
unfolding exports each
none_named offset b d few =
    let none : length d.names / 4 ≡ 0 = omega (arith, few) in
    ap (λ (n : ℕ). Ok (filter_map (λ (e : Option ExportView). e) (each (export_at offset b d) n))) none

pub listed : (offset : ℕ → Option ℕ) (b : List ℕ) (d : ExportDataView) (offsets : List ℕ) (names : List (Option (List ℕ))) → length b < 2 ^ 64
    → offsets ≡ each (λ i. offset_or_end (offset (le d.names (4 * i) 4))) (length d.names / 4) → names ≡ map (text_at b) offsets → exports_from offset d 0 names ≡ exports offset b d
unfolding exports
listed offset b d offsets names lt are texts =
    ap (exports_from offset d 0) (texts ∙ ap (map (text_at b)) are) ∙ from_table offset b d (length d.names / 4) lt
