use Rattle.std.proofs.Common.{ℕ, ◌<◌, ◌≤◌, List, length, ap, ◌∙◌, arith, ◌≡◌, ◌^◌, min, get_or, Option, None, sym, rules}
use Rattle.pe_directories.proofs.Cited.{Bor, option_map, drop_all, get_or-map, length-map, each, text_at, get_or-each, length-each}
use Rattle.pe_core.proofs.Texts.{zero_missing}
use Rattle.pe_directories.specs.BoundImports.{AreTexts}
use Rattle.pe_directories.proofs.bound_names.BoundNames.text.Goals as goal

-- The texts at all offsets of a directory of bound imports.
how_many : (table : List ℕ) (texts : List (Option (Bor (List ℕ)))) → AreTexts table texts → length texts ≡ min (length table) (2 ^ 16)
how_many table texts h = grind (arith, length-map, length-each)

text_there : (table : List ℕ) (texts : List (Option (Bor (List ℕ)))) (offset : ℕ) (d : Option (Bor (List ℕ))) → AreTexts table texts → offset < length texts → option_map (λ s. s.now) (get_or texts offset d) ≡ text_at table offset
text_there table texts offset d h lt =
    sym (get_or-map (option_map (λ (s : Bor (List ℕ)). s.now)) texts offset d None lt)
    ∙ ap (λ (l : List (Option (List ℕ))). get_or l offset None) h
    ∙ get_or-map (text_at table) (each (λ offset. offset) (min (length table) (2 ^ 16))) offset 0 None (omega (arith, lt, how_many table texts h, length-each (λ (offset : ℕ). offset) (min (length table) (2 ^ 16))))
    ∙ ap (text_at table) (get_or-each (λ offset. offset) (min (length table) (2 ^ 16)) offset 0 (omega (arith, lt, how_many table texts h)))

no_text_there : (table : List ℕ) (texts : List (Option (Bor (List ℕ)))) (offset : ℕ) → AreTexts table texts → offset < 2 ^ 16 → length texts ≤ offset → None ≡ text_at table offset
no_text_there table texts offset h small past = grind (arith, how_many, drop_all, zero_missing)

pub returns-then-offset-len : goal.returns-then-offset-len
returns-then-offset-len g c = search (rules, arith, no_text_there)

pub returns : goal.returns
returns g c = search (rules, arith, text_there)
