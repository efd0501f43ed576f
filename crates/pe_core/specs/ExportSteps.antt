-- The exports of a list of names, in steps. It is proved to be `exports`.
use Rattle.std.specs.Prelude.{ℕ, ◌+◌, List, [], ◌∷◌, Option}
use Rattle.std.specs.Option.{option_and_then}
use Rattle.std.specs.List.{cons_option}
use Rattle.pe_core.specs.Exports.{ExportDataView, ExportView, named_export}

-- the exports of these names; the first name is that of entry i of the name table
abbrev pub exports_from : (ℕ → Option ℕ) → ExportDataView → ℕ → List (Option (List ℕ)) → List ExportView
exports_from offset d i [] = []
exports_from offset d i (name ∷ names) = cons_option (option_and_then (named_export offset d i) name) (exports_from offset d (i + 1) names)
