use Rattle.std.proofs.Common.{◌≡◌, ◌++◌, drop, map}
use Rattle.std.specs.List.{filter_map}
use Rattle.pe_core.specs.Text.{texts_of}
use Rattle.pe_core.proofs.library_names.texts_there.Given as goal

-- the texts so far, and those of the texts that are left
abbrev pub invariant-loop-text : goal.invariant-loop-text
invariant-loop-text g l = map (λ s. s.now) l.there.items ++ filter_map (λ text. text) (texts_of (drop l.text-index l.texts)) ≡ filter_map (λ text. text) (texts_of l.texts)
