-- Inlined functions of a PDB with other names, and with other lines.
use Rattle.std.proofs.Common.{◌≡◌, ℕ, List, [], ◌∷◌, map, Option, Result, Ok, refl, ◌∙◌, sym, arith}
use Rattle.pe_c.proofs.Cited.{◌>>=◌, Range}
use Rattle.pe_pdb.specs.Ids.{types_of}
use Rattle.pe_pdb.specs.Refusals.{PdbRefusal}
use Rattle.pe_pdb.specs.declared.inline_rows.InlineRow.{InlineRow}
use Rattle.pe_pdb.specs.declared.inlinee.InlineeLine.{InlineeLine}
use Rattle.pe_c.specs.DumpLaws.{all_named, all_placed, named, placed, with_lines}
use Rattle.calls_pdb.specs.PdbInlined.{bare, inlined_by, inlined_functions, inlinee_in, inlinees_at, line_put, name_found, name_put, stack_at}
use Rattle.calls_pdb.specs.declared.inlined.FunctionName.{FunctionName}
use Rattle.calls_pdb.specs.declared.inlined.PdbInlined.{PdbInlined}
use Rattle.calls_pdb.specs.declared.modules.PdbModule.{PdbModule}
use Rattle.calls_pdb.specs.declared.symbols.PdbSymbol.{PdbSymbol}

-- ---- one function

line_placed : (x : PdbInlined) (n : Result (Option FunctionName) PdbRefusal) (row : InlineRow) (l : Result (Option InlineeLine) PdbRefusal) →
    placed (line_put (name_put x n) row l) ≡ placed (line_put x row l)
line_placed x n row l = grind arith

line_named : (x : PdbInlined) (row : InlineRow) (l : Result (Option InlineeLine) PdbRefusal) → named (line_put x row l) ≡ named x
line_named x row l = grind arith

-- ---- all of them

mapped_same : {X Y Z : Type 0} (view : Y → Z) (f g : X → Y) → ((x : X) → view (f x) ≡ view (g x)) → (xs : List X) → map view (map f xs) ≡ map view (map g xs)
mapped_same view f g same [] = refl
mapped_same {X} {Y} {Z} view f g same (x ∷ xs) = grind (arith, mapped_same view f g same xs)

found_same : {X Y Z : Type 0} (view : Y → Z) (f g : X → Y) → ((x : X) → view (f x) ≡ view (g x)) → (found : Result (List X) PdbRefusal) →
    ((found >>= λ xs. Ok (map f xs)) >>= λ ys. Ok (map view ys)) ≡ ((found >>= λ xs. Ok (map g xs)) >>= λ ys. Ok (map view ys))
found_same view f g same found = grind (arith, mapped_same)

pub lines_alone : (b : List ℕ) (m : PdbModule) (s : PdbSymbol) (rva : ℕ) (ids starts other_ids other_starts : List ℕ) →
    all_placed (inlined_functions b m s rva ids starts) ≡ all_placed (inlined_functions b m s rva other_ids other_starts)
lines_alone b m s rva ids starts other_ids other_starts =
    found_same placed (inlined_by (inlinees_at b m.lines) (types_of ids) starts) (inlined_by (inlinees_at b m.lines) (types_of other_ids) other_starts)
    (λ f. line_placed (bare f) (name_found (types_of ids) starts f.inlinee) f.row (inlinee_in (inlinees_at b m.lines) f.inlinee) ∙ sym (line_placed (bare f) (name_found (types_of other_ids) other_starts f.inlinee) f.row (inlinee_in (inlinees_at b m.lines) f.inlinee)))
    (stack_at b m s rva)

pub names_alone : (b : List ℕ) (m : PdbModule) (s : PdbSymbol) (rva : ℕ) (ids starts : List ℕ) (lines : Range) →
    all_named (inlined_functions b m s rva ids starts) ≡ all_named (inlined_functions b (with_lines m lines) s rva ids starts)
names_alone b m s rva ids starts lines =
    found_same named (inlined_by (inlinees_at b m.lines) (types_of ids) starts) (inlined_by (inlinees_at b lines) (types_of ids) starts)
    (λ f. line_named (name_put (bare f) (name_found (types_of ids) starts f.inlinee)) f.row (inlinee_in (inlinees_at b m.lines) f.inlinee)
    ∙ sym (line_named (name_put (bare f) (name_found (types_of ids) starts f.inlinee)) f.row (inlinee_in (inlinees_at b lines) f.inlinee)))
    (stack_at b m s rva)
