use Rattle.std.proofs.Common.{arith, ◌≡◌, ℕ, ◌+◌, ◌-◌, ◌<◌, ◌≤◌, false, List, length, None, Ok, ◌∙◌}
use Rattle.pe_core.specs.Bytes.{le, range}
use Rattle.pe_core.proofs.Ranges.{length_range}
use Rattle.pe_pdb.specs.Procedures.{procedure_rva}
use Rattle.pe_pdb.specs.Publics.{public_function_rva}
use Rattle.pe_pdb.specs.Scans.{HasSameEntries, is_of, symbol_in}
use Rattle.pe_pdb.specs.SymbolEntries.{rva_by}
use Rattle.pe_pdb.specs.Symbols.{Symbol, symbol_at}
use Rattle.pe_pdb.specs.declared.symbol_entries.SymbolClass.{SymbolClass}
use Rattle.pe_pdb.proofs.SymbolEntries.{entries_other}
use Rattle.pe_pdb.proofs.symbol_scan.skip_others.Goals as goal

-- Records of symbols that are skipped by their size and kind: they have no entry in an index.
other_none : (class : SymbolClass) (sections : List ℕ) (s : Symbol) → is_of class s.kind ≡ false → rva_by class sections s ≡ None
unfolding procedure_rva public_function_rva
other_none class sections s other = grind arith

entries_skipped : (class : SymbolClass) (b : List ℕ) (start p q : ℕ) → HasSameEntries class b start p → p < length b → symbol_at b p ≡ Ok (symbol_in b p) →
    is_of class (symbol_in b p).kind ≡ false → q ≡ p + 2 + le b p 2 → 2 ≤ le b p 2 → q ≤ length b → HasSameEntries class b start q
entries_skipped class b start p q so lt is other end some inside sections =
    let size : length (range b (p + 4) (le b p 2 - 2)) ≡ le b p 2 - 2 = length_range b (p + 4) (le b p 2 - 2) (omega (arith, end, some, inside)) in
    so sections ∙ entries_other (rva_by class sections) b p (symbol_in b p) q lt is (omega (arith, size, end, some)) (other_none class sections (symbol_in b p) other)

pub loop-end-preserved : goal.loop-end-preserved
loop-end-preserved c =
    let l = c.loop-end in
    let found = c.in-Some.ensures in
    record {
      same = entries_skipped c.args.class c.args.bytes.now c.args.start l.next c.in-Some.end l.invariant.same (omega (arith, l.invariant.before)) found.whole found.other found.end.0 found.end.1 (omega (arith, found.inside.1));
      after = omega (arith, l.invariant.after, found.inside.0);
      before = found.inside.1;
    }
