use Rattle.std.proofs.Common.{length, arith}
use Rattle.pe_pdb.specs.Lines.{block_at, block_end, subsection_at, subsection_end}
use Rattle.pe_pdb.specs.Modules.{module_at, module_end}
use Rattle.pe_pdb.specs.Symbols.{symbol_at, symbol_end}
use Rattle.pe_pdb.proofs.LineWalks.{blocks_later, subsections_later}
use Rattle.pe_pdb.proofs.RecordWalks.{modules_later, modules_wide, symbols_later, symbols_wide}
use Rattle.pe_pdb.proofs.Walked.{walk_few, walk_whole}
use Rattle.pe_pdb.proofs.laws.walks_end.Goals as goal

pub returns : goal.returns
returns c = record {
  symbols = λ b p. walk_whole symbol_end (symbol_at b) (symbols_later b) (length b) p;
  modules = λ b p. walk_whole module_end (module_at b) (modules_later b) (length b) p;
  subsections = λ b p. walk_whole subsection_end (subsection_at b) (subsections_later b) (length b) p;
  blocks = λ b p. walk_whole block_end (block_at b) (blocks_later b) (length b) p;
  few_symbols = λ b p. let h = walk_few 4 (length b) symbol_end (symbol_at b) (omega arith) (symbols_wide b) p in omega (arith, h);
  few_modules = λ b p. let h = walk_few 64 (length b) module_end (module_at b) (omega arith) (modules_wide b) p in omega (arith, h);
}
