use Rattle.std.proofs.Common.{◌≡◌, ◌+◌, ◌-◌, ◌*◌, ◌≤◌, length, Ok}
use Rattle.pe_pdb.specs.LineEntries.{Writes, block_lines, code_view, rows_in}
use Rattle.pe_pdb.specs.Lines.{blocks}
use Rattle.pe_pdb.proofs.LineEntries.{Gathers}
use Rattle.pe_pdb.proofs.line_entries.put_code.Given as goal

-- the lines of the blocks so far
abbrev pub invariant-loop-next : goal.invariant-loop-next
invariant-loop-next l = record {
  gathers : Gathers (λ b. Ok (block_lines (code_view l.code) b (rows_in b))) (blocks l.code.content.now 12) (blocks l.code.content.now l.next) (λ ys. Writes ys l.count l.fn.room l.after l.room);
  few : 8 * l.after ≤ 8 * l.count + l.next;
  inside : l.next ≤ length l.code.content.now;
  same : length l.room ≡ length l.fn.room;
}

abbrev pub decreases-loop-next : goal.decreases-loop-next
decreases-loop-next l = length l.code.content.now - l.next
