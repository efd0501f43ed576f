use Rattle.std.proofs.Common.{◌≡◌, ◌∙◌, ℕ, ◌+◌, ◌-◌, ◌*◌, ◌/◌, ◌<◌, ◌≤◌, List, length, arith, ap, refl}
use Rattle.pe_core.proofs.EntryItems.{count_of_whole_entries}
use Rattle.pe_core.specs.CountedTable.{Counted, one_more}
use Rattle.pe_core.specs.Rows.{whole_entries}
use Rattle.pe_unwind.specs.Lookup.{digits}
use Rattle.pe_unwind.proofs.Searches.{starts, goes_up, goes_down, ends, entry_is, entry_ends, digits-halved, le-one_more, one_more-le}
use Rattle.pe_unwind.proofs.lookup.last_start.Goals as goal

pub loop-low-init : goal.loop-low-init
loop-low-init g c =
    let b : List ℕ = c.args.table.now.content in
    let count : length (whole_entries g.E.TableEntry.entry_at g.E.TableEntry.SIZE b) ≡ length b / g.E.TableEntry.SIZE = count_of_whole_entries g.E.TableEntry.entry_at g.E.TableEntry.SIZE b in
    let size : c.SIZE.result ≡ g.E.TableEntry.SIZE = c.SIZE.ensures in
    let bytes : c.len.result ≡ length b = c.len.ensures in
    let all : c.len.result / c.SIZE.result ≡ length (whole_entries g.E.TableEntry.entry_at g.E.TableEntry.SIZE b) = cc in
    let none : c.len.result / c.SIZE.result - 0 ≡ length (whole_entries g.E.TableEntry.entry_at g.E.TableEntry.SIZE b) = omega (arith, all) in
    record {
      kept = refl;
      searches = starts _ _ _ _ all;
      counted = omega arith;
      cost = omega (arith, ap digits none);
    }

pub overflow_mul-SIZE : goal.overflow_mul-SIZE
overflow_mul-SIZE g c =
    let b : List ℕ = c.args.table.now.content in
    let m : ℕ = c.loop-low.low + (c.loop-low.high - c.loop-low.low) / 2 in
    let count : length (whole_entries g.E.TableEntry.entry_at g.E.TableEntry.SIZE b) ≡ length b / g.E.TableEntry.SIZE = count_of_whole_entries g.E.TableEntry.entry_at g.E.TableEntry.SIZE b in
    let inside : m < length b / g.E.TableEntry.SIZE = omega (arith, count, c.loop-low.invariant.searches.within) in
    let size : c.SIZE-in-loop-low.result * m ≡ g.E.TableEntry.SIZE * m = ap (λ (w : ℕ). w * m) c.SIZE-in-loop-low.ensures in
    omega (arith, size, entry_ends (length b) g.E.TableEntry.SIZE m inside, c.len.ensures)

pub next_entry-entry-requires : goal.next_entry-entry-requires
next_entry-entry-requires g c =
    let b : List ℕ = c.args.table.now.content in
    let m : ℕ = c.loop-low.low + (c.loop-low.high - c.loop-low.low) / 2 in
    let count : length (whole_entries g.E.TableEntry.entry_at g.E.TableEntry.SIZE b) ≡ length b / g.E.TableEntry.SIZE = count_of_whole_entries g.E.TableEntry.entry_at g.E.TableEntry.SIZE b in
    let inside : m < length b / g.E.TableEntry.SIZE = omega (arith, count, c.loop-low.invariant.searches.within) in
    let size : c.SIZE-in-loop-low.result * m ≡ g.E.TableEntry.SIZE * m = ap (λ (w : ℕ). w * m) c.SIZE-in-loop-low.ensures in
    omega (arith, size, entry_ends (length b) g.E.TableEntry.SIZE m inside, ap length c.loop-low.invariant.kept)

pub loop-low-preserved-then-start-rva : goal.loop-low-preserved-then-start-rva
loop-low-preserved-then-start-rva g c =
    let read = c.next_entry-entry in
    let b : List ℕ = c.args.table.now.content in
    let m : ℕ = c.loop-low.low + (c.loop-low.high - c.loop-low.low) / 2 in
    let count : read.new.table.count ≡ one_more c.loop-low.table.count = ap (λ (t : Counted). t.count) read.ensures.counts in
    let place : c.SIZE-in-loop-low.result * m ≡ g.E.TableEntry.SIZE * m = ap (λ (w : ℕ). w * m) c.SIZE-in-loop-low.ensures in
    let value : read.result ≡ g.E.TableEntry.entry_at c.loop-low.table.content (g.E.TableEntry.SIZE * m) = cc (read.ensures.value, place) in
    let inside : m < length (whole_entries g.E.TableEntry.entry_at g.E.TableEntry.SIZE b) = omega (arith, c.loop-low.invariant.searches.within) in
    let from : g.E.FunctionEntry.start_of read.result ≤ c.args.rva = omega (arith, c.start.ensures, c.if-start-rva.true) in
    record {
      kept = ap (λ (t : Counted). t.content) read.ensures.counts ∙ c.loop-low.invariant.kept;
      searches = goes_up _ _ _ _ _ _ m _ c.loop-low.invariant.searches (omega arith) (omega arith) (entry_is g.E.TableEntry.entry_at g.E.TableEntry.SIZE b c.loop-low.table.content m _ c.loop-low.invariant.kept value inside) from;
      counted = omega (arith, count, le-one_more c.loop-low.table.count);
      cost = omega (arith, count, one_more-le c.loop-low.table.count, digits-halved (c.loop-low.high - c.loop-low.low) (c.loop-low.high - (m + 1)) (omega arith) (omega arith));
    }

pub loop-low-preserved : goal.loop-low-preserved
loop-low-preserved g c =
    let read = c.next_entry-entry in
    let b : List ℕ = c.args.table.now.content in
    let m : ℕ = c.loop-low.low + (c.loop-low.high - c.loop-low.low) / 2 in
    let count : read.new.table.count ≡ one_more c.loop-low.table.count = ap (λ (t : Counted). t.count) read.ensures.counts in
    let place : c.SIZE-in-loop-low.result * m ≡ g.E.TableEntry.SIZE * m = ap (λ (w : ℕ). w * m) c.SIZE-in-loop-low.ensures in
    let value : read.result ≡ g.E.TableEntry.entry_at c.loop-low.table.content (g.E.TableEntry.SIZE * m) = cc (read.ensures.value, place) in
    let inside : m < length (whole_entries g.E.TableEntry.entry_at g.E.TableEntry.SIZE b) = omega (arith, c.loop-low.invariant.searches.within) in
    let after : c.args.rva < g.E.FunctionEntry.start_of read.result = omega (arith, c.start.ensures, c.if-start-rva.false) in
    record {
      kept = ap (λ (t : Counted). t.content) read.ensures.counts ∙ c.loop-low.invariant.kept;
      searches = goes_down _ _ _ _ _ _ m _ c.loop-low.invariant.searches (omega arith) (omega arith) (entry_is g.E.TableEntry.entry_at g.E.TableEntry.SIZE b c.loop-low.table.content m _ c.loop-low.invariant.kept value inside) after;
      counted = omega (arith, count, le-one_more c.loop-low.table.count);
      cost = omega (arith, count, one_more-le c.loop-low.table.count, digits-halved (c.loop-low.high - c.loop-low.low) (m - c.loop-low.low) (omega arith) (omega arith));
    }

pub returns-clause-found : goal.returns-clause-found
returns-clause-found g c = ends _ _ _ _ _ _ c.loop-low.invariant.searches c.loop-low-test.false
