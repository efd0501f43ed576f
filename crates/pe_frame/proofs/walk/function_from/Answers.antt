use Rattle.std.proofs.Common.{◌≡◌, ◌<◌, ◌+◌, ◌-◌, ◌*◌, ◌/◌, ℕ, List, Option, Some, length, ap, sym, subst, ◌∙◌, arith}
use Rattle.std.specs.Option.{is_some}
use Rattle.pe_core.specs.Bytes.{le}
use Rattle.pe_core.specs.CountedTable.{Counted}
use Rattle.pe_unwind.specs.ExceptionTable.{table_of}
use Rattle.pe_unwind.specs.FunctionTable.{function_at, functions}
use Rattle.pe_unwind.specs.Lookup.{FindsStart}
use Rattle.pe_unwind.specs.declared.function_table.RuntimeFunction.{RuntimeFunction}
use Rattle.pe_unwind.proofs.Searches.{length_functions}
use Rattle.pe_frame.proofs.FunctionSearch.{at_first, down, entry_read, inside, last_starts, none_starts, start_read, up}
use Rattle.pe_frame.proofs.walk.function_from.Goals as goal

pub loop-low-init : goal.loop-low-init
loop-low-init c =
    let b : List ℕ = table_of c.args.exceptions.now in
    let content : c.table-table.result.content ≡ b = ap (λ (t : Counted). t.content) c.table-table.ensures in
    let all : c.len-high.result / 12 ≡ length (functions b) = omega (arith, length_functions b, c.len-high.ensures, ap length content) in
    record { kept = content; searches = at_first b c.args.rva (c.len-high.result / 12) all }

pub overflow_mul-middle : goal.overflow_mul-middle
overflow_mul-middle c =
    let b : List ℕ = table_of c.args.exceptions.now in
    let content : c.table-table.result.content ≡ b = ap (λ (t : Counted). t.content) c.table-table.ensures in
    let low = c.loop-low.low in
    let high = c.loop-low.high in
    let m : ℕ = low + (high - low) / 2 in
    let kept = c.loop-low.invariant.kept in
    let searches = c.loop-low.invariant.searches in
    let within = (inside b c.args.rva low high m searches (omega arith)).1 in
    omega (arith, within, c.len-high.ensures, ap length content)

pub unwrap-requires : goal.unwrap-requires
unwrap-requires c =
    let b : List ℕ = table_of c.args.exceptions.now in
    let content : c.table-table.result.content ≡ b = ap (λ (t : Counted). t.content) c.table-table.ensures in
    let low = c.loop-low.low in
    let high = c.loop-low.high in
    let m : ℕ = low + (high - low) / 2 in
    let kept = c.loop-low.invariant.kept in
    let searches = c.loop-low.invariant.searches in
    let within = (inside b c.args.rva low high m searches (omega arith)).1 in
    let value = start_read b c.loop-low.table.content m c.u32_at.result kept within c.u32_at.ensures.value in
    ap is_some value

pub loop-low-preserved-then-unwrap-rva : goal.loop-low-preserved-then-unwrap-rva
loop-low-preserved-then-unwrap-rva c =
    let b : List ℕ = table_of c.args.exceptions.now in
    let content : c.table-table.result.content ≡ b = ap (λ (t : Counted). t.content) c.table-table.ensures in
    let low = c.loop-low.low in
    let high = c.loop-low.high in
    let m : ℕ = low + (high - low) / 2 in
    let kept = c.loop-low.invariant.kept in
    let searches = c.loop-low.invariant.searches in
    let within = (inside b c.args.rva low high m searches (omega arith)).1 in
    let value = start_read b c.loop-low.table.content m c.u32_at.result kept within c.u32_at.ensures.value in
    let is : c.unwrap.result ≡ le b (12 * m) 4 = cc (c.unwrap.ensures, value) in
    record {
      kept = ap (λ (t : Counted). t.content) c.u32_at.ensures.counts ∙ kept;
      searches = up b c.args.rva low high m searches (omega arith) (omega arith) (omega (arith, is, c.if-unwrap-rva.true));
    }

pub loop-low-preserved : goal.loop-low-preserved
loop-low-preserved c =
    let b : List ℕ = table_of c.args.exceptions.now in
    let content : c.table-table.result.content ≡ b = ap (λ (t : Counted). t.content) c.table-table.ensures in
    let low = c.loop-low.low in
    let high = c.loop-low.high in
    let m : ℕ = low + (high - low) / 2 in
    let kept = c.loop-low.invariant.kept in
    let searches = c.loop-low.invariant.searches in
    let within = (inside b c.args.rva low high m searches (omega arith)).1 in
    let value = start_read b c.loop-low.table.content m c.u32_at.result kept within c.u32_at.ensures.value in
    let is : c.unwrap.result ≡ le b (12 * m) 4 = cc (c.unwrap.ensures, value) in
    record {
      kept = ap (λ (t : Counted). t.content) c.u32_at.ensures.counts ∙ kept;
      searches = down b c.args.rva low high m searches (omega arith) (omega arith) (omega (arith, is, c.if-unwrap-rva.false));
    }

pub returns-then-low-eq0 : goal.returns-then-low-eq0
returns-then-low-eq0 c =
    none_starts (table_of c.args.exceptions.now) c.args.rva c.loop-low.low c.loop-low.high c.loop-low.invariant.searches c.loop-low-test.false (omega (arith, c.if-low-eq0.true))

pub overflow_mul-low : goal.overflow_mul-low
overflow_mul-low c =
    let b : List ℕ = table_of c.args.exceptions.now in
    let content : c.table-table.result.content ≡ b = ap (λ (t : Counted). t.content) c.table-table.ensures in
    let low = c.loop-low.low in
    let high = c.loop-low.high in
    let searches = c.loop-low.invariant.searches in
    let some : 0 < low = omega (arith, c.if-low-eq0.false) in
    let within = (inside b c.args.rva low high (low - 1) searches (omega (arith, some, searches.1.ordered))).1 in
    omega (arith, within, c.len-high.ensures, ap length content)

pub returns : goal.returns
returns c =
    let b : List ℕ = table_of c.args.exceptions.now in
    let content : c.table-table.result.content ≡ b = ap (λ (t : Counted). t.content) c.table-table.ensures in
    let low = c.loop-low.low in
    let high = c.loop-low.high in
    let searches = c.loop-low.invariant.searches in
    let some : 0 < low = omega (arith, c.if-low-eq0.false) in
    let within = (inside b c.args.rva low high (low - 1) searches (omega (arith, some, searches.1.ordered))).1 in
    let value = entry_read b c.loop-low.table.content (low - 1) c.entry_at.result c.loop-low.invariant.kept within c.entry_at.ensures.value in
    subst (λ (o : Option RuntimeFunction). FindsStart (λ f. f.begin_address) (functions b) c.args.rva o) (sym value) (last_starts b c.args.rva low high searches c.loop-low-test.false some)
