use Rattle.std.proofs.Common.{◌≡◌, Err, arith, rules}
use Rattle.pe_pdb.specs.Ids.{count_of, types_view, whole_count}
use Rattle.pe_pdb.specs.Refusals.{pdb_kind_of}
use Rattle.pe_pdb.specs.Symbols.{symbol_view}
use Rattle.pe_pdb.proofs.RecordStarts.{count_refused, count_whole, start_next, start_none}
use Rattle.pe_pdb.proofs.ids.TypeRecords.count.Goals as goal

pub loop-index-init : goal.loop-index-init
loop-index-init c = record { at = start_none c.args.self.now.records.now; few = omega arith }

pub returns-in_err-record : goal.returns-in_err-record
returns-in_err-record c =
    let t = types_view c.args.self.now in
    let number : c.len-count.result ≡ count_of t = c.len-count.ensures in
    let refused : whole_count t ≡ Err (pdb_kind_of c.in_err-record.field-0.0) =
    count_refused t c.loop-index.index c.loop-index.next (pdb_kind_of c.in_err-record.field-0.0) (omega (arith, number, c.loop-index-test.true)) c.loop-index.invariant.at c.in_err-record.ensures.value in
    search rules

pub loop-index-preserved : goal.loop-index-preserved
loop-index-preserved c = record {
  at = start_next c.args.self.now.records.now c.loop-index.index c.loop-index.next c.end-next.result (symbol_view c.in_ok-record.record) c.loop-index.invariant.at c.in_ok-record.ensures.value c.end-next.ensures;
  few = omega (arith, c.loop-index-test.true);
}

pub returns : goal.returns
returns c = search (rules, arith, count_whole)
