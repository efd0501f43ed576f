use Rattle.std.proofs.Common.{◌≡◌, ◌<◌, length, Err, arith, rules, ◌∙◌}
use Rattle.std.proofs.Math.ListN.{length-set}
use Rattle.pe_pdb.specs.Ids.{count_of, starts_in, types_view}
use Rattle.pe_pdb.specs.Refusals.{pdb_kind_of}
use Rattle.pe_pdb.specs.Symbols.{symbol_view}
use Rattle.pe_pdb.proofs.RecordStarts.{one_more_start, rest_left, start_next, start_none, starts_all, starts_refused}
use Rattle.pe_pdb.proofs.ids.TypeRecords.put_starts.Goals as goal

pub loop-index-init : goal.loop-index-init
loop-index-init c = search (rules, arith, start_none)

pub returns-in_err-record-clause-count : goal.returns-in_err-record-clause-count
returns-in_err-record-clause-count c =
    let t = types_view c.args.self.now in
    let number : c.len-count.result ≡ count_of t = c.len-count.ensures in
    let refused : starts_in (length c.args.room.now) t ≡ Err (pdb_kind_of c.in_err-record.field-0.0) =
    starts_refused (length c.args.room.now) t c.loop-index.index c.loop-index.next (pdb_kind_of c.in_err-record.field-0.0) (omega (arith, number, c.if-room-count.false)) (omega (arith, number, c.loop-index-test.true)) c.loop-index.invariant.at c.in_err-record.ensures.value in
    search rules

pub loop-index-preserved : goal.loop-index-preserved
loop-index-preserved c =
    let b = c.args.self.now.records.now in
    let lt : c.loop-index.index < length c.loop-index.room = omega (arith, c.loop-index.invariant.same, c.if-room-count.false, c.loop-index-test.true) in
    record {
      at = start_next b c.loop-index.index c.loop-index.next c.end-next.result (symbol_view c.in_ok-record.record) c.loop-index.invariant.at c.in_ok-record.ensures.value c.end-next.ensures;
      starts = one_more_start b c.loop-index.room c.loop-index.index c.loop-index.next lt c.loop-index.invariant.at c.loop-index.invariant.starts;
      same = length-set c.loop-index.room c.loop-index.index _ ∙ c.loop-index.invariant.same;
      rest = rest_left c.args.room.now c.loop-index.room c.loop-index.index _ c.loop-index.invariant.rest;
    }

pub returns-clause-count : goal.returns-clause-count
returns-clause-count c = search (rules, arith, starts_all)

pub returns-clause-starts : goal.returns-clause-starts
returns-clause-starts c = λ k d low. c.loop-index.invariant.starts k d (omega (arith, low, c.loop-index-test.false))

pub returns-clause-rest : goal.returns-clause-rest
returns-clause-rest c = search (rules, arith)
