use Rattle.std.proofs.Common.{◌≡◌, length, Err, ap, ◌∙◌, arith, rules}
use Rattle.pe_pdb.specs.Refusals.{pdb_kind_of}
use Rattle.pe_pdb.specs.SymbolEntries.{addresses, rva_by}
use Rattle.pe_pdb.specs.Symbols.{symbol_view}
use Rattle.pe_pdb.proofs.SymbolEntries.{Written, addresses_small, entry_few, gathers_all, gathers_more, gathers_refused, length_put, written_more}
use Rattle.pe_pdb.proofs.symbol_entries.put_addresses.Goals as goal

pub returns-in_err-record-clause-puts : goal.returns-in_err-record-clause-puts
returns-in_err-record-clause-puts c =
    let b = c.args.bytes.now in
    let sections = c.args.sections.now.bytes.now in
    let small = addresses_small c.args.class b c.args.start sections (omega arith) in
    let refused : addresses c.args.class b c.args.start sections ≡ Err (pdb_kind_of c.in_err-record.field-0.0) =
    small ∙ gathers_refused (rva_by c.args.class sections) b c.args.start c.loop-next.next (Written c.loop-next.count c.loop-next.room) _ c.loop-next.invariant.gathers c.loop-next-test.true c.in_err-record.ensures.value in
    search rules

pub loop-next-preserved : goal.loop-next-preserved
loop-next-preserved c =
    let b = c.args.bytes.now in
    let r = rva_by c.args.class c.args.sections.now.bytes.now in
    let s = symbol_view c.in_ok-record.record in
    let few = entry_few c.rva_by-rva.result in
    record {
      gathers = gathers_more r b c.args.start c.loop-next.next s c.end-next.result (Written c.loop-next.count c.loop-next.room) (Written c.put_address-count.result c.put_address-count.new.room)
          c.loop-next.invariant.gathers c.loop-next-test.true c.in_ok-record.ensures.value c.end-next.ensures
          (λ xs. written_more c.loop-next.count c.loop-next.room c.loop-next.next (r s) c.put_address-count.result c.put_address-count.new.room xs (search rules) (search rules));
      few = omega (arith, few, c.in_ok-record.ensures.start, c.put_address-count.ensures.count, c.loop-next.invariant.few, c.end-next.ensures);
      same = ap length c.put_address-count.ensures.room ∙ length_put c.loop-next.room c.loop-next.count _ ∙ c.loop-next.invariant.same;
    }

pub returns-clause-puts : goal.returns-clause-puts
returns-clause-puts c = search (rules, arith, addresses_small, gathers_all)
