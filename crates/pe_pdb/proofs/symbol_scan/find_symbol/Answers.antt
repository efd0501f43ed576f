use Rattle.std.proofs.Common.{◌≡◌, Option, Some, None, Ok, Err, ap, sym, ◌∙◌, arith, rules}
use Rattle.std.specs.Option.{option_map}
use Rattle.pe_pdb.specs.Frames.{address_before, symbol_before}
use Rattle.pe_pdb.specs.Refusals.{pdb_kind_of}
use Rattle.pe_pdb.specs.Scans.{found_in}
use Rattle.pe_pdb.specs.SymbolEntries.{addresses, rva_by}
use Rattle.pe_pdb.specs.SymbolIndexes.{symbol_address}
use Rattle.pe_pdb.specs.Symbols.{symbol_view}
use Rattle.pe_pdb.specs.declared.symbol_lookup.SymbolAddress.{SymbolAddress}
use Rattle.pe_pdb.proofs.Scans.{no_address}
use Rattle.pe_pdb.proofs.SymbolEntries.{addresses_small, gathers_all, gathers_more, gathers_none, gathers_refused, gathers_skipped}
use Rattle.pe_pdb.proofs.symbol_scan.find_symbol.Goals as goal

pub returns-in_err-record : goal.returns-in_err-record
returns-in_err-record c =
    let b = c.args.bytes.now in
    let sections = c.args.sections.now.bytes.now in
    let refused : addresses c.args.class b c.args.start sections ≡ Err (pdb_kind_of c.in_err-record.field-0.0) =
    addresses_small c.args.class b c.args.start sections (omega arith)
    ∙ gathers_refused (rva_by c.args.class sections) b c.args.start c.loop-next.next (λ xs. c.loop-next.found ≡ address_before c.args.rva xs) _ c.loop-next.invariant c.loop-next-test.true c.in_err-record.ensures.value in
    let all : found_in (λ xs. symbol_before xs c.args.rva) (addresses c.args.class b c.args.start sections) ≡ Err (pdb_kind_of c.in_err-record.field-0.0) = ap (found_in (λ xs. symbol_before xs c.args.rva)) refused in
    search rules

pub loop-next-init : goal.loop-next-init
loop-next-init c = gathers_none (rva_by c.args.class c.args.sections.now.bytes.now) c.args.bytes.now c.args.start (λ xs. None ≡ address_before c.args.rva xs) (no_address c.args.rva)

pub loop-next-preserved : goal.loop-next-preserved
loop-next-preserved c =
    let b = c.args.bytes.now in
    let sections = c.args.sections.now.bytes.now in
    gathers_skipped (rva_by c.args.class sections) b c.args.start c.end.result c.skip_others-next.result (λ xs. c.later_address-found.result ≡ address_before c.args.rva xs)
    (gathers_more (rva_by c.args.class sections) b c.args.start c.loop-next.next (symbol_view c.in_ok-record.record) c.end.result
    (λ xs. c.loop-next.found ≡ address_before c.args.rva xs) (λ xs. c.later_address-found.result ≡ address_before c.args.rva xs)
    c.loop-next.invariant c.loop-next-test.true c.in_ok-record.ensures.value c.end.ensures (search rules)) (c.skip_others-next.ensures.same sections)

pub returns-in-Some : goal.returns-in-Some
returns-in-Some c =
    let b = c.args.bytes.now in
    let sections = c.args.sections.now.bytes.now in
    let so = c.loop-next.invariant in
    let all : addresses c.args.class b c.args.start sections ≡ Ok so.sofar =
    addresses_small c.args.class b c.args.start sections (omega arith) ∙ gathers_all (rva_by c.args.class sections) b c.args.start c.loop-next.next (λ xs. c.loop-next.found ≡ address_before c.args.rva xs) so (omega arith) in
    let symbol : symbol_before so.sofar c.args.rva ≡ Some c.symbol_address.result = ap (option_map symbol_address) (sym so.holds ∙ c.in-Some.is) ∙ ap (λ (a : SymbolAddress). Some a) (sym c.symbol_address.ensures) in
    ap (found_in (λ xs. symbol_before xs c.args.rva)) all ∙ ap (λ (o : Option SymbolAddress). Ok o) symbol

pub returns-in-None : goal.returns-in-None
returns-in-None c =
    let b = c.args.bytes.now in
    let sections = c.args.sections.now.bytes.now in
    let so = c.loop-next.invariant in
    let all : addresses c.args.class b c.args.start sections ≡ Ok so.sofar =
    addresses_small c.args.class b c.args.start sections (omega arith) ∙ gathers_all (rva_by c.args.class sections) b c.args.start c.loop-next.next (λ xs. c.loop-next.found ≡ address_before c.args.rva xs) so (omega arith) in
    let none : symbol_before so.sofar c.args.rva ≡ None = ap (option_map symbol_address) (sym so.holds ∙ c.in-None.is) in
    ap (found_in (λ xs. symbol_before xs c.args.rva)) all ∙ ap (λ (o : Option SymbolAddress). Ok o) none
