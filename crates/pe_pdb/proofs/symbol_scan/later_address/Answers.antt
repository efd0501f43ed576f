use Rattle.std.proofs.Common.{◌≡◌, ◌+◌, ◌*◌, ◌≤◌, ℕ, Option, Some, ap, sym, ◌∙◌, arith, rules}
use Rattle.pe_pdb.specs.SymbolEntries.{address}
use Rattle.pe_pdb.proofs.Scans.{address_first, address_left, address_taken}
use Rattle.pe_pdb.proofs.symbol_scan.later_address.Goals as goal

pub returns-in-Some-found : goal.returns-in-Some-found
returns-in-Some-found c xs is =
    sym c.in-Some-found.is ∙ address_left c.args.rva c.args.offset c.in-Some.start c.in-Some-found.last c.args.start c.args.found c.in-Some.is c.requires (omega arith) c.in-Some-found.is (omega arith) xs is

pub returns-in_default-found : goal.returns-in_default-found
returns-in_default-found c xs is =
    let entry : c.from.result * 4294967296 + c.args.offset ≡ address c.in-Some.start c.args.offset = omega arith in
    let no_less : (y : ℕ) → c.args.found ≡ Some y → y ≤ address c.in-Some.start c.args.offset = λ y same.
    let both : ◌≡◌ {A = Option ℕ} (Some c.in-Some-found.last) (Some y) = sym c.in-Some-found.is ∙ same in
    let last : c.in-Some-found.last ≡ y = cc both in omega (arith, last) in
    ap (λ (a : ℕ). Some a) entry ∙ address_taken c.args.rva c.args.offset c.in-Some.start c.args.start c.args.found c.in-Some.is c.requires (omega arith) no_less xs is

pub returns-in_default-found-2 : goal.returns-in_default-found-2
returns-in_default-found-2 c xs is =
    let entry : c.from.result * 4294967296 + c.args.offset ≡ address c.in-Some.start c.args.offset = omega arith in
    ap (λ (a : ℕ). Some a) entry ∙ address_first c.args.rva c.args.offset c.in-Some.start c.args.start c.args.found c.in-Some.is c.requires (omega arith) (search rules) xs is
