use Rattle.std.proofs.Common.{arith, ◌-◌, ◌<◌, ◌≤◌, ℕ, get_or, ap, sym, ◌∙◌}
use Rattle.pe_pdb.specs.SymbolEntries.{rva_in}
use Rattle.pe_pdb.proofs.NearestEntries.{all_of_sorted, nearest_of, nearest_permuted, rvas_rise}
use Rattle.pe_pdb.proofs.symbol_lookup.search_symbols.Goals as goal

pub returns-then-after-eq0-clause-found : goal.returns-then-after-eq0-clause-found
returns-then-after-eq0-clause-found c = λ up entries same.
    let xs = c.args.entries.now.entries.now in
    all_of_sorted (λ k. c.args.rva < rva_in k) entries xs same (λ k d lt.
    let h : c.from.result < rva_in (get_or xs k d) = c.count_up_to-after.ensures.cut.after (rvas_rise xs up) k d (omega (arith, c.if-after-eq0.true)) lt in omega (arith, h, c.from.ensures))

pub returns-clause-found : goal.returns-clause-found
returns-clause-found c = λ up entries same.
    let xs = c.args.entries.now.entries.now in
    let x : ℕ = c.args.rva in
    let n = c.count_up_to-after.result in
    let cut = c.count_up_to-after.ensures.cut in
    let some : 0 < n = omega (arith, c.if-after-eq0.false) in (
      c.get.result,
      nearest_permuted entries xs x _ same (nearest_of xs x n up some cut.within
          (λ k d low lt. let h : rva_in (get_or xs k d) ≤ c.from.result = cut.before (rvas_rise xs up) k d low in omega (arith, h, c.from.ensures))
          (λ k d high lt. let h : c.from.result < rva_in (get_or xs k d) = cut.after (rvas_rise xs up) k d high lt in omega (arith, h, c.from.ensures))
          c.get.result (λ d. sym (c.get.ensures.value d ∙ ap (λ r. get_or r.now (n - 1) d) c.count_up_to-after.ensures.kept))),
      c.symbol_address.ensures,
    )
