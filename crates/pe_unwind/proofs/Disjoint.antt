-- Where entries don't overlap, lookup finds the one that covers an RVA.
use Rattle.std.proofs.Common.{◌≡◌, ◌↔◌, ℕ, ◌+◌, ◌<◌, ◌≤◌, List, length, get_or, take, Option, Some, None, filter, ap, ◌∙◌, leb, arith, IsSome}
use Rattle.std.specs.List.{last_or, Any}
use Rattle.std.proofs.lemmas.Bool.{false≢true}
use Rattle.std.proofs.lemmas.Bool.Decides.{nat_tests}
use Rattle.std.proofs.lemmas.List.{take_more, get_or_default}
use Rattle.pe_unwind.specs.declared.function_table.RuntimeFunction.{RuntimeFunction}
use Rattle.pe_unwind.specs.FunctionTable.{NeverFalls, NoEndPassesNext, Covers, Finds, scan}
use Rattle.pe_unwind.specs.Lookup.{IsSortedBy, last_start}
use Rattle.pe_unwind.proofs.Searches.{filter_first, last_or-append, before_end-inside, start-le}

-- a linear scan comes to the entry after which the next starts after the RVA
pub scans_to : {X : Type 0} (start : X → ℕ) (fs : List X) (a k : ℕ) (f : X) → IsSortedBy start fs → k < length fs → get_or fs k f ≡ f → start f ≤ a → (k + 1 < length fs → a < start (get_or fs (k + 1) f)) → last_start start fs a ≡ Some f
scans_to {X} start fs a k f ordered l is from next =
    let begin : start (get_or fs k f) ≡ start f = ap start is in
    let kept : filter (λ g. leb (start g) a) fs ≡ take (k + 1) fs =
    filter_first (λ g. leb (start g) a) fs (k + 1)
    (λ i d h m. let below : start (get_or fs i d) ≤ a = omega (arith, ap start (get_or_default fs i d f m), start-le start fs ordered i k f (omega arith) l, begin) in grind (arith, nat_tests))
    (λ i d h m. let above : a < start (get_or fs i d) = omega (arith, ap start (get_or_default fs i d f m), start-le start fs ordered (k + 1) i f h m, next (omega arith)) in grind (arith, nat_tests)) in
    ap (last_or None) kept ∙ ap (last_or None) (take_more fs k f l) ∙ last_or-append None (take k fs) (get_or fs k f) ∙ ap (λ (g : X). Some g) is

-- the scan returns the entry that covers the RVA
scan_covering : (fs : List RuntimeFunction) (a k : ℕ) (f : RuntimeFunction) → NeverFalls fs → NoEndPassesNext fs → k < length fs → get_or fs k f ≡ f → Covers a f → scan fs a ≡ Some f
unfolding scan
scan_covering fs a k f ordered apart l is covers = grind (arith, before_end-inside, scans_to)

finds_at : (fs : List RuntimeFunction) (a : ℕ) (found : Option RuntimeFunction) → Finds fs a found → IsSome found → Any (Covers a) fs
finds_at fs a found finds h = grind (arith, false≢true)

pub finds_covering : (fs : List RuntimeFunction) (a : ℕ) (found : Option RuntimeFunction) → NeverFalls fs → NoEndPassesNext fs → Finds fs a found → IsSome found ↔ Any (Covers a) fs
finds_covering fs a found ordered apart finds = grind (arith, finds_at, scan_covering)
