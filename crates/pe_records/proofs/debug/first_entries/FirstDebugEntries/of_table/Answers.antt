use Rattle.std.proofs.Common.{ℕ, ◌*◌, ◌==◌, ◌≡◌, suc, ◌+◌, Bool, [], ◌∷◌, Option, ap, sym, ◌∙◌, arith}
use Rattle.std.specs.Option.{option_or}
use Rattle.std.specs.List.{find}
use Rattle.std.proofs.lemmas.List.Folds.{find-append}
use Rattle.pe_core.specs.Rows.{each}
use Rattle.pe_records.specs.declared.debug.ImageDebugDirectory.{ImageDebugDirectory}
use Rattle.pe_records.specs.DebugDirectory.{debug_entry_at}
use Rattle.pe_records.proofs.debug.first_entries.FirstDebugEntries.of_table.Goals as goal

-- The first entry of a type, one entry further.
found_more : {X : Type 0} (p : X → Bool) (f : ℕ → X) (n : ℕ) → option_or (find p (each f n)) (find p (f n ∷ [])) ≡ find p (each f (suc n))
unfolding each
found_more p f n = sym (find-append p (each f n) (f n ∷ []))

one_further : {X : Type 0} (p : X → Bool) (f : ℕ → X) (n : ℕ) (old new : Option X) (entry : X) → old ≡ find p (each f n) → entry ≡ f n → new ≡ option_or old (find p (entry ∷ [])) → new ≡ find p (each f (n + 1))
one_further {X} p f n old new entry kept read is =
    let next : suc n ≡ n + 1 = omega arith in
    is ∙ ap (λ (o : Option X). option_or o (find p (entry ∷ []))) kept
    ∙ ap (λ (x : X). option_or (find p (each f n)) (find p (x ∷ []))) read
    ∙ found_more p f n ∙ ap (λ (k : ℕ). find p (each f k)) next

pub loop-i-preserved : goal.loop-i-preserved
loop-i-preserved c =
    let at : ℕ → ImageDebugDirectory = λ i. debug_entry_at c.args.fixup c.args.table.now (28 * i) in
    record {
      codeview = one_further (λ e. e.data_type == 2) at c.loop-i.i _ _ _ c.loop-i.invariant.codeview c.at-entry.ensures c.keep_first.ensures;
      features = one_further (λ e. e.data_type == 12) at c.loop-i.i _ _ _ c.loop-i.invariant.features c.at-entry.ensures c.keep_first-in-loop-i.ensures;
      characteristics = one_further (λ e. e.data_type == 20) at c.loop-i.i _ _ _ c.loop-i.invariant.characteristics c.at-entry.ensures c.keep_first-in-loop-i-2.ensures;
      repro = one_further (λ e. e.data_type == 16) at c.loop-i.i _ _ _ c.loop-i.invariant.repro c.at-entry.ensures c.keep_first-in-loop-i-3.ensures;
      pogo = one_further (λ e. e.data_type == 13) at c.loop-i.i _ _ _ c.loop-i.invariant.pogo c.at-entry.ensures c.keep_first-in-loop-i-4.ensures;
    }
