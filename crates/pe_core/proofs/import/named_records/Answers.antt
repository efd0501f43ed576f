use Rattle.std.proofs.Common.{rules, refl, ◌∷◌, []}
use Rattle.std.proofs.lemmas.Slice.{pushed}
use Rattle.pe_core.proofs.ImportLists.{records-pushed, refused-in_record}
use Rattle.pe_core.proofs.import.named_records.Goals as goal

pub loop-i-preserved : goal.loop-i-preserved
loop-i-preserved g c =
    records-pushed _ _ _ _ _ _ _ _ c.in_ok-import_record.field-0 _ c.requires.stand c.loop-i-test.true c.loop-i.invariant c.at-entry.ensures c.in_ok-import_record.ensures
    (pushed (c.in_ok-import_record.field-0 ∷ []) refl c.in_ok-push.was c.push.ensures.items)

pub returns-in_err-import_record : goal.returns-in_err-import_record
returns-in_err-import_record g c =
    let refused = refused-in_record _ _ _ _ _ _ _ _ _ c.requires.stand c.loop-i-test.true c.loop-i.invariant c.at-entry.ensures c.in_err-import_record.ensures in
    search (rules, refused)
