use Rattle.std.proofs.Common.{◌≡◌, true, refl}
use Rattle.pe_edit.proofs.Cited.{nat_le, names_length, total}
use Rattle.pe_edit.proofs.Records.{all_names}
use Rattle.pe_edit.proofs.record.require_names.Goals as goal

pub returns : goal.returns
returns c =
    let few : nat_le (total names_length c.args.records.now) 16777216 ≡ true = all_names c.args.records.now c.loop-index.sum c.loop-index.index c.loop-index-test.false c.loop-index.invariant in
    rw few refl
