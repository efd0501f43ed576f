use Rattle.std.proofs.Common.{refl}
use Rattle.calls_directories.proofs.NearLists.{lists_kept_exports}
use Rattle.calls_directories.proofs.names.exports.list_near.Goals as goal

pub returns : goal.returns
returns c =
    lists_kept_exports c.args.names.now.view.now c.hand_out_list-number.result _ c.hand_out_list-number.new.walk c.args.walk.now.kept c.args.entries.now c.hand_out_list-number.new.entries c.args.written.now c.hand_out_list-number.new.written refl c.requires.none c.hand_out_list-number.ensures
