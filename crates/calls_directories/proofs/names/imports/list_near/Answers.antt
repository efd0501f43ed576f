use Rattle.std.proofs.Common.{refl}
use Rattle.calls_directories.proofs.NearLists.{lists_kept_imports}
use Rattle.calls_directories.proofs.names.imports.list_near.Goals as goal

pub returns : goal.returns
returns c =
    lists_kept_imports c.args.names.now.view.now c.hand_out_list-number.result _ c.hand_out_list-number.new.walk c.args.walk.now.kept c.args.entries.now c.hand_out_list-number.new.entries c.args.written.now c.hand_out_list-number.new.written refl c.requires c.hand_out_list-number.ensures
