use Rattle.std.proofs.Common.{refl}
use Rattle.calls_directories.proofs.NearLists.{lists_library_imports}
use Rattle.calls_directories.proofs.names.all_imports.list_library_imports.Goals as goal

pub returns : goal.returns
returns c =
    lists_library_imports c.args.names.now.view.now c.hand_out_list-number.result _ c.hand_out_list-number.new.walk c.args.entries.now c.hand_out_list-number.new.entries c.args.written.now c.hand_out_list-number.new.written refl c.hand_out_list-number.ensures
