use Rattle.std.proofs.Common.{refl}
use Rattle.calls_directories.proofs.NearLists.{lists_library_functions}
use Rattle.calls_directories.proofs.directories.all_delay_imports.list_library_functions.Goals as goal

pub returns : goal.returns
returns c =
    lists_library_functions c.args.names.now.view.now c.hand_out_list-number.result _ c.hand_out_list-number.new.walk c.args.entries.now c.hand_out_list-number.new.entries c.args.written.now c.hand_out_list-number.new.written refl c.hand_out_list-number.ensures
