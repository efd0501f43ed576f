use Rattle.std.proofs.Common.{◌≡◌}
use Rattle.calls_directories.proofs.Cited.{Some, Ok, leaf_start, options_of, may_map}
use Rattle.calls_base.proofs.ResourceRoots.{root_is_there}
use Rattle.calls_directories.proofs.directories.tables.resource_root.Goals as goal

-- src/directory_tables.rt:200:43
pub root_of-requires : goal.root_of-requires
root_of-requires c =
    let v = c.args.view.now in
    let d = c.directory-directory.result in
    let value = c.in_ok-data.ensures.value in
    let is = c.in-Some.is in
    let start : leaf_start (options_of v.image.now.mode) v.bytes.now d (may_map v d.virtual_address) v.image.now.file_alignment ≡ Ok (Some (c.in-Some.data, c.in-Some.position)) = cc in
    root_is_there (options_of v.image.now.mode) v.bytes.now d (may_map v d.virtual_address) v.image.now.file_alignment (c.in-Some.data, c.in-Some.position) start
