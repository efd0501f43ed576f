use Rattle.std.proofs.Common.{rules}
use Rattle.pe_directories.proofs.LoadedImages.{copied}
use Rattle.pe_directories.proofs.loaded_image.copy_or_zero.Goals as goal

pub returns : goal.returns
returns c =
    let is = copied c.args.bytes.now c.args.image.now c.args.rva c.args.offset c.min-from.result c.min-there.result c.args.count c.min-from.ensures c.min-there.ensures c.requires in
    search (rules, is)
