use Rattle.std.proofs.Common.{rules}
use Rattle.pe_minidump.proofs.Sums.{end_fits}
use Rattle.pe_minidump.proofs.memory64.Memory64List.offset_after.Goals as goal

pub overflow_add-result : goal.overflow_add-result
overflow_add-result c =
    let fits = end_fits c.args.self.now.ranges.now c.args.self.now.base_rva c.args.offset c.read_u64.result c.args.index c.args.self.now.fits c.requires.inside c.requires.at c.read_u64.ensures in
    search (rules, fits)
