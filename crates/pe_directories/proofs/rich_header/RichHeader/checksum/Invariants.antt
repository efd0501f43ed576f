use Rattle.std.proofs.Common.{◌≡◌}
use Rattle.pe_directories.proofs.Cited.{fold, each, plus, entry_share, stub_sum, rich_view}
use Rattle.pe_directories.proofs.rich_header.RichHeader.checksum.Given as goal

-- the sum has the shares of all entries before the one with this index
abbrev pub invariant-loop-index : goal.invariant-loop-index
invariant-loop-index l =
    l.sum ≡ fold plus (stub_sum l.self.before.now) (each (entry_share (rich_view l.self)) l.index)
