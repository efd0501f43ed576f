use Rattle.std.proofs.Common.{◌≡◌, ◌%◌, length}
use Rattle.pe_directories.proofs.Cited.{fold, each, plus, stub_share}
use Rattle.pe_directories.proofs.rich_header.RichHeader.stub_sum.Given as goal

-- the sum has the shares of all bytes before this offset
abbrev pub invariant-loop-offset : goal.invariant-loop-offset
invariant-loop-offset l =
    l.sum ≡ fold plus (length l.self.before.now % 4294967296) (each (stub_share l.self.before.now) l.offset)
