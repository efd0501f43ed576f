-- Ranges of minidumps: of streams, and of pieces of memory.
use Rattle.std.proofs.Common.{◌≡◌, ℕ, List, Option, Some, Ok, arith}
use Rattle.pe_c.proofs.Cited.{places, same_lists, inside_if_held, located, entry_bytes, IsStreamOf, memory_range, piece_reported}
use Rattle.pe_c.proofs.Cited.{dump_stream_at, IsRange, Range}
use Rattle.pe_minidump.specs.Pieces.{bytes_from, piece}
use Rattle.pe_minidump.specs.declared.dump.DirectoryEntry.{DirectoryEntry}
use Rattle.pe_minidump.specs.declared.dump.DumpHeader.{DumpHeader}

-- ---- streams

-- the bytes of an entry are those of its range, which lies in the bytes
abbrev HasBytes : List ℕ → Option DirectoryEntry → Range → Type 0
HasBytes b e r = (bytes : List ℕ) × (entry_bytes b e ≡ Ok (Some bytes)) × IsRange b r bytes

pub is_stream : (b d : List ℕ) (header : DumpHeader) (directory r : Range) (kind : ℕ) → located b directory.offset directory.length ≡ Ok d → dump_stream_at b directory kind ≡ Ok (Some r) → IsStreamOf b header d kind r
is_stream b d header directory r kind there same = grind (arith, inside_if_held)

-- ---- pieces

pub is_inside : (b : List ℕ) (start offset size : ℕ) → IsRange b (memory_range (piece_reported b (piece b start offset size)).memory) (bytes_from b offset size)
is_inside b start offset size = grind (arith, places, same_lists)
