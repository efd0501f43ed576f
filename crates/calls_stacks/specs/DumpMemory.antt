-- What calls return of the memory of a minidump.
use Rattle.std.specs.Prelude.{ℕ, ◌+◌, ◌-◌, ◌^◌, min, List, length, Option, Some, None, Result, Ok, Err, ◌==◌, ◌&&◌, Bool, true, false, not, ◌≡◌, drop, map, nat_le, take}
use Rattle.std.specs.Option.{option_map}
use Rattle.pe_core.specs.Bytes.{le}
use Rattle.pe_core.specs.Refusals.{Refusal, ◌>>=◌, Short}
use Rattle.pe_minidump.specs.Dumps.{located}
use Rattle.pe_minidump.specs.Memory64.{memory64_of}
use Rattle.pe_minidump.specs.Pieces.{PieceView, piece}
use Rattle.pe_minidump.specs.Refusals.{DumpRefusal}
use Rattle.pe_minidump.specs.declared.memory.MemoryDescriptor.{MemoryDescriptor}
use Rattle.calls_base.specs.Walks.{left_entry, walk_of}
use Rattle.calls_stacks.specs.declared.dump.memory.DumpPiece.{DumpPiece}
use Rattle.calls_stacks.specs.declared.dump.memory.Memory64Walk.{Memory64Walk}
use Rattle.calls_base.specs.declared.ranges.Range.{Range}
use Rattle.calls_stacks.specs.declared.dump.lists.DumpModule.{DumpModule}
use Rattle.calls_base.specs.declared.image.Image.{Image}
use Rattle.calls_base.specs.declared.results.TheConstants.{DONE, NOTHING, OUT_OF_ORDER, ROOM}
use Rattle.std.specs.List.{find}
use Rattle.pe_frame.specs.MemoryLists.{are_inside, ascend, lists_byte}
use Rattle.pe_frame.specs.declared.memory_list.MemoryPiece.{MemoryPiece}
use Rattle.pe_stacks.specs.MemoryRuns.{PutsRuns, end_low, has_rooms}
use Rattle.pe_core.specs.declared.range_index.RangeEntry.{RangeEntry}
use Rattle.calls_base.specs.HandsOut.{result_number}

-- a piece as callers get it: its range ends where the file does, also where all of its bytes are lost
abbrev pub piece_reported : List ℕ → PieceView → DumpPiece
piece_reported b p = record {
  memory = record { start = p.start; offset = min p.offset (length b); length = length p.bytes };
  lost = p.lost;
}

-- the piece that a descriptor leads to
abbrev pub described : List ℕ → MemoryDescriptor → DumpPiece
described b d = piece_reported b (piece b d.start_of_memory_range d.memory.rva d.memory.size)

-- the walk over the pieces of a full dump: past the number of entries and the offset of the first byte
abbrev pub memory64_at : List ℕ → Range → Result Memory64Walk DumpRefusal
memory64_at b r = located b r.offset r.length >>= λ s. memory64_of s >>= λ l.
    Ok (record { entries = record { offset = r.offset + 16; length = r.length - 16 }; next = l.base_rva })

-- the next piece of a walk: its bytes start where those of the piece before it end
abbrev pub memory64_piece : List ℕ → Memory64Walk → Result (Option DumpPiece) Refusal
memory64_piece b w = left_entry 16 b w.entries >>= λ left.
    Ok (option_map (λ e. piece_reported b (piece b (le e 0 8) w.next (le e 8 8))) left)

-- where the bytes of the piece after the next one start; no offset is above 2^64 - 1
abbrev pub offset_after : ℕ → Result (Option (List ℕ)) Refusal → ℕ
offset_after next (Ok (Some e)) = min (next + le e 8 8) (2 ^ 64 - 1)
offset_after next (Ok None) = next
offset_after next (Err refusal) = next

-- the walk after a step
abbrev pub memory64_after : List ℕ → Memory64Walk → Memory64Walk
memory64_after b w = record {
  entries = walk_of 16 b w.entries;
  next = offset_after w.next (left_entry 16 b w.entries);
}

-- ---- which image is that of a module of a dump

-- it has an optional header, and its time stamp and its size are those of the module
abbrev pub fits : Image → DumpModule → Bool
fits i m = not (i.width == 0) && i.time_date_stamp == m.time_date_stamp && i.size_of_image == m.size_of_image

abbrev pub fits_number : Bool → ℕ
fits_number true = DONE
fits_number false = NOTHING

-- ---- the memory of a dump for many walks: in ascending order, and where in the dump the bytes at addresses are

-- by whether the pieces end below offset 2^64, and whether the rooms have room for what is written: else nothing changes
abbrev pub HandsOutRunsIf : Bool → Bool → List MemoryPiece → ℕ → List RangeEntry × List MemoryPiece → List RangeEntry × List MemoryPiece → ℕ × ℕ → Type 0
HandsOutRunsIf true true pieces number old new (before, after) = (number ≡ DONE) × PutsRuns pieces old new (Some after)
HandsOutRunsIf true false pieces number old new (before, after) = (number ≡ ROOM) × (new ≡ old) × (after ≡ before)
HandsOutRunsIf false rooms pieces number old new (before, after) = (number ≡ result_number Short) × (new ≡ old) × (after ≡ before)

abbrev pub HandsOutRuns : List MemoryPiece → ℕ → List RangeEntry × List MemoryPiece → List RangeEntry × List MemoryPiece → ℕ × ℕ → Type 0
HandsOutRuns pieces number old new written = HandsOutRunsIf (end_low pieces) (has_rooms pieces old) pieces number old new written

-- of a piece that has the address of a range what it has of the range; no bytes where no piece has it
abbrev pub part_in : Range → Option MemoryPiece → Range
part_in r None = record { offset = 0; length = 0 }
part_in r (Some p) = record { offset = p.offset + (r.offset - p.start); length = min r.length (p.length - (r.offset - p.start)) }

-- where the bytes of a range of addresses are: of the first piece that has its first address, up to the end of that piece
abbrev pub range_in : List MemoryPiece → Range → Range
range_in pieces r = part_in r (find (lists_byte r.offset) pieces)

-- by whether each piece lies in the memory, whether they ascend, and whether there is room for all: else nothing changes
abbrev pub FindsRangesIf : Bool → Bool → Bool → List MemoryPiece → List Range → ℕ → List Range × List Range → ℕ × ℕ → Type 0
FindsRangesIf true true true pieces asked number (old, new) (before, after) =
    (number ≡ DONE) × (take (length asked) new ≡ map (range_in pieces) asked) × (drop (length asked) new ≡ drop (length asked) old) × (after ≡ length asked)
FindsRangesIf true true false pieces asked number (old, new) (before, after) = (number ≡ ROOM) × (new ≡ old) × (after ≡ before)
FindsRangesIf true false room pieces asked number (old, new) (before, after) = (number ≡ OUT_OF_ORDER) × (new ≡ old) × (after ≡ before)
FindsRangesIf false rises room pieces asked number (old, new) (before, after) = (number ≡ result_number Short) × (new ≡ old) × (after ≡ before)

abbrev pub FindsRanges : List ℕ → List MemoryPiece → List Range → ℕ → List Range × List Range → ℕ × ℕ → Type 0
FindsRanges memory pieces asked number (old, new) written =
    FindsRangesIf (are_inside memory pieces) (ascend pieces) (nat_le (length asked) (length old)) pieces asked number (old, new) written
