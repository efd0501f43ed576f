-- The addresses of modules and of pieces of memory.
use Rattle.std.specs.Prelude.{ℕ, List, length}
use Rattle.pe_minidump.specs.Pieces.{bytes_from}
use Rattle.pe_minidump.specs.declared.address_index.AddressRange.{AddressRange}
use Rattle.pe_minidump.specs.declared.memory.MemoryDescriptor.{MemoryDescriptor}
use Rattle.pe_minidump.specs.declared.module.Module.{Module}

-- those of a module
abbrev pub module_range : Module → AddressRange
module_range m = record { start = m.base_of_image; size = m.size_of_image }

-- those of the bytes that the file has of a piece
abbrev pub piece_range : List ℕ → MemoryDescriptor → AddressRange
piece_range file d = record { start = d.start_of_memory_range; size = length (bytes_from file d.memory.rva d.memory.size) }
