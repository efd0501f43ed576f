-- The data directories that an optional header keeps. (PE format: optional header data directories.)
use Rattle.std.specs.Prelude.{ℕ, ◌==◌, ◌&&◌, min, List, take, Option, Some, None, slice_index_or, if◌then◌else◌}
use Rattle.pe_core.specs.Records.{data_directory}
use Rattle.pe_core.specs.Rows.{rows}
use Rattle.pe_core.specs.declared.data_directories.DataDirectory.{DataDirectory}
use Rattle.pe_core.specs.declared.data_directories.DataDirectories.{DataDirectories}

-- the number of directories that are kept: the count, and at most 16
abbrev pub kept : ℕ → ℕ
kept count = min count 16

-- the directories that are kept, from offset p on
abbrev pub directories : List ℕ → ℕ → ℕ → List DataDirectory
directories b p count = rows (data_directory b) 8 p (kept count)

-- the entries that these directories keep
abbrev pub kept_rows : DataDirectories → List DataDirectory
kept_rows d = take d.count d.rows

-- a directory of two zeros, which is absent
abbrev pub absent_directory : DataDirectory
absent_directory = record { virtual_address = 0; size = 0 }

-- the directory with this index, if its entry is kept and is not all zero
abbrev pub present : List DataDirectory → ℕ → Option DataDirectory
present rows number =
    let row = slice_index_or rows number absent_directory in
    if row.virtual_address == 0 && row.size == 0 then None else Some row
