-- What calls return of bound imports.
use Rattle.std.specs.Prelude.{ℕ, ◌+◌, List, length, Option, Some, None, Result, Ok, Err}
use Rattle.pe_core.specs.Refusals.{◌>>=◌}
use Rattle.pe_directories.specs.BoundImports.{Bound, bound_forwarder_at, bound_name, bound_table, first_bound_import}
use Rattle.pe_directories.specs.DirectoryRefusals.{DirectoryRefusal, of_image}
use Rattle.pe_directories.specs.Walks.{First}
use Rattle.pe_directories.specs.declared.bound_import.BoundForwarder as forwarders
use Rattle.calls_base.specs.Directories.{first_in, if_present, read_first}
use Rattle.calls_base.specs.Images.{directory}
use Rattle.calls_base.specs.Ranges.{bytes_at, no_bytes}
use Rattle.calls_base.specs.Walks.{next_of, walk_of}
use Rattle.calls_directories.specs.declared.directories.bound_imports.BoundForwarder.{BoundForwarder}
use Rattle.calls_directories.specs.declared.directories.bound_imports.BoundImport.{BoundImport}
use Rattle.calls_base.specs.declared.image.Image.{Image}
use Rattle.calls_base.specs.declared.ranges.Range.{Range}

-- the bytes of the directory as a range, if it is not absent: its RVA is a file offset
abbrev pub bound_imports_at : List ℕ → Image → Result (Option Range) DirectoryRefusal
bound_imports_at b image =
    if_present (directory image 11)
    (bound_table b (directory image 11) >>= λ table. Ok (record { offset = (directory image 11).virtual_address; length = length table }))

-- the range of the name at an offset from the start of the directory, whose bytes are at this range
abbrev pub bound_name_at : List ℕ → Range → ℕ → Result Range DirectoryRefusal
bound_name_at b table offset =
    of_image (bytes_at b table) >>= λ bytes. bound_name bytes offset >>= λ name. Ok (record { offset = table.offset + offset; length = length name })

-- ---- the DLLs

-- a DLL as callers get it: its forwarders follow its 8 bytes
abbrev pub bound_reported : List ℕ → Range → Range → Bound → Result BoundImport DirectoryRefusal
bound_reported b table walk x =
    bound_name_at b table x.name >>= λ name.
    Ok (record { name = name; forwarders = record { offset = walk.offset + 8; length = length x.forwarders }; time_date_stamp = x.time_date_stamp; spare = 0 })

-- the DLL that stands first in a walk
abbrev pub first_bound : List ℕ → Range → Range → First BoundImport (List ℕ)
first_bound b table walk = read_first (bound_reported b table walk) (first_in first_bound_import b walk)

-- ---- the forwarders of a DLL

-- a forwarder as callers get it
abbrev pub forwarder_named : List ℕ → Range → forwarders.BoundForwarder → Result BoundForwarder DirectoryRefusal
forwarder_named b table x = bound_name_at b table x.name >>= λ name. Ok (record { name = name; time_date_stamp = x.time_date_stamp; spare = 0 })

abbrev pub forwarder_reported : List ℕ → Range → Option forwarders.BoundForwarder → Result (Option BoundForwarder) DirectoryRefusal
forwarder_reported b table None = Ok None
forwarder_reported b table (Some x) = forwarder_named b table x >>= λ y. Ok (Some y)

-- the next forwarder of a walk
abbrev pub next_forwarder : List ℕ → Range → Range → Result (Option BoundForwarder) DirectoryRefusal
next_forwarder b table walk = of_image (next_of bound_forwarder_at 8 b walk) >>= forwarder_reported b table

-- the walk after such a step, which is over after a refusal
abbrev pub unless_refused : {X : Type 0} → Result X DirectoryRefusal → Range → Range
unless_refused (Ok x) r = r
unless_refused (Err refusal) r = no_bytes

abbrev pub after_forwarder : List ℕ → Range → Range → Range
after_forwarder b table walk = unless_refused (next_forwarder b table walk) (walk_of 8 b walk)
