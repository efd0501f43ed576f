-- What calls return of the tables that a load configuration leads to, and the walk over the entries of each.
use Rattle.std.specs.Prelude.{◌≡◌, ℕ, ◌+◌, ◌-◌, ◌==◌, ◌||◌, List, length, slice_get, Option, Some, None, Result, Ok, Err, if◌then◌else◌}
use Rattle.std.specs.Option.{unwrap_or}
use Rattle.pe_core.specs.Refusals.{◌>>=◌}
use Rattle.pe_core.specs.declared.section_table.SectionTable.{SectionTable}
use Rattle.pe_directories.specs.DirectoryRefusals.{DirectoryRefusal, of_image}
use Rattle.pe_directories.specs.GuardTables.{Guarded, first_guarded, flag_size, guard_table}
use Rattle.pe_directories.specs.LoadConfig.{load_config}
use Rattle.pe_directories.specs.Walks.{First}
use Rattle.pe_directories.specs.declared.load_config.LoadConfig.{LoadConfig}
use Rattle.calls_base.specs.Directories.{first_of, image_parts, range_left, va_offset}
use Rattle.calls_directories.specs.DirectoryRuns.{StepsBy}
use Rattle.calls_base.specs.Images.{directory, is_absent}
use Rattle.calls_base.specs.Ranges.{IsRange, bytes_at, no_bytes, range_after}
use Rattle.calls_base.specs.Runs.{EachHas, ReturnsItems, read_in_turn}
use Rattle.calls_directories.specs.declared.directories.guard_tables.GuardEntries.{GuardEntries}
use Rattle.calls_directories.specs.declared.directories.guard_tables.GuardEntry.{GuardEntry}
use Rattle.calls_directories.specs.declared.directories.guard_tables.Place.{Place}
use Rattle.calls_base.specs.declared.image.Image as images

-- ---- where a table is

-- the table with this number. Exception handlers have no flags; another number than these is that of no table
abbrev pub place_of : ℕ → LoadConfig → Place
place_of n c =
    if n == 0 then record { va = c.se_handler_table; count = c.se_handler_count; flag_size = 0 }
    else if n == 1 then record { va = c.guard_cf_function_table; count = c.guard_cf_function_count; flag_size = flag_size c }
    else if n == 2 then record { va = c.guard_tables.address_taken_iat_entry_table; count = c.guard_tables.address_taken_iat_entry_count; flag_size = flag_size c }
    else if n == 3 then record { va = c.guard_tables.long_jump_target_table; count = c.guard_tables.long_jump_target_count; flag_size = flag_size c }
    else if n == 4 then record { va = c.guard_tables.eh_continuation_table; count = c.guard_tables.eh_continuation_count; flag_size = flag_size c }
    else record { va = None; count = None; flag_size = 0 }

-- a walk over a table: its bytes are those from its first entry to the end of the bytes. Where its address or the number of its
-- entries is 0 or absent there is none
abbrev pub entries_of : List ℕ → images.Image → (ℕ → List SectionTable) → Place → Result (Option GuardEntries) DirectoryRefusal
entries_of b image may_map p =
    if unwrap_or p.va 0 == 0 || unwrap_or p.count 0 == 0 then Ok None
    else (va_offset b image may_map (unwrap_or p.va 0) >>= λ q. Ok (Some (record {
      entries = record { offset = q; length = length b - q };
      count = unwrap_or p.count 0;
      flag_size = p.flag_size;
      spare = 0;
    })))

-- a walk over the table with this number, if the image has a load configuration and this has the table
abbrev pub guard_table_at : ℕ → List ℕ → images.Image → (ℕ → List SectionTable) → Result (Option GuardEntries) DirectoryRefusal
guard_table_at n b image may_map =
    let d = directory image 10 in
    if is_absent d then Ok None
    else (load_config (image_parts b image (may_map d.virtual_address)) d >>= λ c. entries_of b image may_map (place_of n c))

-- ---- the entries

-- an entry as callers get it, the first of a walk: its flags follow the 4 bytes of its RVA
abbrev pub entry_reported : GuardEntries → Guarded → GuardEntry
entry_reported w x = record {
  flag_bytes = record { offset = w.entries.offset + 4; length = length x.flags };
  rva = x.rva;
  flags = unwrap_or (slice_get x.flags 0) 0;
}

-- a walk that is over
abbrev pub no_entries : GuardEntries
no_entries = record { entries = no_bytes; count = 0; flag_size = 0; spare = 0 }

-- how many entries a walk has left, and the bytes from the next of them on
abbrev pub entries_in : List ℕ → GuardEntries → Result (ℕ × List ℕ) DirectoryRefusal
entries_in b w = of_image (bytes_at b w.entries >>= λ left. Ok (w.count, left))

-- the entry that stands first in a walk
abbrev pub first_entry_in : List ℕ → GuardEntries → First Guarded (ℕ × List ℕ)
first_entry_in b w = first_of (first_guarded w.flag_size) (entries_in b w)

-- the walk after a step: it stays where no entry is left, and is over after a refusal
abbrev pub entries_after : GuardEntries → First Guarded (ℕ × List ℕ) → GuardEntries
entries_after w None = w
entries_after w (Some (Ok x)) = record w { entries = range_left w.entries (length x.1.1); count = x.1.0 }
entries_after w (Some (Err refusal)) = no_entries

abbrev pub StepsGuardEntries : List ℕ → GuardEntries → Result (Option GuardEntry) DirectoryRefusal → GuardEntries → Type 0
StepsGuardEntries b = StepsBy entry_reported (first_entry_in b) entries_after

-- ---- whole walks

-- entries as a walk returns them; each takes its RVA and its flags
abbrev pub after_entry : GuardEntries → Guarded → GuardEntries
after_entry w x = record w { entries = range_after w.entries (4 + w.flag_size); count = w.count - 1 }

abbrev pub entries_reported : GuardEntries → List (Result Guarded DirectoryRefusal) → List (Result GuardEntry DirectoryRefusal)
entries_reported w items = read_in_turn (λ v x. Ok (entry_reported v x)) after_entry w items

-- an entry has this RVA, and the range of its flags is its flags
pub record HasGuarded (b : List ℕ) (y : GuardEntry) (x : Guarded) : Type 0 where
  pub rva : y.rva ≡ x.rva
  pub flags : IsRange b y.flag_bytes x.flags

-- a walk over a table returns what these items report, each with its entry
abbrev pub ReturnsEntries : List ℕ → GuardEntries → List (Result Guarded DirectoryRefusal) → Type 0
ReturnsEntries b w items =
    ReturnsItems (StepsGuardEntries b) w (entries_reported w items) × EachHas (HasGuarded b) (entries_reported w items) items

-- the walk over the table with this number, and as pe_directories defines it the number of its entries and its bytes
pub record StartsEntries (n : ℕ) (b : List ℕ) (image : images.Image) (sections : List SectionTable) (w : GuardEntries) (c : LoadConfig) (s : ℕ × List ℕ) : Type 0 where
  pub started : guard_table_at n b image (λ _. sections) ≡ Ok (Some w)
  pub config : load_config (image_parts b image sections) (directory image 10) ≡ Ok c
  pub read : guard_table (image_parts b image sections) (place_of n c).va (place_of n c).count ≡ Ok (Some s)
