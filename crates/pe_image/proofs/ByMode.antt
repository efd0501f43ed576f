-- What a mode makes of resources that are read.
use Rattle.std.proofs.Common.{◌≢◌, ℕ, List, Some, Result, Err, arith}
use Rattle.pe_image.proofs.Cited.{option_map, Vec, Refusal, Memory, ReturnsAs, ReturnsUnlessMemory, answer_by, DataDirectory, Error}
use Rattle.pe_image.proofs.Cited.{ParseMode, ParseOptions, SectionTable, IsResource, resource_view, ResourceData, ListingStarts}
use Rattle.pe_image.proofs.Cited.{Lists, ReturnsResources, MemoryOnlyIf, Lacks, memory_never}
use Rattle.pe_core.specs.Modes.{none_if_refused, none_if_error}
use Rattle.pe_records.specs.declared.certificate_table.AttributeCertificate.{AttributeCertificate}

-- where what the definition returns is known, allocation failure apart
pub gives_by_mode : {X Y : Type 0} (view : X → Y) (mode : ParseMode) (parsed : Result X Error) (defined : Result Y Refusal) → ReturnsAs view parsed defined → ReturnsUnlessMemory (option_map view) (none_if_error mode parsed) (none_if_refused mode defined)
gives_by_mode view mode parsed defined g = grind arith

pub resources_by_mode : (opts : ParseOptions) (b : List ℕ) (sections : List SectionTable) (unit : ℕ) (d : DataDirectory) (parsed : Result ResourceData Error) → IsResource opts b d sections unit (answer_by resource_view parsed) → answer_by resource_view parsed ≢ Err Memory → ReturnsResources opts b sections unit (Some d) (none_if_error opts.parse_mode parsed)
resources_by_mode opts b sections unit d parsed is never = (Some (answer_by resource_view parsed), is, grind arith)

-- ---- memory

-- what is no allocation failure stays none
pub never_by_mode : {X Y : Type 0} (view : X → Y) (mode : ParseMode) (parsed : Result X Error) (defined : Result Y Refusal) → ReturnsAs view parsed defined → Lacks defined → MemoryOnlyIf ⊥ (none_if_error mode parsed)
never_by_mode view mode parsed defined g l = grind (arith, memory_never)

pub never_if_not : {X Y : Type 0} (view : X → Y) (mode : ParseMode) (parsed : Result X Error) → answer_by view parsed ≢ Err Memory → MemoryOnlyIf ⊥ (none_if_error mode parsed)
never_if_not view mode parsed l = grind arith

-- a listing asks for memory once it has begun, in both modes
pub starts_by_mode : {Z : Type 0} (b : List ℕ) (address size : ℕ) (mode : ParseMode) (parsed : Result (Vec AttributeCertificate Z) Error) → Lists b address size parsed → MemoryOnlyIf (ListingStarts b address size) (none_if_error mode parsed)
starts_by_mode b address size mode parsed l = grind arith
