-- Base relocations as calls return them, steps of walks over directories, and what calls return of the lists of pe_directories.
use Rattle.std.specs.Prelude.{◌≡◌, ℕ, ◌+◌, ◌-◌, List, length, map, Option, Result, Ok, Err}
use Rattle.pe_core.specs.Bytes.{range, record_at}
use Rattle.pe_core.specs.Refusals.{Refusal}
use Rattle.pe_directories.specs.BaseRelocations.{Block, first_block, first_relocation}
use Rattle.pe_directories.specs.BoundImports.{Bound, bound_name}
use Rattle.pe_directories.specs.Clr.{Stream, header_size}
use Rattle.pe_directories.specs.DirectoryRefusals.{DirectoryRefusal, of_image}
use Rattle.pe_directories.specs.Walks.{First}
use Rattle.pe_directories.specs.declared.base_relocation.BaseRelocation.{BaseRelocation}
use Rattle.pe_directories.specs.declared.bound_import.BoundForwarder as forwarders
use Rattle.calls_directories.specs.BoundImports.{after_forwarder, bound_reported, first_bound, forwarder_named, next_forwarder}
use Rattle.calls_directories.specs.Clr.{first_stream_in, stream_reported, streams_after}
use Rattle.calls_directories.specs.DelayImports.{first_library_in, first_of_walk, functions_after}
use Rattle.calls_base.specs.Directories.{first_in, first_va_in, left_after, step_of}
use Rattle.calls_base.specs.Ranges.{IsRange, range_after, or_zero}
use Rattle.calls_base.specs.Runs.{read_in_turn, read_items, EachHas, ReturnsItems}
use Rattle.calls_directories.specs.declared.directories.base_relocations.Relocation.{Relocation}
use Rattle.calls_directories.specs.declared.directories.base_relocations.RelocationBlock.{RelocationBlock}
use Rattle.calls_directories.specs.declared.directories.bound_imports.BoundForwarder.{BoundForwarder}
use Rattle.calls_directories.specs.declared.directories.bound_imports.BoundImport.{BoundImport}
use Rattle.calls_directories.specs.declared.directories.clr.MetadataStream.{MetadataStream}
use Rattle.calls_directories.specs.declared.directories.clr.MetadataStreams.{MetadataStreams}
use Rattle.calls_directories.specs.declared.directories.delay_imports.DelayLibrary.{DelayLibrary}
use Rattle.calls_directories.specs.declared.directories.delay_imports.DelayedFunction.{DelayedFunction}
use Rattle.calls_directories.specs.declared.directories.delay_imports.DelayedFunctions.{DelayedFunctions}
use Rattle.calls_base.specs.declared.image.Image as images
use Rattle.calls_base.specs.declared.ranges.Range.{Range}

-- a block of a walk as callers get it: its entries follow its two numbers
abbrev pub block_reported : Range → Block → RelocationBlock
block_reported r x = record {
  entries = record { offset = r.offset + 8; length = length x.entries };
  page_rva = x.page_rva;
  spare = 0;
}

abbrev pub relocation_reported : BaseRelocation → Relocation
relocation_reported x = record { rva = x.rva; kind = x.kind; argument = or_zero x.argument }

-- a step by what stands first in a walk: what it returns of that, and the walk after it
abbrev pub StepsBy : {W X Y S : Type 0} → (W → X → Y) → (W → First X S) → (W → First X S → W) → W → Result (Option Y) DirectoryRefusal → W → Type 0
StepsBy report first after old answer new = (answer ≡ step_of (report old) (first old)) × (new ≡ after old (first old))

-- ---- TLS callbacks

abbrev pub StepsCallbacks : images.Image → List ℕ → Range → Result (Option ℕ) DirectoryRefusal → Range → Type 0
StepsCallbacks image b = StepsBy (λ walk x. x) (first_va_in image b) left_after

-- ---- base relocations

abbrev pub StepsBlocks : List ℕ → Range → Result (Option RelocationBlock) DirectoryRefusal → Range → Type 0
StepsBlocks b = StepsBy block_reported (first_in first_block b) left_after

-- blocks as a walk returns them; each takes 8 bytes and its entries
abbrev pub after_block : Range → Block → Range
after_block walk x = range_after walk (8 + length x.entries)

abbrev pub blocks_reported : Range → List (Result Block DirectoryRefusal) → List (Result RelocationBlock DirectoryRefusal)
blocks_reported walk items = read_in_turn (λ w x. Ok (block_reported w x)) after_block walk items

-- a block of this page, and the range of its entries is its entries
pub record HasBlock (b : List ℕ) (y : RelocationBlock) (x : Block) : Type 0 where
  pub page : y.page_rva ≡ x.page_rva
  pub entries : IsRange b y.entries x.entries

-- a walk over blocks returns what these items report, each with its block
abbrev pub ReturnsBlocks : List ℕ → Range → List (Result Block DirectoryRefusal) → Type 0
ReturnsBlocks b walk items =
    ReturnsItems (StepsBlocks b) walk (blocks_reported walk items) × EachHas (HasBlock b) (blocks_reported walk items) items

abbrev pub StepsRelocations : ℕ → List ℕ → Range → Result (Option Relocation) DirectoryRefusal → Range → Type 0
StepsRelocations page b = StepsBy (λ walk. relocation_reported) (first_in (first_relocation page) b) left_after

abbrev pub relocations_reported : List (Result BaseRelocation DirectoryRefusal) → List (Result Relocation DirectoryRefusal)
relocations_reported items = read_items (λ x. Ok (relocation_reported x)) items

-- ---- metadata streams

abbrev pub StepsStreams : List ℕ → MetadataStreams → Result (Option MetadataStream) DirectoryRefusal → MetadataStreams → Type 0
StepsStreams b = StepsBy stream_reported (first_stream_in b) streams_after

-- streams as a walk returns them; each takes its header
abbrev pub after_stream : MetadataStreams → Stream → MetadataStreams
after_stream walk s = record walk { headers = range_after walk.headers (header_size (length s.name)); count = walk.count - 1 }

abbrev pub streams_reported : MetadataStreams → List (Result Stream DirectoryRefusal) → List (Result MetadataStream DirectoryRefusal)
streams_reported walk items = read_in_turn (λ w s. Ok (stream_reported w s)) after_stream walk items

-- the content of a stream, if it is all in the metadata
abbrev pub HasContent : List ℕ → MetadataStream → Result (List ℕ) Refusal → Type 0
HasContent b y (Ok content) = (y.has_content ≡ 1) × IsRange b y.content content
HasContent b y (Err refusal) = y.has_content ≡ 0

-- the ranges of a stream are its name and its content
pub record HasStream (b metadata : List ℕ) (y : MetadataStream) (s : Stream) : Type 0 where
  pub name : IsRange b y.name s.name
  pub content : HasContent b y (record_at metadata s.offset s.size (range metadata s.offset s.size))

-- a walk over streams of these metadata returns what these items report, each with its stream
abbrev pub ReturnsStreams : List ℕ → List ℕ → MetadataStreams → List (Result Stream DirectoryRefusal) → Type 0
ReturnsStreams b metadata walk items =
    ReturnsItems (StepsStreams b) walk (streams_reported walk items)
    × EachHas (HasStream b metadata) (streams_reported walk items) items

-- ---- delay imports; `offset` maps an RVA to its file offset

abbrev pub StepsDelayLibraries : (ℕ → Option ℕ) → List ℕ → images.Image → Range → Result (Option DelayLibrary) DirectoryRefusal → Range → Type 0
StepsDelayLibraries offset b image old answer new = StepsBy (λ walk x. x) (first_library_in offset b image) left_after old answer new

abbrev pub StepsDelayedFunctions : (ℕ → Option ℕ) → List ℕ → images.Image → DelayedFunctions → Result (Option DelayedFunction) DirectoryRefusal → DelayedFunctions → Type 0
StepsDelayedFunctions offset b image old answer new = StepsBy (λ walk x. x) (first_of_walk offset b image) functions_after old answer new

-- ---- bound imports

abbrev pub StepsBoundImports : List ℕ → Range → Range → Result (Option BoundImport) DirectoryRefusal → Range → Type 0
StepsBoundImports b table = StepsBy (λ walk x. x) (first_bound b table) left_after

-- DLLs as a walk returns them; each takes 8 bytes and its forwarders
abbrev pub after_bound : Range → Bound → Range
after_bound walk x = range_after walk (8 + length x.forwarders)

abbrev pub bounds_reported : List ℕ → Range → Range → List (Result Bound DirectoryRefusal) → List (Result BoundImport DirectoryRefusal)
bounds_reported b table walk items = read_in_turn (bound_reported b table) after_bound walk items

-- the ranges of a DLL are its name in this directory and its forwarders
pub record HasBound (b directory : List ℕ) (y : BoundImport) (x : Bound) : Type 0 where
  pub name : (text : List ℕ) × (bound_name directory x.name ≡ Ok text) × IsRange b y.name text
  pub forwarders : IsRange b y.forwarders x.forwarders

-- a walk over bound imports of the directory in a range returns what these items report, each with its DLL
abbrev pub ReturnsBounds : List ℕ → Range → List ℕ → Range → List (Result Bound DirectoryRefusal) → Type 0
ReturnsBounds b table directory walk items =
    ReturnsItems (StepsBoundImports b table) walk (bounds_reported b table walk items)
    × EachHas (HasBound b directory) (bounds_reported b table walk items) items

abbrev pub StepsForwarders : List ℕ → Range → Range → Result (Option BoundForwarder) DirectoryRefusal → Range → Type 0
StepsForwarders b table old answer new = (answer ≡ next_forwarder b table old) × (new ≡ after_forwarder b table old)

-- forwarders as a walk returns them
abbrev pub forwarders_reported : List ℕ → Range → List (Result forwarders.BoundForwarder Refusal) → List (Result BoundForwarder DirectoryRefusal)
forwarders_reported b table items = read_items (forwarder_named b table) (map of_image items)
