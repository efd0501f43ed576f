-- The DBI stream: a header, and the parts whose sizes it has.
use Rattle.std.specs.Prelude.{ℕ, ◌+◌, ◌-◌, ◌*◌, ◌==◌, ◌&&◌, not, List, [], ◌∷◌, nat_le, Option, Some, None, Result, if◌then◌else◌}
use Rattle.pe_core.specs.Bytes.{le, range, holds}
use Rattle.pe_core.specs.Refusals.{outcome}
use Rattle.pe_pdb.specs.Refusals.{PdbRefusal, Short, DbiSignature, DbiVersion, DbiParts}
use Rattle.pe_pdb.specs.declared.dbi.Dbi.{Dbi}
use Rattle.pe_pdb.specs.declared.dbi.DbiHeader.{DbiHeader}
use Rattle.pe_pdb.specs.declared.dbi.TheConstants.{NO_STREAM, SIGNATURE, VERSION}

unfoldable pub dbi_header : List ℕ → DbiHeader
dbi_header b = record {
  version = le b 4 4;
  age = le b 8 4;
  global_stream = le b 12 2;
  build = le b 14 2;
  public_stream = le b 16 2;
  dll_version = le b 18 2;
  symbol_stream = le b 20 2;
  dll_build = le b 22 2;
  modules_size = le b 24 4;
  contributions_size = le b 28 4;
  section_map_size = le b 32 4;
  source_info_size = le b 36 4;
  type_servers_size = le b 40 4;
  mfc_index = le b 44 4;
  debug_header_size = le b 48 4;
  edit_names_size = le b 52 4;
  flags = le b 56 2;
  machine = le b 58 2;
}

-- how many bytes the parts have together
abbrev pub size_of_parts : DbiHeader → ℕ
size_of_parts h =
    h.modules_size + h.contributions_size + h.section_map_size + h.source_info_size + h.type_servers_size + h.edit_names_size + h.debug_header_size

-- what callers see of it
pub record DbiView : Type 0 where
  pub header : DbiHeader
  pub modules : List ℕ
  pub contributions : List ℕ
  pub section_map : List ℕ
  pub source_info : List ℕ
  pub type_servers : List ℕ
  pub edit_names : List ℕ
  pub debug_header : List ℕ

abbrev pub dbi_view : Dbi → DbiView
dbi_view d = record {
  header = d.header;
  modules = d.modules.now;
  contributions = d.contributions.now;
  section_map = d.section_map.now;
  source_info = d.source_info.now;
  type_servers = d.type_servers.now;
  edit_names = d.edit_names.now;
  debug_header = d.debug_header.now;
}

-- the parts after a header, one after the other
abbrev pub dbi_parts : List ℕ → DbiHeader → DbiView
dbi_parts b h = record {
  header = h;
  modules = range b 64 h.modules_size;
  contributions = range b (64 + h.modules_size) h.contributions_size;
  section_map = range b (64 + h.modules_size + h.contributions_size) h.section_map_size;
  source_info = range b (64 + h.modules_size + h.contributions_size + h.section_map_size) h.source_info_size;
  type_servers = range b (64 + h.modules_size + h.contributions_size + h.section_map_size + h.source_info_size) h.type_servers_size;
  edit_names = range b (64 + h.modules_size + h.contributions_size + h.section_map_size + h.source_info_size + h.type_servers_size) h.edit_names_size;
  debug_header = range b (64 + h.modules_size + h.contributions_size + h.section_map_size + h.source_info_size + h.type_servers_size + h.edit_names_size) h.debug_header_size;
}

-- the header of a stream of n bytes that starts with these
abbrev pub dbi_header_of : List ℕ → ℕ → Result DbiHeader PdbRefusal
dbi_header_of b n =
    outcome (
    (holds b 0 64, Short)
    ∷ (le b 0 4 == SIGNATURE, DbiSignature)
    ∷ (nat_le VERSION (le b 4 4), DbiVersion)
    ∷ (nat_le (64 + size_of_parts (dbi_header b)) n, DbiParts) ∷ []
    ) (dbi_header b)

-- where the last part starts, the numbers of streams with tables of the image
abbrev pub debug_start : DbiHeader → ℕ
debug_start h = 64 + (size_of_parts h - h.debug_header_size)

-- the stream that has these bytes
abbrev pub dbi_of : List ℕ → Result DbiView PdbRefusal
dbi_of b =
    outcome (
    (holds b 0 64, Short)
    ∷ (le b 0 4 == SIGNATURE, DbiSignature)
    ∷ (nat_le VERSION (le b 4 4), DbiVersion)
    ∷ (holds b 64 (size_of_parts (dbi_header b)), DbiParts) ∷ []
    ) (dbi_parts b (dbi_header b))

-- the stream with a table, whose numbers have 2 bytes; FFFFh is none
unfoldable pub debug_stream : List ℕ → ℕ → Option ℕ
debug_stream b table = if holds b (2 * table) 2 && not (le b (2 * table) 2 == NO_STREAM) then Some (le b (2 * table) 2) else None
