-- The functions at an RVA, with their lines: one definition, by reading lists from the start. Laws say that lookups by indexes find it.
use Rattle.std.specs.Prelude.{◌≡◌, ℕ, ◌-◌, ◌≤◌, ◌==◌, ◌&&◌, ◌||◌, Bool, true, false, List, [], ◌∷◌, ◌++◌, filter, length, map, nat_le, nat_lt, slice_get, Option, Some, None, Result, Ok, Err, if◌then◌else◌}
use Rattle.std.specs.Option.{option_and_then, option_map, option_to_list}
use Rattle.std.specs.Result.{result_ok, result_unwrap_or}
use Rattle.pe_core.specs.Refusals.{◌>>=◌}
use Rattle.pe_pdb.specs.Checksums.{checksum_at}
use Rattle.pe_pdb.specs.Contributions.{module_at_rva}
use Rattle.pe_pdb.specs.Ids.{AreStarts, TypesView, count_of, function_id_of, start_of, string_id_of}
use Rattle.pe_pdb.specs.InlineStacks.{inline_stack}
use Rattle.pe_pdb.specs.Inlinees.{inline_line, inlinee_of}
use Rattle.pe_pdb.specs.LineEntries.{module_lines}
use Rattle.pe_pdb.specs.LineIndexes.{if_covers}
use Rattle.pe_pdb.specs.Lines.{SubsectionView, first_of_kind, subsections}
use Rattle.pe_pdb.specs.Modules.{name_at}
use Rattle.pe_pdb.specs.Procedures.{Procedure, procedure_of}
use Rattle.pe_pdb.specs.Publics.{Public, public_of}
use Rattle.pe_pdb.specs.Refusals.{PdbRefusal}
use Rattle.pe_pdb.specs.SymbolEntries.{addresses, rva_in}
use Rattle.pe_pdb.specs.SymbolIndexes.{Covering, if_reaches, symbol_address}
use Rattle.pe_pdb.specs.Symbols.{Symbol, symbol_at}
use Rattle.pe_pdb.specs.declared.contribution.ModuleRange.{ModuleRange}
use Rattle.pe_pdb.specs.declared.ids.TheConstants.{LF_FUNC_ID, LF_MFUNC_ID, LF_STRING_ID}
use Rattle.pe_pdb.specs.declared.inline_walk.InlineFrame.{InlineFrame}
use Rattle.pe_pdb.specs.declared.inlinee.SourceLine.{SourceLine}
use Rattle.pe_pdb.specs.declared.inlinee.TheConstants.{DEBUG_S_INLINEELINES}
use Rattle.pe_pdb.specs.declared.line.TheConstants.{DEBUG_S_FILECHKSMS}
use Rattle.pe_pdb.specs.declared.line_entries.CodeLine.{CodeLine}
use Rattle.pe_pdb.specs.declared.symbol_entries.SymbolClass.TheVariants.{PublicFunctions, Procedures}
use Rattle.pe_pdb.specs.declared.symbol_lookup.SymbolAddress.{SymbolAddress}

-- ---- what lists have

-- the item with the greatest key, of several the last
abbrev pub later : {X : Type 0} → (X → ℕ) → X → Option X → Option X
later key x None = Some x
later key x (Some y) = if nat_le (key x) (key y) then Some y else Some x

unfoldable pub greatest : {X : Type 0} → (X → ℕ) → List X → Option X
greatest key [] = None
greatest key (x ∷ more) = later key x (greatest key more)

-- of symbols, by their entries, the last that is at or before an RVA
abbrev pub address_before : ℕ → List ℕ → Option ℕ
address_before rva xs = greatest (λ a. a) (filter (λ a. nat_le (rva_in a) rva) xs)

abbrev pub symbol_before : List ℕ → ℕ → Option SymbolAddress
symbol_before xs rva = option_map symbol_address (address_before rva xs)

-- of procedures, if its code has the RVA
abbrev pub procedure_with : List ℕ → List ℕ → ℕ → Option SymbolAddress
procedure_with xs b rva = if_reaches b rva (symbol_before xs rva)

-- of lines, if its code has the RVA, and it is one
abbrev pub row_before : ℕ → List CodeLine → Option CodeLine
row_before rva xs = greatest (λ x. x.rva) (filter (λ x. nat_le x.rva rva) xs)

abbrev pub line_with : List CodeLine → ℕ → Option CodeLine
line_with xs rva = if_covers rva (row_before rva xs)

-- the record with an id, which follows all those before it
abbrev pub id_record : TypesView → ℕ → Result (Option Symbol) PdbRefusal
id_record t id =
    if nat_le t.first id && nat_lt id t.end then (start_of t.records (id - t.first) >>= λ p. symbol_at t.records p >>= λ s. Ok (Some s)) else Ok None

-- ---- what is read of a PDB

-- of a module: its symbols, with the number before them, and its lines
pub record ModuleParts : Type 0 where
  pub symbols : List ℕ
  pub lines : List ℕ

-- of all: the section headers of the image, which RVAs are of which module, the modules, the public symbols, the texts of the names of
-- source files, and the records of ids
pub record PdbParts : Type 0 where
  pub sections : List ℕ
  pub ranges : List ModuleRange
  pub modules : List ModuleParts
  pub publics : List ℕ
  pub names : List ℕ
  pub ids : TypesView

-- ---- frames

-- where in the source; a column of 0 is none
pub record Source : Type 0 where
  pub file : Option (List ℕ)
  pub line : ℕ
  pub column : ℕ

-- a function, and the line of it; what is refused is as what is not there
pub record Frame : Type 0 where
  pub name : Option (List ℕ)
  pub scope : Option (List ℕ)
  pub source : Option Source
  pub is_inlined : Bool

-- what may be absent, of what may be refused
abbrev pub there : {X : Type 0} → Result (Option X) PdbRefusal → Option X
there found = option_and_then (λ o. o) (result_ok found)

-- the first subsection of a kind
abbrev pub part_with : ℕ → List ℕ → Option (List ℕ)
part_with kind lines = option_map (λ (s : SubsectionView). s.content) (there (first_of_kind kind (subsections lines 0)))

-- a source file, by the offset of its record among those of the module
abbrev pub file_name : List ℕ → ModuleParts → ℕ → Option (List ℕ)
file_name names m file =
    option_and_then (λ files. result_ok (checksum_at files file >>= λ c. name_at names c.name_offset)) (part_with DEBUG_S_FILECHKSMS m.lines)

-- of a procedure, by where its record is, and its line
abbrev pub own_frame : List ℕ → ModuleParts → SymbolAddress → Option CodeLine → Frame
own_frame names m a line = record {
  name = result_ok (symbol_at m.symbols a.record_offset >>= λ s. procedure_of s.content >>= λ (p : Procedure). Ok p.name);
  scope = None;
  source = option_map (λ (x : CodeLine). record { file = file_name names m x.file; line = x.line; column = x.column }) line;
  is_inlined = false;
}

-- the name of a function by its record, and the namespace that it is in, where `records` says which record an id has
abbrev pub id_name : Symbol → Option (List ℕ)
id_name s = if s.kind == LF_FUNC_ID || s.kind == LF_MFUNC_ID then result_ok (function_id_of s.content >>= λ f. Ok f.name) else None

abbrev pub id_text : Symbol → Option (List ℕ)
id_text s = if s.kind == LF_STRING_ID then result_ok (string_id_of s.content) else None

abbrev pub id_scope : (ℕ → Result (Option Symbol) PdbRefusal) → Symbol → Option (List ℕ)
id_scope records s =
    if s.kind == LF_FUNC_ID then option_and_then (λ f. option_and_then id_text (there (records f.scope))) (result_ok (function_id_of s.content)) else None

-- the line of an inlined function
abbrev pub inlined_line : ModuleParts → InlineFrame → Option SourceLine
inlined_line m f =
    option_and_then (λ b. option_and_then (λ i. inline_line i f.row) (there (inlinee_of b f.inlinee))) (part_with DEBUG_S_INLINEELINES m.lines)

abbrev pub inlined_frame : (ℕ → Result (Option Symbol) PdbRefusal) → List ℕ → ModuleParts → InlineFrame → Frame
inlined_frame records names m f = record {
  name = option_and_then id_name (there (records f.inlinee));
  scope = option_and_then (id_scope records) (there (records f.inlinee));
  source = option_map (λ (x : SourceLine). record { file = file_name names m x.file; line = x.line; column = 0 }) (inlined_line m f);
  is_inlined = true;
}

-- the functions that are inlined at an RVA of a procedure, the innermost first, and then the procedure with its line
abbrev pub frames_of : (ℕ → Result (Option Symbol) PdbRefusal) → List ℕ → ModuleParts → ℕ → Option CodeLine → SymbolAddress → List Frame
frames_of records names m rva line a =
    map (inlined_frame records names m) (result_unwrap_or (inline_stack m.symbols a.record_offset (rva - a.rva)) []) ++ own_frame names m a line ∷ []

-- of a public function alone its name is known
abbrev pub public_frame : List ℕ → SymbolAddress → Frame
public_frame b a = record {
  name = result_ok (symbol_at b a.record_offset >>= λ s. public_of s.content >>= λ (p : Public). Ok p.name);
  scope = None;
  source = None;
  is_inlined = false;
}

-- ---- the frames of an RVA

-- the module that has it
abbrev pub module_with : PdbParts → ℕ → Option ModuleParts
module_with p rva = option_and_then (slice_get p.modules) (module_at_rva p.ranges rva)

-- the procedure of the module, and its line
abbrev pub procedure_at : PdbParts → ModuleParts → ℕ → Option SymbolAddress
procedure_at p m rva = option_and_then (λ xs. procedure_with xs m.symbols rva) (result_ok (addresses Procedures m.symbols 4 p.sections))

abbrev pub line_at : PdbParts → ModuleParts → ℕ → Option CodeLine
line_at p m rva = option_and_then (λ xs. line_with xs rva) (result_ok (module_lines p.sections m.lines))

abbrev pub module_frames : PdbParts → ℕ → ModuleParts → Option (List Frame)
module_frames p rva m = option_map (frames_of (id_record p.ids) p.names m rva (line_at p m rva)) (procedure_at p m rva)

-- where no procedure has it, the last public function before it
abbrev pub public_at : PdbParts → ℕ → Option SymbolAddress
public_at p rva = option_and_then (λ xs. symbol_before xs rva) (result_ok (addresses PublicFunctions p.publics 0 p.sections))

abbrev pub frames_or : Option Frame → Option (List Frame) → List Frame
frames_or public (Some frames) = frames
frames_or public None = option_to_list public

-- the frames, the innermost first
abbrev pub frames_at : PdbParts → ℕ → List Frame
frames_at p rva = frames_or (option_map (public_frame p.publics) (public_at p rva)) (option_and_then (module_frames p rva) (module_with p rva))

-- ---- what laws say of them

-- a call found this in a list that may be refused, where nothing is found
abbrev pub FindsIn : {X Y : Type 0} → (List X → Option Y → Type 0) → Result (List X) PdbRefusal → Option Y → Type 0
FindsIn Finds (Ok xs) found = Finds xs found
FindsIn Finds (Err r) found = found ≡ None

-- no procedure of a module has an RVA, if there is one
abbrev pub NoneHas : PdbParts → ℕ → Option ModuleParts → Type 0
NoneHas p rva None = Unit {0}
NoneHas p rva (Some m) = FindsIn (λ xs found. Covering xs m.symbols rva found) (addresses Procedures m.symbols 4 p.sections) None

-- these are the starts of all records of ids
abbrev pub HasStarts : TypesView → List ℕ → Type 0
HasStarts t starts = (count_of t ≤ length starts) × AreStarts t.records starts (count_of t)

-- the same PDB with other parts
abbrev pub with_modules : PdbParts → List ModuleParts → PdbParts
with_modules p modules = record p { modules = modules }

abbrev pub with_ids : PdbParts → TypesView → PdbParts
with_ids p ids = record p { ids = ids }

abbrev pub with_names : PdbParts → List ℕ → PdbParts
with_names p names = record p { names = names }

-- a module with other lines
abbrev pub with_lines : ModuleParts → List ℕ → ModuleParts
with_lines m lines = record m { lines = lines }

-- a frame without what an inlined function is named, without the name of its source file, and without all of the source
abbrev pub unnamed : Frame → Frame
unnamed f = if f.is_inlined then record f { name = None; scope = None } else f

abbrev pub without_file : Frame → Frame
without_file f = record f { source = option_map (λ (s : Source). record s { file = None }) f.source }

abbrev pub without_source : Frame → Frame
without_source f = record f { source = None }
