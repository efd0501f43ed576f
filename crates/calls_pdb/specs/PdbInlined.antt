-- What calls return of the inlined functions of a PDB.
use Rattle.std.specs.Prelude.{◌≡◌, ℕ, ◌+◌, ◌-◌, ◌==◌, ◌||◌, Bool, true, false, List, ◌++◌, drop, length, map, nat_le, Option, Some, None, Result, Ok, Err, if◌then◌else◌}
use Rattle.std.specs.Option.{option_map}
use Rattle.pe_core.specs.Refusals.{◌>>=◌}
use Rattle.pe_pdb.specs.Ids.{AreStarts, FunctionIdView, TypesView, function_id_of, record_by, string_id_of, types_of, whole_count}
use Rattle.pe_pdb.specs.Inlinees.{inline_line, inlinee_of}
use Rattle.pe_pdb.specs.InlineStacks.{inline_stack}
use Rattle.pe_pdb.specs.Lines.{SubsectionView, first_of_kind, subsections}
use Rattle.pe_pdb.specs.Refusals.{PdbRefusal}
use Rattle.pe_pdb.specs.Symbols.{Symbol}
use Rattle.pe_pdb.specs.declared.ids.TheConstants.{LF_FUNC_ID, LF_MFUNC_ID, LF_STRING_ID}
use Rattle.pe_pdb.specs.declared.inline_rows.InlineRow.{InlineRow}
use Rattle.pe_pdb.specs.declared.inline_walk.InlineFrame.{InlineFrame}
use Rattle.pe_pdb.specs.declared.inlinee.InlineeLine.{InlineeLine}
use Rattle.pe_pdb.specs.declared.inlinee.SourceLine.{SourceLine}
use Rattle.pe_pdb.specs.declared.inlinee.TheConstants.{DEBUG_S_INLINEELINES}
use Rattle.calls_pdb.specs.PdbIndexes.{up_to}
use Rattle.calls_pdb.specs.Pdbs.{part_of, pdb_number}
use Rattle.calls_base.specs.Ranges.{no_bytes}
use Rattle.calls_pdb.specs.declared.inlined.FunctionName.{FunctionName}
use Rattle.calls_pdb.specs.declared.inlined.PdbInlined.{PdbInlined}
use Rattle.calls_pdb.specs.declared.modules.PdbModule.{PdbModule}
use Rattle.calls_pdb.specs.declared.symbols.PdbSymbol.{PdbSymbol}
use Rattle.calls_base.specs.declared.ranges.Range.{Range}
use Rattle.calls_base.specs.declared.results.TheConstants.{DONE, NOTHING, ROOM}

-- ---- names

-- the text in the record of one, 8 bytes after its start; records start at an offset of their stream
abbrev pub text_from : ℕ → Result (List ℕ) PdbRefusal → Range
text_from p (Ok text) = record { offset = p; length = length text }
text_from p (Err refusal) = no_bytes

abbrev pub text_range : ℕ → Symbol → Range
text_range p s = if s.kind == LF_STRING_ID then text_from (p + s.offset + 8) (string_id_of s.content) else no_bytes

-- the namespace of a record that is there, and is not refused
abbrev pub scope_in : ℕ → Result (Option Symbol) PdbRefusal → Range
scope_in p (Ok (Some s)) = text_range p s
scope_in p (Ok None) = no_bytes
scope_in p (Err refusal) = no_bytes

-- the namespace with an id, by the starts of records
abbrev pub scope_range : TypesView → List ℕ → ℕ → Range
scope_range t starts id = scope_in t.offset (record_by t starts id)

-- the name of a function, 12 bytes after the start of its record; of a member function its class, of another its namespace
abbrev pub name_of : TypesView → List ℕ → Symbol → FunctionIdView → FunctionName
name_of t starts s f = record {
  name = record { offset = t.offset + s.offset + 12; length = length f.name };
  scope = if s.kind == LF_MFUNC_ID then no_bytes else scope_range t starts f.scope;
  class_type = if s.kind == LF_MFUNC_ID then f.scope else 0;
}

abbrev pub function_name : TypesView → List ℕ → Symbol → Result (Option FunctionName) PdbRefusal
function_name t starts s =
    if s.kind == LF_FUNC_ID || s.kind == LF_MFUNC_ID then (function_id_of s.content >>= λ f. Ok (Some (name_of t starts s f))) else Ok None

-- of a record that is there
abbrev pub name_in : TypesView → List ℕ → Option Symbol → Result (Option FunctionName) PdbRefusal
name_in t starts None = Ok None
name_in t starts (Some s) = function_name t starts s

-- the name of the function with an id
abbrev pub id_name : TypesView → List ℕ → ℕ → Result (Option FunctionName) PdbRefusal
id_name t starts id = record_by t starts id >>= name_in t starts

-- of a stream that may be refused
abbrev pub name_found : Result TypesView PdbRefusal → List ℕ → ℕ → Result (Option FunctionName) PdbRefusal
name_found ids starts id = ids >>= λ t. id_name t starts id

-- ---- lines

-- the lines of the inlined functions of a module: the first such subsection
abbrev pub inlinees_at : List ℕ → Range → Result (Option (List ℕ)) PdbRefusal
inlinees_at b r = do
  lines ← part_of b r
  found ← first_of_kind DEBUG_S_INLINEELINES (subsections lines 0)
  Ok (option_map (λ (s : SubsectionView). s.content) found)

-- where a function is in the source, by these
abbrev pub inlinee_from : ℕ → Option (List ℕ) → Result (Option InlineeLine) PdbRefusal
inlinee_from id None = Ok None
inlinee_from id (Some b) = inlinee_of b id

abbrev pub inlinee_in : Result (Option (List ℕ)) PdbRefusal → ℕ → Result (Option InlineeLine) PdbRefusal
inlinee_in inlinees id = inlinees >>= inlinee_from id

-- ---- inlined functions

-- one of which nothing else is known
abbrev pub bare : InlineFrame → PdbInlined
bare f = record {
  name = no_bytes;
  scope = no_bytes;
  id = f.inlinee;
  class_type = 0;
  file = 0;
  line = 0;
  code_offset = (f.row).offset;
  code_size = (f.row).length;
  name_result = NOTHING;
  line_result = NOTHING;
}

-- with its name, if it has one, or why it has none
abbrev pub name_put : PdbInlined → Result (Option FunctionName) PdbRefusal → PdbInlined
name_put x (Ok (Some n)) = record x { name = n.name; scope = n.scope; class_type = n.class_type; name_result = DONE }
name_put x (Ok None) = x
name_put x (Err refusal) = record x { name_result = pdb_number refusal }

abbrev pub source_put : PdbInlined → Option SourceLine → PdbInlined
source_put x None = x
source_put x (Some at) = record x { file = at.file; line = at.line; line_result = DONE }

-- with the line of a row, if it has one, or why it has none
abbrev pub line_put : PdbInlined → InlineRow → Result (Option InlineeLine) PdbRefusal → PdbInlined
line_put x row (Ok (Some i)) = source_put x (inline_line i row)
line_put x row (Ok None) = x
line_put x row (Err refusal) = record x { line_result = pdb_number refusal }

-- one as callers get it: by the lines of inlined functions, the stream of ids and the starts of its records
abbrev pub inlined_by : Result (Option (List ℕ)) PdbRefusal → Result TypesView PdbRefusal → List ℕ → InlineFrame → PdbInlined
inlined_by inlinees ids starts f =
    line_put (name_put (bare f) (name_found ids starts f.inlinee)) f.row (inlinee_in inlinees f.inlinee)

-- those that have an RVA of a procedure, by the symbols of its module
abbrev pub stack_at : List ℕ → PdbModule → PdbSymbol → ℕ → Result (List InlineFrame) PdbRefusal
stack_at b m s rva = up_to b m.symbols >>= λ records. inline_stack records (s.range).offset (rva - s.rva)

-- the same as callers get them
abbrev pub inlined_functions : List ℕ → PdbModule → PdbSymbol → ℕ → List ℕ → List ℕ → Result (List PdbInlined) PdbRefusal
inlined_functions b m s rva ids starts = stack_at b m s rva >>= λ frames. Ok (map (inlined_by (inlinees_at b m.lines) (types_of ids) starts) frames)

-- by whether there is room: these at the start of the room; else it is unchanged
abbrev pub PutsInlinedIf : Bool → List PdbInlined → ℕ → List PdbInlined → List PdbInlined → Type 0
PutsInlinedIf true xs number old new = (number ≡ DONE) × (new ≡ xs ++ drop (length xs) old)
PutsInlinedIf false xs number old new = (number ≡ ROOM) × (new ≡ old)

-- how many there are, whether there is room or not; else the number of the refusal, and all is unchanged
abbrev pub HandsOutInlined : Result (List PdbInlined) PdbRefusal → ℕ → List PdbInlined → List PdbInlined → ℕ → ℕ → Type 0
HandsOutInlined (Ok xs) number old new before written = PutsInlinedIf (nat_le (length xs) (length old)) xs number old new × (written ≡ length xs)
HandsOutInlined (Err refusal) number old new before written = (number ≡ pdb_number refusal) × (new ≡ old) × (written ≡ before)

-- ---- the starts of the records of ids

-- a stream of ids with the number of its records, which are whole
abbrev pub ids_in : List ℕ → Result (TypesView × ℕ) PdbRefusal
ids_in b = types_of b >>= λ t. whole_count t >>= λ n. Ok (t, n)

-- by whether there is room: where each starts, at the start of the room; else it is unchanged
abbrev pub PutsIdsIf : Bool → TypesView → ℕ → ℕ → List ℕ → List ℕ → Type 0
PutsIdsIf true t n number old new = (number ≡ DONE) × AreStarts t.records new n × (length new ≡ length old) × (drop n new ≡ drop n old)
PutsIdsIf false t n number old new = (number ≡ ROOM) × (new ≡ old)

-- how many there are, whether there is room or not; else the number of the refusal, and all is unchanged
abbrev pub HandsOutIds : Result (TypesView × ℕ) PdbRefusal → ℕ → List ℕ → List ℕ → ℕ → ℕ → Type 0
HandsOutIds (Ok x) number old new before written = PutsIdsIf (nat_le x.1 (length old)) x.0 x.1 number old new × (written ≡ x.1)
HandsOutIds (Err refusal) number old new before written = (number ≡ pdb_number refusal) × (new ≡ old) × (written ≡ before)
