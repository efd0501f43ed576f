-- Indexes of the lines of a module of a PDB, which a caller keeps, and the names of source files. Every list of entries is legal.
use Rattle.std.specs.Prelude.{◌≡◌, ℕ, ◌+◌, Bool, true, false, List, drop, length, nat_le, take, Option, Some, None, Result, Ok, Err}
use Rattle.std.specs.List.Sorted.{IsNonDecreasingBy}
use Rattle.std.specs.Option.{option_map}
use Rattle.pe_core.specs.Refusals.{◌>>=◌}
use Rattle.pe_pdb.specs.Checksums.{checksum_at}
use Rattle.pe_pdb.specs.Frames.{line_with}
use Rattle.pe_pdb.specs.LineEntries.{module_lines}
use Rattle.pe_pdb.specs.LineIndexes.{AreEntries, LineAt}
use Rattle.pe_pdb.specs.LineKeys.{line_key}
use Rattle.pe_pdb.specs.Lines.{SubsectionView, first_of_kind, subsections}
use Rattle.pe_pdb.specs.Modules.{name_at}
use Rattle.pe_pdb.specs.Names.{names_of}
use Rattle.pe_pdb.specs.Refusals.{PdbRefusal}
use Rattle.pe_pdb.specs.SectionHeaders.{headers_of}
use Rattle.pe_pdb.specs.declared.line.TheConstants.{DEBUG_S_FILECHKSMS}
use Rattle.pe_pdb.specs.declared.line_entries.CodeLine.{CodeLine}
use Rattle.pe_pdb.specs.declared.line_entries.LineEntry.{LineEntry}
use Rattle.calls_pdb.specs.Pdbs.{part_of, pdb_number}
use Rattle.calls_base.specs.declared.ranges.Range.{Range}
use Rattle.calls_base.specs.declared.results.TheConstants.{DONE, NOTHING, ROOM}

-- the lines in a range of the stream of a module
abbrev pub indexed_lines : List ℕ → Range → List ℕ → Result (List CodeLine) PdbRefusal
indexed_lines b r sections = do
  headers ← headers_of sections
  lines ← part_of b r
  module_lines headers lines

-- by whether there is room: the entries in ascending order, at the start of the room; else it is unchanged
abbrev pub PutsLinesIf : Bool → List CodeLine → ℕ → List LineEntry → List LineEntry → Type 0
PutsLinesIf true xs number old new =
    (number ≡ DONE) × AreEntries xs (take (length xs) new) × IsNonDecreasingBy line_key (take (length xs) new)
    × (length new ≡ length old) × (drop (length xs) new ≡ drop (length xs) old)
PutsLinesIf false xs number old new = (number ≡ ROOM) × (new ≡ old)

-- how many there are, whether there is room or not; else the number of the refusal, and all is unchanged
abbrev pub HandsOutLines : Result (List CodeLine) PdbRefusal → ℕ → List LineEntry → List LineEntry → ℕ → ℕ → Type 0
HandsOutLines (Ok xs) number old new before written = PutsLinesIf (nat_le (length xs) (length old)) xs number old new × (written ≡ length xs)
HandsOutLines (Err refusal) number old new before written = (number ≡ pdb_number refusal) × (new ≡ old) × (written ≡ before)

-- ---- lookup

-- what is found goes to `out`; without it the number is NOTHING, and `out` is unchanged
abbrev pub HandsOutLine : ℕ → CodeLine → CodeLine → Option CodeLine → Type 0
HandsOutLine number old new None = (number ≡ NOTHING) × (new ≡ old)
HandsOutLine number old new (Some x) = (number ≡ DONE) × (new ≡ x)

-- by entries in ascending order it is the line of the RVA; by others it is left open
abbrev pub FindsLine : List LineEntry → ℕ → ℕ → CodeLine → CodeLine → Type 0
FindsLine index rva number old new =
    (found : Option CodeLine) × (IsNonDecreasingBy line_key index → (xs : List CodeLine) → AreEntries xs index → LineAt xs rva found)
    × HandsOutLine number old new found

-- the same without an index: the line of the RVA, of all rows; or the number of the refusal of one of the subsections
abbrev pub ReadsLine : Result (List CodeLine) PdbRefusal → ℕ → ℕ → CodeLine → CodeLine → Type 0
ReadsLine (Ok xs) rva number old new = HandsOutLine number old new (line_with xs rva)
ReadsLine (Err refusal) rva number old new = (number ≡ pdb_number refusal) × (new ≡ old)

-- ---- source files

-- the content of a subsection, whose kind and size come before it
abbrev pub content_range : SubsectionView → Range
content_range s = record { offset = s.offset + 8; length = length s.content }

-- the source files of a module: the first such subsection
abbrev pub first_files : List (Result SubsectionView PdbRefusal) → Result (Option Range) PdbRefusal
first_files all = first_of_kind DEBUG_S_FILECHKSMS all >>= λ o. Ok (option_map content_range o)

-- in the stream of the module, of which the lines are a range
abbrev pub moved : Range → Range → Range
moved r files = record { offset = r.offset + files.offset; length = files.length }

abbrev pub files_at : List ℕ → Range → Result (Option Range) PdbRefusal
files_at b r = do
  lines ← part_of b r
  files ← first_files (subsections lines 0)
  Ok (option_map (moved r) files)

-- the name of a file, by the offset of its record in the source files of a module; texts of names start after 12 bytes
abbrev pub file_name : List ℕ → Range → List ℕ → ℕ → Result Range PdbRefusal
file_name b r names file = do
  files ← part_of b r
  record_of ← checksum_at files file
  texts ← names_of names
  name ← name_at texts.texts record_of.name_offset
  Ok (record { offset = 12 + record_of.name_offset; length = length name })
