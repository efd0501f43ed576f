-- What strict mode returns, permissive mode returns too.
use Rattle.std.proofs.Common.{◌≡◌, ℕ, Bool, List, Option, None, Result, Ok, Err, rules, arith}
use Rattle.std.specs.Prelude.{nat_lt, if◌then◌else◌}
use Rattle.pe_core.specs.Refusals.{Refusal, DebugSize, DebugBounds, ◌>>=◌}
use Rattle.pe_core.specs.declared.byte_range.ByteRange.{ByteRange}
use Rattle.pe_core.specs.declared.data_directories.DataDirectory.{DataDirectory}
use Rattle.pe_core.specs.declared.options.ParseMode.{ParseMode}
use Rattle.pe_core.specs.declared.options.ParseMode.TheVariants.{Strict, Permissive}
use Rattle.pe_core.specs.declared.options.ParseOptions.{ParseOptions}
use Rattle.pe_core.specs.declared.section_table.SectionTable.{SectionTable}
use Rattle.pe_records.specs.declared.debug.ImageDebugDirectory.{ImageDebugDirectory}
use Rattle.pe_records.specs.DebugDirectory.{directory_range, directory_table}
use Rattle.pe_records.specs.DebugRecords.{DebugFields, Pdb70, Pdb20, pdb70_record, pdb20_record, pdb70_of, pdb20_of, of_entry, records, debug_data}

-- the same options in a mode
abbrev in_mode : ParseMode → ParseOptions → ParseOptions
in_mode mode o = record o { parse_mode = mode }

-- two steps, each of which keeps what it returns
after : {X Y : Type 0} (r s : Result X Refusal) (f g : X → Result Y Refusal) (y : Y) → ((x : X) → r ≡ Ok x → s ≡ Ok x) → ((x : X) → f x ≡ Ok y → g x ≡ Ok y) → (r >>= f) ≡ Ok y → (s >>= g) ≡ Ok y
after r s f g y h k e = grind arith

sized : {X : Type 0} (small : Bool) (there : Result (Option X) Refusal) (x : Option X) → (if small then Err DebugSize else there) ≡ Ok x → (if small then Ok None else there) ≡ Ok x
sized small there x e = grind arith

bounded : (inside : Bool) (x y z : ByteRange) → (if inside then Ok x else Err DebugBounds) ≡ Ok z → if◌then◌else◌ {A = Result ByteRange Refusal} inside (Ok x) (Ok y) ≡ Ok z
bounded inside x y z e = grind arith

strict_range : (o : ParseOptions) (b : List ℕ) (d : DataDirectory) (sections : List SectionTable) (alignment : ℕ) (r : ByteRange) → directory_range (in_mode Strict o) b d sections alignment ≡ Ok r → directory_range (in_mode Permissive o) b d sections alignment ≡ Ok r
unfolding directory_range
strict_range o b d sections alignment r e = grind (arith, bounded)

strict_table : (o : ParseOptions) (b : List ℕ) (d : DataDirectory) (sections : List SectionTable) (alignment : ℕ) (t : List ℕ) → directory_table (in_mode Strict o) b d sections alignment ≡ Ok t → directory_table (in_mode Permissive o) b d sections alignment ≡ Ok t
unfolding directory_table
strict_table o b d sections alignment t e = grind (arith, after, strict_range)

pub strict_pdb70 : (o : ParseOptions) (b : List ℕ) (e : ImageDebugDirectory) (x : Option Pdb70) → pdb70_of (record o { parse_mode = Strict }) b e ≡ Ok x → pdb70_of (record o { parse_mode = Permissive }) b e ≡ Ok x
unfolding pdb70_record
strict_pdb70 o b e x h = sized (nat_lt e.size_of_data 24) _ x h

pub strict_pdb20 : (o : ParseOptions) (b : List ℕ) (e : ImageDebugDirectory) (x : Option Pdb20) → pdb20_of (record o { parse_mode = Strict }) b e ≡ Ok x → pdb20_of (record o { parse_mode = Permissive }) b e ≡ Ok x
unfolding pdb20_record
strict_pdb20 o b e x h = sized (nat_lt e.size_of_data 16) _ x h

of_entry_too : {X : Type 0} (f g : ImageDebugDirectory → Result (Option X) Refusal) → ((e : ImageDebugDirectory) (x : Option X) → f e ≡ Ok x → g e ≡ Ok x) → (entry : Option ImageDebugDirectory) (x : Option X) → of_entry f entry ≡ Ok x → of_entry g entry ≡ Ok x
of_entry_too f g h entry x e = grind arith

strict_records : (o : ParseOptions) (b : List ℕ) (fixup : ℕ) (t : List ℕ) (x : DebugFields) → records (in_mode Strict o) b fixup t ≡ Ok x → records (in_mode Permissive o) b fixup t ≡ Ok x
unfolding records
strict_records o b fixup t x e = search (rules, arith, after, of_entry_too, strict_pdb70, strict_pdb20)

pub strict_debug_data : (o : ParseOptions) (b : List ℕ) (d : DataDirectory) (sections : List SectionTable) (alignment fixup : ℕ) (x : DebugFields) → debug_data (record o { parse_mode = Strict }) b d sections alignment fixup ≡ Ok x → debug_data (record o { parse_mode = Permissive }) b d sections alignment fixup ≡ Ok x
unfolding debug_data
strict_debug_data o b d sections alignment fixup x e = grind (arith, after, strict_table, strict_records)
