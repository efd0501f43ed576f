-- Exception data are of the bytes that they were read of.
use Rattle.std.proofs.Common.{◌≡◌, ℕ, ◌+◌, ◌≤◌, List, length, Option, Ok, arith}
use Rattle.pe_core.proofs.Ranges.{inside_if_held}
use Rattle.pe_core.specs.declared.data_directories.DataDirectory.{DataDirectory}
use Rattle.pe_core.specs.declared.options.ParseOptions.{ParseOptions}
use Rattle.pe_core.specs.declared.section_table.SectionTable.{SectionTable}
use Rattle.pe_unwind.specs.ExceptionTable.{ExceptionView, exception_at, exception_at_offset}

-- the bytes, and the alignment by which addresses are mapped
abbrev pub IsOf : List ℕ → ℕ → ExceptionView → Type 0
IsOf b unit v = (v.content ≡ b) × (v.alignment ≡ unit)

at_offset : (b : List ℕ) (size unit : ℕ) (offset : Option ℕ) (v : ExceptionView) → exception_at_offset b size unit offset ≡ Ok v → IsOf b unit v
at_offset b size unit offset v h = grind arith

pub in_directory : (width : ℕ) (b : List ℕ) (d : DataDirectory) (sections : List SectionTable) (unit : ℕ) (o : ParseOptions) (v : ExceptionView) → exception_at width b d sections unit o ≡ Ok v → IsOf b unit v
unfolding exception_at
in_directory width b d sections unit o v h = grind (arith, at_offset)

pub content_of_bytes : (width : ℕ) (b : List ℕ) (d : DataDirectory) (sections : List SectionTable) (unit : ℕ) (o : ParseOptions) (v : ExceptionView) → exception_at width b d sections unit o ≡ Ok v → v.content ≡ b
content_of_bytes width b d sections unit o v h = (in_directory width b d sections unit o v h).0

pub alignment_of_image : (width : ℕ) (b : List ℕ) (d : DataDirectory) (sections : List SectionTable) (unit : ℕ) (o : ParseOptions) (v : ExceptionView) → exception_at width b d sections unit o ≡ Ok v → v.alignment ≡ unit
alignment_of_image width b d sections unit o v h = (in_directory width b d sections unit o v h).1

-- ---- the table is inside the bytes

abbrev IsInside : ExceptionView → Type 0
IsInside v = v.start + v.size ≤ length v.content

inside_at_offset : (b : List ℕ) (size unit : ℕ) (offset : Option ℕ) (v : ExceptionView) → exception_at_offset b size unit offset ≡ Ok v → IsInside v
inside_at_offset b size unit offset v h = grind (arith, inside_if_held)

pub inside_directory : (width : ℕ) (b : List ℕ) (d : DataDirectory) (sections : List SectionTable) (unit : ℕ) (o : ParseOptions) (v : ExceptionView) → exception_at width b d sections unit o ≡ Ok v → IsInside v
unfolding exception_at
inside_directory width b d sections unit o v h = grind (arith, inside_at_offset)
