-- The exception data of an image are of its bytes, and their table is inside of these.
use Rattle.std.proofs.Common.{◌≡◌, ℕ, ◌+◌, ◌/◌, ◌≤◌, Bool, List, length, Option, None, Some, Result, Ok, sym, ap, ◌∙◌, arith}
use Rattle.pe_image.proofs.Cited.{◌==◌, if◌then◌else◌, length_range, Refusal, DataDirectory, ParseOptions, SectionTable}
use Rattle.pe_image.proofs.Cited.{ExceptionView, exception_at, table_of, functions, CoreView, core_of, field, given_value}
use Rattle.pe_image.proofs.Cited.{ImageView, IsImage, directory, alignment}
use Rattle.pe_image.proofs.Permissive.{exceptions_alone}

-- what pe_unwind's law `exception_data_are_of_their_bytes` says
pub record TableLaw : Type 0 where
  pub content : (width : ℕ) (b : List ℕ) (d : DataDirectory) (sections : List SectionTable) (unit : ℕ) (o : ParseOptions) (v : ExceptionView) → exception_at width b d sections unit o ≡ Ok v → v.content ≡ b
  pub alignment : (width : ℕ) (b : List ℕ) (d : DataDirectory) (sections : List SectionTable) (unit : ℕ) (o : ParseOptions) (v : ExceptionView) → exception_at width b d sections unit o ≡ Ok v → v.alignment ≡ unit
  pub inside : (width : ℕ) (b : List ℕ) (d : DataDirectory) (sections : List SectionTable) (unit : ℕ) (o : ParseOptions) (v : ExceptionView) → exception_at width b d sections unit o ≡ Ok v → v.start + v.size ≤ length v.content
  pub entries : (b : List ℕ) → length (functions b) ≡ length b / 12

-- of the bytes, and mapped by the alignment; the table lies in the bytes
abbrev IsOf : List ℕ → ℕ → ExceptionView → Type 0
IsOf b unit v = (v.content ≡ b) × (v.alignment ≡ unit) × (v.start + v.size ≤ length v.content)

-- what holds of exception data by their directory, of entries of either width, holds of those of an image
abbrev OfDirectories : List ℕ → ParseOptions → CoreView → ExceptionView → Type 0 → Type 0
OfDirectories b o c v P = (width : ℕ) (d : DataDirectory) → exception_at width b d c.sections (alignment c.header.optional_header) o ≡ Ok v → P

by_machine : (x64 arm64 : Bool) (r : ℕ → DataDirectory → Result ExceptionView Refusal) (d : Option DataDirectory) (v : ExceptionView) (P : Type 0) → ((width : ℕ) (d : DataDirectory) → r width d ≡ Ok v → P) → given_value (if x64 then field (r 12) d else (if arm64 then field (r 8) d else None)) ≡ Some v → P
by_machine x64 arm64 r d v P f h = grind arith

by_directory : (b : List ℕ) (o : ParseOptions) (c : CoreView) (x : ImageView) (v : ExceptionView) (P : Type 0) → core_of b o ≡ Ok c → IsImage b o (Ok x) → x.exception_data ≡ Some v → OfDirectories b o c v P → P
by_directory b o c x v P h is given f =
    let machine = c.header.coff_header.machine in
    by_machine (machine == 0x8664) (machine == 0xAA64) (λ width d. exception_at width b d c.sections (alignment c.header.optional_header) o) (directory 3 c.header.optional_header) v P f
    (sym (exceptions_alone b o c x h is) ∙ given)

pub exceptions_of_bytes : (law : TableLaw) (b : List ℕ) (o : ParseOptions) (c : CoreView) (x : ImageView) (v : ExceptionView) → core_of b o ≡ Ok c → IsImage b o (Ok x) → x.exception_data ≡ Some v → IsOf b (alignment c.header.optional_header) v
exceptions_of_bytes law b o c x v h is given =
    let unit = alignment c.header.optional_header in
    by_directory b o c x v (IsOf b unit v) h is given (λ width d e. (law.content width b d c.sections unit o v e, law.alignment width b d c.sections unit o v e, law.inside width b d c.sections unit o v e))

pub content_of_bytes : (law : TableLaw) (b : List ℕ) (o : ParseOptions) (c : CoreView) (x : ImageView) (v : ExceptionView) → core_of b o ≡ Ok c → IsImage b o (Ok x) → x.exception_data ≡ Some v → v.content ≡ b
content_of_bytes law b o c x v h is given = (exceptions_of_bytes law b o c x v h is given).0

pub alignment_of_image : (law : TableLaw) (b : List ℕ) (o : ParseOptions) (c : CoreView) (x : ImageView) (v : ExceptionView) → core_of b o ≡ Ok c → IsImage b o (Ok x) → x.exception_data ≡ Some v → v.alignment ≡ alignment c.header.optional_header
alignment_of_image law b o c x v h is given = (exceptions_of_bytes law b o c x v h is given).1

-- its table has so many whole entries of x64
pub entries_of_table : (law : TableLaw) (b : List ℕ) (o : ParseOptions) (c : CoreView) (x : ImageView) (v : ExceptionView) → core_of b o ≡ Ok c → IsImage b o (Ok x) → x.exception_data ≡ Some v → length (functions (table_of v)) ≡ v.size / 12
entries_of_table law b o c x v h is given =
    law.entries (table_of v) ∙ ap (λ n. n / 12) (length_range v.content v.start v.size (exceptions_of_bytes law b o c x v h is given).2)
