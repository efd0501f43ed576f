-- An image within a limit of imports.
use Rattle.std.proofs.Common.{◌≡◌, ℕ, ◌-◌, ◌^◌, ◌<◌, ◌≤◌, Bool, true, false, List, [], Option, Some, Result, Ok, Err, arith, rules}
use Rattle.pe_image.proofs.Cited.{min, nat_lt, nat_tests, HeaderView, header_at, ImportView, entry_size, Refusal, UnlessMemory}
use Rattle.pe_image.proofs.Cited.{IfMemory, kind_of, ◌>>=◌, section_map, Error, ParseOptions, SectionTable, CoreView, core_of}
use Rattle.pe_image.proofs.Cited.{core_with, export_data_of, exports_of, import_directory, sections_read, ReturnsImage, alignment}
use Rattle.pe_image.proofs.Cited.{directory, is_64, core_if_listed, if_listed, PE, unless_memory, lt_is, lt_is_not}
use Rattle.std.specs.Prelude.{IsOk}
use Rattle.pe_image.specs.Limits.{IsImageWithin, ReturnsImageWithin, import_count, imports_with, number_or_0}
use Rattle.pe_image.specs.LimitSteps.{imported_of, unless_above}
use Rattle.pe_image.proofs.Images.{core_refused}
use Rattle.pe_image.proofs.NoMemory.{header_owes_nothing}
use Rattle.pe_image.proofs.Steps.{unless_more}

-- ---- the test

-- a number up to the greatest usize is above a limit of 32 bits exactly if the number itself is
pub is_above : (most n count : ℕ) → count ≡ min n (2 ^ 64 - 1) → most < count → nat_lt most n ≡ true
is_above most n count is h = lt_is most n (omega (arith, is, h))

pub not_above : (most n count : ℕ) → most < 2 ^ 32 → count ≡ min n (2 ^ 64 - 1) → count ≤ most → nat_lt most n ≡ false
not_above most n count small is h = lt_is_not most n (omega (arith, small, is, h))

pub ruleset above_greatest = (is_above, not_above)

-- ---- the core

none_above : {X : Type 0} (most : Option ℕ) (r : Result X Refusal) → unless_above most 0 r ≡ r
none_above most r = grind (arith, lt_is_not)

-- a limit is tested first, before what it limits is read
pub tested_first : {X : Type 0} (most : Option ℕ) (n : ℕ) (r : Result X Refusal) → unless_above most n r ≡ (unless_above most n (Ok (tt {0})) >>= λ u. r)
tested_first most n r = grind arith

all_limited : (most : Option ℕ) (b : List ℕ) (o : ParseOptions) (header : HeaderView) (sections : List SectionTable)
    → unless_above most (number_or_0 (imports_with b o header.optional_header sections)) (core_with b o header sections)
    ≡ (imported_of true most (section_map o sections (alignment header.optional_header)) (entry_size (is_64 header.optional_header)) b (import_directory o header.optional_header) >>= λ imported.
    Ok (record {
      header = header;
      sections = sections;
      export_data = export_data_of (section_map o sections (alignment header.optional_header)) b (directory 0 header.optional_header);
      exports = exports_of (section_map o sections (alignment header.optional_header)) b (export_data_of (section_map o sections (alignment header.optional_header)) b (directory 0 header.optional_header));
      import_data = imported.0;
      imports = imported.1;
    }))
unfolding core_with imported_of
all_limited most b o header sections = search (rules, arith, none_above)

-- without the imports
dropped : {X : Type 0} (most : Option ℕ) (count : X → ℕ) (found : Result X Refusal) (f : X → Result (List ImportView) Refusal) (make : X × List ImportView → CoreView)
    → ((x : X) (is : List ImportView) → record (make (x, is)) { imports = [] } ≡ make (x, []))
    → core_if_listed false ((found >>= λ x. unless_above most (count x) (f x) >>= λ y. Ok (x, y)) >>= λ both. Ok (make both))
    ≡ ((found >>= λ x. unless_above most (count x) (if_listed false (f x)) >>= λ y. Ok (x, y)) >>= λ both. Ok (make both))
dropped most count found f make same = grind arith

pub limited_core : (listed : Bool) (most : Option ℕ) (b : List ℕ) (o : ParseOptions) (header : HeaderView) (sections : List SectionTable)
    → core_if_listed listed (unless_above most (number_or_0 (imports_with b o header.optional_header sections)) (core_with b o header sections))
    ≡ (imported_of listed most (section_map o sections (alignment header.optional_header)) (entry_size (is_64 header.optional_header)) b (import_directory o header.optional_header) >>= λ imported.
    Ok (record {
      header = header;
      sections = sections;
      export_data = export_data_of (section_map o sections (alignment header.optional_header)) b (directory 0 header.optional_header);
      exports = exports_of (section_map o sections (alignment header.optional_header)) b (export_data_of (section_map o sections (alignment header.optional_header)) b (directory 0 header.optional_header));
      import_data = imported.0;
      imports = imported.1;
    }))
unfolding imported_of
limited_core listed most b o header sections = search (rules, arith, all_limited, dropped)

header_refused : (listed : Bool) (most : Option ℕ) (b : List ℕ) (o : ParseOptions) (e : Refusal) → header_at b o.parse_mode ≡ Err e → core_if_listed listed (unless_above most (import_count b o) (core_of b o)) ≡ Err e
unfolding import_count core_of
header_refused listed most b o e h = grind (arith, none_above)

pub refused_by_header : (listed : Bool) (most : Option ℕ) (b : List ℕ) (o : ParseOptions) (e : Error) → header_at b o.parse_mode ≡ Err (kind_of e) →
    UnlessMemory e (core_if_listed listed (unless_above most (import_count b o) (core_of b o)) ≡ Err (kind_of e)) × IfMemory e (IsOk (sections_read b o))
refused_by_header listed most b o e h = grind (arith, unless_memory, header_refused, header_owes_nothing)

-- ---- the image

-- where there is a core within the limit, there is that core, and no more imports
within_limit : (most n : ℕ) (r : Result CoreView Refusal) (c : CoreView) → unless_above (Some most) n r ≡ Ok c → (n ≤ most) × (r ≡ Ok c)
within_limit most n r c h = grind (arith, nat_tests)

pub core_within : (most : ℕ) (b : List ℕ) (o : ParseOptions) (c : CoreView) → unless_above (Some most) (import_count b o) (core_of b o) ≡ Ok c → core_of b o ≡ Ok c
core_within most b o c h = (within_limit most (import_count b o) (core_of b o) c h).1

pub refused_within_unless : (most : ℕ) (b : List ℕ) (o : ParseOptions) (e : Error) → UnlessMemory e (unless_above (Some most) (import_count b o) (core_of b o) ≡ Err (kind_of e)) → UnlessMemory e (IsImageWithin most b o (Err (kind_of e)))
refused_within_unless most b o e h = grind (arith, unless_more, core_refused, lt_is_not, lt_is)

pub image_within : {Z : Type 0} (most : ℕ) (b : List ℕ) (o : ParseOptions) (c : CoreView) (r : Result (PE Z) Error) → unless_above (Some most) (import_count b o) (core_of b o) ≡ Ok c → ReturnsImage b o r → ReturnsImageWithin most b o r
image_within most b o c r h is = grind (arith, within_limit, unless_more)
