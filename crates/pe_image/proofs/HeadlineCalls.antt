-- What calls on an image return: lookup in its exception data, and its writers.
use Rattle.std.proofs.Common.{◌≡◌, ℕ, Bool, List, Option, Some, Result, Ok, sym, ap, subst, arith}
use Rattle.pe_image.proofs.Cited.{range, OptionalHeaderView, Refusal, outcome, Error, ParseOptions, SectionTable, ExceptionView}
use Rattle.pe_image.proofs.Cited.{table_of, functions, Finds, NeverFalls, scan, CoreView, core_of, ImageView, IsImage}
use Rattle.pe_image.proofs.Cited.{LeavesOverlay, all_certificate_pieces, all_section_pieces, ReturnsWritten, certificate_directory}
use Rattle.pe_image.proofs.Cited.{certificates_written, image_pieces, image_written, sections_written}
use Rattle.pe_unwind.specs.declared.function_table.RuntimeFunction.{RuntimeFunction}
use Rattle.pe_image.proofs.ExceptionFields.{TableLaw, content_of_bytes}
use Rattle.pe_image.proofs.RewrittenBytes.{value_is}

-- ---- lookup

table_in : (b : List ℕ) (v : ExceptionView) → v.content ≡ b → table_of v ≡ range b v.start v.size
table_in b v same = ap (λ b. range b v.start v.size) same

pub finds_scanned : (law : TableLaw) (b : List ℕ) (o : ParseOptions) (c : CoreView) (x : ImageView) (v : ExceptionView) (a : ℕ) (found : Option RuntimeFunction) → core_of b o ≡ Ok c → IsImage b o (Ok x) → x.exception_data ≡ Some v → Finds (functions (table_of v)) a found → NeverFalls (functions (range b v.start v.size)) → found ≡ scan (functions (range b v.start v.size)) a
finds_scanned law b o c x v a found core is given finds sorted =
    let table : table_of v ≡ range b v.start v.size = table_in b v (content_of_bytes law b o c x v core is given) in
    let here : Finds (functions (range b v.start v.size)) a found = subst (λ t. Finds (functions t) a found) table finds in
    here.scanned sorted

-- ---- writes

left : (tests : List (Bool × Refusal)) (n m : ℕ) (x y : List ℕ) → outcome {Y = ℕ × List ℕ} tests (n, x) ≡ Ok (m, y) → y ≡ x
left tests n m x y h = ap (λ (r : ℕ × List ℕ). r.1) (sym (value_is {Y = ℕ × List ℕ} tests (n, x) (m, y) h))

pub image_leaves : (b old new : List ℕ) (x : ImageView) (h : OptionalHeaderView) (r : Result ℕ Error) → x.header.optional_header ≡ Some h → ReturnsWritten r (image_written b x old) old new → LeavesOverlay (image_pieces b x.header h x.sections x.certificates) r old new
image_leaves b old new x h r there g = grind (arith, left)

pub sections_leave : (b old new : List ℕ) (sections : List SectionTable) (unit : Option ℕ) (offset : ℕ) (r : Result ℕ Error) → ReturnsWritten r (sections_written b sections unit offset old) old new → LeavesOverlay (all_section_pieces b unit offset sections) r old new
sections_leave b old new sections unit offset r g = grind (arith, left)

pub certificates_leave : (old new : List ℕ) (x : ImageView) (h : OptionalHeaderView) (r : Result ℕ Error) → x.header.optional_header ≡ Some h → ReturnsWritten r (certificates_written x old) old new → LeavesOverlay (all_certificate_pieces (certificate_directory h) x.certificates) r old new
certificates_leave old new x h r there g = grind (arith, left)
