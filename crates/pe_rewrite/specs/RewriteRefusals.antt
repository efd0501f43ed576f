-- What an error of changed resources is, without its numbers and its text.
use Rattle.std.specs.Prelude.{◌≡◌, ℕ, List, Result, Ok, Err}
use Rattle.pe_core.specs.Refusals.{Refusal, kind_of}
use Rattle.pe_edit.specs.EditRefusals.{EditRefusal, edit_kind_of}
use Rattle.pe_rewrite.specs.declared.error.RewriteError.{RewriteError}
use Rattle.pe_rewrite.specs.declared.error.RewriteError.TheVariants as errors

-- the kinds of errors
pub data RewriteRefusal : Type 0 where
  Image : Refusal → RewriteRefusal
  NoDirectory : RewriteRefusal
  Signed : RewriteRefusal
  Leaves : EditRefusal → RewriteRefusal
  Headers : RewriteRefusal
  Alignment : RewriteRefusal
  NoSection : RewriteRefusal
  Section : RewriteRefusal
  SharedSection : RewriteRefusal
  Symbols : RewriteRefusal
  Overlap : RewriteRefusal
  NoRoom : RewriteRefusal
  NoHeaderRoom : RewriteRefusal
  ImageTooLarge : RewriteRefusal
  DebugData : RewriteRefusal

-- the kind of an error
abbrev pub rewrite_kind_of : RewriteError → RewriteRefusal
rewrite_kind_of (errors.Image error) = Image (kind_of error)
rewrite_kind_of (errors.NoDirectory count) = NoDirectory
rewrite_kind_of errors.Signed = Signed
rewrite_kind_of (errors.Leaves error) = Leaves (edit_kind_of error)
rewrite_kind_of (errors.Headers offset) = Headers
rewrite_kind_of (errors.Alignment alignment) = Alignment
rewrite_kind_of (errors.NoSection rva) = NoSection
rewrite_kind_of (errors.Section index) = Section
rewrite_kind_of (errors.SharedSection rva) = SharedSection
rewrite_kind_of (errors.Symbols offset) = Symbols
rewrite_kind_of (errors.Overlap index) = Overlap
rewrite_kind_of (errors.NoRoom needed room) = NoRoom
rewrite_kind_of (errors.NoHeaderRoom offset) = NoHeaderRoom
rewrite_kind_of errors.ImageTooLarge = ImageTooLarge
rewrite_kind_of (errors.DebugData offset) = DebugData

-- the call returned the defined value, or an error of the defined kind
abbrev pub RewriteReturns : {X : Type 0} → Result X RewriteError → Result X RewriteRefusal → Type 0
RewriteReturns (Ok x) defined = defined ≡ Ok x
RewriteReturns (Err e) defined = defined ≡ Err (rewrite_kind_of e)

-- the result of a definition of pe_edit
abbrev pub of_leaves : {X : Type 0} → Result X EditRefusal → Result X RewriteRefusal
of_leaves (Ok x) = Ok x
of_leaves (Err r) = Err (Leaves r)

-- the number returned and the bytes left are the defined ones; a refusal is the defined one, and changes nothing
abbrev pub RewriteReturnsWritten : Result ℕ RewriteError → Result (ℕ × List ℕ) RewriteRefusal → List ℕ → List ℕ → Type 0
RewriteReturnsWritten (Ok n) defined old new = defined ≡ Ok (n, new)
RewriteReturnsWritten (Err e) defined old new = (defined ≡ Err (rewrite_kind_of e)) × (new ≡ old)
