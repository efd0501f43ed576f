-- What the definitions say together.
use Rattle.std.proofs.Common.{◌≡◌, ℕ, Bool, true, false, if◌then◌else◌, List, Option, Some, None, Result, Ok, Err, refl}
use Rattle.pe_core.specs.Header.{HeaderView, header_at}
use Rattle.pe_core.specs.Refusals.{Refusal, ◌>>=◌}
use Rattle.pe_core.specs.Sections.{sections_of}
use Rattle.pe_core.specs.declared.options.ParseOptions.{ParseOptions}
use Rattle.pe_minidump.specs.Dumps.{DumpView}
use Rattle.pe_minidump.specs.Refusals.{DumpRefusal}
use Rattle.pe_minidump.specs.declared.location.Location.{Location}
use Rattle.pe_minidump.specs.declared.module.Module.{Module}
use Rattle.pe_minidump.specs.declared.thread.Thread.{Thread}
use Rattle.pe_stacks.specs.Images.{Fits, ModuleImageView, exceptions_of, image_of, is_image_of}
use Rattle.pe_stacks.specs.ThreadContexts.{context_at, first_of, or_else, raised_at, thread_context}

-- what an image of these headers is, by whether they are those of the module
abbrev parts : List ℕ → ParseOptions → HeaderView → Bool → Result (Option ModuleImageView) Refusal
parts b opts h fits =
    if fits then
    (sections_of b h >>= λ s. exceptions_of b h s opts >>= λ e.
    Ok (Some (record { bytes = b; sections = s; exceptions = e; opts = opts })))
    else Ok None

fits_by : (b : List ℕ) (opts : ParseOptions) (h : HeaderView) (fits : Bool) (i : ModuleImageView) → parts b opts h fits ≡ Ok (Some i) → fits ≡ true
fits_by b opts h true i e = refl
fits_by b opts h false i e = absurd (cc e)

fits_of : (b : List ℕ) (opts : ParseOptions) (m : Module) (i : ModuleImageView) (r : Result HeaderView Refusal) → header_at b opts.parse_mode ≡ r → (r >>= λ h. parts b opts h (is_image_of h m)) ≡ Ok (Some i) → Fits b opts m
fits_of b opts m i (Ok h) is e = (h, is, fits_by b opts h (is_image_of h m) i e)
fits_of b opts m i (Err r) is e = absurd (cc e)

pub fits : (b : List ℕ) (opts : ParseOptions) (m : Module) (i : ModuleImageView) → image_of b opts m ≡ Ok (Some i) → Fits b opts m
fits b opts m i e = fits_of b opts m i (header_at b opts.parse_mode) refl e

module _ {C : Type 0} (read : List ℕ → Result C DumpRefusal) (d : DumpView) (t : Thread) where
  read_first : (r : Result C DumpRefusal) (c : C) (other : Result C DumpRefusal) → r ≡ Ok c → or_else r other ≡ Ok c
  read_first (Ok x) c other e = e
  read_first (Err x) c other e = absurd (cc e)

  raised_by_location : (o : Option Location) (l : Location) (c : C) → o ≡ Some l → context_at read d l ≡ Ok c → first_of (context_at read d) o (context_at read d t.thread_context) ≡ Ok c
  raised_by_location (Some k) l c is e = let same : k ≡ l = cc is in rw same (read_first (context_at read d l) c (context_at read d t.thread_context) e)
  raised_by_location None l c is e = absurd (cc is)

  pub raised : (l : Location) (c : C) → raised_at d t ≡ Some l → context_at read d l ≡ Ok c → thread_context read d t ≡ Ok c
  raised l c is e = raised_by_location (raised_at d t) l c is e

  unread_first : (r : Result C DumpRefusal) (f : DumpRefusal) (other : Result C DumpRefusal) → r ≡ Err f → or_else r other ≡ other
  unread_first (Ok x) f other e = absurd (cc e)
  unread_first (Err x) f other e = refl

  unread_by_location : (o : Option Location) (l : Location) (f : DumpRefusal) → o ≡ Some l → context_at read d l ≡ Err f → first_of (context_at read d) o (context_at read d t.thread_context) ≡ context_at read d t.thread_context
  unread_by_location (Some k) l f is e = let same : k ≡ l = cc is in rw same (unread_first (context_at read d l) f (context_at read d t.thread_context) e)
  unread_by_location None l f is e = absurd (cc is)

  pub unread : (l : Location) (f : DumpRefusal) → raised_at d t ≡ Some l → context_at read d l ≡ Err f → thread_context read d t ≡ context_at read d t.thread_context
  unread l f is e = unread_by_location (raised_at d t) l f is e

  own_by_location : (o : Option Location) → o ≡ None → first_of (context_at read d) o (context_at read d t.thread_context) ≡ context_at read d t.thread_context
  own_by_location None is = refl
  own_by_location (Some k) is = absurd (cc is)

  pub own : raised_at d t ≡ None → thread_context read d t ≡ context_at read d t.thread_context
  own is = own_by_location (raised_at d t) is
