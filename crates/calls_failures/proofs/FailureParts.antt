-- A failure of headers is the refusal of the call that reads them.
use Rattle.std.proofs.Common.{◌≡◌, ℕ, ◌+◌, ◌-◌, Bool, List, [], ◌∷◌, ◌++◌, Option, Some, None, Result, Ok, Err, refl, subst, arith}
use Rattle.std.specs.Prelude.{◌==◌, ◌||◌, nat_le, if◌then◌else◌}
use Rattle.pe_core.specs.Bytes.{le, holds}
use Rattle.pe_core.specs.Header.{header_at, header_tests, is_pe32_plus, optional_header, optional_header_tests}
use Rattle.pe_core.specs.Options.{is_permissive}
use Rattle.pe_core.specs.Records.{coff_header, dos_header, te_header, windows_fields_32, windows_fields_64}
use Rattle.pe_core.specs.Refusals.{Refusal, Short, BadMagic, HeaderPointer, outcome, ◌>>=◌}
use Rattle.pe_core.specs.Rows.{rows_at}
use Rattle.pe_core.specs.TeImages.{reduced_header, te_header_of, te_tests}
use Rattle.pe_core.specs.declared.options.ParseMode.{ParseMode}
use Rattle.calls_failures.specs.Failures.{Explains, fields_size, first_failure, header_failure, image_failure, optional_failures, or_later, rows_failures, te_failures}
use Rattle.calls_base.specs.HandsOut.{result_number}
use Rattle.calls_base.specs.Images.{image_at, image_info_of}
use Rattle.calls_base.specs.Modes.{mode_of_number}
use Rattle.calls_headers.specs.Headers.{te_image_at, te_image_of}
use Rattle.calls_base.specs.declared.numbers.Failure.{Failure}

-- ---- lists of tests

-- the same tests, each with a refusal and with the failure of its number
abbrev Alike : List (Bool × Refusal) → List (Bool × Failure) → Type 0
Alike [] [] = Unit {0}
Alike [] (f ∷ fs) = ⊥
Alike (t ∷ ts) [] = ⊥
Alike (t ∷ ts) (f ∷ fs) = (t.0 ≡ f.0) × (f.1.result ≡ result_number t.1) × Alike ts fs

one : {X : Type 0} (t u : Bool) (r : Refusal) (f : Failure) (rest : Result X Refusal) (first later : Option Failure) → t ≡ u → f.result ≡ result_number r → Explains rest (or_later first later) →
    Explains (if t then rest else Err r) (or_later (if u then first else Some f) later)
one t u r f rest first later e same more = grind arith

explained : {X : Type 0} (ts us : List (Bool × Refusal)) (fs : List (Bool × Failure)) (later : Option Failure) (x : X) → Alike ts fs → Explains (outcome us x) later →
    Explains (outcome (ts ++ us) x) (or_later (first_failure fs) later)
explained [] us fs later x a e = grind arith
explained (t ∷ ts) us [] later x a e = absurd a
explained (t ∷ ts) us (f ∷ fs) later x a e = one t.0 f.0 t.1 f.1 (outcome (ts ++ us) x) (first_failure fs) later a.0 a.1 (explained ts us fs later x a.2 e)

or_none : (f : Option Failure) → or_later f None ≡ f
or_none f = grind arith

last : {X : Type 0} (ts : List (Bool × Refusal)) (fs : List (Bool × Failure)) (x : X) → ts ++ [] ≡ ts → Alike ts fs → Explains (outcome ts x) (first_failure fs)
last ts fs x same a =
    subst (λ (us : List (Bool × Refusal)). Explains (outcome us x) (first_failure fs)) same
    (subst (λ (f : Option Failure). Explains (outcome (ts ++ []) x) f) (or_none (first_failure fs)) (explained ts [] fs None x a tt))

mapped : {X Y : Type 0} (r : Result X Refusal) (f : Option Failure) (g : X → Y) → Explains r f → Explains (r >>= λ x. Ok (g x)) f
mapped r f g e = grind arith

-- ---- the optional header

count_by : (b : List ℕ) (p : ℕ) (wide : Bool) → is_pe32_plus b p ≡ wide → (optional_header b p).windows_fields.number_of_rva_and_sizes ≡ le b (p + (fields_size b p - 4)) 4
unfolding optional_header windows_fields_32 windows_fields_64
count_by b p wide h = grind arith

fields : {X : Type 0} (b : List ℕ) (p : ℕ) (x : X) → Explains (outcome (optional_header_tests b p) x) (first_failure (optional_failures b p))
unfolding optional_header_tests
fields b p x = grind (arith, last, count_by)

-- ---- all headers

abbrev dos_tests : List ℕ → ParseMode → List (Bool × Refusal)
dos_tests b mode =
    (holds b 0 64, Short)
    ∷ ((dos_header b 0).signature == 0x5A4D, BadMagic)
    ∷ (nat_le 64 (dos_header b 0).pe_pointer || is_permissive mode, HeaderPointer)
    ∷ []

abbrev pe_tests : List ℕ → ℕ → List (Bool × Refusal)
pe_tests b p = (holds b p 4, Short) ∷ (le b p 4 == 0x4550, BadMagic) ∷ (holds b (p + 4) 20, Short) ∷ []

headers : (b : List ℕ) (mode : ParseMode) → Explains (header_at b mode) (header_failure b mode)
unfolding header_at header_tests header_failure dos_header coff_header
headers b mode = grind (arith, explained, fields)

pub failures_of_images : (b : List ℕ) (mode : ℕ) → Explains (image_at b mode) (image_failure b mode)
failures_of_images b mode = mapped (header_at b (mode_of_number mode)) (image_failure b mode) (image_info_of mode) (headers b (mode_of_number mode))

-- ---- section headers

pub failures_of_rows : {X : Type 0} (item : List ℕ → ℕ → X) (b : List ℕ) (p count : ℕ) → Explains (rows_at item 40 b p count) (first_failure (rows_failures b p count))
failures_of_rows item b p count = grind (arith, last)

-- ---- the header of a TE image

pub failures_of_te_images : (b : List ℕ) → Explains (te_image_at b) (first_failure (te_failures b))
unfolding te_header_of te_tests te_failures
failures_of_te_images b =
    mapped (te_header_of b) (first_failure (te_failures b)) te_image_of
    (last (te_tests b) (te_failures b) (reduced_header (te_header b 0)) refl (refl, refl, (refl, refl, (refl, refl, tt))))
