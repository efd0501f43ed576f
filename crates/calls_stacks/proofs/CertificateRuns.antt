-- A walk over certificates returns all that its table lists, and then what refuses the table.
use Rattle.std.proofs.Common.{◌≡◌, ◌≢◌, ℕ, zero, suc, ◌+◌, ◌-◌, ◌<◌, ◌≤◌, ◌==◌, Bool, true, false, List, [], ◌∷◌, ◌++◌, length, map, Option, Some, None, Result, Ok, Err, refl, sym, ap, subst, ◌∙◌, arith}
use Rattle.pe_records.proofs.PartsInOffset.{body_stands}
use Rattle.pe_records.specs.Certificates.{CertificateView, certificate_at, certificates_at}
use Rattle.calls_directories.specs.Certificates.{StepsCertificates, ReportsCertificate, certificate_reported, listed, certificate_step, step_by, walk_from}
use Rattle.calls_unwind.proofs.RecordRanges.{of_offset}
use Rattle.calls_base.specs.Ranges.{no_bytes, IsRange}
use Rattle.std.specs.Prelude.{nat_lt, if◌then◌else◌}
use Rattle.std.specs.List.{AllZip}
use Rattle.std.proofs.lemmas.Bool.Decides.{nat_tests}
use Rattle.pe_core.specs.Bytes.{holds}
use Rattle.pe_core.specs.Gathered.{with_rest}
use Rattle.pe_core.specs.Refusals.{Refusal, CertificateTable, ◌>>=◌}
use Rattle.pe_records.proofs.CertificateListings.{next_above}
use Rattle.calls_directories.proofs.Listings.{at_range, none_from, steps_list}
use Rattle.calls_base.proofs.Runs.{Makes, reports_more, reports_none, reports_refused}
use Rattle.calls_base.specs.Runs.{ReturnsItems, IsOver, ReturnsReported}
use Rattle.calls_directories.specs.declared.directories.certificates.Certificate.{Certificate}
use Rattle.calls_base.specs.declared.ranges.Range.{Range}

-- The ranges that are reported of certificates are their parts.
pub body_is_reported : (b : List ℕ) (p : ℕ) (c : CertificateView) (next : ℕ) → certificate_at b p ≡ Ok (c, next) → IsRange b (certificate_reported p c).body c.body
body_is_reported b p c next e = of_offset b (p + 8) c.body (body_stands b p c next e)

-- ---- one step

abbrev Step : Type 0
Step = Result (Option Certificate) Refusal × Range

step_at_end : (b : List ℕ) (w : Range) → holds b w.offset w.length ≡ true → (w.length == 0) ≡ true → certificate_step b w ≡ (Ok None, w)
unfolding certificate_step
step_at_end b w h e = rw h (rw e refl)

step_outside : (b : List ℕ) (w : Range) → holds b w.offset w.length ≡ false → certificate_step b w ≡ (Err CertificateTable, no_bytes)
unfolding certificate_step
step_outside b w h = rw h refl

step_inside : (b : List ℕ) (w : Range) → holds b w.offset w.length ≡ true → (w.length == 0) ≡ false → certificate_step b w ≡ step_by w (certificate_at b w.offset)
unfolding certificate_step
step_inside b w h e = rw h (rw e refl)

makes : (b : List ℕ) (w v : Range) (given : Result (Option Certificate) Refusal) → certificate_step b w ≡ (given, v) → Makes (StepsCertificates b) w given v
makes b w v given e answer u s = (s.0 ∙ ap (λ (x : Step). x.0) e, s.1 ∙ ap (λ (x : Step). x.1) e)

none_is_over : (b : List ℕ) → IsOver (StepsCertificates b) no_bytes
none_is_over b = makes b no_bytes no_bytes (Ok None) (step_at_end b no_bytes (grind (arith, nat_tests)) refl)

refused_outside : (b : List ℕ) (w : Range) → holds b w.offset w.length ≡ false → listed b w ≡ Err CertificateTable
unfolding certificates_at
refused_outside b w h = rw h refl

-- ---- all steps

-- what a walk returns whose table is listed so
abbrev Returns : List ℕ → Range → Result (List CertificateView) Refusal → Type 0
Returns b = ReturnsReported (StepsCertificates b) (ReportsCertificate b)

refused_with : (b : List ℕ) (w : Range) (r : Refusal) → certificate_step b w ≡ (Err r, no_bytes) → Returns b w (Err r)
refused_with b w r e = reports_refused (StepsCertificates b) (ReportsCertificate b) w no_bytes r (makes b w no_bytes (Err r) e) (none_is_over b)

-- the certificates after the first are put after it
in_front : (c : CertificateView) (rest : Result (List CertificateView) Refusal) → with_rest (c ∷ []) rest ≡ (rest >>= λ cs. Ok (c ∷ cs))
in_front c (Ok cs) = refl
in_front c (Err r) = refl

by_rest : (b : List ℕ) (w : Range) (c : CertificateView) (next : ℕ) (rest : Result (List CertificateView) Refusal) → certificate_at b w.offset ≡ Ok (c, next) →
    certificate_step b w ≡ (Ok (Some (certificate_reported w.offset c)), walk_from w next) → Returns b (walk_from w next) rest → Returns b w (rest >>= λ cs. Ok (c ∷ cs))
by_rest b w c next rest given e more =
    subst (λ (r : Result (List CertificateView) Refusal). Returns b w r) (in_front c rest)
    (reports_more (StepsCertificates b) (ReportsCertificate b) w (walk_from w next) (certificate_reported w.offset c) c rest
    (makes b w (walk_from w next) (Ok (Some (certificate_reported w.offset c))) e) ((w.offset, refl), body_is_reported b w.offset c next given) more)

by_first : (b : List ℕ) (w : Range) (first : Result (CertificateView × ℕ) Refusal) → certificate_at b w.offset ≡ first → certificate_step b w ≡ step_by w first →
    ((c : CertificateView) (next : ℕ) → certificate_at b w.offset ≡ Ok (c, next) → Returns b (walk_from w next) (listed b (walk_from w next))) →
    Returns b w (first >>= λ c. listed b (walk_from w c.1) >>= λ cs. Ok (c.0 ∷ cs))
by_first b w (Ok c) given e more = by_rest b w c.0 c.1 (listed b (walk_from w c.1)) given e (more c.0 c.1 given)
by_first b w (Err r) given e more = refused_with b w r e

-- the walk after a certificate is shorter, and lies in the bytes
further : (b : List ℕ) (w : Range) (next n : ℕ) (before : Bool) → nat_lt next (w.offset + w.length) ≡ before → w.offset < next → w.length ≤ suc n → w.offset + w.length ≤ length b →
    ((v : Range) → v.length ≤ n → v.offset + v.length ≤ length b → Returns b v (listed b v)) →
    Returns b (if before then record { offset = next; length = w.offset + w.length - next } else no_bytes) (listed b (if before then record { offset = next; length = w.offset + w.length - next } else no_bytes))
further b w next n true e above le h more =
    let less : next < w.offset + w.length = grind (arith, nat_tests) in
    more (record { offset = next; length = w.offset + w.length - next }) (omega arith) (omega arith)
further b w next n false e above le h more = more no_bytes (omega arith) (omega arith)

of_none : (b : List ℕ) (w : Range) → w.length ≡ 0 → w.offset + w.length ≤ length b → Returns b w (listed b w)
of_none b w none h =
    let nothing : listed b w ≡ Ok [] = at_range b w.offset w.length h ∙ none_from b (w.offset + w.length) w.length w.offset (omega (arith, none)) in
    let over : IsOver (StepsCertificates b) w = makes b w w (Ok None) (step_at_end b w (grind (arith, nat_tests)) (grind (arith, nat_tests, none))) in
    subst (λ (r : Result (List CertificateView) Refusal). Returns b w r) (sym nothing) (reports_none (StepsCertificates b) (ReportsCertificate b) w w over over)

of_some : (b : List ℕ) (w : Range) (n : ℕ) → (w.length == 0) ≡ false → w.length ≢ 0 → w.length ≤ suc n → w.offset + w.length ≤ length b →
    ((v : Range) → v.length ≤ n → v.offset + v.length ≤ length b → Returns b v (listed b v)) → Returns b w (listed b w)
of_some b w n e some le h more =
    let there : holds b w.offset w.length ≡ true = grind (arith, nat_tests) in
    subst (λ (r : Result (List CertificateView) Refusal). Returns b w r) (sym (steps_list b w some there))
    (by_first b w (certificate_at b w.offset) refl (step_inside b w there e)
    (λ c next given. further b w next n (nat_lt next (w.offset + w.length)) refl (next_above b w.offset c next given) le h more))

by_length : (b : List ℕ) (w : Range) (n k : ℕ) → w.length ≡ k → w.length ≤ suc n → w.offset + w.length ≤ length b →
    ((v : Range) → v.length ≤ n → v.offset + v.length ≤ length b → Returns b v (listed b v)) → Returns b w (listed b w)
by_length b w n zero e le h more = of_none b w e h
by_length b w n (suc k) e le h more = of_some b w n (grind (arith, nat_tests, e)) (λ none. absurd (omega (arith, e, none))) le h more

all : (b : List ℕ) (n : ℕ) (w : Range) → w.length ≤ n → w.offset + w.length ≤ length b → Returns b w (listed b w)
all b zero w le h = of_none b w (omega (arith, le)) h
all b (suc n) w le h = by_length b w n w.length refl le h (λ v shorter inside. all b n v shorter inside)

whole : (b : List ℕ) (w : Range) (inside : Bool) → holds b w.offset w.length ≡ inside → Returns b w (listed b w)
whole b w true h = all b w.length w (omega arith) (grind (arith, nat_tests))
whole b w false h = subst (λ (r : Result (List CertificateView) Refusal). Returns b w r) (sym (refused_outside b w h)) (refused_with b w CertificateTable (step_outside b w h))

pub certificates_in_turn : (b : List ℕ) (w : Range) (cs : List CertificateView) → listed b w ≡ Ok cs →
    (reported : List Certificate) × ReturnsItems (StepsCertificates b) w (map (λ x. Ok x) reported) × AllZip (ReportsCertificate b) reported cs
certificates_in_turn b w cs e = subst (λ (r : Result (List CertificateView) Refusal). Returns b w r) e (whole b w (holds b w.offset w.length) refl)

pub refused_in_turn : (b : List ℕ) (w : Range) (r : Refusal) → listed b w ≡ Err r →
    (reported : List Certificate) × (cs : List CertificateView) × ReturnsItems (StepsCertificates b) w (map (λ x. Ok x) reported ++ Err r ∷ []) × AllZip (ReportsCertificate b) reported cs
refused_in_turn b w r e = subst (λ (x : Result (List CertificateView) Refusal). Returns b w x) e (whole b w (holds b w.offset w.length) refl)
