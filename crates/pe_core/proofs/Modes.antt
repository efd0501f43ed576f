-- What strict mode accepts, permissive mode accepts too.
use Rattle.std.proofs.Common.{◌≡◌, ℕ, Bool, true, false, List, [], ◌∷◌, Ok}
use Rattle.std.specs.Prelude.{◌||◌, ◌==◌, ◌+◌, nat_le, if◌then◌else◌}
use Rattle.pe_core.specs.Bytes.{le, holds}
use Rattle.pe_core.specs.Records.{dos_header, coff_header}
use Rattle.pe_core.specs.Refusals.{Refusal, Short, BadMagic, HeaderPointer, outcome}
use Rattle.pe_core.specs.Header.{HeaderView, header, header_at, header_tests, optional_header_tests}
use Rattle.pe_core.specs.declared.options.ParseMode.TheVariants.{Strict, Permissive}

-- a third test that is left out
without_third : {Y : Type 0} (s t u : Bool) (i j k : Refusal) (tests : List (Bool × Refusal)) (v o : Y) → outcome ((s, i) ∷ (t, j) ∷ (u || false, k) ∷ tests) v ≡ Ok o → outcome ((s, i) ∷ (t, j) ∷ (u || true, k) ∷ tests) v ≡ Ok o
without_third true true true i j k tests v o e = e
without_third true true false i j k tests v o e = absurd cc
without_third true false u i j k tests v o e = absurd cc
without_third false t u i j k tests v o e = absurd cc

pub strict_header : (b : List ℕ) (h : HeaderView) → header_at b Strict ≡ Ok h → header_at b Permissive ≡ Ok h
unfolding header_at header_tests
strict_header b h e =
    let dos = dos_header b 0 in
    let p = dos.pe_pointer in
    let coff = coff_header b (p + 4) in
    let rest = (holds b p 4, Short) ∷ (le b p 4 == 0x4550, BadMagic) ∷ (holds b (p + 4) 20, Short)
    ∷ (if coff.size_of_optional_header == 0 then [] else optional_header_tests b (p + 24)) in
    without_third (holds b 0 64) (dos.signature == 0x5A4D) (nat_le 64 p) Short BadMagic HeaderPointer rest (header b) h e
