-- Headers are never refused with `Memory`.
use Rattle.std.proofs.Common.{◌≡◌, ℕ, ◌+◌, Bool, true, false, List, [], Err, refl}
use Rattle.std.specs.Prelude.{◌==◌, if◌then◌else◌}
use Rattle.pe_core.specs.Header.{header_at, header_tests, optional_header_tests, header}
use Rattle.pe_core.specs.Records.{coff_header, dos_header}
use Rattle.pe_core.specs.Refusals.{kind_of, IfMemory}
use Rattle.pe_core.specs.declared.error.Error.{Error}
use Rattle.pe_core.specs.declared.options.ParseMode.{ParseMode}
use Rattle.pe_core.proofs.NoMemory.{Lacks, nothing_owed, TestsLack, outcome_lacks}

optional_lacks : (b : List ℕ) (p : ℕ) → TestsLack (optional_header_tests b p)
unfolding optional_header_tests
optional_lacks b p = (refl, (refl, (refl, (refl, tt))))

optional_if : (none : Bool) (b : List ℕ) (p : ℕ) → TestsLack (if none then [] else optional_header_tests b p)
optional_if true b p = tt
optional_if false b p = optional_lacks b p

header_lacks : (b : List ℕ) (mode : ParseMode) → Lacks (header_at b mode)
unfolding header_at header_tests
header_lacks b mode =
    let p = (dos_header b 0).pe_pointer in
    outcome_lacks (header_tests b mode) (header b)
    (refl, (refl, (refl, (refl, (refl, (refl, optional_if ((coff_header b (p + 4)).size_of_optional_header == 0) b (p + 24)))))))

pub header_owes_nothing : (b : List ℕ) (mode : ParseMode) (e : Error) (P : Type 0) → header_at b mode ≡ Err (kind_of e) → IfMemory e P
header_owes_nothing b mode e P given = nothing_owed (header_at b mode) e P (header_lacks b mode) given
