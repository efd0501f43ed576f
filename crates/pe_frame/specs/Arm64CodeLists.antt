-- Unwind codes in a list of limited length. Contracts of private functions alone cite it.
use Rattle.std.specs.Prelude.{◌≡◌, List, ◌++◌, take}
use Rattle.pe_unwind.specs.declared.arm64.codes.Arm64UnwindCode.{Arm64UnwindCode}

-- the list after more codes, of which those past its end are left out
abbrev pub extended : List Arm64UnwindCode → List Arm64UnwindCode → List Arm64UnwindCode
extended codes more = take 24 (codes ++ more)

-- the list has these codes after those that it had
abbrev pub Adds : List Arm64UnwindCode → List Arm64UnwindCode → List Arm64UnwindCode → Type 0
Adds old new codes = (more : List Arm64UnwindCode) → extended new more ≡ extended old (codes ++ more)
