-- The `certificate` lines of `list`.
use Rattle.std.specs.Prelude.{ℕ, ◌++◌, List, codes}
use Rattle.std.specs.List.{flat_map}
use Rattle.std.specs.Fmt.{decimal}
use Rattle.pe_records.specs.Certificates.{CertificateView, revision_number, type_number}
use Rattle.peinfo.specs.Hex.{hex}

-- the end of a line, from after the length on
unfoldable pub certificate_line_end : ℕ → ℕ → List ℕ
certificate_line_end revision kind = codes " " ++ hex 4 revision ++ codes " " ++ hex 4 kind ++ codes "\n"

-- a line by its three numbers
unfoldable pub certificate_text : ℕ → ℕ → ℕ → List ℕ
certificate_text size revision kind = codes "certificate " ++ decimal size ++ certificate_line_end revision kind

-- the line of a certificate: its length, and the numbers of its revision and its type
unfoldable pub certificate_line : CertificateView → List ℕ
certificate_line c = certificate_text c.length (revision_number c.revision) (type_number c.certificate_type)

-- a line for each certificate
abbrev pub certificate_lines : List CertificateView → List ℕ
certificate_lines certificates = flat_map certificate_line certificates
