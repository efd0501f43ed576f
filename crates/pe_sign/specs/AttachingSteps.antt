-- The steps of attaching and detaching. Only private contracts cite them.
use Rattle.std.specs.Prelude.{◌≡◌, ℕ, ◌+◌, ◌<◌, ◌≤◌, ◌==◌, ◌||◌, not, Bool, true, List, [], ◌∷◌, length, nat_le, Result}
use Rattle.pe_core.specs.Refusals.{CertificateSize, CertificateTable, Short, outcome, ◌>>=◌}
use Rattle.pe_core.specs.Bytes.{le}
use Rattle.pe_core.specs.SectionMap.{rounded_up}
use Rattle.pe_core.specs.Header.{HeaderView}
use Rattle.pe_sign.specs.Attaching.{is_signed, unsigned_length, kept_length, attach_tests, changeable_parts}
use Rattle.pe_sign.specs.SignRefusals.{SignRefusal, Image, NoDirectory, TableNotLast}
use Rattle.pe_sign.specs.declared.attachment.Placement.{Placement}
use Rattle.pe_sign.specs.declared.digest.LeftOut.{LeftOut}

-- the tests of the certificate table of a file of n bytes
abbrev pub table_tests : LeftOut → ℕ → List (Bool × SignRefusal)
table_tests l n =
    (l.directory_entry.length == 8, NoDirectory)
    ∷ (nat_le (l.certificates.offset + l.certificates.length) n, Image CertificateTable)
    ∷ (not (is_signed l) || nat_le n (l.certificates.offset + l.certificates.length), TableNotLast)
    ∷ []

-- the tests of a certificate alone
abbrev pub size_tests : List ℕ → List (Bool × SignRefusal)
size_tests certificate =
    (nat_le 8 (length certificate), Image Short)
    ∷ (nat_le (le certificate 0 4) (length certificate), Image CertificateSize)
    ∷ []

-- the parts of an image to which the certificate can be attached
abbrev pub certified_of : Placement → List ℕ → HeaderView → List ℕ → Result LeftOut SignRefusal
certified_of placement b h certificate =
    changeable_parts b h >>= λ l. outcome (attach_tests placement l certificate (length b)) l

-- in a file of n bytes both fields are before the certificate table, which ends the file
pub record Fits (l : LeftOut) (n : ℕ) : Type 0 where
  pub checksum_size : l.checksum.length ≡ 4
  pub entry_size : l.directory_entry.length ≡ 8
  pub checksum : l.checksum.offset + 4 ≤ unsigned_length l n
  pub entry : l.directory_entry.offset + 8 ≤ unsigned_length l n
  pub inside : unsigned_length l n ≤ n
  pub table_end : is_signed l ≡ true → l.certificates.offset + l.certificates.length ≡ n

-- a certificate of m bytes can be put into such a file
pub record FitsWith (placement : Placement) (l : LeftOut) (n m : ℕ) : Type 0 where
  pub image : Fits l n
  pub small : rounded_up (kept_length placement l n) 8 + rounded_up m 8 < 4294967296
