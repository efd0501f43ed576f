-- Headers as pieces.
use Rattle.std.proofs.Common.{◌≡◌, ℕ, ◌+◌, ◌&&◌, length, arith}
use Rattle.pe_image.proofs.Cited.{nat_le, nat_tests, HeaderView, OptionalHeaderView, spell_optional, all_fit, header_pieces}
use Rattle.pe_image.proofs.Cited.{length-bytes_of}
use Rattle.pe_image.proofs.Laid.{length_coff, length_dos}

pub headers_fit : (n : ℕ) (h : HeaderView) (o : OptionalHeaderView) → length h.dos_header.rest ≡ 58 → all_fit n (header_pieces h o) ≡ (nat_le 64 n && (nat_le (64 + length h.dos_stub) n && (nat_le (h.dos_header.pe_pointer + 4) n && (nat_le (h.dos_header.pe_pointer + 24) n && nat_le (h.dos_header.pe_pointer + 24 + length (spell_optional o)) n))))
unfolding header_pieces
headers_fit n h o e = rw (length_dos h.dos_header e, length-bytes_of 4 h.signature, length_coff h.coff_header) (grind (arith, nat_tests))
