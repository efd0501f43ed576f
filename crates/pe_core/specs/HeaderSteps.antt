-- The headers in the order in which the parser reads them. `proofs/Steps` proves that this is `header_at`.
use Rattle.std.specs.Prelude.{ℕ, ◌+◌, ◌==◌, ◌||◌, Bool, Some, None, List, Result, Ok, Err, nat_le, slice_range, if◌then◌else◌}
use Rattle.pe_core.specs.Bytes.{le, record_at}
use Rattle.pe_core.specs.Options.{is_permissive}
use Rattle.pe_core.specs.Refusals.{Refusal, BadMagic, HeaderPointer, ◌>>=◌}
use Rattle.pe_core.specs.Records.{dos_header, coff_header}
use Rattle.pe_core.specs.Header.{HeaderView, optional_header_at}
use Rattle.pe_core.specs.declared.options.ParseMode.{ParseMode}

-- goes on only if the test passes
abbrev pub demand : Bool → Refusal → Result (Unit {0}) Refusal
demand test refusal = if test then Ok tt else Err refusal

-- the headers of these bytes, each read and tested before the next is read
unfoldable pub header_in_steps : List ℕ → ParseMode → Result HeaderView Refusal
header_in_steps b mode = do
  dos ← record_at b 0 64 (dos_header b 0)
  _ ← demand (dos.signature == 0x5A4D) BadMagic
  _ ← demand (nat_le 64 dos.pe_pointer || is_permissive mode) HeaderPointer
  signature ← record_at b dos.pe_pointer 4 (le b dos.pe_pointer 4)
  _ ← demand (signature == 0x4550) BadMagic
  coff ← record_at b (dos.pe_pointer + 4) 20 (coff_header b (dos.pe_pointer + 4))
  optional ← (if coff.size_of_optional_header == 0 then Ok None else (optional_header_at b (dos.pe_pointer + 24) >>= λ o. Ok (Some o)))
  Ok (record { dos_header = dos; dos_stub = slice_range b 64 dos.pe_pointer; signature = signature; coff_header = coff; optional_header = optional })
