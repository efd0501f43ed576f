-- The TLS directory, and its callbacks. (PE format: .tls section.)
use Rattle.std.specs.Prelude.{ℕ, ◌+◌, ◌-◌, ◌/◌, ◌%◌, ◌^◌, ◌==◌, ◌||◌, List, Option, Some, None, Result, Ok, if◌then◌else◌}
use Rattle.pe_core.specs.Bytes.{le}
use Rattle.pe_core.specs.Refusals.{◌>>=◌}
use Rattle.pe_core.specs.declared.data_directories.DataDirectory.{DataDirectory}
use Rattle.pe_directories.specs.DirectoryRefusals.{DirectoryRefusal}
use Rattle.pe_directories.specs.ImageParts.{ImageView, record_of, table_at_va}
use Rattle.pe_directories.specs.declared.tls.TlsDirectory.{TlsDirectory}

-- the TLS directory of PE32, 24 bytes
unfoldable pub tls_32 : List ℕ → ℕ → TlsDirectory
tls_32 b p = record {
  start_address_of_raw_data = le b p 4;
  end_address_of_raw_data = le b (p + 4) 4;
  address_of_index = le b (p + 8) 4;
  address_of_callbacks = le b (p + 12) 4;
  size_of_zero_fill = le b (p + 16) 4;
  characteristics = le b (p + 20) 4;
}

-- the TLS directory of PE32+, 40 bytes
unfoldable pub tls_64 : List ℕ → ℕ → TlsDirectory
tls_64 b p = record {
  start_address_of_raw_data = le b p 8;
  end_address_of_raw_data = le b (p + 8) 8;
  address_of_index = le b (p + 16) 8;
  address_of_callbacks = le b (p + 24) 8;
  size_of_zero_fill = le b (p + 32) 4;
  characteristics = le b (p + 36) 4;
}

-- the TLS directory of an image
unfoldable pub tls_directory : ImageView → DataDirectory → Result TlsDirectory DirectoryRefusal
tls_directory i d =
    if i.is_64 then (record_of i d.virtual_address 40 >>= λ p. Ok (tls_64 i.bytes p))
    else (record_of i d.virtual_address 24 >>= λ p. Ok (tls_32 i.bytes p))

-- the alignment of the data in bytes, from bits 20 to 23 of the characteristics: 1 to 14 stand for 1 to 8192
abbrev pub alignment_of : ℕ → Option ℕ
alignment_of characteristics =
    let n : ℕ = characteristics / 2 ^ 20 % 16 in
    if n == 0 || n == 15 then None else Some (2 ^ (n - 1))

-- the table of callbacks of a TLS directory; without an address there is none
unfoldable pub callback_table : ImageView → TlsDirectory → Result (Option (List ℕ)) DirectoryRefusal
callback_table i t =
    if t.address_of_callbacks == 0 then Ok None
    else (table_at_va i t.address_of_callbacks >>= λ table. Ok (Some table))
