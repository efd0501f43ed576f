-- The CLR header, the metadata root, and the streams of the metadata. (ECMA-335, II.25.3.3 and II.24.2.)
use Rattle.std.specs.Prelude.{ℕ, ◌+◌, ◌-◌, ◌==◌, ◌&&◌, List, [], ◌∷◌, take, drop, position, Option, Some, None, Result, Ok, Err, nat_le, if◌then◌else◌}
use Rattle.std.specs.Option.{option_map}
use Rattle.pe_core.specs.Bytes.{le, range, holds, record_at}
use Rattle.pe_core.specs.Records.{data_directory}
use Rattle.pe_core.specs.Refusals.{Short, BadMagic, outcome, ◌>>=◌}
use Rattle.pe_core.specs.SectionMap.{rounded_up}
use Rattle.pe_core.specs.declared.data_directories.DataDirectory.{DataDirectory}
use Rattle.pe_directories.specs.DirectoryRefusals.{DirectoryRefusal, Image, ClrHeaderSize, StreamName, of_image}
use Rattle.pe_directories.specs.ImageParts.{ImageView, record_of, table_of}
use Rattle.pe_directories.specs.Walks.{First}
use Rattle.pe_directories.specs.declared.clr.ClrHeader.{ClrHeader}
use Rattle.pe_directories.specs.declared.clr.ClrMetadata.{ClrMetadata}
use Rattle.pe_directories.specs.declared.clr.ReadyToRunHeader.{ReadyToRunHeader}
use Rattle.pe_directories.specs.declared.clr.ClrStream.{ClrStream}
use Rattle.pe_directories.specs.declared.clr.ClrStreams.{ClrStreams}
use Rattle.pe_directories.specs.declared.clr.TheConstants.{METADATA_MAGIC, READY_TO_RUN_MAGIC}

-- ---- the header

-- the CLR header, 72 bytes
unfoldable pub clr_header_at : List ℕ → ℕ → ClrHeader
clr_header_at b p = record {
  cb = le b p 4;
  major_runtime_version = le b (p + 4) 2;
  minor_runtime_version = le b (p + 6) 2;
  metadata = data_directory b (p + 8);
  flags = le b (p + 16) 4;
  entry_point_token = le b (p + 20) 4;
  resources = data_directory b (p + 24);
  strong_name_signature = data_directory b (p + 32);
  code_manager_table = data_directory b (p + 40);
  vtable_fixups = data_directory b (p + 48);
  export_address_table_jumps = data_directory b (p + 56);
  managed_native_header = data_directory b (p + 64);
}

-- the CLR header of an image; one that says that it has fewer than 72 bytes is refused
unfoldable pub clr_header : ImageView → DataDirectory → Result ClrHeader DirectoryRefusal
clr_header i d =
    record_of i d.virtual_address 72 >>= λ p. outcome ((nat_le 72 (le i.bytes p 4), ClrHeaderSize) ∷ []) (clr_header_at i.bytes p)

-- ---- code that was compiled ahead of time

-- the ReadyToRun header at the start of a directory: the signature RTR and a zero, a version, flags, the number of sections;
-- none if it has another signature
unfoldable pub ready_to_run_of : List ℕ → Result (Option ReadyToRunHeader) DirectoryRefusal
ready_to_run_of b =
    if holds b 0 4 && le b 0 4 == READY_TO_RUN_MAGIC
    then outcome ((holds b 0 16, Image Short) ∷ []) (Some (record { major_version = le b 4 2; minor_version = le b 6 2; flags = le b 8 4; number_of_sections = le b 12 4 }))
    else Ok None

-- the ReadyToRun header of a CLR header; none where the directory is empty
abbrev pub ready_to_run : ImageView → ClrHeader → Result (Option ReadyToRunHeader) DirectoryRefusal
ready_to_run i h = if h.managed_native_header.size == 0 then Ok None else (table_of i h.managed_native_header >>= ready_to_run_of)

-- ---- the metadata root

-- what callers see of it: also all bytes of the metadata, and those from the first stream header on
pub record Metadata : Type 0 where
  pub major_version : ℕ
  pub minor_version : ℕ
  pub version : List ℕ
  pub flags : ℕ
  pub number_of_streams : ℕ
  pub stream_headers : List ℕ
  pub bytes : List ℕ

-- this metadata root as callers see it
abbrev pub metadata_view : ClrMetadata → Metadata
metadata_view m = record {
  major_version = m.major_version;
  minor_version = m.minor_version;
  version = m.version.now;
  flags = m.flags;
  number_of_streams = m.number_of_streams;
  stream_headers = m.stream_headers.now;
  bytes = m.bytes.now;
}

-- the metadata root at the start of the metadata, whose version text has a field of n bytes
unfoldable pub metadata_at : List ℕ → ℕ → Metadata
metadata_at b n = record {
  major_version = le b 4 2;
  minor_version = le b 6 2;
  version = range b 16 n;
  flags = le b (16 + n) 2;
  number_of_streams = le b (16 + n + 2) 2;
  stream_headers = drop (20 + n) b;
  bytes = b;
}

-- the metadata root: the signature BSJB, versions, the length of the version text, this text, flags, the number of streams
unfoldable pub metadata_of : List ℕ → Result Metadata DirectoryRefusal
metadata_of b =
    outcome (
    (holds b 0 16, Image Short) ∷ (le b 0 4 == METADATA_MAGIC, Image BadMagic) ∷ (holds b 16 (le b 12 4 + 4), Image Short) ∷ []
    ) (metadata_at b (le b 12 4))

-- the metadata root of a CLR header
abbrev pub clr_metadata : ImageView → ClrHeader → Result Metadata DirectoryRefusal
clr_metadata i h = table_of i h.metadata >>= metadata_of

-- ---- the streams

-- what callers see of a stream: its range, from the start of the metadata, and its name
pub record Stream : Type 0 where
  pub offset : ℕ
  pub size : ℕ
  pub name : List ℕ

-- this stream as callers see it
abbrev pub stream_view : ClrStream → Stream
stream_view s = record { offset = s.offset; size = s.size; name = s.name.now }

-- the bytes of a stream header that may hold the name and the zero that ends it
unfoldable pub name_field : List ℕ → List ℕ
name_field b = take 32 (drop 8 b)

-- the length of a name: how many bytes are before the first zero of its field
unfoldable pub name_length : List ℕ → Option ℕ
name_length field = position (λ c. c == 0) field

-- the size of a stream header whose name has n bytes: two numbers, the name, and zeros up to a multiple of 4, one at least
abbrev pub header_size : ℕ → ℕ
header_size n = rounded_up (8 + n + 1) 4

-- the stream at the start of some bytes, whose name has n bytes, and the bytes after its header
abbrev pub named : List ℕ → Option ℕ → Result (Stream × List ℕ) DirectoryRefusal
named b None = Err StreamName
named b (Some n) =
    outcome ((holds b 0 (header_size n), Image Short) ∷ []) (
      record { offset = le b 0 4; size = le b 4 4; name = take n (name_field b) },
      drop (header_size n) b,
    )

-- the stream at the start of some bytes, and the bytes after its header
unfoldable pub stream_of : List ℕ → Result (Stream × List ℕ) DirectoryRefusal
stream_of b = if holds b 0 8 then named b (name_length (name_field b)) else Err (Image Short)

-- the stream that stands first where there are headers of this many streams in some bytes
abbrev pub first_stream : ℕ × List ℕ → First Stream (ℕ × List ℕ)
first_stream s =
    if s.0 == 0 then None
    else Some (stream_of s.1 >>= λ x. Ok (x.0, (s.0 - 1, x.1)))

-- how many streams a walk has left, and the bytes of their headers
abbrev pub streams_left : ClrStreams → Option (ℕ × List ℕ)
streams_left s = option_map (λ b. (s.count, b.now)) s.left

abbrev pub most_streams : Option (ℕ × List ℕ) → ℕ
most_streams None = 0
most_streams (Some s) = s.0

-- the bytes of a stream
abbrev pub stream_bytes : Metadata → Stream → Result (List ℕ) DirectoryRefusal
stream_bytes m s = of_image (record_at m.bytes s.offset s.size (range m.bytes s.offset s.size))
