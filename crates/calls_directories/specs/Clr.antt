-- What calls return of the CLR header, and a walk over the streams of its metadata.
use Rattle.std.specs.Prelude.{ℕ, ◌+◌, List, length, nat_le, Option, Some, None, Result, Ok, Err, if◌then◌else◌}
use Rattle.pe_core.specs.Bytes.{range}
use Rattle.pe_core.specs.Refusals.{◌>>=◌}
use Rattle.pe_core.specs.declared.byte_range.ByteRange.{ByteRange}
use Rattle.pe_core.specs.declared.section_table.SectionTable.{SectionTable}
use Rattle.pe_directories.specs.Clr.{Stream, clr_header, first_stream, metadata_of}
use Rattle.pe_directories.specs.Clr as defined
use Rattle.pe_directories.specs.DirectoryRefusals.{DirectoryRefusal, of_image}
use Rattle.pe_directories.specs.ImageParts.{range_of}
use Rattle.pe_directories.specs.Walks.{First}
use Rattle.pe_directories.specs.declared.clr.ClrHeader.{ClrHeader}
use Rattle.calls_base.specs.Directories.{first_of, if_present, image_parts, range_left}
use Rattle.calls_base.specs.Ranges.{one_if_some, bytes_at, no_bytes, or_no_bytes, range_of as reported}
use Rattle.calls_base.specs.Images.{directory}
use Rattle.calls_directories.specs.declared.directories.clr.Metadata.{Metadata}
use Rattle.calls_directories.specs.declared.directories.clr.MetadataStream.{MetadataStream}
use Rattle.calls_directories.specs.declared.directories.clr.MetadataStreams.{MetadataStreams}
use Rattle.calls_base.specs.declared.image.Image as images
use Rattle.calls_base.specs.declared.ranges.Range.{Range}

-- ---- the header and the metadata root

-- the CLR header of an image, if it has one
abbrev pub clr_header_at : List ℕ → images.Image → List SectionTable → Result (Option ClrHeader) DirectoryRefusal
clr_header_at b image sections = if_present (directory image 14) (clr_header (image_parts b image sections) (directory image 14))

-- a walk over streams that is over
abbrev pub no_streams : MetadataStreams
no_streams = record { metadata = no_bytes; headers = no_bytes; count = 0; spare = 0; spare_too = 0 }

-- a walk over so many streams, whose headers are the last n bytes of the metadata at a range
abbrev pub streams_of : Range → ℕ → ℕ → MetadataStreams
streams_of r count n = record { metadata = r; headers = range_left r n; count = count; spare = 0; spare_too = 0 }

-- the root of the metadata at a range, as callers get it: the version text follows 16 bytes
abbrev pub metadata_reported : Range → defined.Metadata → Metadata
metadata_reported r m = record {
  version = record { offset = r.offset + 16; length = length m.version };
  streams = streams_of r m.number_of_streams (length m.stream_headers);
  major_version = m.major_version;
  minor_version = m.minor_version;
  flags = m.flags;
  spare = 0;
}

-- the metadata root at a range of the bytes
abbrev pub metadata_in : List ℕ → ByteRange → Result (Option Metadata) DirectoryRefusal
metadata_in b r = metadata_of (range b r.offset r.length) >>= λ m. Ok (Some (metadata_reported (reported r) m))

-- the metadata root of a CLR header
abbrev pub clr_metadata_at : List ℕ → images.Image → List SectionTable → ClrHeader → Result (Option Metadata) DirectoryRefusal
clr_metadata_at b image sections h = range_of (image_parts b image sections) h.metadata >>= metadata_in b

-- ---- the streams

-- the range of a stream's bytes, if they are all in the metadata at a range
abbrev pub content_of : Range → Stream → Option Range
content_of r s = if nat_le (s.offset + s.size) r.length then Some (record { offset = r.offset + s.offset; length = s.size }) else None

-- a stream as callers get it, the first of a walk: its name follows the 8 bytes of two numbers
abbrev pub stream_reported : MetadataStreams → Stream → MetadataStream
stream_reported w s = record {
  name = record { offset = w.headers.offset + 8; length = length s.name };
  content = or_no_bytes (content_of w.metadata s);
  offset = s.offset;
  size = s.size;
  has_content = one_if_some (content_of w.metadata s);
  spare = 0;
}

-- how many streams a walk has left, and the bytes of their headers; the metadata are inside the bytes too
abbrev pub streams_in : List ℕ → MetadataStreams → Result (ℕ × List ℕ) DirectoryRefusal
streams_in b w = of_image (bytes_at b w.metadata >>= λ metadata. bytes_at b w.headers >>= λ headers. Ok (w.count, headers))

-- the stream that stands first in a walk
abbrev pub first_stream_in : List ℕ → MetadataStreams → First Stream (ℕ × List ℕ)
first_stream_in b w = first_of first_stream (streams_in b w)

-- the walk after a step: it stays where no stream is left, and is over after a refusal
abbrev pub streams_after : MetadataStreams → First Stream (ℕ × List ℕ) → MetadataStreams
streams_after w None = w
streams_after w (Some (Ok x)) = record w { headers = range_left w.headers (length x.1.1); count = x.1.0 }
streams_after w (Some (Err refusal)) = no_streams
