use Rattle.pe_rewrite.proofs.RoomImages.{bytes_after, bytes_before, length_moved, more_multiple}
use Rattle.pe_rewrite.proofs.laws.edits_at_the_end_change_no_more.Goals as goal

pub returns : goal.returns
returns c = record {
  length = λ b h xs m f is. length_moved b h xs m f is.bytes is.room is.file;
  multiple = λ b h xs m w e some. more_multiple b h xs m w e some;
  before = λ b h xs m f k is. bytes_before b h xs m f k is.bytes is.room is.file;
  after = λ b h xs m f k is. bytes_after b h xs m f k is.bytes is.room is.file;
}
