-- The range of an image's function table has the links of the image's exception data.
use Rattle.std.proofs.Common.{◌≡◌, ℕ, List, Some, Ok, arith}
use Rattle.calls_unwind.proofs.Cited.{bytes_there, SectionTable}
use Rattle.calls_unwind.proofs.Cited.{ExceptionView, links_of}
use Rattle.calls_unwind.proofs.Cited.{map_of_image, options_of, exception_table_at, image_exceptions, links_at, Image}
use Rattle.calls_unwind.proofs.Cited.{Range}
use Rattle.pe_unwind.proofs.ExceptionBytes.{in_directory, inside_directory}

-- the image has exception data, of these bytes, whose links are those of the table
abbrev HasLinks : List ℕ → Image → List SectionTable → Range → Type 0
HasLinks b image s table =
    (v : ExceptionView) × (image_exceptions b image s image.mode ≡ Ok v) × (v.content ≡ b) × (links_at (map_of_image image s) b table ≡ Ok (links_of v s (options_of image.mode)))

pub links_of_tables : (b : List ℕ) (image : Image) (s : List SectionTable) (table : Range) → exception_table_at 0x8664 12 b image s image.mode ≡ Ok (Some table) → HasLinks b image s table
unfolding exception_table_at
links_of_tables b image s table h = grind (arith, in_directory, inside_directory, bytes_there)
