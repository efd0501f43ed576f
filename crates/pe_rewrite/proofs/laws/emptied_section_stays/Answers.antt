use Rattle.pe_rewrite.proofs.RemovedImages.{is_stayed, stayed_bytes, stayed_sections, stayed_size, stayed_zeros}
use Rattle.pe_rewrite.proofs.laws.emptied_section_stays.Goals as goal

pub returns : goal.returns
returns c = record {
  length = λ b h t f is. stayed_size b h t f (is_stayed b h t is.reason f is.target is.stays is.file);
  zeros = λ b h t f k is. stayed_zeros b h t f k (is_stayed b h t is.reason f is.target is.stays is.file);
  bytes = λ b h t f k is. stayed_bytes b h t f k (is_stayed b h t is.reason f is.target is.stays is.file);
  sections = λ b h t f is. stayed_sections b h t f (is_stayed b h t is.reason f is.target is.stays is.file);
}
