use Rattle.pe_rewrite.proofs.RemovedImages.{away_after, away_before, away_length, away_sections, gone_data, is_away}
use Rattle.pe_rewrite.proofs.laws.last_section_goes.Goals as goal

pub returns : goal.returns
returns c = record {
  length = λ b h t m f is. away_length b h t m f (is_away b h t m f is.target is.room is.file);
  «data» = λ b h t m e. gone_data b h t m e;
  before = λ b h t m f k is. away_before b h t m f k (is_away b h t m f is.target is.room is.file);
  after = λ b h t m f k is. away_after b h t m f k (is_away b h t m f is.target is.room is.file);
  sections = λ b h t m f is. away_sections b h t m f (is_away b h t m f is.target is.room is.file);
}
