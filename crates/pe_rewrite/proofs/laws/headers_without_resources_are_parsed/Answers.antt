use Rattle.pe_rewrite.proofs.RemovedImages.{away_headers, gone_fields, is_away, is_stayed, stayed_headers}
use Rattle.pe_rewrite.proofs.laws.headers_without_resources_are_parsed.Goals as goal

pub returns : goal.returns
returns c = record {
  gone = λ mode b h t m f parsed is. away_headers mode b h t m f is.bytes parsed (is_away b h t m f is.target is.room is.file);
  stayed = λ mode b h t f parsed is. stayed_headers mode b h t f parsed (is_stayed b h t is.reason f is.target is.stays is.file);
  fields = λ b h t m e. gone_fields b h t m e;
}
