use Rattle.pe_rewrite.proofs.RemovedImages.{away_map, away_mapped, is_away}
use Rattle.pe_rewrite.proofs.laws.other_addresses_stay_without_the_section.Goals as goal

pub returns-clause-map : goal.returns-clause-map
returns-clause-map c = λ o b h t m f alignment a is out. away_map b h t m f o.resolve_rva alignment a (is_away b h t m f is.target is.room is.file) out

pub returns-clause-byte : goal.returns-clause-byte
returns-clause-byte c = λ o b h t m f w a q is some resolves out e. away_mapped o b h t m f w a q (is_away b h t m f is.target is.room is.file) some resolves out e
