use Rattle.std.proofs.Common.{◌≡◌, length, refl, ap, Option, Result}
use Rattle.pe_directories.proofs.Cited.{block_view, first_block, blocks_left, first_relocation, relocations_left, page_of, Steps}
use Rattle.pe_directories.proofs.Cited.{RelocationBlock, RelocationBlocks, BaseRelocation, BaseRelocations, DirectoryError}
use Rattle.pe_directories.proofs.WholeWalks.{whole, one_list}
use Rattle.pe_directories.proofs.RelocationWalks.{block_shrinks, relocation_shrinks}
use Rattle.pe_directories.proofs.laws.relocation_walks_return_the_list.Goals as goal

abbrev pub BlockNext : RelocationBlocks → Option (Result RelocationBlock DirectoryError) → RelocationBlocks → Type 0
BlockNext s r t = Steps block_view first_block (blocks_left s) r (blocks_left t)

abbrev pub RelocationNext : BaseRelocations → Option (Result BaseRelocation DirectoryError) → BaseRelocations → Type 0
RelocationNext s r t = Steps (λ x. x) (first_relocation (page_of s)) (relocations_left s) r (relocations_left t) × (page_of t ≡ page_of s)

pub returns : goal.returns
returns c = record {
  blocks = λ s xs d. whole block_view (λ (_ : RelocationBlocks). first_block) blocks_left BlockNext (λ s r t h. (h, refl)) s d.1.0 d.0 xs d.1.1 d.1.2;
  block = one_list length first_block block_shrinks;
  relocations = λ s xs d. whole (λ (x : BaseRelocation). x) (λ (s : BaseRelocations). first_relocation (page_of s)) relocations_left RelocationNext (λ s r t h. (h.0, ap first_relocation h.1)) s d.1.0 d.0 xs d.1.1 d.1.2;
  relocation = λ page. one_list length (first_relocation page) (relocation_shrinks page);
}
