-- The first directory of the resources of an image lies in the bytes where a walk over the tree starts.
use Rattle.std.proofs.Common.{◌≡◌, ℕ, ◌+◌, ◌≤◌, Bool, true, List, [], ◌∷◌, length, Option, Some, Result, Ok, arith}
use Rattle.calls_base.proofs.Cited.{inside_if_held, Refusal, outcome, ParseOptions, SectionTable}
use Rattle.pe_core.proofs.Steps.{given, same_inside}
use Rattle.pe_core.specs.declared.byte_range.ByteRange.{ByteRange}
use Rattle.pe_core.specs.declared.data_directories.DataDirectory.{DataDirectory}
use Rattle.pe_resource.specs.Contents.{file_range}
use Rattle.pe_resource.specs.Directories.{directory_at}
use Rattle.pe_resource.specs.LeafPositions.{leaf_start, start_in}
use Rattle.pe_resource.specs.Resources.{FirstDirectoryView, first_directory}
use Rattle.pe_resource.specs.declared.leaf_position.LeafPosition.{LeafPosition}

pub tested : {X : Type 0} (t : Bool) (e : Refusal) (r s : X) → outcome ((t, e) ∷ []) r ≡ Ok s → (t ≡ true) × (r ≡ s)
tested t e r s h = grind (arith, same_inside)

pub some_inside : {X : Type 0} (x y : X) → ◌≡◌ {A = Result (Option X) Refusal} (Ok (Some x)) (Ok (Some y)) → x ≡ y
some_inside x y e = cc

-- the data of the tree start where the RVA of the directory is mapped to
starts_there : (b : List ℕ) (size p : ℕ) (d : Option FirstDirectoryView) (x : ByteRange × LeafPosition) → start_in (file_range b size (Some p)) d ≡ Ok (Some x) → p ≡ x.0.offset
starts_there b size p d x e = grind (arith, given, tested, some_inside)

pub root_is_there : (o : ParseOptions) (b : List ℕ) (d : DataDirectory) (sections : List SectionTable) (unit : ℕ) (x : ByteRange × LeafPosition) → leaf_start o b d sections unit ≡ Ok (Some x) → x.0.offset + 16 ≤ length b
unfolding first_directory directory_at
root_is_there o b d sections unit x e = grind (arith, given, tested, starts_there, inside_if_held)
