-- What walks return until they are over, each the list of the items that are left, and that there is one such list.
use Rattle.std.proofs.Common.{◌≡◌, ℕ, List, length, map, refl, ap, Option, Result}
use Rattle.pe_directories.proofs.Cited.{Drains, stream_view, first_stream, streams_left, directory_answer, guarded_view, first_guarded}
use Rattle.pe_directories.proofs.Cited.{flag_size_of, guarded_left, HasOneList, ItemsLeft, Steps, DirectoryError}
use Rattle.pe_directories.specs.BoundImports.{bound_view, first_bound_import, bound_imports_left}
use Rattle.pe_directories.specs.declared.bound_import.BoundImport.{BoundImport}
use Rattle.pe_directories.specs.declared.bound_import.BoundImports.{BoundImports}
use Rattle.pe_directories.specs.declared.clr.ClrStream.{ClrStream}
use Rattle.pe_directories.specs.declared.clr.ClrStreams.{ClrStreams}
use Rattle.pe_directories.specs.declared.guard_table.GuardEntry.{GuardEntry}
use Rattle.pe_directories.specs.declared.guard_table.GuardTable.{GuardTable}
use Rattle.pe_directories.proofs.OtherWalks.{bound_import_shrinks, count_of, guarded_shrinks, stream_shrinks}
use Rattle.pe_directories.proofs.WholeWalks.{whole, one_list}

abbrev pub NextStream : ClrStreams → Option (Result ClrStream DirectoryError) → ClrStreams → Type 0
NextStream s r t = Steps stream_view first_stream (streams_left s) r (streams_left t)

pub streams : (s : ClrStreams) (xs : List (Result ClrStream DirectoryError)) → Drains NextStream s xs → ItemsLeft first_stream (streams_left s) (map (directory_answer stream_view) xs)
streams s xs d = whole stream_view (λ (_ : ClrStreams). first_stream) streams_left NextStream (λ s r t h. (h, refl)) s d.1.0 d.0 xs d.1.1 d.1.2

pub one_of_streams : HasOneList first_stream
one_of_streams = one_list count_of first_stream stream_shrinks

abbrev pub NextBoundImport : BoundImports → Option (Result BoundImport DirectoryError) → BoundImports → Type 0
NextBoundImport s r t = Steps bound_view first_bound_import (bound_imports_left s) r (bound_imports_left t)

pub bound_imports : (s : BoundImports) (xs : List (Result BoundImport DirectoryError)) → Drains NextBoundImport s xs → ItemsLeft first_bound_import (bound_imports_left s) (map (directory_answer bound_view) xs)
bound_imports s xs d = whole bound_view (λ (_ : BoundImports). first_bound_import) bound_imports_left NextBoundImport (λ s r t h. (h, refl)) s d.1.0 d.0 xs d.1.1 d.1.2

pub one_of_bound_imports : HasOneList first_bound_import
one_of_bound_imports = one_list length first_bound_import bound_import_shrinks

abbrev pub NextGuarded : GuardTable → Option (Result GuardEntry DirectoryError) → GuardTable → Type 0
NextGuarded s r t = Steps guarded_view (first_guarded (flag_size_of s)) (guarded_left s) r (guarded_left t) × (flag_size_of t ≡ flag_size_of s)

pub guarded : (s : GuardTable) (xs : List (Result GuardEntry DirectoryError)) → Drains NextGuarded s xs → ItemsLeft (first_guarded (flag_size_of s)) (guarded_left s) (map (directory_answer guarded_view) xs)
guarded s xs d = whole guarded_view (λ (s : GuardTable). first_guarded (flag_size_of s)) guarded_left NextGuarded (λ s r t h. (h.0, ap first_guarded h.1)) s d.1.0 d.0 xs d.1.1 d.1.2

pub one_of_guarded : (n : ℕ) → HasOneList (first_guarded n)
one_of_guarded n = one_list count_of (first_guarded n) (guarded_shrinks n)
