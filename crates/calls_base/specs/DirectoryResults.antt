-- The results of calls that read directories.
use Rattle.std.specs.Prelude.{◌≡◌, ℕ, Option, Some, None, Result, Ok, Err}
use Rattle.pe_directories.specs.DirectoryRefusals.{DirectoryRefusal, Image, BlockSize, BlockTruncated, NoArgument, VaBelowBase, ClrHeaderSize, StreamName, DelayImportName, BoundImportName, RelocationKind, RelocationOutside}
use Rattle.calls_base.specs.HandsOut.{result_number}
use Rattle.calls_base.specs.declared.results.TheConstants.{DONE, NOTHING}

-- the number of a refusal of a directory, written by tools/make_errors
abbrev pub directory_number : DirectoryRefusal → ℕ
directory_number (Image refusal) = result_number refusal
directory_number BlockSize = 301
directory_number BlockTruncated = 302
directory_number NoArgument = 303
directory_number VaBelowBase = 304
directory_number ClrHeaderSize = 305
directory_number StreamName = 306
directory_number DelayImportName = 307
directory_number BoundImportName = 308
directory_number RelocationKind = 309
directory_number RelocationOutside = 310

-- DONE and the value; NOTHING where there is none; else the number of the refusal. `out` is unchanged without a value
abbrev pub DirectoryHandsOut : {Y : Type 0} → ℕ → Y → Y → Result (Option Y) DirectoryRefusal → Type 0
DirectoryHandsOut number old new (Ok (Some value)) = (number ≡ DONE) × (new ≡ value)
DirectoryHandsOut number old new (Ok None) = (number ≡ NOTHING) × (new ≡ old)
DirectoryHandsOut number old new (Err refusal) = (number ≡ directory_number refusal) × (new ≡ old)
