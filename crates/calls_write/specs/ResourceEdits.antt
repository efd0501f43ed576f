-- What calls return that change resources. A refusal is the number of the error.
use Rattle.std.specs.Prelude.{ℕ, List, Result, map, ◌==◌, not}
use Rattle.pe_core.specs.Refusals.{◌>>=◌, outcome}
use Rattle.pe_edit.specs.EditRefusals.{EditRefusal}
use Rattle.pe_edit.specs.EditRefusals as edits
use Rattle.pe_edit.specs.RecordRefusals.{RecordRefusal, record_tests}
use Rattle.pe_edit.specs.RecordRefusals as records
use Rattle.pe_edit.specs.Views.{record_leaf}
use Rattle.pe_edit.specs.declared.record.ResourceRecord.{ResourceRecord}
use Rattle.pe_rewrite.specs.Edited.{edited_of}
use Rattle.pe_rewrite.specs.RewriteRefusals.{RewriteRefusal}
use Rattle.pe_rewrite.specs.RewriteRefusals as rewrites
use Rattle.calls_base.specs.HandsOut.{result_number}
use Rattle.calls_write.specs.Signing.{headers_numbered}
use Rattle.calls_base.specs.WrittenFiles.{numbered}
use Rattle.calls_base.specs.declared.image.Image as images
use Rattle.pe_version.specs.VersionRefusals.{VersionRefusal, block_of}
use Rattle.pe_version.specs.VersionRefusals as versions
use Rattle.pe_version.specs.WrittenBlocks.{BlockValue}

-- the numbers of refusals, written by tools/make_errors
abbrev pub edit_number : EditRefusal → ℕ
edit_number (edits.Image refusal) = result_number refusal
edit_number edits.TooMany = 451
edit_number edits.Name = 452
edit_number edits.Order = 453
edit_number edits.TablesTooLarge = 454
edit_number edits.TooLarge = 455

abbrev pub rewrite_number : RewriteRefusal → ℕ
rewrite_number (rewrites.Image refusal) = result_number refusal
rewrite_number (rewrites.Leaves refusal) = edit_number refusal
rewrite_number rewrites.NoDirectory = 456
rewrite_number rewrites.Signed = 457
rewrite_number rewrites.Headers = 458
rewrite_number rewrites.Alignment = 459
rewrite_number rewrites.NoSection = 460
rewrite_number rewrites.Section = 461
rewrite_number rewrites.SharedSection = 462
rewrite_number rewrites.Symbols = 463
rewrite_number rewrites.Overlap = 464
rewrite_number rewrites.NoRoom = 465
rewrite_number rewrites.NoHeaderRoom = 471
rewrite_number rewrites.ImageTooLarge = 472
rewrite_number rewrites.DebugData = 473

abbrev pub record_number : RecordRefusal → ℕ
record_number records.Record = 466
record_number records.Names = 467
record_number records.Contents = 474

-- ---- the image with other resources

-- the records are a list of resources, over the bytes d
abbrev pub records_numbered : List ℕ → List ResourceRecord → Result (Unit {0}) ℕ
records_numbered d rs = numbered record_number (outcome (record_tests d rs) tt)

-- the image with the resources of these records, as pe_rewrite writes it
abbrev pub edited_at : List ℕ → images.Image → List ℕ → List ResourceRecord → Result (List ℕ) ℕ
edited_at b image d rs =
    headers_numbered b image >>= λ h. records_numbered d rs >>= λ u. numbered rewrite_number (edited_of b h (map (record_leaf d) rs))

-- ---- what calls return that write version information. A refusal is the number of the error.

-- the numbers of refusals, written by tools/make_errors
abbrev pub version_number : VersionRefusal → ℕ
version_number (versions.Image refusal) = result_number refusal
version_number versions.Key = 468
version_number versions.Text = 469
version_number versions.TooLong = 470

-- a block by the arguments of a call
abbrev pub block_with : List ℕ → ℕ → List ℕ → List ℕ → BlockValue
block_with key is_text value children = record { key = key; is_text = not (is_text == 0); value = value; children = children }

-- its bytes, as pe_version writes them
abbrev pub block_at : BlockValue → Result (List ℕ) ℕ
block_at k = numbered version_number (block_of k)

-- what pe_version writes, or the number of its refusal
abbrev pub version_numbered : Result (List ℕ) VersionRefusal → Result (List ℕ) ℕ
version_numbered made = numbered version_number made
