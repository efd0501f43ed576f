-- Each entry of a table is read alike wherever it stands. For proofs only.
use Rattle.std.proofs.Common.{◌+◌, arith, refl}
use Rattle.pe_core.specs.Rows.{ReadsAfter}
use Rattle.pe_core.proofs.EntryItems.{le_after}
use Rattle.pe_resource.specs.ResourceEntries.{entry_at}
use Rattle.pe_resource.specs.VersionBlocks.{translation_at}

pub entries_after : ReadsAfter entry_at 8
entries_after b p q e = simp (le_after b 8 p q 4 e, le_after b 8 (p + 4) (q + 4) 4 (omega arith)) refl

pub translations_after : ReadsAfter translation_at 4
translations_after b p q e = simp (le_after b 4 p q 2 e, le_after b 4 (p + 2) (q + 2) 2 (omega arith))
