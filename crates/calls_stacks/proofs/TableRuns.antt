-- The walks over tables of entries return all of them.
use Rattle.calls_base.proofs.EntryRuns.{gives_entries}
use Rattle.std.proofs.Common.{ℕ, ◌+◌, ◌-◌, List, [], drop, sym, ap, ◌∙◌, arith}
use Rattle.pe_core.specs.Rows.{ReadsAfter}
use Rattle.pe_core.proofs.EntryItems.{le_after}
use Rattle.std.proofs.lemmas.List.{drop-drop}
use Rattle.pe_directories.specs.RichHeader.{rich_entry}
use Rattle.pe_records.specs.DebugDirectory.{debug_entry_at}
use Rattle.pe_unwind.specs.EntriesAfter.{scopes_after}
use Rattle.pe_unwind.specs.ScopeTable.{scope_at}
use Rattle.calls_unwind.specs.Arm64.{flat_scope_at}
use Rattle.calls_headers.specs.Headers.{rich_entry_at}
use Rattle.calls_base.specs.Runs.{ReturnsItems}
use Rattle.calls_base.specs.Walks.{StepsEntries, walk_items}
use Rattle.calls_base.specs.declared.ranges.Range.{Range}

pub scopes_in_turn : (b : List ℕ) (r : Range) → ReturnsItems (StepsEntries scope_at 16 b) r (walk_items scope_at 16 b r)
scopes_in_turn = gives_entries scope_at 16 scopes_after (omega arith)

arm64_scope_after : ReadsAfter flat_scope_at 4
arm64_scope_after b p q e = simp (le_after b 4 p q 4 e)

pub arm64_scopes_in_turn : (b : List ℕ) (r : Range) → ReturnsItems (StepsEntries flat_scope_at 4 b) r (walk_items flat_scope_at 4 b r)
arm64_scopes_in_turn = gives_entries flat_scope_at 4 arm64_scope_after (omega arith)

entry_after : ReadsAfter (debug_entry_at 0) 28
unfolding debug_entry_at
entry_after b p q e =
    simp (le_after b 28 p q 4 e, le_after b 28 (p + 4) (q + 4) 4 (omega arith), le_after b 28 (p + 8) (q + 8) 2 (omega arith), le_after b 28 (p + 10) (q + 10) 2 (omega arith), le_after b 28 (p + 12) (q + 12) 4 (omega arith), le_after b 28 (p + 16) (q + 16) 4 (omega arith), le_after b 28 (p + 20) (q + 20) 4 (omega arith), le_after b 28 (p + 24) (q + 24) 4 (omega arith))

pub debug_entries_in_turn : (b : List ℕ) (r : Range) → ReturnsItems (StepsEntries (debug_entry_at 0) 28 b) r (walk_items (debug_entry_at 0) 28 b r)
debug_entries_in_turn = gives_entries (debug_entry_at 0) 28 entry_after (omega arith)

rich_entry_after : (key : ℕ) → ReadsAfter (rich_entry_at key) 8
rich_entry_after key b p q e =
    ap (λ (d : List ℕ). rich_entry (record { key = key; before = []; entries = d }) 0) (drop-drop p 8 b ∙ ap (λ (n : ℕ). drop n b) (sym e))

pub rich_entries_in_turn : (key : ℕ) (b : List ℕ) (r : Range) → ReturnsItems (StepsEntries (rich_entry_at key) 8 b) r (walk_items (rich_entry_at key) 8 b r)
rich_entries_in_turn key = gives_entries (rich_entry_at key) 8 (rich_entry_after key) (omega arith)
