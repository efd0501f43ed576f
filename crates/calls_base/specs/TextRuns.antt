-- Texts that share their final zero, and lists of lookup entries that share their zero entry. Only private contracts cite this.
use Rattle.std.specs.Prelude.{◌≡◌, ℕ, ◌-◌, ◌≤◌, ◌&&◌, nat_le, List, length, Option, Some, None, IsTrue, slice_range, if◌then◌else◌}
use Rattle.std.specs.Str.{is_utf8}
use Rattle.pe_core.specs.ImportSteps.{IsList}
use Rattle.pe_core.specs.Text.{text_at}
use Rattle.pe_core.specs.TextRuns.{last_of}
use Rattle.calls_base.specs.declared.text_runs.Run.{Run}

-- the longest text that ends where a run does
unfoldable pub run_text : List ℕ → Run → Option (List ℕ)
run_text b run = if nat_le run.text run.end && nat_le run.end (length b) then Some (slice_range b run.text run.end) else None

-- the text at each offset of a run is a suffix of the run's text
pub record IsTextRun (b : List ℕ) (run : Run) : Type 0 where
  pub is_text : run.text ≤ run.end → run.end ≤ length b → IsTrue (is_utf8 (slice_range b run.text run.end))
  pub texts : (p : ℕ) → run.start ≤ p → p ≤ run.end → text_at b p ≡ last_of (run_text b run) (run.end - p)

-- the entries of w bytes at each start of an entry of the run end at its end
abbrev pub IsEntryRun : ℕ → List ℕ → Run → Type 0
IsEntryRun w b run = IsList w b (record { start = run.start; end = run.end })
