-- A search of the entries of an index of sections.
use Rattle.std.proofs.Common.{◌≡◌, ℕ, ◌+◌, ◌-◌, ◌^◌, ◌<◌, ◌≤◌, true, false, List, length, ◌∙◌, arith}
use Rattle.pe_lookup.proofs.Halving as halving
use Rattle.pe_core.specs.declared.range_index.RangeEntry.{RangeEntry}
use Rattle.pe_lookup.specs.AddressRanges as ranges
use Rattle.pe_lookup.specs.SectionIndexes.{no_entry, start_by, started}

abbrev pub start_of : RangeEntry → ℕ
start_of e = e.start

module _ (es : List RangeEntry) (x : ℕ) where
  pub skipped : (m : ℕ) → length es < 2 ^ m → m ≤ 64 → started es x m 0 ≡ started es x 64 0
  skipped m h le = halving.skipped start_of no_entry es x m 64 h (omega (arith, h, halving.grows (64 - m) m 64 (omega (arith, le))))

  pub turned_up : (n k m : ℕ) → 0 < n → m ≡ k + 2 ^ (n - 1) → start_by es x m ≡ true → started es x (n - 1) m ≡ started es x n k
  turned_up n k m some is t = halving.turned_up start_of no_entry es x n k m some is t

  pub turned_down : (n k m : ℕ) → 0 < n → m ≡ k + 2 ^ (n - 1) → start_by es x m ≡ false → started es x (n - 1) k ≡ started es x n k
  turned_down n k m some is t = halving.turned_down start_of no_entry es x n k m some is t

  pub start_inside : (m : ℕ) → start_by es x m ≡ true → m ≤ length es
  start_inside m t = halving.start_inside start_of no_entry es x m t

  pub started_at_0 : (n k : ℕ) {whole : ℕ} → n ≡ 0 → started es x n k ≡ whole → k ≡ whole
  started_at_0 n k e same = halving.started_at_0 start_of no_entry es x n k e same

  -- as many bits as there are entries are as good as 64
  pub by_length : (k : ℕ) → length es < 2 ^ 64 → ((d : RangeEntry) → k ≡ ranges.started start_of d es x (length es) 0) → k ≡ started es x 64 0
  by_length k small is = is no_entry ∙ halving.skipped start_of no_entry es x (length es) 64 (halving.bits_enough (length es)) small
