-- The texts at many offsets with one first zero after them. Only private contracts cite this.
use Rattle.std.specs.Prelude.{◌≡◌, ℕ, ◌-◌, ◌≤◌, ◌<◌, nat_le, List, length, take, drop, map, Option, None, Some, if◌then◌else◌}
use Rattle.std.specs.Option.{option_map}
use Rattle.std.specs.Borrow.{Bor}
use Rattle.std.specs.Str.{IsUtf8}
use Rattle.pe_core.specs.Text.{text_of, text_at, texts_of}
use Rattle.pe_core.specs.declared.many_texts.Run.{Run}

-- text is the longest suffix of the bytes that is UTF-8
pub record IsLastText (bytes text : List ℕ) : Type 0 where
  pub begin : ℕ
  pub within : begin ≤ length bytes
  pub is : text ≡ drop begin bytes
  pub longest : (k : ℕ) → k < begin → ¬ (IsUtf8 (drop k bytes))

-- the last n bytes of a text, if it has as many and they are UTF-8
unfoldable pub last_of : Option (List ℕ) → ℕ → Option (List ℕ)
last_of None n = None
last_of (Some text) n = if nat_le n (length text) then text_of (drop (length text - n) text) else None

-- the text at each offset of the run is a suffix of the run's text
abbrev pub IsRun : List ℕ → Run → Type 0
IsRun bytes run = (offset : ℕ) → run.start ≤ offset → offset ≤ run.end → text_at bytes offset ≡ last_of (option_map (λ s. s.now) run.text) (run.end - offset)

-- these are the texts at the first offsets, as many as there are texts
pub record AreFirstTexts (bytes offsets : List ℕ) (texts : List (Option (Bor (List ℕ)))) : Type 0 where
  pub are : texts_of texts ≡ map (text_at bytes) (take (length texts) offsets)
  pub few : length texts ≤ length offsets
