-- Texts: bytes that are UTF-8, and NUL-terminated ones.
use Rattle.std.specs.Prelude.{ℕ, ◌==◌, List, map, take, drop, Option, Some, None, position, if◌then◌else◌}
use Rattle.std.specs.Option.{option_and_then, option_map}
use Rattle.std.specs.Borrow.{Bor}
use Rattle.std.specs.Str.{is_utf8}

-- these bytes, if they are UTF-8
abbrev pub text_of : List ℕ → Option (List ℕ)
text_of bytes = if is_utf8 bytes then Some bytes else None

-- the bytes before the first zero, if there is a zero and they are UTF-8
unfoldable pub text_to_zero : List ℕ → Option (List ℕ)
text_to_zero bytes = option_and_then (λ n. text_of (take n bytes)) (position (λ c. c == 0) bytes)

-- the text at an offset: the bytes from there up to the first zero
abbrev pub text_at : List ℕ → ℕ → Option (List ℕ)
text_at bytes offset = text_to_zero (drop offset bytes)

-- the texts as bytes, whatever their addresses in memory
abbrev pub texts_of : List (Option (Bor (List ℕ))) → List (Option (List ℕ))
texts_of texts = map (option_map (λ s. s.now)) texts
