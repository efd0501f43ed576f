-- ARM64 unwind records. (ARM64 exception handling: .xdata records.)
use Rattle.std.specs.Prelude.{◌≡◌, ◌<◌, ◌^◌, Bool, ◌++◌, is_some, IfSome, ℕ, ◌+◌, ◌*◌, ◌==◌, ◌||◌, List, [], ◌∷◌, length, drop, Option, Some, None, Result, if◌then◌else◌}
use Rattle.std.specs.Option.{option_map}
use Rattle.pe_core.specs.Bytes.{le, bytes_of, holds, range}
use Rattle.pe_core.specs.Refusals.{Refusal, Short, Arm64Version, outcome}
use Rattle.pe_unwind.specs.declared.arm64.info.Arm64ExceptionHandler.{Arm64ExceptionHandler}
use Rattle.pe_unwind.specs.declared.arm64.info.Arm64UnwindInfo.{Arm64UnwindInfo}
use Rattle.pe_unwind.specs.declared.arm64.words.Arm64EpilogScope.{Arm64EpilogScope}
use Rattle.pe_unwind.specs.declared.arm64.words.Arm64UnwindExtension.{Arm64UnwindExtension}
use Rattle.pe_unwind.specs.Arm64Words.{bits, has_handler, has_epilog, has_extension, epilog_scope_items}

-- what callers see of a handler: its RVA and its data
pub record Arm64HandlerView : Type 0 where
  pub rva : ℕ
  pub bytes : List ℕ

-- what callers see of a record: its words, its handler, and the bytes of its scopes and codes
pub record Arm64InfoView : Type 0 where
  pub header : ℕ
  pub extension : Option ℕ
  pub scopes : List ℕ
  pub codes : List ℕ
  pub handler : Option Arm64HandlerView

-- the extension word as a number
abbrev pub extension_view : Option Arm64UnwindExtension → Option ℕ
extension_view e = option_map (λ w. w.0) e

-- this handler as callers see it
abbrev pub arm64_handler_view : Arm64ExceptionHandler → Arm64HandlerView
arm64_handler_view h = record { rva = h.rva; bytes = h.bytes.now }

-- this record as callers see it
abbrev pub info_view : Arm64UnwindInfo → Arm64InfoView
info_view i = record {
  header = (i.header).0;
  extension = extension_view i.extension;
  scopes = i.scope_bytes.now;
  codes = i.code_bytes.now;
  handler = option_map arm64_handler_view i.exception_handler;
}

-- an extension word follows a header without counts, and has them
abbrev pub extension_size : ℕ → ℕ
extension_size header = if has_extension header then 4 else 0

abbrev pub extension_at : List ℕ → ℕ → ℕ → Option ℕ
extension_at b q header = if has_extension header then Some (le b q 4) else None

-- how many epilog scopes there are: none if the header describes the epilog
abbrev pub scope_count : ℕ → Option ℕ → ℕ
scope_count header None = if has_epilog header then 0 else bits header 22 5
scope_count header (Some extension) = if has_epilog header then 0 else bits extension 0 16

-- how many words of unwind codes there are
abbrev pub code_words : ℕ → Option ℕ → ℕ
code_words header None = bits header 27 5
code_words header (Some extension) = bits extension 16 8

-- the RVA of the handler has 4 bytes, if there is a handler
abbrev pub handler_size : ℕ → ℕ
handler_size header = if has_handler header then 4 else 0

-- the handler, if there is one: its RVA, and its data, which are all bytes after it
abbrev pub handler_at : List ℕ → ℕ → ℕ → Option Arm64HandlerView
handler_at b q header = if has_handler header then Some (record { rva = le b q 4; bytes = drop (q + 4) b }) else None

-- the parts of a record follow one another: header, extension word, scopes, codes, RVA of the handler
abbrev pub scopes_offset : ℕ → ℕ → ℕ
scopes_offset p header = p + 4 + extension_size header

-- the size of a record with these words is the sum of its parts
abbrev pub record_size : ℕ → Option ℕ → ℕ
record_size header extension = 4 + extension_size header + 4 * scope_count header extension + 4 * code_words header extension + handler_size header

-- the parts of a record with these words, whose scopes, codes and handler follow one another from q on
abbrev pub parts_with : List ℕ → ℕ → ℕ → Option ℕ → Arm64InfoView
parts_with b q header extension =
    let codes = q + 4 * scope_count header extension in
    record {
      header = header;
      extension = extension;
      scopes = range b q (4 * scope_count header extension);
      codes = range b codes (4 * code_words header extension);
      handler = handler_at b (codes + 4 * code_words header extension) header;
    }

-- the tests of these parts, in order
abbrev pub parts_tests : List ℕ → ℕ → ℕ → Option ℕ → List (Bool × Refusal)
parts_tests b q header extension =
    let codes = q + 4 * scope_count header extension in
    (holds b q (4 * scope_count header extension), Short)
    ∷ (holds b codes (4 * code_words header extension), Short)
    ∷ (holds b (codes + 4 * code_words header extension) (handler_size header), Short)
    ∷ []

-- the record with these words, or the first refusal of a part
abbrev pub parts_at : List ℕ → ℕ → ℕ → Option ℕ → Result Arm64InfoView Refusal
parts_at b q header extension = outcome (parts_tests b q header extension) (parts_with b q header extension)

-- the record at offset p with these words
abbrev pub info_with : List ℕ → ℕ → ℕ → Option ℕ → Arm64InfoView
info_with b p header extension = parts_with b (scopes_offset p header) header extension

-- its tests, in order, and what each refuses
abbrev pub info_tests : List ℕ → ℕ → ℕ → Option ℕ → List (Bool × Refusal)
info_tests b p header extension =
    (holds b p 4, Short)
    ∷ (bits header 18 2 == 0, Arm64Version)
    ∷ (holds b (p + 4) (extension_size header), Short)
    ∷ parts_tests b (scopes_offset p header) header extension

-- the record at offset p, or its first refusal
unfoldable pub info_at : List ℕ → ℕ → Result Arm64InfoView Refusal
info_at b p =
    let header = le b p 4 in
    let extension = extension_at b (p + 4) header in
    outcome (info_tests b p header extension) (info_with b p header extension)

-- the size of the record at the start of the bytes, if its words are there
unfoldable pub size_at : List ℕ → Result ℕ Refusal
size_at b =
    let header = le b 0 4 in
    outcome ((holds b 0 4, Short) ∷ (holds b 4 (extension_size header), Short) ∷ []) (record_size header (extension_at b 4 header))

-- the epilog scopes of a record, if it has any
abbrev pub scopes_of : Arm64InfoView → Option (List (Result Arm64EpilogScope Refusal))
scopes_of i = if has_epilog i.header || length i.scopes == 0 then None else Some (epilog_scope_items i.scopes)

-- the bytes of a word, if there is a word
abbrev pub word_bytes : Option ℕ → List ℕ
word_bytes None = []
word_bytes (Some word) = bytes_of 4 word

-- the bytes are those of a record: header, extension word, scopes, codes, RVA of the handler and rest; each part has
-- the size that the header and the extension word say, and the rest is the handler's data
pub record AreRecord (bytes : List ℕ) (i : Arm64InfoView) (rest : List ℕ) : Type 0 where
  pub joined : bytes ≡ bytes_of 4 i.header ++ (word_bytes i.extension ++ (i.scopes ++ (i.codes ++ (word_bytes (option_map (λ h. h.rva) i.handler) ++ rest))))
  pub version : bits i.header 18 2 ≡ 0
  pub extension : is_some i.extension ≡ has_extension i.header
  pub scopes : length i.scopes ≡ 4 * scope_count i.header i.extension
  pub codes : length i.codes ≡ 4 * code_words i.header i.extension
  pub handler : is_some i.handler ≡ has_handler i.header
  pub after : IfSome i.handler (λ h. h.bytes ≡ rest)

-- the words of a record fit four bytes
pub record HasWords (i : Arm64InfoView) : Type 0 where
  pub header : i.header < 2 ^ 32
  pub extension : IfSome i.extension (λ word. word < 2 ^ 32)
  pub handler : IfSome i.handler (λ h. h.rva < 2 ^ 32)
