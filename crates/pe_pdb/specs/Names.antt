-- Names of source files, a stream of texts; and the streams that the info stream names.
use Rattle.std.specs.Prelude.{ℕ, zero, suc, ◌+◌, ◌*◌, ◌==◌, ◌&&◌, Bool, List, [], ◌∷◌, length, drop, Option, Some, None, Result, Ok, nat_eq, if◌then◌else◌}
use Rattle.std.specs.List.{starts_with}
use Rattle.pe_core.specs.Bytes.{le, range, holds}
use Rattle.pe_core.specs.Refusals.{outcome, ◌>>=◌}
use Rattle.pe_pdb.specs.Refusals.{PdbRefusal, Short, NamesSignature, RecordTruncated}
use Rattle.pe_pdb.specs.declared.names.Names.{Names}
use Rattle.pe_pdb.specs.declared.names.TheConstants.{SIGNATURE}

-- what callers see of the names
pub record NamesView : Type 0 where
  pub version : ℕ
  pub texts : List ℕ

abbrev pub names_view : Names → NamesView
names_view n = record { version = n.version; texts = n.texts.now }

-- the names of the stream that has these bytes
unfoldable pub names_of : List ℕ → Result NamesView PdbRefusal
names_of b =
    outcome (
    (holds b 0 12, Short) ∷ (le b 0 4 == SIGNATURE, NamesSignature) ∷ (holds b 12 (le b 8 4), RecordTruncated) ∷ []
    ) (record { version = le b 4 4; texts = range b 12 (le b 8 4) })

-- ---- the names of streams

-- at an offset in some texts stands this name, with a zero after it
unfoldable pub is_text_at : List ℕ → ℕ → List ℕ → Bool
is_text_at texts o name = holds texts o (length name + 1) && starts_with nat_eq (drop o texts) name && le texts (o + length name) 1 == 0

-- of n pairs from an offset on, the offset of a name and a stream, the stream of the first with this name
unfoldable pub first_named : List ℕ → List ℕ → List ℕ → ℕ → ℕ → Option ℕ
first_named texts name b zero p = None
first_named texts name b (suc n) p = if is_text_at texts (le b p 4) name then Some (le b (p + 4) 4) else first_named texts name b n (p + 8)

-- the texts of the info stream, after its head
abbrev pub stream_texts : List ℕ → Result (List ℕ) PdbRefusal
stream_texts b = outcome ((holds b 28 4, Short) ∷ (holds b 32 (le b 28 4), RecordTruncated) ∷ []) (range b 32 (le b 28 4))

-- the end of a list of words with their number before it
abbrev pub words_end : List ℕ → ℕ → Result ℕ PdbRefusal
words_end b p = outcome ((holds b p 4, Short) ∷ (holds b (p + 4) (4 * le b p 4), RecordTruncated) ∷ []) (p + 4 + 4 * le b p 4)

-- where the pairs start, in a hash table at an offset: after the number of pairs, the capacity, and the words of two sets of buckets
abbrev pub pairs_start : List ℕ → ℕ → Result ℕ PdbRefusal
pairs_start b p = do
  start ← outcome ((holds b p 8, Short) ∷ []) (p + 8)
  present ← words_end b start
  deleted ← words_end b present
  outcome ((holds b deleted (8 * le b p 4), RecordTruncated) ∷ []) deleted

-- the stream with a name, if there is one
unfoldable pub named_stream : List ℕ → List ℕ → Result (Option ℕ) PdbRefusal
named_stream b name = do
  texts ← stream_texts b
  pairs ← pairs_start b (32 + length texts)
  Ok (first_named texts name b (le b (32 + length texts) 4) pairs)
