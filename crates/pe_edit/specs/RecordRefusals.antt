-- What records have to pass before they are written, over the bytes d.
use Rattle.std.specs.Prelude.{◌≡◌, ℕ, ◌+◌, ◌*◌, ◌==◌, ◌&&◌, Bool, List, [], ◌∷◌, Option, Some, None, Result, Ok, Err, if◌then◌else◌, length, min, nat_le, nat_lt}
use Rattle.std.specs.List.{list_all}
use Rattle.pe_core.specs.Bytes.{holds}
use Rattle.pe_edit.specs.declared.error.RecordError.{RecordError}
use Rattle.pe_edit.specs.declared.error.RecordError.TheVariants as errors
use Rattle.pe_edit.specs.declared.record.RecordKey.{RecordKey}
use Rattle.pe_edit.specs.declared.record.ResourceRecord.{ResourceRecord}
use Rattle.pe_edit.specs.Written.{total}

-- the kinds of errors
pub data RecordRefusal : Type 0 where
  Record : RecordRefusal
  Names : RecordRefusal
  Contents : RecordRefusal

-- the kind of an error
abbrev pub record_kind_of : RecordError → RecordRefusal
record_kind_of (errors.Record index) = Record
record_kind_of errors.Names = Names
record_kind_of errors.Contents = Contents

-- the call returned the defined value, or an error of the defined kind
abbrev pub RecordReturns : {X : Type 0} → Result X RecordError → Result X RecordRefusal → Type 0
RecordReturns (Ok x) defined = defined ≡ Ok x
RecordReturns (Err e) defined = defined ≡ Err (record_kind_of e)

-- the id has 16 bits, or the name lies in d
abbrev pub key_is_inside : List ℕ → RecordKey → Bool
key_is_inside d k = if k.has_name == 0 then nat_lt k.id 65536 else holds d k.name.offset k.name.length

-- the ranges lie in d, and the numbers have 16 bits
abbrev pub record_fits : List ℕ → ResourceRecord → Bool
record_fits d r =
    key_is_inside d r.resource_type && (key_is_inside d r.name && (holds d r.content.offset r.content.length && nat_lt r.language 65536))

-- how many bytes the names have; none of an id
abbrev pub key_length : RecordKey → ℕ
key_length k = if k.has_name == 0 then 0 else k.name.length

abbrev pub names_length : ResourceRecord → ℕ
names_length r = key_length r.resource_type + key_length r.name

abbrev pub content_length : ResourceRecord → ℕ
content_length r = r.content.length

-- how many bytes contents may have over d, each counted as often as a record has it: 16 for each byte of d and of 1 MiB; no section
-- has 4 GB
abbrev pub most_contents : List ℕ → ℕ
most_contents d = 16 * (1048576 + min (length d) 4294967296)

-- a sum, if it is at most this number
abbrev pub sum_within : ℕ → ℕ → ℕ → Option ℕ
sum_within most sum more = if nat_le (sum + more) most then Some (sum + more) else None

-- all fit; their names have at most 16 MiB, so that what is compared is bounded; and so is what is written, even where records share
-- a content
abbrev pub record_tests : List ℕ → List ResourceRecord → List (Bool × RecordRefusal)
record_tests d rs =
    (list_all (record_fits d) rs, Record)
    ∷ (nat_le (total names_length rs) 16777216, Names)
    ∷ (nat_le (total content_length rs) (most_contents d), Contents) ∷ []
