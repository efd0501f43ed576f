-- How parts of a signature are returned: ranges of elements, and where an element is refused. `b` are the caller's bytes: an
-- element is read in the bytes up to the end of its range, so that its offsets count from their start.
use Rattle.std.specs.Prelude.{◌≡◌, ℕ, ◌+◌, ◌-◌, ◌==◌, List, take, Option, Some, None, Result, Ok, Err, if◌then◌else◌}
use Rattle.pe_core.specs.Bytes.{holds}
use Rattle.pe_core.specs.Refusals.{◌>>=◌}
use Rattle.pe_pkcs7.specs.Der as der
use Rattle.pe_pkcs7.specs.Fields.{content_bytes}
use Rattle.pe_pkcs7.specs.ObjectIds.{algorithm_number}
use Rattle.pe_pkcs7.specs.SignedDatas.{algorithm_identifier}
use Rattle.pe_pkcs7.specs.declared.der.Element.{Element}
use Rattle.pe_pkcs7.specs.declared.error.SignatureError.{SignatureError}
use Rattle.pe_pkcs7.specs.declared.error.SignatureError.TheVariants.{Truncated, TagNumber, EndOfContents, IndefiniteLength, LengthOctets, LengthForm, PastParent, EmptyContent, Missing, Tag, Trailing, ContentType, BadTime}
use Rattle.pe_pkcs7.specs.declared.indirect_data.AlgorithmIdentifier.{AlgorithmIdentifier}
use Rattle.calls_base.specs.Ranges.{no_bytes}
use Rattle.calls_base.specs.declared.ranges.Range.{Range}
use Rattle.calls_signatures.specs.declared.elements.Algorithm.{Algorithm}
use Rattle.calls_signatures.specs.declared.elements.DerElement.{DerElement}
use Rattle.calls_signatures.specs.declared.elements.Oid.{Oid}
use Rattle.calls_signatures.specs.declared.refused.SignatureFailure.{SignatureFailure}
use Rattle.calls_base.specs.declared.results.TheConstants.{DONE, NOTHING}

-- ---- refusals

-- the number of a refusal of a signature, written by tools/make_errors
abbrev pub signature_number : SignatureError → ℕ
signature_number (Truncated offset left) = 501
signature_number (TagNumber offset) = 502
signature_number (IndefiniteLength offset) = 503
signature_number (LengthOctets offset octets) = 504
signature_number (LengthForm offset) = 505
signature_number (PastParent offset length left) = 506
signature_number (Missing offset) = 507
signature_number (Tag offset expected found) = 508
signature_number (Trailing offset left) = 509
signature_number (ContentType offset) = 510
signature_number (BadTime offset) = 511
signature_number (EndOfContents offset) = 512
signature_number (EmptyContent offset) = 513

-- a failure with this number at an offset: the value that stands there, how many bytes are left
abbrev pub failure : ℕ → ℕ → ℕ → ℕ → SignatureFailure
failure number p value left = record { offset = p; value = value; left = left; expected = 0; result = number }

-- the failure with this number of an error
abbrev pub failure_of : ℕ → SignatureError → SignatureFailure
failure_of number (Truncated p left) = failure number p 0 left
failure_of number (TagNumber p) = failure number p 0 0
failure_of number (EndOfContents p) = failure number p 0 0
failure_of number (IndefiniteLength p) = failure number p 0 0
failure_of number (LengthOctets p octets) = failure number p octets 0
failure_of number (LengthForm p) = failure number p 0 0
failure_of number (PastParent p length left) = failure number p length left
failure_of number (EmptyContent p) = failure number p 0 0
failure_of number (Missing p) = failure number p 0 0
failure_of number (Tag p expected found) = record (failure number p found 0) { expected = expected }
failure_of number (Trailing p left) = failure number p 0 left
failure_of number (ContentType p) = failure number p 0 0
failure_of number (BadTime p) = failure number p 0 0

abbrev pub refused : SignatureError → SignatureFailure
refused e = failure_of (signature_number e) e

-- what is read of an element, with the failure in place of an error
abbrev pub parsed : {Y : Type 0} → Result Y SignatureError → Result Y SignatureFailure
parsed (Ok y) = Ok y
parsed (Err e) = Err (refused e)

-- the failure of a range that is not inside the bytes
abbrev pub outside : Range → SignatureFailure
outside r = failure 2 r.offset r.length 0

-- the bytes up to the end of a range
unfoldable pub up_to_range : List ℕ → Range → Result (List ℕ) SignatureFailure
up_to_range b r = if holds b r.offset r.length then Ok (take (r.offset + r.length) b) else Err (outside r)

-- the element that a range starts with
unfoldable pub element_in : List ℕ → Range → Result Element SignatureFailure
element_in b r = up_to_range b r >>= λ part. parsed (der.element_at part r.offset)

-- what is read of the element that a range starts with
abbrev pub read_in : {Y : Type 0} → (List ℕ → Element → Result Y SignatureError) → List ℕ → Range → Result Y SignatureFailure
read_in read b r = element_in b r >>= λ x. parsed (read b x)

-- ---- what calls return

-- the call returned the defined value, seen by view, or the defined failure
abbrev pub GivesPart : {X Y : Type 0} → (X → Y) → Result X SignatureFailure → Result Y SignatureFailure → Type 0
GivesPart view (Ok x) defined = defined ≡ Ok (view x)
GivesPart view (Err f) defined = defined ≡ Err f

-- DONE and the value; else the number of the failure, and the failure in its record. What is not written is unchanged
abbrev pub SignatureHandsOut : {Y : Type 0} → ℕ → SignatureFailure → SignatureFailure → Y → Y → Result Y SignatureFailure → Type 0
SignatureHandsOut number failed failed_after old new (Ok value) = (number ≡ DONE) × (failed_after ≡ failed) × (new ≡ value)
SignatureHandsOut number failed failed_after old new (Err f) = (number ≡ f.result) × (failed_after ≡ f) × (new ≡ old)

-- the same of a value that may be absent: then the number is NOTHING
abbrev pub SignatureHandsOutIf : {Y : Type 0} → ℕ → SignatureFailure → SignatureFailure → Y → Y → Result (Option Y) SignatureFailure → Type 0
SignatureHandsOutIf number failed failed_after old new (Ok (Some value)) = (number ≡ DONE) × (failed_after ≡ failed) × (new ≡ value)
SignatureHandsOutIf number failed failed_after old new (Ok None) = (number ≡ NOTHING) × (failed_after ≡ failed) × (new ≡ old)
SignatureHandsOutIf number failed failed_after old new (Err f) = (number ≡ f.result) × (failed_after ≡ f) × (new ≡ old)

-- ---- ranges of elements

-- all octets of an element
abbrev pub whole_range : Element → Range
whole_range x = record { offset = x.offset; length = x.end - x.offset }

-- its content
abbrev pub content_range : Element → Range
content_range x = record { offset = x.content; length = x.end - x.content }

-- the same of one that may be absent
abbrev pub optional_whole : Option Element → Range
optional_whole None = no_bytes
optional_whole (Some x) = whole_range x

abbrev pub optional_content : Option Element → Range
optional_content None = no_bytes
optional_content (Some x) = content_range x

-- the last n bytes before an offset
abbrev pub last_before : ℕ → ℕ → Range
last_before p n = record { offset = p - n; length = n }

-- all octets of an element but its tag, which is the first
abbrev pub after_tag : Option Element → Range
after_tag None = no_bytes
after_tag (Some x) = last_before x.end (x.end - x.offset - 1)

-- the bits of a BIT STRING: its content but the first octet, which says how many bits of the last are not used
abbrev pub bits_range : Element → Range
bits_range x = last_before x.end (x.end - x.content - 1)

-- an object identifier with its number
abbrev pub oid_part : Element → ℕ → Oid
oid_part x number = record { octets = content_range x; id = number; spare = 0 }

-- ---- algorithms

abbrev pub algorithm_part : List ℕ → AlgorithmIdentifier → Algorithm
algorithm_part b a = record { oid = oid_part a.algorithm (algorithm_number (content_bytes b a.algorithm)); parameters = optional_whole a.parameters }

abbrev pub algorithm_at : List ℕ → Element → Result Algorithm SignatureError
algorithm_at b x = algorithm_identifier b x >>= λ a. Ok (algorithm_part b a)

abbrev pub algorithm_in : List ℕ → Range → Result Algorithm SignatureFailure
algorithm_in = read_in algorithm_at

-- ---- walks over elements

abbrev pub element_part : Element → DerElement
element_part x = record { whole = whole_range x; content = content_range x; tag = x.tag; spare = 0 }

-- the element that stands first in what a walk has left, if any is left
unfoldable pub next_element : List ℕ → Range → Result (Option Element) SignatureFailure
next_element b w = up_to_range b w >>= λ part.
    if w.length == 0 then Ok None else (parsed (der.element_at part w.offset) >>= λ x. Ok (Some x))

-- what is left of a range from an offset in it on
abbrev pub left_from : Range → ℕ → Range
left_from w p = record { offset = p; length = w.length - (p - w.offset) }

-- the walk after a step: what follows the element; it stays at its end, and is over after a failure
abbrev pub elements_after : Range → Result (Option Element) SignatureFailure → Range
elements_after w (Ok None) = w
elements_after w (Ok (Some x)) = left_from w x.end
elements_after w (Err f) = no_bytes

-- what a step returns
abbrev pub element_reported : Result (Option Element) SignatureFailure → Result (Option DerElement) SignatureFailure
element_reported (Ok None) = Ok None
element_reported (Ok (Some x)) = Ok (Some (element_part x))
element_reported (Err f) = Err f

-- a step of a walk
abbrev pub StepsElements : List ℕ → Range → Result (Option Element) SignatureFailure → Range → Type 0
StepsElements b old answer new = (answer ≡ next_element b old) × (new ≡ elements_after old (next_element b old))

-- the bytes up to the end of a walk, and where what is left starts: what pe_pkcs7 walks through
abbrev pub left_place : List ℕ → Range → List ℕ × ℕ
left_place b w = (take (w.offset + w.length) b, w.offset)
