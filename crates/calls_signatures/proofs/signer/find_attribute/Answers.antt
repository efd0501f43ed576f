use Rattle.std.proofs.Common.{◌≡◌, ℕ, ◌+◌, Bool, true, false, List, take, Option, Result, Ok, Err, ap, sym, subst, if◌then◌else◌}
use Rattle.pe_core.specs.Bytes.{holds}
use Rattle.pe_pkcs7.specs.Fields.{first_element}
use Rattle.pe_pkcs7.specs.Signers.{FindsAttribute, Sought, first_with_number}
use Rattle.pe_pkcs7.specs.Walks.{Items}
use Rattle.calls_signatures.specs.SignatureParts.{left_from, left_place, outside, up_to_range}
use Rattle.calls_signatures.specs.Signatures.{FindsInWalk, attribute_sought, sought_in}
use Rattle.calls_base.specs.declared.ranges.Range.{Range}
use Rattle.calls_signatures.specs.declared.refused.SignatureFailure.{SignatureFailure}
use Rattle.calls_signatures.specs.declared.signer.SignerAttribute.{SignerAttribute}
use Rattle.calls_signatures.proofs.signer.find_attribute.Goals as goal

-- A search for an attribute through a range is that of pe_pkcs7 in the bytes up to the end of the range.
part_by : (b : List ℕ) (w : Range) (s : List ℕ) (test : Bool) → ◌≡◌ {A = Result (List ℕ) SignatureFailure} (if test then Ok (take (w.offset + w.length) b) else Err (outside w)) (Ok s) → s ≡ take (w.offset + w.length) b
part_by b w s true h = cc h
part_by b w s false h = absurd (cc h)

part_is : (b : List ℕ) (w : Range) (s : List ℕ) → up_to_range b w ≡ Ok s → s ≡ take (w.offset + w.length) b
unfolding up_to_range
part_is b w s h = part_by b w s (holds b w.offset w.length) h

finds : (b : List ℕ) (w : Range) (number : ℕ) (s : List ℕ) (sought : Sought) (found : Result (Option SignerAttribute) SignatureFailure) (left : Range) → up_to_range b w ≡ Ok s → FindsAttribute s number w.offset sought →
    found ≡ attribute_sought s sought.0 → left ≡ left_from w sought.1 → FindsInWalk b w number (found, left)
finds b w number s sought found left h f a l items is =
    let same : s ≡ take (w.offset + w.length) b = part_is b w s h in
    let first : sought ≡ first_with_number s number w.offset items = f items (subst (λ (t : List ℕ). Items first_element (t, w.offset) items) (sym same) is) in
    let e : sought ≡ first_with_number (take (w.offset + w.length) b) number w.offset items = subst (λ (t : List ℕ). sought ≡ first_with_number t number w.offset items) same first in
    let goal : (found, left) ≡ sought_in w (up_to_range b w) (first_with_number (left_place b w).0 number w.offset items) = rw (h, a, l) (ap (λ (z : Sought). (attribute_sought s z.0, left_from w z.1)) e) in
    goal

pub returns-in-Ok : goal.returns-in-Ok
returns-in-Ok c =
    finds c.args.bytes.now c.args.walk.now c.args.number c.in-Ok.part.now c.find_attribute_at-found.result c.attribute_sought.result c.left_from.result
    (search c.in-Ok.ensures) c.find_attribute_at-found.ensures c.attribute_sought.ensures c.left_from.ensures
