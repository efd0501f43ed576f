-- Walks over the attributes of a name. `b` are the caller's bytes.
use Rattle.std.specs.Prelude.{ℕ, ◌==◌, List, [], ◌∷◌, Bool, Option, Some, None, Result, Ok, Err, if◌then◌else◌}
use Rattle.pe_core.specs.Refusals.{outcome, ◌>>=◌}
use Rattle.pe_pkcs7.specs.Fields.{content_bytes}
use Rattle.pe_pkcs7.specs.Names.{attribute_at}
use Rattle.pe_pkcs7.specs.ObjectIds.{name_number}
use Rattle.pe_pkcs7.specs.Tags.{SEQUENCE}
use Rattle.pe_pkcs7.specs.declared.der.Element.{Element}
use Rattle.pe_pkcs7.specs.declared.error.SignatureError.{SignatureError}
use Rattle.pe_pkcs7.specs.declared.error.SignatureError.TheVariants.{Tag}
use Rattle.pe_pkcs7.specs.declared.name.NameAttribute.{NameAttribute}
use Rattle.calls_base.specs.Ranges.{no_bytes}
use Rattle.calls_signatures.specs.SignatureParts.{content_range, left_from, oid_part, parsed, read_in, up_to_range}
use Rattle.calls_base.specs.declared.ranges.Range.{Range}
use Rattle.calls_signatures.specs.declared.name.NamePart.{NamePart}
use Rattle.calls_signatures.specs.declared.name.NameWalk.{NameWalk}
use Rattle.calls_signatures.specs.declared.refused.SignatureFailure.{SignatureFailure}

-- a walk over the name that an element is: all of its content is left, and no relative distinguished name is read
abbrev pub whole_name_at : Element → Result NameWalk SignatureError
whole_name_at x = outcome ((x.tag == SEQUENCE, Tag x.offset SEQUENCE x.tag) ∷ []) (record { left = content_range x; rdn_end = 0 })

abbrev pub name_in : List ℕ → Range → Result NameWalk SignatureFailure
name_in = read_in (λ b. whole_name_at)

abbrev pub one_if : Bool → ℕ
one_if c = if c then 1 else 0

abbrev pub name_attribute_part : List ℕ → NameAttribute → NamePart
name_attribute_part b a = record {
  kind = oid_part a.kind (name_number (content_bytes b a.kind));
  value = content_range a.value;
  tag = a.value.tag;
  starts_rdn = one_if a.starts_rdn;
}

-- an attribute, the end of its relative distinguished name, and where what follows starts
abbrev pub Found : Type 0
Found = NameAttribute × (ℕ × ℕ)

-- the attribute that stands first in what a walk has left, if any is left
unfoldable pub next_name_attribute : List ℕ → NameWalk → Result (Option Found) SignatureFailure
next_name_attribute b w = up_to_range b w.left >>= λ name.
    if w.left.length == 0 then Ok None else (parsed (attribute_at name w.rdn_end w.left.offset) >>= λ x. Ok (Some x))

-- the walk after a step: what follows the attribute; it stays at its end, and is over after a failure
abbrev pub name_after : NameWalk → Result (Option Found) SignatureFailure → NameWalk
name_after w (Ok None) = w
name_after w (Ok (Some x)) = record { left = left_from w.left x.1.1; rdn_end = x.1.0 }
name_after w (Err f) = record { left = no_bytes; rdn_end = 0 }

-- what a step returns
abbrev pub name_reported : List ℕ → Result (Option Found) SignatureFailure → Result (Option NamePart) SignatureFailure
name_reported b (Ok None) = Ok None
name_reported b (Ok (Some x)) = Ok (Some (name_attribute_part b x.0))
name_reported b (Err f) = Err f
