-- What functions of pe.h return that take one field of what the call for parts of a signature writes.
use Rattle.std.proofs.Common.{◌≡◌, ℕ, Option, Some, None, Result, Ok, Err, ap, ◌∙◌}
use Rattle.pe_c.proofs.Cited.{option_map, ◌>>=◌, SignatureHandsOut, SignatureHandsOutIf}
use Rattle.pe_c.specs.AnyParts.{in_field}
use Rattle.pe_c.specs.declared.signatures.AnyPart.{AnyPart}
use Rattle.calls_signatures.specs.declared.refused.SignatureFailure.{SignatureFailure}

module _ {X : Type 0} (put : X → AnyPart) (get : AnyPart → X) (same : (x : X) → get (put x) ≡ x) (number : ℕ) (f g : SignatureFailure) (old new : AnyPart) where
  pub of_part : (found : Result X SignatureFailure) → SignatureHandsOutIf number f g old new (in_field put found) → SignatureHandsOut number f g (get old) (get new) found
  of_part (Ok x) h = (h.0, h.1, ap get h.2 ∙ same x)
  of_part (Err r) h = (h.0, h.1, ap get h.2)

  pub of_part_if : (found : Result (Option X) SignatureFailure) → SignatureHandsOutIf number f g old new (found >>= λ o. Ok (option_map put o)) → SignatureHandsOutIf number f g (get old) (get new) found
  of_part_if (Ok (Some x)) h = (h.0, h.1, ap get h.2 ∙ same x)
  of_part_if (Ok None) h = (h.0, h.1, ap get h.2)
  of_part_if (Err r) h = (h.0, h.1, ap get h.2)
