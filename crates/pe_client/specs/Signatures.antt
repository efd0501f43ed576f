-- What a program reads of the signature of an image.
use Rattle.std.specs.Prelude.{ℕ, List, Option, Some, None, Result, Ok, Err}
use Rattle.pe_core.specs.Refusals.{◌>>=◌}
use Rattle.pe_pkcs7.specs.Der.{element_at}
use Rattle.pe_pkcs7.specs.Fields.{content_bytes}
use Rattle.pe_pkcs7.specs.SignedDatas.{content_info, digest_info, encapsulated_content, signed_data, spc_indirect_data}
use Rattle.pe_pkcs7.specs.declared.der.Element.{Element}
use Rattle.pe_pkcs7.specs.declared.error.SignatureError.{SignatureError}
use Rattle.pe_pkcs7.specs.declared.error.SignatureError.TheVariants.{Missing}

-- what is signed, if it is there; it would end before p
abbrev pub if_there : ℕ → Option Element → Result Element SignatureError
if_there p None = Err (Missing p)
if_there p (Some x) = Ok x

-- the digest of the image that the signature at an offset names
unfoldable pub digest_named : List ℕ → ℕ → Result (List ℕ) SignatureError
digest_named b p =
    element_at b p >>= λ x.
    content_info b x >>= λ i.
    signed_data b i >>= λ s.
    encapsulated_content b s.encapsulated >>= λ e.
    if_there (s.encapsulated).end e.content >>= λ y.
    spc_indirect_data b y >>= λ d.
    digest_info b d.message_digest >>= λ g.
    Ok (content_bytes b g.digest)
