use Rattle.std.proofs.Common.{Option, Result}
use Rattle.pe_pkcs7.specs.Fields.{first_element, elements_left}
use Rattle.pe_pkcs7.specs.Names.{first_name_attribute, name_left}
use Rattle.pe_pkcs7.specs.Walks.{Steps}
use Rattle.pe_pkcs7.specs.declared.der.Element.{Element}
use Rattle.pe_pkcs7.specs.declared.error.SignatureError.{SignatureError}
use Rattle.pe_pkcs7.specs.declared.fields.Elements.{Elements}
use Rattle.pe_pkcs7.specs.declared.name.NameAttribute.{NameAttribute}
use Rattle.pe_pkcs7.specs.declared.name.NameAttributes.{NameAttributes}
use Rattle.pe_pkcs7.proofs.WholeWalks.{whole, one_list}
use Rattle.pe_pkcs7.proofs.Shrinking.{place_size, element_shrinks, name_size, name_shrinks}
use Rattle.pe_pkcs7.proofs.laws.walks_return_the_list.Goals as goal

abbrev pub ElementNext : Elements → Option (Result Element SignatureError) → Elements → Type 0
ElementNext s r t = Steps first_element (elements_left s) r (elements_left t)

abbrev pub NameNext : NameAttributes → Option (Result NameAttribute SignatureError) → NameAttributes → Type 0
NameNext s r t = Steps first_name_attribute (name_left s) r (name_left t)

pub returns : goal.returns
returns c = record {
  elements = λ s xs d. whole first_element elements_left ElementNext (λ s r t h. h) s d.1.0 d.0 xs d.1.1 d.1.2;
  element = one_list place_size first_element element_shrinks;
  names = λ s xs d. whole first_name_attribute name_left NameNext (λ s r t h. h) s d.1.0 d.0 xs d.1.1 d.1.2;
  name = one_list name_size first_name_attribute name_shrinks;
}
