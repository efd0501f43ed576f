-- What the calls return decides the image, or its first error: so an image is that of the calls exactly if it is that of the bytes.
use Rattle.std.proofs.Common.{◌≡◌, ℕ, ◌≤◌, ◌^◌, List, length, Result, Ok, Err, sym, subst, ◌∙◌, arith}
use Rattle.pe_c.proofs.Cited.{◌↔◌, one_ok, AreBytes, Refusal, sections_at, ParseOptions, SectionTable, ImageView, IsImage}
use Rattle.pe_c.proofs.Cited.{one_imports, one_certificates, one_exceptions, one_exports, one_relocations, AreParts, IsImageAfter}
use Rattle.pe_c.proofs.Cited.{IsImageOfCalls, IsImageWith, Parts, mode_of, image_at, Image}
use Rattle.pe_c.proofs.ImagesByCalls.{SomeResource, image_of_calls}
use Rattle.pe_c.proofs.OneDebugData.{one_debug_data}
use Rattle.calls_failures.proofs.OneResources.{OneContent, one_resources}

one_parts : OneContent → (b : List ℕ) (o : ParseOptions) (image : Image) (sections : List SectionTable) (p q : Parts) → AreParts b o image sections p → AreParts b o image sections q → p ≡ q
one_parts law b o image sections p q g h =
    let exports = one_exports b image sections p.export_data q.export_data p.exports q.exports g.exports h.exports in
    let imports = one_imports o.parse_imports b image sections p.imports q.imports g.imports h.imports in
    let debug_data = one_debug_data b image sections p.debug_data q.debug_data g.debug_data h.debug_data in
    let exception_data = one_exceptions b image sections p.exception_data q.exception_data g.exception_data h.exception_data in
    let relocation_data = one_relocations b image sections p.relocation_data q.relocation_data g.relocation_data h.relocation_data in
    let certificates = one_certificates o.parse_attribute_certificates b image p.certificates q.certificates g.certificates h.certificates in
    let resource_data = one_resources law o.parse_resources b image sections p.resource_data q.resource_data g.resource_data h.resource_data in
    grind (arith, exports.0, exports.1, imports, debug_data, exception_data, relocation_data, certificates, resource_data)

one_with : OneContent → (b : List ℕ) (o : ParseOptions) (image : Image) (sections : Result (List SectionTable) Refusal) (r s : Result ImageView Refusal) → IsImageWith b o image sections r → IsImageWith b o image sections s → r ≡ s
one_with law b o image (Err e) r s g h = g ∙ sym h
one_with law b o image (Ok sections) r s g h = grind (arith, one_ok, one_parts)

one_after : OneContent → (b : List ℕ) (o : ParseOptions) (image : Result Image Refusal) (r s : Result ImageView Refusal) → IsImageAfter b o image r → IsImageAfter b o image s → r ≡ s
one_after law b o (Err e) r s g h = g ∙ sym h
one_after law b o (Ok image) r s g h = one_with law b o image (sections_at b image.sections_offset image.number_of_sections) r s g h

-- the law of pe_image that bytes have an image or a refusal
abbrev pub SomeImage : Type 0
SomeImage = (b : List ℕ) (o : ParseOptions) → (r : Result ImageView Refusal) × IsImage b o r

pub image_is_of_calls : SomeResource → OneContent → SomeImage → (b : List ℕ) (o : ParseOptions) (r : Result ImageView Refusal) → AreBytes b → length b ≤ 2 ^ 63 → IsImage b o r ↔ IsImageOfCalls b o r
image_is_of_calls resource content image b o r bytes small = (
  λ is. image_of_calls resource b o r bytes small is,
  λ is.
      let found = image b o in
      let same : found.0 ≡ r = one_after content b o (image_at b (mode_of o)) found.0 r (image_of_calls resource b o found.0 bytes small found.1) is in
      subst (IsImage b o) same found.1,
)
