-- Where an image is returned, its section headers were read before all of it.
use Rattle.std.proofs.Common.{◌≡◌, ℕ, List, Result, Ok, Err, refl, sym, ap, ◌∙◌, arith}
use Rattle.pe_image.proofs.Cited.{IfOk, HeaderView, header_at, Refusal, ◌>>=◌, Error, sections_of, ParseOptions, SectionTable}
use Rattle.pe_image.proofs.Cited.{CoreView, core_of, core_with, sections_read, ImageView, with_fields, demanded}
use Rattle.pe_image.proofs.Cited.{first_fields_demanded, before_resources, IsAfterCore, IsImage, image_view, ReturnsImage, PE}
use Rattle.pe_image.proofs.Steps.{passed_test}

-- what all values of two steps have in common
pub of_two : {X Y Z W : Type 0} (a : Result X Refusal) (f : X → Result Y Refusal) (make : X → Y → Z) (part : Z → W) (w : W) (z : Z) → ((x : X) (y : Y) → part (make x y) ≡ w) → (a >>= λ x. f x >>= λ y. Ok (make x y)) ≡ Ok z → part z ≡ w
of_two a f make part w z same h = grind arith

core_sections : (b : List ℕ) (o : ParseOptions) (header : HeaderView) (sections : List SectionTable) (c : CoreView) → core_with b o header sections ≡ Ok c → c.sections ≡ sections
unfolding core_with
core_sections b o header sections c h = grind (arith, of_two)

pub core_header : (b : List ℕ) (o : ParseOptions) (header : HeaderView) (sections : List SectionTable) (c : CoreView) → core_with b o header sections ≡ Ok c → c.header ≡ header
unfolding core_with
core_header b o header sections c h = grind (arith, of_two)

pub sections_of_core : (b : List ℕ) (o : ParseOptions) (c : CoreView) → core_of b o ≡ Ok c → sections_read b o ≡ Ok c.sections
unfolding core_of
sections_of_core b o c h = grind (arith, core_sections)

-- a core has the headers and the section headers that were read
pub headers_of_core : (b : List ℕ) (o : ParseOptions) (c : CoreView) → core_of b o ≡ Ok c → (header_at b o.parse_mode ≡ Ok c.header) × (sections_of b c.header ≡ Ok c.sections)
unfolding core_of
headers_of_core b o c h = grind (arith, core_header, core_sections)

pub core_before : (b : List ℕ) (o : ParseOptions) (r : Result CoreView Refusal) (d : CoreView) → (r >>= λ c. first_fields_demanded b o c >>= λ u. Ok c) ≡ Ok d → r ≡ Ok d
core_before b o r d h = grind (arith, passed_test)

after : (b : List ℕ) (o : ParseOptions) (r : Result CoreView Refusal) (x : ImageView) → before_resources b o ≡ r → IsAfterCore b o r (Ok x) → sections_read b o ≡ Ok x.sections
unfolding before_resources with_fields
after b o (Ok c) x h (f, are, given) =
    let same : x ≡ with_fields b o c f = sym (passed_test (demanded o.parse_mode f) (with_fields b o c f) x (sym given)) in
    sections_of_core b o c (core_before b o (core_of b o) c h) ∙ ap (λ sections. Ok sections) (sym (ap (λ (x : ImageView). x.sections) same))
after b o (Err e) x h is = absurd cc

pub sections_of_image : (b : List ℕ) (o : ParseOptions) (x : ImageView) → IsImage b o (Ok x) → sections_read b o ≡ Ok x.sections
sections_of_image b o x is = after b o (before_resources b o) x refl is

pub sections_given : {Z : Type 0} (b : List ℕ) (o : ParseOptions) (r : Result (PE Z) Error) → ReturnsImage b o r → IfOk r (λ p. sections_read b o ≡ Ok (image_view p).sections)
sections_given b o r is = grind (arith, sections_of_image)
