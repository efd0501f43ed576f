-- What the calls return, by the parts of the image.
use Rattle.std.proofs.Common.{◌≡◌, ℕ, Bool, List, length, Result, Ok, ap, ◌∙◌, subst, arith}
use Rattle.pe_sign.proofs.Cited.{changeable_parts, attach_tests, table_start, attached_of, attached_file, detached_of}
use Rattle.pe_sign.proofs.Cited.{detached_file, with_table, without_table, Fits, covered, covered_bytes, left_out_of, outcome}
use Rattle.pe_sign.proofs.Cited.{◌>>=◌, HeaderView, SignRefusal, Placement, LeftOut}
use Rattle.pe_sign.proofs.Digests.{attached_digest, detached_digest}
use Rattle.pe_sign.proofs.Tests.{value_is, image_fits, parts_of_image}

-- the file is that of the image's parts, and they fit
pub record IsFile (l : LeftOut) (b f g : List ℕ) : Type 0 where
  pub fits : Fits l (length b)
  pub is_file : f ≡ g

pub same_parts : (b : List ℕ) (h : HeaderView) (k l : LeftOut) → changeable_parts b h ≡ Ok k → left_out_of h ≡ Ok l → k ≡ l
same_parts b h k l e i = let j : left_out_of h ≡ Ok k = (parts_of_image b h k e).0 in cc

pub file_at : (x : Result LeftOut SignRefusal) (tests : LeftOut → List (Bool × SignRefusal)) (g : LeftOut → List ℕ) (f : List ℕ) →
    (x >>= λ k. outcome (tests k) (g k)) ≡ Ok f → (k : LeftOut) × ((x ≡ Ok k) × (f ≡ g k))
file_at x tests g f h = grind (arith, value_is)

bare_at : (x : Result LeftOut SignRefusal) (g : LeftOut → List ℕ) (f : List ℕ) → (x >>= λ k. Ok (g k)) ≡ Ok f → (k : LeftOut) × ((x ≡ Ok k) × (f ≡ g k))
bare_at x g f h = grind arith

pub attached_is : (placement : Placement) (b : List ℕ) (h : HeaderView) (c f : List ℕ) (l : LeftOut) → left_out_of h ≡ Ok l → attached_of placement b h c ≡ Ok f → IsFile l b f (attached_file placement l c b)
attached_is placement b h c f l e i =
    let p = file_at (changeable_parts b h) (λ k. attach_tests placement k c (length b)) (λ k. attached_file placement k c b) f i in
    let same : p.0 ≡ l = same_parts b h p.0 l p.1.0 e in
    record {
      fits = subst (λ (k : LeftOut). Fits k (length b)) same (image_fits b h p.0 p.1.0);
      is_file = p.1.1 ∙ ap (λ (k : LeftOut). attached_file placement k c b) same;
    }

-- what is attached has parts
pub attached_from : (placement : Placement) (b : List ℕ) (h : HeaderView) (c f : List ℕ) → attached_of placement b h c ≡ Ok f → (l : LeftOut) × (left_out_of h ≡ Ok l)
attached_from placement b h c f i =
    let p = file_at (changeable_parts b h) (λ k. attach_tests placement k c (length b)) (λ k. attached_file placement k c b) f i in
    (p.0, (parts_of_image b h p.0 p.1.0).0)

pub detached_is : (b : List ℕ) (h : HeaderView) (f : List ℕ) (l : LeftOut) → left_out_of h ≡ Ok l → detached_of b h ≡ Ok f → IsFile l b f (detached_file l b)
detached_is b h f l e i = grind (arith, bare_at, same_parts, image_fits)

pub bare_image_at : (b : List ℕ) (h : HeaderView) (f : List ℕ) (l : LeftOut) → left_out_of h ≡ Ok l → detached_of b h ≡ Ok f → changeable_parts b h ≡ Ok l
bare_image_at b h f l e i = grind (arith, bare_at, same_parts)

pub attached_digest_of : (placement : Placement) (b : List ℕ) (h : HeaderView) (c f : List ℕ) (l : LeftOut) → left_out_of h ≡ Ok l → attached_of placement b h c ≡ Ok f →
    covered_bytes (covered (with_table l (table_start placement l (length b)) (length f)) f) ≡ covered_bytes (covered l b)
attached_digest_of placement b h c f l e i =
    let s : ℕ = table_start placement l (length b) in
    let is = attached_is placement b h c f l e i in
    ap (λ (x : List ℕ). covered_bytes (covered (with_table l s (length x)) x)) is.is_file ∙ attached_digest placement l c b is.fits

pub detached_digest_of : (b : List ℕ) (h : HeaderView) (f : List ℕ) (l : LeftOut) → left_out_of h ≡ Ok l → detached_of b h ≡ Ok f → covered (without_table l) f ≡ covered l b
detached_digest_of b h f l e i =
    let is = detached_is b h f l e i in
    ap (λ (x : List ℕ). covered (without_table l) x) is.is_file ∙ detached_digest l b is.fits
