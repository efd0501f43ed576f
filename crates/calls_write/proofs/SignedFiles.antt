-- Files with other certificates, as numbers. pe_sign writes a file and then what was there, as a splice at 0 does.
use Rattle.std.proofs.Common.{◌≡◌, ℕ, ◌+◌, ◌++◌, Bool, true, false, List, length, drop, Result, Ok, Err, refl, ap, sym, ◌∙◌, subst, arith, if◌then◌else◌}
use Rattle.std.specs.Prelude.{nat_le}
use Rattle.pe_core.specs.Bytes.{splice}
use Rattle.pe_core.specs.Header.{HeaderView}
use Rattle.pe_core.specs.Refusals.{WriteFit, ◌>>=◌}
use Rattle.pe_sign.specs.Attaching.{attached_of, detached_of, written}
use Rattle.pe_sign.specs.SignRefusals.{SignRefusal, Image}
use Rattle.pe_sign.specs.declared.attachment.Placement.{Placement}
use Rattle.calls_write.specs.Signing.{attached_at, detached_at, headers_numbered, placement_of}
use Rattle.calls_base.specs.SignResults.{sign_number}
use Rattle.calls_base.specs.WrittenFiles.{numbered, written_numbered}
use Rattle.calls_base.specs.declared.image.Image as images

spliced : (f old : List ℕ) → splice old 0 f ≡ f ++ drop (length f) old
unfolding splice
spliced f old = (let start : 0 + length f ≡ length f = omega arith in ap (λ (n : ℕ). f ++ drop n old) start)

same_refusal : {X R : Type 0} (q r : R) → ◌≡◌ {A = Result X R} (Err q) (Err r) → q ≡ r
same_refusal q r h = cc

err_by : {X : Type 0} (m n : ℕ) → m ≡ n → ◌≡◌ {A = Result X ℕ} (Err m) (Err n)
err_by m n e = rw e refl

-- by whether a file fits: what pe_sign returns with the values u, and what a call of C does with v
done_by : {X : Type 0} (fits : Bool) (u v x : X) (fit : SignRefusal) → u ≡ v → ◌≡◌ {A = Result X SignRefusal} (if fits then Ok u else Err fit) (Ok x) → ◌≡◌ {A = Result X ℕ} (if fits then Ok v else Err 37) (Ok x)
done_by true u v x fit e h = cc
done_by false u v x fit e h = absurd cc

fit_by : {X : Type 0} (fits : Bool) (u v : X) (r : SignRefusal) (n : ℕ) → n ≡ sign_number r → ◌≡◌ {A = Result X SignRefusal} (if fits then Ok u else Err (Image WriteFit)) (Err r) → ◌≡◌ {A = Result X ℕ} (if fits then Ok v else Err 37) (Err n)
fit_by true u v r n e h = absurd cc
fit_by {X} false u v r n e h = err_by 37 n (ap sign_number (same_refusal {X = X} (Image WriteFit) r h) ∙ sym e)

written_is : (m : Result (List ℕ) SignRefusal) (old new : List ℕ) (n : ℕ) → written m old ≡ Ok (n, new) → written_numbered (numbered sign_number m) old ≡ Ok (n, new)
written_is (Ok f) old new n h =
    done_by (nat_le (length f) (length old)) (length f, f ++ drop (length f) old) (length f, splice old 0 f) (n, new) (Image WriteFit)
    (ap (λ (x : List ℕ). (length f, x)) (sym (spliced f old))) h
written_is (Err q) old new n h = absurd cc

written_not : (m : Result (List ℕ) SignRefusal) (old : List ℕ) (r : SignRefusal) (n : ℕ) → n ≡ sign_number r → written m old ≡ Err r → written_numbered (numbered sign_number m) old ≡ Err n
written_not (Ok f) old r n e h =
    fit_by (nat_le (length f) (length old)) (length f, f ++ drop (length f) old) (length f, splice old 0 f) r n e h
written_not (Err q) old r n e h = err_by (sign_number q) n (ap sign_number (same_refusal {X = ℕ × List ℕ} q r h) ∙ sym e)

-- headers that are read
read : {X : Type 0} (x : Result HeaderView ℕ) (f : HeaderView → Result X ℕ) (h : HeaderView) → x ≡ Ok h → (x >>= f) ≡ f h
read x f h e = rw e refl

attached_is : (placement : ℕ) (b : List ℕ) (image : images.Image) (certificate : List ℕ) (h : HeaderView) → headers_numbered b image ≡ Ok h → attached_at placement b image certificate ≡ numbered sign_number (attached_of (placement_of placement) b h certificate)
attached_is placement b image certificate h e = read (headers_numbered b image) (λ h. numbered sign_number (attached_of (placement_of placement) b h certificate)) h e

detached_is : (b : List ℕ) (image : images.Image) (h : HeaderView) → headers_numbered b image ≡ Ok h → detached_at b image ≡ numbered sign_number (detached_of b h)
detached_is b image h e = read (headers_numbered b image) (λ h. numbered sign_number (detached_of b h)) h e

-- ---- what the calls need

pub attached : (placement : ℕ) (p : Placement) (b : List ℕ) (image : images.Image) (certificate old new : List ℕ) (h : HeaderView) (n : ℕ) → p ≡ placement_of placement → headers_numbered b image ≡ Ok h → written (attached_of p b h certificate) old ≡ Ok (n, new) →
    written_numbered (attached_at placement b image certificate) old ≡ Ok (n, new)
attached placement p b image certificate old new h n is e w =
    ap (λ (m : Result (List ℕ) ℕ). written_numbered m old) (attached_is placement b image certificate h e)
    ∙ written_is (attached_of (placement_of placement) b h certificate) old new n (subst (λ (q : Placement). written (attached_of q b h certificate) old ≡ Ok (n, new)) is w)

pub not_attached : (placement : ℕ) (p : Placement) (b : List ℕ) (image : images.Image) (certificate old : List ℕ) (h : HeaderView) (r : SignRefusal) (n : ℕ) → p ≡ placement_of placement → headers_numbered b image ≡ Ok h → n ≡ sign_number r → written (attached_of p b h certificate) old ≡ Err r →
    written_numbered (attached_at placement b image certificate) old ≡ Err n
not_attached placement p b image certificate old h r n is e k w =
    ap (λ (m : Result (List ℕ) ℕ). written_numbered m old) (attached_is placement b image certificate h e)
    ∙ written_not (attached_of (placement_of placement) b h certificate) old r n k (subst (λ (q : Placement). written (attached_of q b h certificate) old ≡ Err r) is w)

pub detached : (b : List ℕ) (image : images.Image) (old new : List ℕ) (h : HeaderView) (n : ℕ) → headers_numbered b image ≡ Ok h → written (detached_of b h) old ≡ Ok (n, new) → written_numbered (detached_at b image) old ≡ Ok (n, new)
detached b image old new h n e w = ap (λ (m : Result (List ℕ) ℕ). written_numbered m old) (detached_is b image h e) ∙ written_is (detached_of b h) old new n w

pub not_detached : (b : List ℕ) (image : images.Image) (old : List ℕ) (h : HeaderView) (r : SignRefusal) (n : ℕ) → headers_numbered b image ≡ Ok h → n ≡ sign_number r → written (detached_of b h) old ≡ Err r → written_numbered (detached_at b image) old ≡ Err n
not_detached b image old h r n e is w = ap (λ (m : Result (List ℕ) ℕ). written_numbered m old) (detached_is b image h e) ∙ written_not (detached_of b h) old r n is w
