-- Refusals of writes, as numbers.
use Rattle.std.proofs.Common.{◌≡◌, ℕ, Bool, true, false, List, [], ◌∷◌, length, map, Result, Ok, Err, refl, ap, sym, ◌∙◌, if◌then◌else◌}
use Rattle.std.specs.Prelude.{nat_le}
use Rattle.pe_core.specs.Bytes.{splice}
use Rattle.pe_core.specs.Header.{HeaderView}
use Rattle.pe_core.specs.Refusals.{WriteFit, ◌>>=◌, outcome}
use Rattle.pe_edit.specs.Views.{record_leaf}
use Rattle.pe_edit.specs.declared.record.ResourceRecord.{ResourceRecord}
use Rattle.pe_rewrite.specs.Edited.{edited_of, written}
use Rattle.pe_rewrite.specs.RewriteRefusals.{RewriteRefusal}
use Rattle.pe_rewrite.specs.RewriteRefusals as rewrites
use Rattle.pe_version.specs.VersionRefusals.{VersionRefusal, block_of}
use Rattle.pe_version.specs.VersionRefusals as versions
use Rattle.pe_version.specs.WrittenBlocks.{BlockValue}
use Rattle.calls_write.specs.ResourceEdits.{edited_at, records_numbered, rewrite_number, block_at, version_number, version_numbered}
use Rattle.calls_write.specs.Signing.{headers_numbered}
use Rattle.calls_base.specs.WrittenFiles.{length_numbered, numbered, written_numbered}
use Rattle.calls_base.specs.declared.image.Image as images

same_refusal : {X R : Type 0} (q r : R) → ◌≡◌ {A = Result X R} (Err q) (Err r) → q ≡ r
same_refusal q r h = cc

err_by : {X : Type 0} (m n : ℕ) → m ≡ n → ◌≡◌ {A = Result X ℕ} (Err m) (Err n)
err_by m n e = rw e refl

fit_refused : {X R : Type 0} (number : R → ℕ) (fit : R) (w : ℕ) (t : Bool) (v : X) (r : R) → number fit ≡ w → ◌≡◌ {A = Result X R} (if t then Ok v else Err fit) (Err r) → ◌≡◌ {A = Result X ℕ} (if t then Ok v else Err w) (Err (number r))
fit_refused number fit w true v r n h = absurd cc
fit_refused {X} number fit w false v r n h = err_by w (number r) (sym n ∙ ap number (same_refusal {X = X} fit r h))

-- a file that does not fit, or is refused
written_refused : {R : Type 0} (number : R → ℕ) (fit : R) (w : ℕ) (m : Result (List ℕ) R) (old : List ℕ) (r : R) → number fit ≡ w →
    ◌≡◌ {A = Result (ℕ × List ℕ) R} (m >>= λ f. outcome ((nat_le (length f) (length old), fit) ∷ []) (length f, splice old 0 f)) (Err r) →
    ◌≡◌ {A = Result (ℕ × List ℕ) ℕ} (numbered number m >>= λ f. outcome ((nat_le (length f) (length old), w) ∷ []) (length f, splice old 0 f)) (Err (number r))
written_refused number fit w (Ok f) old r n h = fit_refused number fit w (nat_le (length f) (length old)) (length f, splice old 0 f) r n h
written_refused number fit w (Err q) old r n h = err_by (number q) (number r) (ap number (same_refusal {X = ℕ × List ℕ} q r h))

-- two steps that are done
two_done : {A B C : Type 0} (x : Result A ℕ) (y : Result B ℕ) (f : A → Result C ℕ) (h : A) (u : B) → x ≡ Ok h → y ≡ Ok u → (x >>= λ a. y >>= λ b. f a) ≡ f h
two_done x y f h u e g = rw (e, g) refl

pub edit_refused : (b : List ℕ) (image : images.Image) (d : List ℕ) (rs : List ResourceRecord) (old : List ℕ) (h : HeaderView) (u : Unit {0}) (r : RewriteRefusal) (n : ℕ) →
    headers_numbered b image ≡ Ok h → records_numbered d rs ≡ Ok u → written (edited_of b h (map (record_leaf d) rs)) old ≡ Err r → n ≡ rewrite_number r → written_numbered (edited_at b image d rs) old ≡ Err n
edit_refused b image d rs old h u r n eh eu e is =
    ap (λ (z : Result (List ℕ) ℕ). written_numbered z old) (two_done (headers_numbered b image) (records_numbered d rs) (λ h. numbered rewrite_number (edited_of b h (map (record_leaf d) rs))) h u eh eu)
    ∙ written_refused rewrite_number (rewrites.Image WriteFit) 37 (edited_of b h (map (record_leaf d) rs)) old r refl e
    ∙ err_by (rewrite_number r) n (sym is)

length_refused : {R : Type 0} (number : R → ℕ) (m : Result (List ℕ) R) (r : R) → ◌≡◌ {A = Result ℕ R} (m >>= λ s. Ok (length s)) (Err r) → length_numbered (numbered number m) ≡ Err (number r)
length_refused number (Ok s) r h = absurd cc
length_refused number (Err q) r h = err_by (number q) (number r) (ap number (same_refusal {X = ℕ} q r h))

pub block_length_refused : (k : BlockValue) (r : VersionRefusal) (n : ℕ) → versions.length_of (block_of k) ≡ Err r → n ≡ version_number r → length_numbered (block_at k) ≡ Err n
block_length_refused k r n e is = length_refused version_number (block_of k) r e ∙ err_by (version_number r) n (sym is)

pub block_refused : (k : BlockValue) (old : List ℕ) (r : VersionRefusal) (n : ℕ) → versions.written (block_of k) old ≡ Err r → n ≡ version_number r → written_numbered (block_at k) old ≡ Err n
block_refused k old r n e is =
    written_refused version_number (versions.Image WriteFit) 37 (block_of k) old r refl e ∙ err_by (version_number r) n (sym is)

pub version_length_refused : (made : Result (List ℕ) VersionRefusal) (r : VersionRefusal) (n : ℕ) → versions.length_of made ≡ Err r → n ≡ version_number r → length_numbered (version_numbered made) ≡ Err n
version_length_refused made r n e is = length_refused version_number made r e ∙ err_by (version_number r) n (sym is)

pub version_refused : (made : Result (List ℕ) VersionRefusal) (old : List ℕ) (r : VersionRefusal) (n : ℕ) → versions.written made old ≡ Err r → n ≡ version_number r → written_numbered (version_numbered made) old ≡ Err n
version_refused made old r n e is =
    written_refused version_number (versions.Image WriteFit) 37 made old r refl e ∙ err_by (version_number r) n (sym is)
