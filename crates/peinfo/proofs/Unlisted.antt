-- What is shown and written of an image that is read without its imports is that of the image.
use Rattle.std.proofs.Common.{◌≡◌, ℕ, List, Result, Ok, Err, refl, ap, ◌∙◌}
use Rattle.std.specs.Prelude.{codes}
use Rattle.pe_core.specs.Options.{default_options}
use Rattle.pe_core.specs.Refusals.{Refusal}
use Rattle.pe_core.specs.declared.options.ParseOptions.{ParseOptions}
use Rattle.pe_image.specs.Image.{ImageView, IsImage}
use Rattle.pe_image.specs.Unlisted.{IsUnlisted, unlisted}
use Rattle.pe_image.specs.Writing.{image_written}
use Rattle.peinfo.specs.Advice.{IsAdvice, permissive_options}
use Rattle.peinfo.specs.Report.{IsReport, report_text}
use Rattle.peinfo.specs.Rewrite.{IsRewritten, IsRefusedWrite}

same_text : (image : ImageView) → report_text (unlisted image) ≡ report_text image
unfolding report_text
same_text image = refl

pub reported : (b : List ℕ) (opts : ParseOptions) (x : ImageView) (text : List ℕ) → IsUnlisted b opts x → text ≡ report_text x → IsReport b opts text
reported b opts x text u shown = record { image = u.image; given = u.given; shown = shown ∙ ap report_text u.same ∙ same_text u.image }

pub written : (b source old new text : List ℕ) (x : ImageView) (answer : ℕ) → IsUnlisted b default_options x → source ≡ b → old ≡ b → image_written source x old ≡ Ok (answer, new) → text ≡ new → IsRewritten b text
written b source old new text x answer u from over is same = record { image = u.image; given = u.given; answer = answer; written = rw same (rw (from, over, u.same) at is) }

pub refused_write : (b : List ℕ) (x : ImageView) (refusal : Refusal) → IsUnlisted b default_options x → image_written b x b ≡ Err refusal → IsRefusedWrite b refusal
refused_write b x refusal u is = record { image = u.image; given = u.given; refused = rw u.same at is }

pub advised : (b text : List ℕ) (x : ImageView) → IsUnlisted b permissive_options x → text ≡ codes "; --permissive lists the rest" → (image : Result ImageView Refusal) × IsImage b permissive_options image × IsAdvice text image
advised b text x u is = (Ok u.image, u.given, is)
