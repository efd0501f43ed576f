-- A plan of an image that is read without its imports.
use Rattle.std.proofs.Common.{◌≡◌, ℕ, List, Option, Result, Ok, Err, inr, refl}
use Rattle.pe_core.specs.Options.{default_options}
use Rattle.pe_core.specs.Refusals.{Refusal, kind_of}
use Rattle.pe_core.specs.declared.error.Error.{Error}
use Rattle.pe_core.specs.declared.error.Error.TheVariants as errors
use Rattle.pe_image.specs.Core.{sections_read}
use Rattle.pe_image.specs.Image.{ImageView, exceptions_on}
use Rattle.pe_image.specs.Unlisted.{IsUnlisted}
use Rattle.pe_unwind.specs.FunctionTable.{Finds}
use Rattle.pe_unwind.specs.declared.function_table.RuntimeFunction.{RuntimeFunction}
use Rattle.peinfo.specs.Find.{functions_of}
use Rattle.pe_unwind.specs.UnwindRecord.{UnwindInfoView}
use Rattle.peinfo.specs.Plan.{PlansRecords, IsPlanned, IsPlanRefusal}

pub planned : (b : List ℕ) (x : ImageView) (a : ℕ) (found : Option RuntimeFunction) (answer : Result (List UnwindInfoView) Refusal) → IsUnlisted b default_options x → Finds (functions_of (exceptions_on 0x8664 x)) a found → PlansRecords x.exception_data x.sections found answer → IsPlanned b a found answer
planned b x a found answer u finds plan = record { image = u.image; given = u.given; finds = rw u.same at finds; plan = rw u.same at plan }

pub plan_refusal : (b : List ℕ) (x : ImageView) (a : ℕ) (found : Option RuntimeFunction) (e : Error) → IsUnlisted b default_options x → sections_read b default_options ≡ Ok x.sections → Finds (functions_of (exceptions_on 0x8664 x)) a found → PlansRecords x.exception_data x.sections found (Err (kind_of e)) → IsPlanRefusal b a e
plan_refusal b x a found (errors.Memory e) u read finds plan = (tt, rw read refl)
plan_refusal b x a found other u read finds plan = (inr (found, planned b x a found (Err (kind_of other)) u finds plan), tt)
