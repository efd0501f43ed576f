-- What lookup finds.
use Rattle.std.proofs.Common.{◌≡◌, ℕ, List, [], Option, None, refl}
use Rattle.pe_core.specs.Options.{default_options}
use Rattle.pe_image.specs.Image.{ImageView, exceptions_on}
use Rattle.pe_image.specs.Unlisted.{IsUnlisted}
use Rattle.pe_unwind.specs.FunctionTable.{Finds, StopsBetween, scan}
use Rattle.pe_unwind.specs.Lookup.{StopsAfter}
use Rattle.pe_unwind.specs.declared.function_table.RuntimeFunction.{RuntimeFunction}
use Rattle.peinfo.specs.Find.{IsFindText, functions_of, found_line}

pub nothing_stops : (a : ℕ) → StopsBetween [] a None
unfolding StopsBetween StopsAfter
nothing_stops a = (None, ([], [], refl, tt, tt, refl), refl)

-- nothing is found among no functions
pub nothing_found : (a : ℕ) → Finds [] a None
unfolding scan
nothing_found a = record { entry = tt; covers = tt; stops = nothing_stops a; scanned = λ _. refl }

pub find_text : (b : List ℕ) (x : ImageView) (a : ℕ) (found : Option RuntimeFunction) (text : List ℕ) → IsUnlisted b default_options x → Finds (functions_of (exceptions_on 0x8664 x)) a found → text ≡ found_line found → IsFindText b a text
find_text b x a found text u finds shown = record { image = u.image; given = u.given; found = found; finds = rw u.same at finds; shown = shown }
