-- The modules of a process that a walk goes through, as callers of the library pass them.
use Rattle.std.specs.Prelude.{ℕ, ◌==◌, Bool, if◌then◌else◌, List, [], ◌∷◌, map, Option, Some, None, Result}
use Rattle.std.specs.Borrow.{Bor}
use Rattle.std.specs.List.{list_all}
use Rattle.std.specs.Option.{option_map}
use Rattle.pe_core.specs.Bytes.{holds}
use Rattle.pe_core.specs.Refusals.{Refusal, Short, outcome}
use Rattle.pe_unwind.specs.ExceptionTable.{ExceptionView}
use Rattle.pe_frame.specs.declared.modules.Module.{Module}
use Rattle.calls_base.specs.Modes.{options_of}
use Rattle.calls_stacks.specs.declared.stack.walk.ModuleView.{ModuleView}

-- where a module is loaded, and how many bytes it has there
abbrev pub view_base : ModuleView → ℕ
view_base v = v.base

abbrev pub view_size : ModuleView → ℕ
view_size v = ((v.image).image.now).size_of_image

-- the function table of a module lies in its bytes
abbrev pub has_table : ModuleView → Bool
has_table v = holds (v.image).bytes.now (v.table).offset (v.table).length

-- the exception data of a module; one of no bytes is none
abbrev pub exceptions_of : ModuleView → Option ExceptionView
exceptions_of v =
    if (v.table).length == 0 then None
    else Some (record {
      content = (v.image).bytes.now;
      start = (v.table).offset;
      size = (v.table).length;
      alignment = ((v.image).image.now).file_alignment;
    })

-- a module as pe_frame takes it, with its exception data
abbrev pub module_with : ModuleView → Option (Bor ExceptionView) → Module
module_with v exceptions = record {
  base = view_base v;
  size = view_size v;
  bytes = (v.image).bytes;
  sections = (v.image).sections;
  index = (v.image).index;
  exceptions = exceptions;
  opts = options_of ((v.image).image.now).mode;
}

-- the same with a reference to them, wherever they stand
abbrev pub module_of : ModuleView → Module
module_of v = module_with v (option_map (λ e. record { ref_ptr = (0, 0); now = e }) (exceptions_of v))

abbrev pub modules_of : List ModuleView → List Module
modules_of views = map module_of views

-- modules whose function tables lie in their bytes
abbrev pub viewed : List ModuleView → Result (List ModuleView) Refusal
viewed views = outcome ((list_all has_table views, Short) ∷ []) views
