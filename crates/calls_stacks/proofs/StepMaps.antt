-- The sections of an image map RVAs as the section map of its exception data does, and those of a module as its view does.
use Rattle.std.proofs.Common.{◌≡◌, Bool, true, false, [], ◌∷◌, None, Some, Ok, ap, sym}
use Rattle.std.specs.Prelude.{◌==◌, if◌then◌else◌}
use Rattle.pe_core.specs.Bytes.{holds}
use Rattle.pe_core.specs.Refusals.{Short, outcome}
use Rattle.pe_core.specs.SectionMap.{map_view, offset_in}
use Rattle.pe_unwind.specs.ExceptionTable.{ExceptionView}
use Rattle.calls_base.specs.Images.{map_of_image}
use Rattle.calls_base.specs.Modes.{options_of}
use Rattle.calls_stacks.specs.StackFrames.{exceptions_by}
use Rattle.calls_base.specs.declared.ranges.Range.{Range}
use Rattle.calls_base.specs.Views.{map_of}
use Rattle.calls_stacks.specs.WalkModules.{exceptions_of, module_of}
use Rattle.calls_stacks.specs.declared.stack.walk.ModuleView.{ModuleView}
use Rattle.calls_base.specs.declared.view.View.{View}
use Rattle.pe_frame.specs.Modules.{map_of_module}

of_test : (inside : Bool) (x e : ExceptionView) → outcome ((inside, Short) ∷ []) x ≡ Ok e → x ≡ e
of_test true x e h = let same : x ≡ e = cc in same
of_test false x e h = absurd cc

pub maps_of_steps : (v : View) (table : Range) (e : ExceptionView) → exceptions_by v table ≡ Ok e →
    map_of_image v.image.now v.sections.now ≡ offset_in (map_view (options_of (v.image.now).mode) v.sections.now e.alignment)
maps_of_steps v table e h =
    let read : ExceptionView = record { content = v.bytes.now; start = table.offset; size = table.length; alignment = (v.image.now).file_alignment } in
    ap (λ (x : ExceptionView). offset_in (map_view (options_of (v.image.now).mode) v.sections.now x.alignment)) (of_test (holds v.bytes.now table.offset table.length) read e h)

-- the exception data of a module have the file alignment of its image
with_table : (empty : Bool) (x e : ExceptionView) → (if empty then None else Some x) ≡ Some e → x ≡ e
with_table true x e h = absurd cc
with_table false x e h = let same : x ≡ e = cc in same

pub maps_of_walks : (v : ModuleView) (e : ExceptionView) → exceptions_of v ≡ Some e → map_of_module (module_of v) e ≡ map_of v.image
maps_of_walks v e h =
    let read : ExceptionView = record { content = (v.image).bytes.now; start = (v.table).offset; size = (v.table).length; alignment = ((v.image).image.now).file_alignment } in
    ap (λ (x : ExceptionView). map_of_module (module_of v) x) (sym (with_table ((v.table).length == 0) read e h))
