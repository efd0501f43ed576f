use Rattle.std.proofs.Common.{◌∷◌, [], Ok, Err, arith, refl, rules}
use Rattle.pe_directories.proofs.Cited.{common_steps, pushed, dll_of, dll_view, dll_name_offset, entry_items}
use Rattle.pe_directories.proofs.DelayLists.{entry_taken, no_entry, taken_is, name_is, names_after, names_over}
use Rattle.pe_directories.proofs.WalkLists.{all_read, one_pushed, refused_item, refused_read}
use Rattle.pe_directories.proofs.delay_import_list.named_dlls.Goals as goal

pub returns-in_err-item : goal.returns-in_err-item
returns-in_err-item g c =
    let taken = taken_is (entry_items c.loop-name.entries) (entry_items c.next.new.self) c.in-Some.item (Err c.in_err-item.field-0.0) (entry_taken c.loop-name.entries c.next.new.self c.in-Some.item c.in-Some.ensures.steps) c.in_err-item.was in
    let refused = refused_item (dll_of c.args.image.now) (entry_items c.args.entries) (entry_items c.loop-name.entries) (entry_items c.next.new.self) _ c.in_err-item.field-0.0 c.loop-name.invariant.read taken in
    search (rules, refused)

pub named_dll-requires : goal.named_dll-requires
named_dll-requires g c = grind (arith, common_steps, taken_is, entry_taken, name_is)

pub returns-in_err-named_dll : goal.returns-in_err-named_dll
returns-in_err-named_dll g c =
    let taken = taken_is (entry_items c.loop-name.entries) (entry_items c.next.new.self) c.in-Some.item (Ok c.in_ok-item.field-0) (entry_taken c.loop-name.entries c.next.new.self c.in-Some.item c.in-Some.ensures.steps) c.in_ok-item.was in
    let refused = refused_read (dll_of c.args.image.now) (entry_items c.args.entries) (entry_items c.loop-name.entries) (entry_items c.next.new.self) _ c.in_ok-item.field-0 c.in_err-named_dll.field-0.0 c.loop-name.invariant.read taken c.in_err-named_dll.ensures in
    search (rules, refused)

pub loop-name-preserved : goal.loop-name-preserved
loop-name-preserved g c =
    let taken = taken_is (entry_items c.loop-name.entries) (entry_items c.next.new.self) c.in-Some.item (Ok c.in_ok-item.field-0) (entry_taken c.loop-name.entries c.next.new.self c.in-Some.item c.in-Some.ensures.steps) c.in_ok-item.was in
    record {
      read = one_pushed dll_view (dll_of c.args.image.now) (entry_items c.args.entries) (entry_items c.loop-name.entries) (entry_items c.next.new.self) _ _ c.in_ok-item.field-0 c.in_ok-named_dll.field-0 c.loop-name.invariant.read taken c.in_ok-named_dll.ensures
          (pushed (c.in_ok-named_dll.field-0 ∷ []) refl c.in_ok-push.was c.push.ensures.items);
      names = names_after c.args.image.now.bytes (dll_name_offset c.args.image.now) (entry_items c.loop-name.entries) (entry_items c.next.new.self) c.args.names.now c.loop-name.name-index _ c.loop-name.invariant.names taken;
    }

pub returns-in_default : goal.returns-in_default
returns-in_default g c = search (rules, arith, all_read, no_entry)

pub returns : goal.returns
returns g c = search (rules, arith, all_read, names_over)
