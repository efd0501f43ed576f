use Rattle.std.proofs.Common.{◌∷◌, [], Ok, Err, arith, refl, rules}
use Rattle.pe_directories.proofs.Cited.{common_steps, pushed, imported_by, function_view, function_name_offset, table_items}
use Rattle.pe_directories.proofs.DelayLists.{number_taken, no_number, taken_is, name_is, names_after, names_over}
use Rattle.pe_directories.proofs.WalkLists.{all_read, one_pushed, refused_item, refused_read}
use Rattle.pe_directories.proofs.delay_import.DelayImport.named_functions.Goals as goal

pub returns-in_err-item : goal.returns-in_err-item
returns-in_err-item g c =
    let taken = taken_is (table_items c.loop-name.table) (table_items c.next.new.self) c.in-Some.item (Err c.in_err-item.field-0.0) (number_taken c.loop-name.table c.next.new.self c.in-Some.item c.in-Some.ensures.steps) c.in_err-item.was in
    let refused = refused_item (imported_by c.args.image.now c.args.self.now) (table_items c.args.table) (table_items c.loop-name.table) (table_items c.next.new.self) _ c.in_err-item.field-0.0 c.loop-name.invariant.read taken in
    search (rules, refused)

pub named_function-requires : goal.named_function-requires
named_function-requires g c = grind (arith, common_steps, taken_is, number_taken, name_is)

pub returns-in_err-named_function : goal.returns-in_err-named_function
returns-in_err-named_function g c =
    let taken = taken_is (table_items c.loop-name.table) (table_items c.next.new.self) c.in-Some.item (Ok c.in_ok-item.field-0) (number_taken c.loop-name.table c.next.new.self c.in-Some.item c.in-Some.ensures.steps) c.in_ok-item.was in
    let refused = refused_read (imported_by c.args.image.now c.args.self.now) (table_items c.args.table) (table_items c.loop-name.table) (table_items c.next.new.self) _ c.in_ok-item.field-0 c.in_err-named_function.field-0.0 c.loop-name.invariant.read taken c.in_err-named_function.ensures in
    search (rules, refused)

pub loop-name-preserved : goal.loop-name-preserved
loop-name-preserved g c =
    let taken = taken_is (table_items c.loop-name.table) (table_items c.next.new.self) c.in-Some.item (Ok c.in_ok-item.field-0) (number_taken c.loop-name.table c.next.new.self c.in-Some.item c.in-Some.ensures.steps) c.in_ok-item.was in
    record {
      read = one_pushed function_view (imported_by c.args.image.now c.args.self.now) (table_items c.args.table) (table_items c.loop-name.table) (table_items c.next.new.self) _ _ c.in_ok-item.field-0 c.in_ok-named_function.field-0 c.loop-name.invariant.read taken c.in_ok-named_function.ensures
          (pushed (c.in_ok-named_function.field-0 ∷ []) refl c.in_ok-push.was c.push.ensures.items);
      names = names_after c.args.image.now.bytes (function_name_offset c.args.image.now c.args.self.now) (table_items c.loop-name.table) (table_items c.next.new.self) c.args.names.now c.loop-name.name-index _ c.loop-name.invariant.names taken;
    }

pub returns-in_default : goal.returns-in_default
returns-in_default g c = search (rules, arith, all_read, no_number)

pub returns : goal.returns
returns g c = search (rules, arith, all_read, names_over)
