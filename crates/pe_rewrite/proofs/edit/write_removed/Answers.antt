use Rattle.std.proofs.Common.{refl}
use Rattle.pe_rewrite.proofs.Cited.{err_from_is_err_and, header_view}
use Rattle.pe_rewrite.proofs.Calls.{found, gone_most, gone_returned, gone_short, lies_gone, stayed_returned, stayed_short}
use Rattle.pe_rewrite.proofs.edit.write_removed.Goals as goal

pub length_without-length-requires : goal.length_without-length-requires
length_without-length-requires c =
    let b = c.args.bytes.now in
    let h = header_view c.args.header.now in
    let x = found b h c.in_ok-target.target c.in_ok-require_headers.field-0 c.in_ok-target.ensures c.in_ok-require_headers.ensures in
    gone_most b h c.in_ok-target.target c.in-Ok.room x c.in-Ok.ensures

pub returns-in_err-require_room-in-Ok : goal.returns-in_err-require_room-in-Ok
returns-in_err-require_room-in-Ok c =
    let b = c.args.bytes.now in
    let h = header_view c.args.header.now in
    let x = found b h c.in_ok-target.target c.in_ok-require_headers.field-0 c.in_ok-target.ensures c.in_ok-require_headers.ensures in
    let p = err_from_is_err_and c.from_residual-in_err-require_room-in-Ok.result c.from_residual-in_err-require_room-in-Ok.ensures.1 in
    rw (p.1, p.2) (gone_short b h c.in_ok-target.target c.in-Ok.room c.length_without-length.result c.args.out.now _ x c.in-Ok.ensures c.length_without-length.ensures c.in_err-require_room-in-Ok.ensures, refl)

pub set_gone-requires-clause-lies : goal.set_gone-requires-clause-lies
set_gone-requires-clause-lies c =
    let b = c.args.bytes.now in
    let h = header_view c.args.header.now in
    let x = found b h c.in_ok-target.target c.in_ok-require_headers.field-0 c.in_ok-target.ensures c.in_ok-require_headers.ensures in
    lies_gone b h c.in_ok-target.target c.in-Ok.room x c.in-Ok.ensures

pub returns-in_err-require_room-in-Err : goal.returns-in_err-require_room-in-Err
returns-in_err-require_room-in-Err c =
    let b = c.args.bytes.now in
    let h = header_view c.args.header.now in
    let x = found b h c.in_ok-target.target c.in_ok-require_headers.field-0 c.in_ok-target.ensures c.in_ok-require_headers.ensures in
    let p = err_from_is_err_and c.from_residual-in_err-require_room-in-Err.result c.from_residual-in_err-require_room-in-Err.ensures.1 in
    rw (p.1, p.2) (stayed_short b h c.in_ok-target.target _ c.args.out.now _ x c.in-Err.ensures c.in_err-require_room-in-Err.ensures, refl)

pub returns-in_ok-require_room-in-Ok : goal.returns-in_ok-require_room-in-Ok
returns-in_ok-require_room-in-Ok c =
    let b = c.args.bytes.now in
    let h = header_view c.args.header.now in
    let x = found b h c.in_ok-target.target c.in_ok-require_headers.field-0 c.in_ok-target.ensures c.in_ok-require_headers.ensures in
    gone_returned b h c.in_ok-target.target c.in-Ok.room c.length_without-length.result c.args.out.now c.set_gone.new.out c.in_ok-require_room-in-Ok.field-0 x c.in-Ok.ensures c.length_without-length.ensures c.in_ok-require_room-in-Ok.ensures c.set_gone.ensures

pub returns-in_ok-require_room-in-Err : goal.returns-in_ok-require_room-in-Err
returns-in_ok-require_room-in-Err c =
    let b = c.args.bytes.now in
    let h = header_view c.args.header.now in
    let x = found b h c.in_ok-target.target c.in_ok-require_headers.field-0 c.in_ok-target.ensures c.in_ok-require_headers.ensures in
    stayed_returned b h c.in_ok-target.target _ c.args.out.now c.set_stayed.new.out c.in_ok-require_room-in-Err.field-0 x c.in-Err.ensures c.in_ok-require_room-in-Err.ensures c.set_stayed.ensures
