use Rattle.pe_core.specs.Header.{header_view}
use Rattle.pe_rewrite.proofs.Calls.{found, gone_length_returned, gone_most, stayed_length_returned}
use Rattle.pe_rewrite.proofs.edit.removed_len.Goals as goal

pub length_without-requires : goal.length_without-requires
length_without-requires c =
    let b = c.args.bytes.now in
    let h = header_view c.args.header.now in
    let x = found b h c.in_ok-target.target c.in_ok-require_headers.field-0 c.in_ok-target.ensures c.in_ok-require_headers.ensures in
    gone_most b h c.in_ok-target.target c.in-Ok.room x c.in-Ok.ensures

pub returns-in-Ok : goal.returns-in-Ok
returns-in-Ok c =
    let b = c.args.bytes.now in
    let h = header_view c.args.header.now in
    let x = found b h c.in_ok-target.target c.in_ok-require_headers.field-0 c.in_ok-target.ensures c.in_ok-require_headers.ensures in
    gone_length_returned b h c.in_ok-target.target c.in-Ok.room c.length_without.result x c.in-Ok.ensures c.length_without.ensures

pub returns-in-Err : goal.returns-in-Err
returns-in-Err c =
    let b = c.args.bytes.now in
    let h = header_view c.args.header.now in
    let x = found b h c.in_ok-target.target c.in_ok-require_headers.field-0 c.in_ok-target.ensures c.in_ok-require_headers.ensures in
    stayed_length_returned b h c.in_ok-target.target _ x c.in-Err.ensures
