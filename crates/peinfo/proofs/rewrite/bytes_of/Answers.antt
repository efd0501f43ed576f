use Rattle.std.proofs.Common.{◌≡◌, ◌∙◌, rules}
use Rattle.std.proofs.lemmas.List.{with_items_is, places}
use Rattle.std.proofs.lemmas.Slice.{pushed}
use Rattle.pe_image.specs.Image.{image_view}
use Rattle.peinfo.proofs.Unlisted.{written}
use Rattle.peinfo.proofs.rewrite.bytes_of.Goals as goal

pub returns : goal.returns
returns g c =
    let old : c.deref_mut.result.now ≡ c.args.bytes.now =
    c.deref_mut.ensures.value ∙ pushed c.args.bytes.now c.in_ok-copy.ensures.items c.in_ok-extend_from_slice.was c.extend_from_slice.ensures.items in
    written c.args.bytes.now _ _ _ _ (image_view c.in_ok-image.image) _ (rw c.default.ensures at c.in_ok-image.ensures.image) c.in_ok-image.ensures.source old c.in_ok-write_into.ensures
    (with_items_is c.extend_from_slice.new.self c.write_into.new.buffer (search (rules, places)))
