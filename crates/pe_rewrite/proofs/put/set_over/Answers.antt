use Rattle.std.proofs.Common.{ℕ, ◌≡◌, ◌+◌, length, take, sym, ap, ◌∙◌, subst}
use Rattle.pe_rewrite.proofs.Cited.{length-take-le, bytes_of, splice, header_view, leaf_views, section, Inside, sum_of}
use Rattle.pe_rewrite.proofs.Writes.{edited_set, resources_set, whole_front}
use Rattle.pe_rewrite.proofs.put.set_over.Goals as goal

pub returns : goal.returns
returns c =
    let h = header_view c.args.header.now in
    let xs = leaf_views c.args.leaves.now in
    let p = c.args.place in
    let old = c.args.out.now in
    let b = take c.args.size old in
    let size : length b ≡ c.args.size = length-take-le c.args.size old c.requires.room in
    let lies = subst (λ (n : ℕ). Inside h p n) (sym size) c.requires.lies in
    let done = resources_set h p old b old c.set_resources.new.out c.set_u32.new.buffer c.set_u32-2.new.buffer c.set_u32-3.new.buffer (section p.section.virtual_address xs) lies c.requires.length
    (whole_front old c.args.size c.requires.room) c.set_resources.ensures (c.set_u32.ensures ∙ ap (λ (n : ℕ). splice c.set_resources.new.out (p.row + 8) (bytes_of 4 n)) c.max.ensures) c.set_u32-2.ensures c.set_u32-3.ensures in
    edited_set h p xs old b c.set_u32-3.new.buffer c.set_u32-4.new.buffer c.sum_of-sum.result lies c.requires.length done (c.sum_of-sum.ensures ∙ ap (λ (n : ℕ). sum_of h (take n c.set_u32-3.new.buffer)) (sym size)) c.set_u32-4.ensures
