use Rattle.std.proofs.Common.{List, ℕ, ap, ◌∙◌, arith, rules}
use Rattle.pe_version.proofs.Cited.{splice, value_of, Value}
use Rattle.pe_version.proofs.Heads.{PartsFit, length_numbers, parts_fit, root_length, root_size, version_put}
use Rattle.pe_version.proofs.Measures.{length_fixed}
use Rattle.pe_version.proofs.put.put_version.Goals as goal

pub put_strings-middle-requires : goal.put_strings-middle-requires
put_strings-middle-requires c = search (rules, arith, parts_fit, root_size)

pub put_variables-end-requires : goal.put_variables-end-requires
put_variables-end-requires c = search (rules, arith, parts_fit, root_size)

pub put_numbers-requires : goal.put_numbers-requires
put_numbers-requires c = search (rules, arith, parts_fit, root_size, length_numbers, length_fixed)

pub put_head-requires-clause-size : goal.put_head-requires-clause-size
put_head-requires-clause-size c = search (rules, arith, parts_fit, root_length)

pub put_head-requires-clause-room : goal.put_head-requires-clause-room
put_head-requires-clause-room c = search (rules, arith, parts_fit, root_size)

pub returns : goal.returns
returns c =
    let v : Value = value_of c.args.value.now in
    let p : PartsFit v = parts_fit v c.requires.fits in
    version_put v c.args.out.now c.put_strings-middle.new.out c.put_variables-end.new.out c.put_numbers.new.out c.put_head.new.out c.root_key.result.now c.put_strings-middle.result c.put_variables-end.result p c.requires.room
    c.put_strings-middle.ensures.after c.put_strings-middle.ensures.end c.put_variables-end.ensures.after c.put_variables-end.ensures.end
    (c.put_numbers.ensures ∙ ap (λ (l : List ℕ). splice c.put_variables-end.new.out 40 l) c.numbers_of.ensures) c.root_key.ensures c.put_head.ensures
