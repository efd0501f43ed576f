use Rattle.std.proofs.Common.{◌+◌, ◌-◌, List, length, map, refl, ap, ◌∙◌, arith}
use Rattle.pe_version.proofs.Cited.{table_of, text_of, TableValue, key_of, table_block, text_blocks, Fits, StringRecord}
use Rattle.pe_version.proofs.Heads.{parent_put, table_texts, table_whole, texts_four}
use Rattle.pe_version.proofs.Measures.{before_four}
use Rattle.pe_version.proofs.put.put_table.Goals as goal

pub put_texts-end-requires-clause-fits : goal.put_texts-end-requires-clause-fits
put_texts-end-requires-clause-fits c = rw c.strings.ensures (table_texts (table_of c.args.value.now.texts.now c.args.value.now.strings.now c.args.table.now) c.requires.fits)

pub put_head-requires-clause-size : goal.put_head-requires-clause-size
put_head-requires-clause-size c =
    let t : TableValue = table_of c.args.value.now.texts.now c.args.value.now.strings.now c.args.table.now in
    let whole : Fits (table_block t) = table_whole t c.requires.fits in
    let same = ap (λ (rs : List StringRecord). length (text_blocks (map (text_of c.args.value.now.texts.now) rs))) c.strings.ensures in
    omega (arith, whole.short, c.put_texts-end.ensures.end, same, before_four 0 (text_blocks t.strings) refl)

pub returns-clause-after : goal.returns-clause-after
returns-clause-after c =
    let t : TableValue = table_of c.args.value.now.texts.now c.args.value.now.strings.now c.args.table.now in
    let same = ap (λ (rs : List StringRecord). length (text_blocks (map (text_of c.args.value.now.texts.now) rs))) c.strings.ensures in
    let none = before_four 0 (text_blocks t.strings) refl in
    parent_put c.args.out.now c.put_texts-end.new.out c.put_head.new.out (key_of t.translation) c.key_of-key.result (text_blocks t.strings) c.args.at (c.args.at + 24) (c.put_texts-end.result - c.args.at)
    (texts_four t.strings (table_texts t c.requires.fits)) (c.key_of-key.ensures ∙ ap key_of c.pair.ensures) refl (omega (arith, c.requires.room, none))
    (omega (arith, c.put_texts-end.ensures.end, same)) (rw c.strings.ensures at c.put_texts-end.ensures.after) c.put_head.ensures

pub returns-clause-end : goal.returns-clause-end
returns-clause-end c =
    let t : TableValue = table_of c.args.value.now.texts.now c.args.value.now.strings.now c.args.table.now in
    let same = ap (λ (rs : List StringRecord). length (text_blocks (map (text_of c.args.value.now.texts.now) rs))) c.strings.ensures in
    let four = texts_four t.strings (table_texts t c.requires.fits) in
    omega (arith, c.put_texts-end.ensures.end, same, four, before_four 0 (text_blocks t.strings) refl)
