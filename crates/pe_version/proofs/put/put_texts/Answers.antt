use Rattle.std.proofs.Common.{ℕ, ◌+◌, ap, sym, ◌∙◌, arith, rules}
use Rattle.pe_version.proofs.Cited.{text_of, StringRecord}
use Rattle.pe_version.proofs.Calls.{padded_size}
use Rattle.pe_version.proofs.Heads.{put_all, put_end, put_more, put_none, put_room, text_fits}
use Rattle.pe_version.proofs.Measures.{bytes_by, texts_bytes}
use Rattle.pe_version.proofs.put.put_texts.Goals as goal

abbrev none : StringRecord
none = record { name = record { offset = 0; length = 0 }; text = record { offset = 0; length = 0 } }

pub loop-index-init : goal.loop-index-init
loop-index-init c = search (rules, arith, put_none, bytes_by, texts_bytes)

pub put_text-end-requires-clause-fits : goal.put_text-end-requires-clause-fits
put_text-end-requires-clause-fits c = text_fits (text_of c.args.texts.now) c.args.records.now c.loop-index.index none c.loop-index-test.true c.requires.fits

pub put_text-end-requires-clause-room : goal.put_text-end-requires-clause-room
put_text-end-requires-clause-room c =
    let fits = text_fits (text_of c.args.texts.now) c.args.records.now c.loop-index.index none c.loop-index-test.true c.requires.fits in
    let room = put_room (bytes_by (text_of c.args.texts.now)) c.args.out.now c.loop-index.out c.args.at c.loop-index.end c.loop-index.index c.args.records.now none c.loop-index-test.true c.loop-index.invariant in
    omega (arith, room, padded_size _ fits)

pub loop-index-preserved : goal.loop-index-preserved
loop-index-preserved c =
    let fits = text_fits (text_of c.args.texts.now) c.args.records.now c.loop-index.index none c.loop-index-test.true c.requires.fits in
    put_more (bytes_by (text_of c.args.texts.now)) c.args.out.now c.loop-index.out c.put_text-end.new.out c.args.at c.loop-index.end c.put_text-end.result c.loop-index.index c.args.records.now none c.loop-index-test.true c.loop-index.invariant
    c.put_text-end.ensures.after (c.put_text-end.ensures.end ∙ ap (λ (n : ℕ). c.loop-index.end + n) (sym (padded_size _ fits)))

pub returns-clause-after : goal.returns-clause-after
returns-clause-after c = search (rules, arith, put_all, bytes_by, texts_bytes)

pub returns-clause-end : goal.returns-clause-end
returns-clause-end c = search (rules, arith, put_end, bytes_by, texts_bytes)
