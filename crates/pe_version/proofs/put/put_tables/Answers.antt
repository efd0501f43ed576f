use Rattle.std.proofs.Common.{ℕ, ◌+◌, ap, sym, ◌∙◌, arith, rules}
use Rattle.pe_version.proofs.Cited.{table_of, TableRecord}
use Rattle.pe_version.proofs.Calls.{padded_size}
use Rattle.pe_version.proofs.Heads.{put_all, put_end, put_more, put_none, put_room, table_fits, table_whole}
use Rattle.pe_version.proofs.Measures.{table_bytes_by, tables_bytes}
use Rattle.pe_version.proofs.put.put_tables.Goals as goal

abbrev none : TableRecord
none = record { first = 0; count = 0; language = record { language = 0; code_page = 0 } }

pub loop-index-init : goal.loop-index-init
loop-index-init c = search (rules, arith, put_none, table_bytes_by, tables_bytes)

pub put_table-end-requires-clause-fits : goal.put_table-end-requires-clause-fits
put_table-end-requires-clause-fits c = table_fits (table_of c.args.value.now.texts.now c.args.value.now.strings.now) c.args.value.now.tables.now c.loop-index.index none c.loop-index-test.true c.requires.fits

pub put_table-end-requires-clause-room : goal.put_table-end-requires-clause-room
put_table-end-requires-clause-room c =
    let g = table_of c.args.value.now.texts.now c.args.value.now.strings.now in
    let fits = table_fits g c.args.value.now.tables.now c.loop-index.index none c.loop-index-test.true c.requires.fits in
    let room = put_room (table_bytes_by g) c.args.out.now c.loop-index.out c.args.at c.loop-index.end c.loop-index.index c.args.value.now.tables.now none c.loop-index-test.true c.loop-index.invariant in
    omega (arith, room, padded_size _ (table_whole _ fits))

pub loop-index-preserved : goal.loop-index-preserved
loop-index-preserved c =
    let g = table_of c.args.value.now.texts.now c.args.value.now.strings.now in
    let fits = table_fits g c.args.value.now.tables.now c.loop-index.index none c.loop-index-test.true c.requires.fits in
    put_more (table_bytes_by g) c.args.out.now c.loop-index.out c.put_table-end.new.out c.args.at c.loop-index.end c.put_table-end.result c.loop-index.index c.args.value.now.tables.now none c.loop-index-test.true c.loop-index.invariant
    c.put_table-end.ensures.after (c.put_table-end.ensures.end ∙ ap (λ (n : ℕ). c.loop-index.end + n) (sym (padded_size _ (table_whole _ fits))))

pub returns-clause-after : goal.returns-clause-after
returns-clause-after c = search (rules, arith, put_all, table_bytes_by, tables_bytes)

pub returns-clause-end : goal.returns-clause-end
returns-clause-end c = search (rules, arith, put_end, table_bytes_by, tables_bytes)
