use Rattle.std.proofs.Common.{◌≡◌, ℕ, ◌+◌, ◌*◌, get_or, List, length, map, ap, sym, ◌∙◌, arith, rules}
use Rattle.pe_version.proofs.Cited.{flat_map, length-map, pair_of, translation_bytes, LanguageRecord}
use Rattle.std.proofs.lemmas.List.Folds.{flat_map-map}
use Rattle.pe_version.proofs.VersionsRead.{length-translation}
use Rattle.pe_version.proofs.Heads.{put_all, put_more, put_none, put_room, two_put}
use Rattle.pe_version.proofs.Measures.{length_pairs}
use Rattle.pe_version.proofs.put.put_pairs.Goals as goal

abbrev bytes : LanguageRecord → List ℕ
bytes p = translation_bytes (pair_of p)

abbrev none : LanguageRecord
none = record { language = 0; code_page = 0 }

length_all : (xs : List LanguageRecord) → length (flat_map bytes xs) ≡ 4 * length xs
length_all xs = ap length (sym (flat_map-map translation_bytes pair_of xs)) ∙ length_pairs (map pair_of xs) ∙ ap (λ (n : ℕ). 4 * n) (length-map xs pair_of)

pub loop-index-init : goal.loop-index-init
loop-index-init c = put_none bytes c.args.out.now c.args.at c.args.translations.now (omega (arith, c.requires, length_all c.args.translations.now))

pub set_u16-requires : goal.set_u16-requires
set_u16-requires c =
    let room = put_room bytes c.args.out.now c.loop-index.out c.args.at c.loop-index.end c.loop-index.index c.args.translations.now none c.loop-index-test.true c.loop-index.invariant in
    omega (arith, room, length-translation (pair_of (get_or c.args.translations.now c.loop-index.index none)))

pub set_u16-requires-in-loop-index : goal.set_u16-requires-in-loop-index
set_u16-requires-in-loop-index c =
    let room = put_room bytes c.args.out.now c.loop-index.out c.args.at c.loop-index.end c.loop-index.index c.args.translations.now none c.loop-index-test.true c.loop-index.invariant in
    omega (arith, room, length-translation (pair_of (get_or c.args.translations.now c.loop-index.index none)), c.set_u16.auto.buffer)

pub loop-index-preserved : goal.loop-index-preserved
loop-index-preserved c =
    let room = put_room bytes c.args.out.now c.loop-index.out c.args.at c.loop-index.end c.loop-index.index c.args.translations.now none c.loop-index-test.true c.loop-index.invariant in
    put_more bytes c.args.out.now c.loop-index.out c.set_u16-in-loop-index.new.buffer c.args.at c.loop-index.end (c.loop-index.end + 4) c.loop-index.index c.args.translations.now _ c.loop-index-test.true c.loop-index.invariant
    (two_put c.loop-index.out c.set_u16.new.buffer c.set_u16-in-loop-index.new.buffer c.loop-index.end _ _ (omega (arith, room, length-translation (pair_of (get_or c.args.translations.now c.loop-index.index none)))) c.set_u16.ensures c.set_u16-in-loop-index.ensures)
    (ap (λ (n : ℕ). c.loop-index.end + n) (sym (length-translation _)))

pub returns : goal.returns
returns c = search (rules, arith, put_all, flat_map-map)
