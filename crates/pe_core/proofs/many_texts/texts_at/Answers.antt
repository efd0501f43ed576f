use Rattle.std.proofs.Common.{◌≡◌, ℕ, List, length, take, map, subst, sym, rules}
use Rattle.pe_core.specs.Text.{text_at, texts_of}
use Rattle.pe_core.proofs.TextRuns.{parts_mapped}
use Rattle.pe_core.proofs.many_texts.texts_at.Goals as goal

pub loop-offset-init : goal.loop-offset-init
loop-offset-init g c =
    let bytes : List ℕ = c.args.bytes.now in
    let offsets : List ℕ = c.args.offsets.now in
    let are : texts_of c.push_first_texts.new.texts.items ≡ map (text_at bytes) (take c.len.result offsets) = let n : c.len.result ≡ length c.push_first_texts.new.texts.items = search rules in subst (λ k. texts_of c.push_first_texts.new.texts.items ≡ map (text_at bytes) (take k offsets)) (sym n) c.in_ok-push_first_texts.ensures.are in
    parts_mapped (text_at bytes) offsets (texts_of c.push_first_texts.new.texts.items) c.len.result are
