use Rattle.std.proofs.Common.{◌+◌, ◌≤◌, List, ℕ, length, refl, sym, subst, ◌∙◌}
use Rattle.calls_base.proofs.Utf16Texts.{next_character}
use Rattle.calls_base.proofs.ended_texts.put_first.Goals as goal

pub set_slice-requires : goal.set_slice-requires
set_slice-requires c =
    let next = next_character c.args.room.now _ c.args.text.now c.args.at _ _ c.first_character-character.ensures.first refl c.requires.fits in
    let bytes = c.as_bytes-written.ensures.value ∙ c.encode_utf8.ensures.value in
    subst (λ (d : List ℕ). c.args.at + length d ≤ length c.args.room.now) (sym bytes) next.2

pub returns-clause-left : goal.returns-clause-left
returns-clause-left c =
    let next = next_character c.args.room.now _ c.args.text.now c.args.at _ _ c.first_character-character.ensures.first refl c.requires.fits in
    let bytes = c.as_bytes-written.ensures.value ∙ c.encode_utf8.ensures.value in
    rw (c.set_slice.ensures, bytes) next.0

pub returns-clause-fits : goal.returns-clause-fits
returns-clause-fits c =
    let next = next_character c.args.room.now _ c.args.text.now c.args.at _ _ c.first_character-character.ensures.first refl c.requires.fits in
    let bytes = c.as_bytes-written.ensures.value ∙ c.encode_utf8.ensures.value in
    rw (c.set_slice.ensures, bytes) next.1
