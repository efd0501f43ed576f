use Rattle.std.proofs.Common.{sym, ap, ◌∙◌}
use Rattle.std.specs.Option.{option_map}
use Rattle.pe_unwind.specs.CodeSlots.{slots_of}
use Rattle.pe_unwind.proofs.SpellingLengths.{none-no_slots, none-cut, no_slots-not_cut, cut_one, cut_slots}
use Rattle.pe_unwind.proofs.unwind_code.code_at.Goals as goal

pub returns-then-bytes-lt-SIZE_OF_SLOT-clause-refusal : goal.returns-then-bytes-lt-SIZE_OF_SLOT-clause-refusal
returns-then-bytes-lt-SIZE_OF_SLOT-clause-refusal c = cut_one _ _ _ c.requires.some c.if-bytes-lt-SIZE_OF_SLOT.true

pub returns-in_default-clause-none : goal.returns-in_default-clause-none
returns-in_default-clause-none c = λ code n h. none-no_slots _ _ _ code n (sym c.first_slot.ensures.slots ∙ ap (option_map slots_of) c.in_default.is) h

pub returns-in_default-clause-refusal : goal.returns-in_default-clause-refusal
returns-in_default-clause-refusal c = λ cut. no_slots-not_cut _ _ _ c.if-bytes-lt-SIZE_OF_SLOT.false (sym c.first_slot.ensures.slots ∙ ap (option_map slots_of) c.in_default.is) cut

pub returns-then-bytes-len-clause-none : goal.returns-then-bytes-len-clause-none
returns-then-bytes-len-clause-none c = λ code n h. none-cut _ _ _ code n _ (sym c.first_slot.ensures.slots ∙ ap (option_map slots_of) c.in-Some.is) (rw c.slots-len.ensures.value at c.if-bytes-len.true) h

pub returns-then-bytes-len-clause-refusal : goal.returns-then-bytes-len-clause-refusal
returns-then-bytes-len-clause-refusal c = cut_slots _ _ _ _ c.if-bytes-lt-SIZE_OF_SLOT.false (sym c.first_slot.ensures.slots ∙ ap (option_map slots_of) c.in-Some.is) (rw c.slots-len.ensures.value at c.if-bytes-len.true)
