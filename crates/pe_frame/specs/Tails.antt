-- The rest of an epilog as the code of this crate keeps it. Contracts of private functions alone cite it.
use Rattle.std.specs.Prelude.{List, [], ◌∷◌, ◌++◌, map, Option, Some, None}
use Rattle.pe_frame.specs.declared.epilog.Instruction.{Instruction}
use Rattle.pe_frame.specs.declared.epilog.Instruction.TheVariants.{Pop}
use Rattle.pe_frame.specs.declared.epilog.Tail.{Tail}
use Rattle.pe_frame.specs.Epilogs.{popped_first, most_pops}

-- the instruction that frees the stack, if it is there
abbrev pub alone : Option Instruction → List Instruction
alone None = []
alone (Some i) = i ∷ []

-- the instructions of a tail
abbrev pub instructions_of : Tail → List Instruction
instructions_of t = alone t.trim ++ (map Pop (popped_first most_pops t.pops.now) ++ (t.exit ∷ []))
