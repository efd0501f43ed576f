-- What functions of pe.h return that take one field of what a call of minidumps writes.
use Rattle.std.proofs.Common.{◌≡◌, ℕ, Option, Result, Ok, arith}
use Rattle.pe_c.proofs.Cited.{◌>>=◌, DumpRefusal, DumpHandsOut, DumpHandsOutIf}
use Rattle.calls_stacks.specs.DumpRecords.{alone, in_field}
use Rattle.calls_stacks.specs.declared.dump.any_record.AnyRecord.{AnyRecord}

-- a record of a list
pub of_list : {X : Type 0} (put : X → AnyRecord) (get : AnyRecord → X) (number : ℕ) (old new : AnyRecord) (found : Result (Option X) DumpRefusal) →
    ((x : X) → get (put x) ≡ x) → DumpHandsOutIf number old new (in_field put found) → DumpHandsOutIf number (get old) (get new) found
of_list put get number old new found e h = grind arith

-- what a stream says in one record
pub of_stream : {X : Type 0} (put : X → AnyRecord) (get : AnyRecord → X) (number : ℕ) (old new : AnyRecord) (found : Result X DumpRefusal) →
    ((x : X) → get (put x) ≡ x) → DumpHandsOutIf number old new (in_field put (alone found 0)) → DumpHandsOut number (get old) (get new) found
of_stream put get number old new found e h = grind arith

-- the context of a machine
pub of_context : {C A : Type 0} (put : C → A) (get : A → C) (number : ℕ) (old new : A) (found : Result C DumpRefusal) →
    ((c : C) → get (put c) ≡ c) → DumpHandsOut number old new (found >>= λ c. Ok (put c)) → DumpHandsOut number (get old) (get new) found
of_context put get number old new found e h = grind arith
