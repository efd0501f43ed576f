-- What calls return that write a file to a room of the caller. A refusal is the number of the error.
use Rattle.std.specs.Prelude.{◌≡◌, ℕ, Bool, true, false, List, [], ◌∷◌, Result, Ok, Err, length, nat_le, if◌then◌else◌}
use Rattle.pe_core.specs.Bytes.{splice}
use Rattle.pe_core.specs.Refusals.{Refusal, ◌>>=◌, WriteFit, outcome}
use Rattle.calls_base.specs.HandsOut.{HandsOutWritten, result_number}
use Rattle.calls_base.specs.declared.results.TheConstants.{DONE, ROOM}

-- a result whose refusal is a number
abbrev pub numbered : {X R : Type 0} → (R → ℕ) → Result X R → Result X ℕ
numbered number (Ok x) = Ok x
numbered number (Err refusal) = Err (number refusal)

-- the call returned the defined value, seen by view, or the defined number
abbrev pub NumberReturns : {X Y : Type 0} → (X → Y) → Result X ℕ → Result Y ℕ → Type 0
NumberReturns view (Ok x) defined = defined ≡ Ok (view x)
NumberReturns view (Err n) defined = defined ≡ Err n

-- ---- what calls return

-- by whether the file fits into the room: DONE, and it is at the start of the room, whose other bytes are unchanged; else ROOM, and all
-- of the room is
abbrev pub PutsFileIf : Bool → List ℕ → ℕ → List ℕ → List ℕ → Type 0
PutsFileIf true file number room after = (number ≡ DONE) × (after ≡ splice room 0 file)
PutsFileIf false file number room after = (number ≡ ROOM) × (after ≡ room)

-- the length of the file at `out`, whether it fits or not; else the number of the refusal, and all is unchanged
abbrev pub HandsOutFile : ℕ → ℕ → ℕ → List ℕ → List ℕ → Result (List ℕ) ℕ → Type 0
HandsOutFile number old new room after (Ok file) = PutsFileIf (nat_le (length file) (length room)) file number room after × (new ≡ length file)
HandsOutFile number old new room after (Err n) = (number ≡ n) × (new ≡ old) × (after ≡ room)

-- by whether the room is long enough: what a write returns there; else ROOM, the length that is needed at `out`, and an unchanged room
abbrev pub HandsOutWrittenIf : Bool → ℕ → ℕ → ℕ → ℕ → List ℕ → List ℕ → Result (ℕ × List ℕ) Refusal → Type 0
HandsOutWrittenIf true needed number old new room after written = HandsOutWritten number old new room after written
HandsOutWrittenIf false needed number old new room after written = (number ≡ ROOM) × (new ≡ needed) × (after ≡ room)

-- the same of a write by the length that it needs; else the number of the refusal, and all is unchanged
abbrev pub HandsOutImage : ℕ → ℕ → ℕ → List ℕ → List ℕ → Result ℕ Refusal → Result (ℕ × List ℕ) Refusal → Type 0
HandsOutImage number old new room after (Ok needed) written =
    HandsOutWrittenIf (nat_le needed (length room)) needed number old new room after written
HandsOutImage number old new room after (Err refusal) written = (number ≡ result_number refusal) × (new ≡ old) × (after ≡ room)

-- ---- on the way

-- the length returned and the bytes left are the defined ones; after an error the bytes are unchanged
abbrev pub NumberReturnsWritten : Result ℕ ℕ → Result (ℕ × List ℕ) ℕ → List ℕ → List ℕ → Type 0
NumberReturnsWritten (Ok n) defined old new = defined ≡ Ok (n, new)
NumberReturnsWritten (Err n) defined old new = (defined ≡ Err n) × (new ≡ old)

-- the length of a file, and a room with it at its start
abbrev pub length_numbered : Result (List ℕ) ℕ → Result ℕ ℕ
length_numbered file = file >>= λ f. Ok (length f)

abbrev pub written_numbered : Result (List ℕ) ℕ → List ℕ → Result (ℕ × List ℕ) ℕ
written_numbered file old =
    file >>= λ f. outcome ((nat_le (length f) (length old), result_number WriteFit) ∷ []) (length f, splice old 0 f)

-- the length of a file at `out`, with DONE where a room of so many bytes has room for it and ROOM where not; else the number of the
-- refusal, and `out` is unchanged
abbrev pub HandsOutLength : ℕ → ℕ → ℕ → ℕ → Result ℕ ℕ → Type 0
HandsOutLength number old new room (Ok n) = (number ≡ if nat_le n room then DONE else ROOM) × (new ≡ n)
HandsOutLength number old new room (Err e) = (number ≡ e) × (new ≡ old)
