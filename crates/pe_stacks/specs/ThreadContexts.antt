-- The registers of a thread that count.
use Rattle.std.specs.Prelude.{ℕ, ◌==◌, List, Option, Some, None, Result, Ok, Err, if◌then◌else◌}
use Rattle.pe_core.specs.Refusals.{◌>>=◌}
use Rattle.pe_minidump.specs.Dumps.{DumpView, located}
use Rattle.pe_minidump.specs.Refusals.{DumpRefusal}
use Rattle.pe_minidump.specs.Streams.{exception}
use Rattle.pe_minidump.specs.declared.exception.Exception.{Exception}
use Rattle.pe_minidump.specs.declared.location.Location.{Location}
use Rattle.pe_minidump.specs.declared.thread.Thread.{Thread}

-- the registers at a location
abbrev pub context_at : {C : Type 0} → (List ℕ → Result C DumpRefusal) → DumpView → Location → Result C DumpRefusal
context_at read d l = located d.bytes l.rva l.size >>= read

-- where the context of the exception stands, if the exception names the thread
abbrev pub raised_by : ℕ → Result (Option Exception) DumpRefusal → Option Location
raised_by id (Ok (Some e)) = if e.thread_id == id then Some e.thread_context else None
raised_by id (Ok None) = None
raised_by id (Err r) = None

abbrev pub raised_at : DumpView → Thread → Option Location
raised_at d t = raised_by t.thread_id (exception d)

-- what can be read, else something else
abbrev pub or_else : {C : Type 0} → Result C DumpRefusal → Result C DumpRefusal → Result C DumpRefusal
or_else (Ok c) other = Ok c
or_else (Err r) other = other

-- the registers at a location, if there is one and they can be read, else others
abbrev pub first_of : {C : Type 0} → (Location → Result C DumpRefusal) → Option Location → Result C DumpRefusal → Result C DumpRefusal
first_of at None other = other
first_of at (Some l) other = or_else (at l) other

-- the registers of a thread: those of the exception, if it names the thread and they can be read, else the thread's own
abbrev pub thread_context : {C : Type 0} → (List ℕ → Result C DumpRefusal) → DumpView → Thread → Result C DumpRefusal
thread_context read d t = first_of (context_at read d) (raised_at d t) (context_at read d t.thread_context)
