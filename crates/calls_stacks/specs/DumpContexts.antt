-- What calls return of the contexts of a minidump.
use Rattle.std.specs.Prelude.{ℕ, ◌+◌, ◌%◌, ◌^◌, ◌==◌, List, replicate, slice_index, Option, Some, None, Result, Ok, Err, if◌then◌else◌}
use Rattle.pe_core.specs.Refusals.{◌>>=◌}
use Rattle.pe_core.specs.Rows.{each}
use Rattle.pe_minidump.specs.Contexts.{context_arm64, context_x64}
use Rattle.pe_minidump.specs.Dumps.{located}
use Rattle.pe_minidump.specs.Refusals.{DumpRefusal, Machine}
use Rattle.pe_minidump.specs.declared.context_arm64.ContextArm64.{ContextArm64}
use Rattle.pe_minidump.specs.declared.context_x64.ContextX64.{ContextX64}
use Rattle.pe_minidump.specs.declared.exception.Exception.{Exception}
use Rattle.pe_minidump.specs.declared.location.Location.{Location}
use Rattle.pe_minidump.specs.declared.thread.Thread.{Thread}
use Rattle.pe_stacks.specs.ThreadContexts.{first_of}
use Rattle.calls_stacks.specs.StackFrames.{flat_registers}
use Rattle.calls_stacks.specs.declared.dump.contexts.AnyContext.{AnyContext}
use Rattle.calls_stacks.specs.declared.dump.contexts.Arm64Context.{Arm64Context}
use Rattle.calls_stacks.specs.declared.dump.contexts.TheConstants.{ARM64_MACHINE, X64_MACHINE}
use Rattle.calls_stacks.specs.declared.dump.contexts.X64Context.{X64Context}

-- XMM registers that were not saved are 0
abbrev pub xmm_or_zero : Option (List ℕ) → List ℕ
xmm_or_zero None = replicate 16 0
xmm_or_zero (Some xmm) = xmm

abbrev pub x64_reported : ContextX64 → X64Context
x64_reported c = record {
  registers = flat_registers (record { general = c.general; xmm = xmm_or_zero c.xmm; rip = c.rip });
  context_flags = c.context_flags;
  eflags = c.eflags;
}

abbrev pub context_x64_at : List ℕ → Location → Result X64Context DumpRefusal
context_x64_at b l = located b l.rva l.size >>= λ s. context_x64 s >>= λ c. Ok (x64_reported c)

-- d8 to d15 are the low halves of v8 to v15
abbrev pub low_halves : List ℕ → List ℕ
low_halves v = each (λ k. slice_index v (8 + k) % 2 ^ 64) 8

-- those that were not saved are 0
abbrev pub floats_or_zero : Option (List ℕ) → List ℕ
floats_or_zero None = replicate 8 0
floats_or_zero (Some v) = low_halves v

abbrev pub arm64_reported : ContextArm64 → Arm64Context
arm64_reported c = record {
  registers = record { general = c.x; floats = floats_or_zero c.v; sp = c.sp; pc = c.pc };
  context_flags = c.context_flags;
  cpsr = c.cpsr;
}

abbrev pub context_arm64_at : List ℕ → Location → Result Arm64Context DumpRefusal
context_arm64_at b l = located b l.rva l.size >>= λ s. context_arm64 s >>= λ c. Ok (arm64_reported c)

-- the context of a machine as its field, with the other one as it was: x64 is 9, ARM64 12
abbrev pub any_context : ℕ → List ℕ → Location → AnyContext → Result AnyContext DumpRefusal
any_context machine b l old =
    if machine == X64_MACHINE then (context_x64_at b l >>= λ c. Ok (record old { x64 = c }))
    else if machine == ARM64_MACHINE then (context_arm64_at b l >>= λ c. Ok (record old { arm64 = c }))
    else Err Machine

-- where the context of an exception stands, if the exception names the thread
abbrev pub raised_of : Exception → Thread → Option Location
raised_of e t = if e.thread_id == t.thread_id then Some e.thread_context else None

-- the registers of a thread that count: those of the exception, if it names the thread and they can be read, else the thread's own
abbrev pub thread_context_at : {C : Type 0} → (Location → Result C DumpRefusal) → Thread → Exception → Result C DumpRefusal
thread_context_at at t e = first_of at (raised_of e t) (at t.thread_context)
