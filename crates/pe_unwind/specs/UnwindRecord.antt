-- x64 unwind records. (x64 exception handling: unwind information.)
use Rattle.std.specs.Prelude.{ℕ, ◌+◌, ◌*◌, ◌/◌, ◌%◌, ◌==◌, ◌||◌, Bool, true, List, [], ◌∷◌, drop, Option, Some, None, if◌then◌else◌}
use Rattle.std.specs.Option.{option_map}
use Rattle.pe_core.specs.Bytes.{le, holds, range}
use Rattle.pe_core.specs.Refusals.{Refusal, Short, UnwindVersion}
use Rattle.pe_unwind.specs.declared.function_table.RuntimeFunction.{RuntimeFunction}
use Rattle.pe_unwind.specs.declared.register.Register.{Register}
use Rattle.pe_unwind.specs.declared.scope_table.ScopeTableEntry.{ScopeTableEntry}
use Rattle.pe_unwind.specs.declared.unwind_info.UnwindHandler.{UnwindHandler}
use Rattle.pe_unwind.specs.declared.unwind_info.UnwindHandler.TheVariants as handlers
use Rattle.pe_unwind.specs.declared.unwind_info.UnwindInfo.{UnwindInfo}
use Rattle.pe_unwind.specs.CodeStream.{CodeStream}
use Rattle.pe_unwind.specs.FunctionTable.{function_at}
use Rattle.pe_unwind.specs.ScopeTable.{scopes}
use Rattle.pe_unwind.specs.UnwindCodes.{integer}

-- a handler: its RVA and its data
pub data HandlerView : Type 0 where
  Exception : ℕ → List ℕ → HandlerView
  Termination : ℕ → List ℕ → HandlerView

-- what callers see of a record; `codes` are the bytes of its codes
pub record UnwindInfoView : Type 0 where
  pub version : ℕ
  pub size_of_prolog : ℕ
  pub frame_register : Register
  pub frame_register_offset : ℕ
  pub chained_info : Option RuntimeFunction
  pub handler : Option HandlerView
  pub codes : List ℕ

-- this handler as callers see it
abbrev pub handler_view : UnwindHandler → HandlerView
handler_view (handlers.ExceptionHandler address data_bytes) = Exception address data_bytes.now
handler_view (handlers.TerminationHandler address data_bytes) = Termination address data_bytes.now

-- this record as callers see it
abbrev pub unwind_view : UnwindInfo → UnwindInfoView
unwind_view i = record {
  version = i.version;
  size_of_prolog = i.size_of_prolog;
  frame_register = i.frame_register;
  frame_register_offset = i.frame_register_offset;
  chained_info = i.chained_info;
  handler = option_map handler_view i.handler;
  codes = i.code_bytes.now;
}

-- the flags of a record: what follows its codes
abbrev pub is_chained : ℕ → Bool
is_chained flags = flags / 4 % 2 == 1

abbrev pub handles_exceptions : ℕ → Bool
handles_exceptions flags = flags % 2 == 1

abbrev pub handles_termination : ℕ → Bool
handles_termination flags = flags / 2 % 2 == 1

-- a chained function or, without one, a handler; an exception handler goes before a termination handler
pub record Ending : Type 0 where
  pub chained : Option RuntimeFunction
  pub handler : Option HandlerView

-- this chained function or handler as callers see it
abbrev pub ending_view : (Option RuntimeFunction × Option UnwindHandler) → Ending
ending_view e = record { chained = e.0; handler = option_map handler_view e.1 }

-- the chained function or handler at offset q, by the flags
unfoldable pub ending_at : List ℕ → ℕ → ℕ → Ending
ending_at b q flags =
    if is_chained flags then record { chained = Some (function_at b q); handler = None }
    else (if handles_exceptions flags then record { chained = None; handler = Some (Exception (le b q 4) (drop (q + 4) b)) }
    else (if handles_termination flags then record { chained = None; handler = Some (Termination (le b q 4) (drop (q + 4) b)) }
    else record { chained = None; handler = None }))

-- the chained function or the handler's RVA is there
unfoldable pub ending_holds : List ℕ → ℕ → ℕ → Bool
ending_holds b q flags =
    if is_chained flags then holds b q 12
    else (if handles_exceptions flags || handles_termination flags then holds b q 4 else true)

-- the fields of the header, the 4 bytes at offset p: version and flags, prolog, count of slots, frame register and
-- offset
abbrev pub version_at : List ℕ → ℕ → ℕ
version_at b p = le b p 1 % 8

abbrev pub flags_at : List ℕ → ℕ → ℕ
flags_at b p = le b p 1 / 8

abbrev pub count_at : List ℕ → ℕ → ℕ
count_at b p = le b (p + 2) 1

-- the offset after the codes; an odd count leaves out one more slot
abbrev pub after_codes : List ℕ → ℕ → ℕ
after_codes b p = p + 4 + 2 * (count_at b p + count_at b p % 2)

-- the record at offset p
unfoldable pub unwind_record : List ℕ → ℕ → UnwindInfoView
unwind_record b p =
    let ending = ending_at b (after_codes b p) (flags_at b p) in
    record {
      version = version_at b p;
      size_of_prolog = le b (p + 1) 1;
      frame_register = integer (le b (p + 3) 1 % 16);
      frame_register_offset = le b (p + 3) 1 / 16 * 16;
      chained_info = ending.chained;
      handler = ending.handler;
      codes = range b (p + 4) (2 * count_at b p);
    }

-- its tests, in order, and what each refuses
unfoldable pub unwind_tests : List ℕ → ℕ → List (Bool × Refusal)
unwind_tests b p =
    (holds b p 1, Short)
    ∷ (version_at b p == 1 || version_at b p == 2, UnwindVersion)
    ∷ (holds b p 4, Short)
    ∷ (holds b (p + 4) (2 * count_at b p), Short)
    ∷ (ending_holds b (after_codes b p) (flags_at b p), Short)
    ∷ []

-- the codes of a record, read by its version and frame register
abbrev pub code_stream : UnwindInfoView → CodeStream
code_stream i = record { content = i.codes; version = i.version; frame = (i.frame_register).0 }

-- how many bytes of entries follow the count of the scope table in a handler's data, if they are there
abbrev pub scope_table_size : List ℕ → Option ℕ
scope_table_size d = if holds d 0 4 then (if holds d 4 (16 * le d 0 4) then Some (16 * le d 0 4) else None) else None

-- the scope table in a handler's data: a count, and that many entries
unfoldable pub scope_table_at : List ℕ → Option (List ScopeTableEntry)
scope_table_at d =
    if holds d 0 4
    then (if holds d 4 (16 * le d 0 4) then Some (scopes (range d 4 (16 * le d 0 4))) else None)
    else None

-- the scope table of a record's exception handler
abbrev pub scope_table_of_handler : Option HandlerView → Option (List ScopeTableEntry)
scope_table_of_handler (Some (Exception address d)) = scope_table_at d
scope_table_of_handler (Some (Termination address d)) = None
scope_table_of_handler None = None

abbrev pub scope_table_of : UnwindInfoView → Option (List ScopeTableEntry)
scope_table_of i = scope_table_of_handler i.handler
