-- Walks of a stack on x64 in records of a caller.
use Rattle.std.specs.Prelude.{◌-◌}
use Rattle.std.specs.Option.{unwrap_or}
use Rattle.pe_frame.specs.declared.walk.StackFrame.{StackFrame}
use Rattle.pe_frame.specs.declared.walk.WalkEnd.{WalkEnd}
use Rattle.calls_stacks.specs.FrameCalls.{WalkRecords, bit_of, end_address, end_error, end_number, is_set, way_number, way_of}
use Rattle.calls_stacks.specs.StackFrames.{flat_registers, registers_of}
use Rattle.calls_stacks.specs.declared.stack.walk.StackWalk.{StackWalk}

-- the frame of a walk
abbrev pub frame_in : StackWalk → StackFrame
frame_in w = record {
  registers = registers_of w.registers;
  way = way_of w.way;
  has_called = is_set w.has_called;
  is_guess = is_set w.is_guess;
}

-- the walk after a frame
abbrev pub after_frame : StackWalk → StackFrame → StackWalk
after_frame w s = record w {
  registers = flat_registers s.registers;
  remaining = w.remaining - 1;
  has_returned = 1;
  way = way_number s.way;
  has_called = bit_of s.has_called;
  is_guess = bit_of s.is_guess;
}

-- the walk after its end
abbrev pub after_end : StackWalk → WalkEnd → StackWalk
after_end w e = record w { remaining = 0; end = end_number e; error = end_error e; address = unwrap_or (end_address e) 0 }

-- the walk with the mark that its pieces of memory were tested
abbrev pub marked : StackWalk → StackWalk
marked w = record w { is_searched = 1 }

-- walks of x64
abbrev pub stack_walks : WalkRecords StackWalk StackFrame
stack_walks = record {
  frame = frame_in;
  has_returned = λ w. is_set w.has_returned;
  remaining = λ w. w.remaining;
  ending = λ w. record { end = w.end; error = w.error; address = w.address };
  after_frame = after_frame;
  after_end = after_end;
  is_searched = λ w. is_set w.is_searched;
  marked = marked;
}
