-- Prologs as compilers write them, their unwind records, and machines that run them.
use Rattle.std.specs.Prelude.{ℕ, true, List, [], ◌∷◌, Option, Some, None}
use Rattle.pe_unwind.specs.declared.register.Register.{Register}
use Rattle.pe_unwind.specs.declared.unwind_code.StackFrameOffset.TheVariants.{RSP, FP}
use Rattle.pe_unwind.specs.declared.unwind_code.UnwindCode.{UnwindCode}
use Rattle.pe_unwind.specs.declared.unwind_code.UnwindOperation.{UnwindOperation}
use Rattle.pe_unwind.specs.declared.unwind_code.UnwindOperation.TheVariants.{PushNonVolatile, Alloc, SetFPRegister, SaveNonVolatile, Epilog, SaveXMM128, PushMachineFrame}
use Rattle.pe_unwind.specs.UnwindRecord.{UnwindInfoView}
use Rattle.pe_frame.specs.Machine.{Machine, loaded}
use Rattle.pe_frame.specs.Frames.{Part, left}

-- each register has 4096
abbrev pub sample_machine : Machine
sample_machine = record {
  general = 4096 ∷ 4096 ∷ 4096 ∷ 4096 ∷ 4096 ∷ 4096 ∷ 4096 ∷ 4096 ∷ 4096 ∷ 4096 ∷ 4096 ∷ 4096 ∷ 4096 ∷ 4096 ∷ 4096 ∷ 4096 ∷ [];
  xmm = 7 ∷ 7 ∷ 7 ∷ 7 ∷ 7 ∷ 7 ∷ 7 ∷ 7 ∷ 7 ∷ 7 ∷ 7 ∷ 7 ∷ 7 ∷ 7 ∷ 7 ∷ 7 ∷ [];
  memory = λ _. 0;
  frame_base = None;
}

-- the whole memory of a machine, known
abbrev pub all_known : Machine → ℕ → Option ℕ
all_known s a = Some (loaded s.memory a)

-- a record without a handler, of a prolog of so many bytes, with a frame register and its offset
abbrev pub sample_info : ℕ → ℕ → ℕ → List ℕ → UnwindInfoView
sample_info size register offset codes = record {
  version = 1;
  size_of_prolog = size;
  frame_register = record { 0 = register };
  frame_register_offset = offset;
  chained_info = None;
  handler = None;
  codes = codes;
}

abbrev pub code : ℕ → UnwindOperation → UnwindCode
code offset operation = record { code_offset = offset; operation = operation }

abbrev pub register : ℕ → Register
register n = record { 0 = n }

-- mov [rsp+16],rsi; push rdi; sub rsp,32: the save counts from the end of the prolog, and so lies above the return address
abbrev pub home_part : Part
home_part = record {
  info = sample_info 10 0 0 (10 ∷ 100 ∷ 7 ∷ 0 ∷ 10 ∷ 50 ∷ 6 ∷ 112 ∷ []);
  codes = code 10 (SaveNonVolatile (register 6) (RSP 56)) ∷ code 10 (Alloc 32) ∷ code 6 (PushNonVolatile (register 7)) ∷ [];
  entry = sample_machine;
}

-- a part of it that saves one register more: mov [rsp+16],rbx
abbrev pub inner_part : Part
inner_part = record {
  info = sample_info 5 0 0 (5 ∷ 52 ∷ 2 ∷ 0 ∷ []);
  codes = code 5 (SaveNonVolatile (register 3) (RSP 16)) ∷ [];
  entry = left None home_part;
}

-- push rbp; push rbx; sub rsp,64; lea rbp,[rsp+32]; movaps [rbp-16],xmm6; sub rsp,128
abbrev pub framed_part : Part
framed_part = record {
  info = sample_info 22 5 32 (22 ∷ 1 ∷ 16 ∷ 0 ∷ 15 ∷ 104 ∷ 1 ∷ 0 ∷ 11 ∷ 3 ∷ 6 ∷ 114 ∷ 2 ∷ 48 ∷ 1 ∷ 80 ∷ []);
  codes =
      code 22 (Alloc 128) ∷ code 15 (SaveXMM128 (register 23) (FP 16)) ∷ code 11 SetFPRegister ∷ code 6 (Alloc 64)
      ∷ code 2 (PushNonVolatile (register 3)) ∷ code 1 (PushNonVolatile (register 5)) ∷ [];
  entry = sample_machine;
}

-- push rbx; sub rsp,32
abbrev pub pushed_part : Part
pushed_part = record {
  info = sample_info 5 0 0 (5 ∷ 50 ∷ 1 ∷ 48 ∷ []);
  codes = code 5 (Alloc 32) ∷ code 1 (PushNonVolatile (register 3)) ∷ [];
  entry = sample_machine;
}

-- the same prolog by a record of version 2, whose codes also say that an epilog of two bytes ends the function
abbrev pub told_part : Part
told_part = record {
  info = record (sample_info 5 0 0 (2 ∷ 22 ∷ 0 ∷ 6 ∷ 5 ∷ 50 ∷ 1 ∷ 48 ∷ [])) { version = 2 };
  codes = code 2 (Epilog 2 1) ∷ code 0 (Epilog 0 0) ∷ code 5 (Alloc 32) ∷ code 1 (PushNonVolatile (register 3)) ∷ [];
  entry = sample_machine;
}

-- push rbp; mov rbp,rsp; push rbx; sub rsp,32
abbrev pub late_part : Part
late_part = record {
  info = sample_info 9 5 0 (9 ∷ 50 ∷ 5 ∷ 48 ∷ 4 ∷ 3 ∷ 1 ∷ 80 ∷ []);
  codes =
      code 9 (Alloc 32) ∷ code 5 (PushNonVolatile (register 3)) ∷ code 4 SetFPRegister ∷ code 1 (PushNonVolatile (register 5)) ∷ [];
  entry = sample_machine;
}

-- an interrupt with an error code; sub rsp,64; mov [rsp+32],rbx, which lies below the machine frame
abbrev pub interrupt_part : Part
interrupt_part = record {
  info = sample_info 9 0 0 (9 ∷ 52 ∷ 4 ∷ 0 ∷ 4 ∷ 114 ∷ 0 ∷ 26 ∷ []);
  codes = code 9 (SaveNonVolatile (register 3) (RSP 32)) ∷ code 4 (Alloc 64) ∷ code 0 (PushMachineFrame true) ∷ [];
  entry = sample_machine;
}
