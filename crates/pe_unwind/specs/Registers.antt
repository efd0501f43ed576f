-- Names of x64 registers. (x64 exception handling: register numbers; the XMM registers follow the instruction
-- pointer.)
use Rattle.std.specs.Prelude.{ℕ, List, [], ◌∷◌, slice_index_or, codes}

-- the names of registers 0 to 32
abbrev pub names : List (List ℕ)
names =
    codes "$rax" ∷
    codes "$rcx" ∷
    codes "$rdx" ∷
    codes "$rbx" ∷
    codes "$rsp" ∷
    codes "$rbp" ∷
    codes "$rsi" ∷
    codes "$rdi" ∷
    codes "$r8" ∷
    codes "$r9" ∷
    codes "$r10" ∷
    codes "$r11" ∷
    codes "$r12" ∷
    codes "$r13" ∷
    codes "$r14" ∷
    codes "$r15" ∷
    codes "$rip" ∷
    codes "$xmm0" ∷
    codes "$xmm1" ∷
    codes "$xmm2" ∷
    codes "$xmm3" ∷
    codes "$xmm4" ∷
    codes "$xmm5" ∷
    codes "$xmm6" ∷
    codes "$xmm7" ∷
    codes "$xmm8" ∷
    codes "$xmm9" ∷
    codes "$xmm10" ∷
    codes "$xmm11" ∷
    codes "$xmm12" ∷
    codes "$xmm13" ∷
    codes "$xmm14" ∷
    codes "$xmm15" ∷
    []

-- the name of a register; empty if no register has the number
unfoldable pub register_name : ℕ → List ℕ
register_name n = slice_index_or names n []
