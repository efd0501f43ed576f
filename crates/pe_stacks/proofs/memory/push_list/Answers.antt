use Rattle.std.proofs.Common.{◌≡◌, ℕ, suc, ◌<◌, ◌≤◌, List, ◌∷◌, ◌++◌, length, Result, Ok, Err, ap, arith, length-append}
use Rattle.std.specs.Prelude.{OnErr}
use Rattle.pe_frame.specs.declared.memory_list.MemoryPiece.{MemoryPiece}
use Rattle.pe_minidump.specs.declared.memory.MemoryDescriptor.{MemoryDescriptor}
use Rattle.pe_stacks.specs.DumpMemory.{described_all}
use Rattle.pe_stacks.proofs.memory.push_list.Goals as goal

-- there is an entry while one is left
some_left : (file : List ℕ) (ps qs : List MemoryPiece) (ds es all : List MemoryDescriptor) (d : MemoryDescriptor) → ps ++ described_all file ds ≡ qs ++ described_all file all → ds ≡ d ∷ es → length qs ≤ length ps → 0 < length (described_all file all)
some_left file ps qs ds es all d sum is grown =
    let first : length (described_all file ds) ≡ suc (length (described_all file es)) = ap (λ l. length (described_all file l)) is in
    omega (arith, ap length sum, length-append ps (described_all file ds), length-append qs (described_all file all), first, grown)

on_err : {A B : Type 0} (r : Result A B) (X : Type 0) → X → OnErr r X
on_err (Ok a) X x = tt
on_err (Err e) X x = x

pub returns-in_err-push-clause-refused : goal.returns-in_err-push-clause-refused
returns-in_err-push-clause-refused g c =
    on_err c.from_residual.result _ (some_left c.args.dump.now.bytes.now _ _ _ _ _ c.in-Some.entry c.loop-entry.invariant.0 c.in-Some.ensures.steps c.loop-entry.invariant.1)
