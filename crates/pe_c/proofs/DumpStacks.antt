-- What calls return of the stacks of a minidump is what pe_stacks returns.
use Rattle.std.proofs.Common.{◌≡◌, ℕ, List, Option, Some, None, Result, Ok, Err, refl, ap, sym, ◌∙◌, arith}
use Rattle.pe_c.proofs.Cited.{range, HeaderView, ◌>>=◌, DumpView, located, DumpRefusal, raised_of, thread_context_at, as_reported, module_reported, image_info_of, Range}
use Rattle.pe_frame.specs.declared.memory_list.MemoryPiece.{MemoryPiece}
use Rattle.pe_minidump.specs.Streams.{exception}
use Rattle.pe_minidump.specs.declared.exception.Exception.{Exception}
use Rattle.pe_minidump.specs.declared.location.Location.{Location}
use Rattle.pe_minidump.specs.declared.module.Module.{Module}
use Rattle.pe_minidump.specs.declared.thread.Thread.{Thread}
use Rattle.pe_stacks.specs.Images.{is_image_of}
use Rattle.pe_stacks.specs.MemoryRuns.{bytes_at}
use Rattle.pe_stacks.specs.ThreadContexts.{context_at, first_of, or_else, raised_by, thread_context}
use Rattle.calls_stacks.specs.DumpMemory.{fits, range_in}

-- ---- contexts

module _ {C D : Type 0} (reported : C → D) where
  abbrev told : Result C DumpRefusal → Result D DumpRefusal
  told = as_reported reported

  told_else : (r s : Result C DumpRefusal) → or_else (told r) (told s) ≡ told (or_else r s)
  told_else (Ok c) s = refl
  told_else (Err e) s = refl

  told_first : (at : Location → Result C DumpRefusal) (o : Option Location) (own : Result C DumpRefusal) → first_of (λ l. told (at l)) o (told own) ≡ told (first_of at o own)
  told_first at None own = refl
  told_first at (Some l) own = told_else (at l) own

  in_turn : (read : List ℕ → Result C DumpRefusal) (b : Result (List ℕ) DumpRefusal) → (b >>= λ s. read s >>= λ c. Ok (reported c)) ≡ told (b >>= read)
  in_turn read (Ok s) = refl
  in_turn read (Err e) = refl

  first_alike : (f g : Location → Result D DumpRefusal) → ((l : Location) → f l ≡ g l) → (o : Option Location) (l : Location) → first_of f o (f l) ≡ first_of g o (g l)
  first_alike f g same None l = same l
  first_alike f g same (Some k) l = ap (λ r. or_else r (f l)) (same k) ∙ ap (or_else (g k)) (same l)

  pub counts : (read : List ℕ → Result C DumpRefusal) (at : Location → Result D DumpRefusal) (d : DumpView) (t : Thread) (e : Exception) → ((l : Location) → at l ≡ (located d.bytes l.rva l.size >>= λ s. read s >>= λ c. Ok (reported c))) → exception d ≡ Ok (Some e) → thread_context_at at t e ≡ told (thread_context read d t)
  counts read at d t e is raised =
      first_alike at (λ l. told (context_at read d l)) (λ l. is l ∙ in_turn read (located d.bytes l.rva l.size)) (raised_of e t) t.thread_context
      ∙ told_first (context_at read d) (raised_of e t) (context_at read d t.thread_context)
      ∙ ap (λ (x : Result (Option Exception) DumpRefusal). told (first_of (context_at read d) (raised_by t.thread_id x) (context_at read d t.thread_context))) (sym raised)

-- ---- images

pub image_fits : (mode : ℕ) (h : HeaderView) (m : Module) → fits (image_info_of mode h) (module_reported m) ≡ is_image_of h m
image_fits mode h m = grind arith

-- ---- memory

pub range_bytes : (memory : List ℕ) (pieces : List MemoryPiece) (r : Range) → range memory (range_in pieces r).offset (range_in pieces r).length ≡ bytes_at memory pieces r.offset r.length
range_bytes memory pieces r = grind arith
