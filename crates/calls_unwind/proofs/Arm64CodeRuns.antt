-- A walk over ARM64 unwind codes returns all items of its stream.
use Rattle.std.proofs.Common.{[], ◌≡◌, ℕ, ◌+◌, ◌-◌, ◌%◌, ◌<◌, ◌≤◌, true, List, ◌∷◌, length, map, drop, Option, Some, Result, Ok, Err, refl, sym, ap, subst, ◌∙◌, arith, length-append, length-drop}
use Rattle.calls_unwind.proofs.Cited.{◌==◌, nat_le, nat_tests, drop_all, Refusal, Arm64Cut, Error, bytes_of_range}
use Rattle.calls_unwind.proofs.Cited.{bytes_there, left_after, nothing_there, same_range, size_of, StepsArm64Codes, StepsOverArm64}
use Rattle.calls_unwind.proofs.Cited.{WalksInArm64, arm64_walk_at, flat_arm64, flat_arm64_item, flat_info, left_of_stream}
use Rattle.calls_unwind.proofs.Cited.{over_arm64, range_after, bytes_at, ReturnsItems, IsOver, Arm64Code, Arm64CodeWalk, Range}
use Rattle.pe_unwind.specs.Arm64Encoding.{encoding, StartsWithArm64Code, StartsWithNoArm64Code}
use Rattle.pe_unwind.specs.Arm64Record.{Arm64InfoView, info_at}
use Rattle.pe_unwind.specs.Arm64Tiling.{Tiles}
use Rattle.pe_unwind.specs.declared.arm64.codes.Arm64UnwindCode.{Arm64UnwindCode}
use Rattle.pe_unwind.specs.declared.arm64.codes.Arm64UnwindCodeData.{Arm64UnwindCodeData}
use Rattle.pe_unwind.proofs.Arm64OneCode.{starts_once}
use Rattle.pe_unwind.proofs.Arm64Streams.{joined}
use Rattle.calls_unwind.proofs.RecordRanges.{codes_of_info}

-- ---- walks that are over

stepped : (b : List ℕ) (w v : Arm64CodeWalk) (bytes : List ℕ) (answer : Result (Option Arm64Code) Refusal) → left_of_stream b w ≡ Ok bytes → StepsArm64Codes b w answer v → StepsOverArm64 bytes w answer v
stepped b w v bytes answer e s = subst (λ (r : Result (List ℕ) Refusal). WalksInArm64 r w answer v) e s

is_over : (b : List ℕ) (w : Arm64CodeWalk) (bytes : List ℕ) → left_of_stream b w ≡ Ok bytes → bytes ≡ [] → IsOver (StepsArm64Codes b) w
is_over b w bytes e none answer v s = grind (arith, joined, stepped)

-- the bytes that a walk has left, where they can be those of a stream
left_by : (b : List ℕ) (w : Arm64CodeWalk) (bytes : List ℕ) → bytes_at b w.left ≡ Ok bytes → ((w.offset + w.left.length) % 4 == 0) ≡ true → nat_le (w.offset + w.left.length) 4294967292 ≡ true →
    left_of_stream b w ≡ Ok bytes
left_by b w bytes e whole short = rw e (rw whole (rw short refl))

at_end : (b : List ℕ) → IsOver (StepsArm64Codes b) over_arm64
at_end b = grind (arith, is_over, left_by, bytes_there, nothing_there)

refused : (w v : Arm64CodeWalk) (r : Refusal) (answer : Result (Option Arm64Code) Refusal) → WalksInArm64 (Err r) w answer v → (answer ≡ Err r) × (v ≡ over_arm64)
refused w v r answer s = s

pub lies_once : (b : List ℕ) (w : Arm64CodeWalk) (r : Refusal) → left_of_stream b w ≡ Err r → ReturnsItems (StepsArm64Codes b) w (Err r ∷ [])
lies_once b w r e = (
  refl,
  λ answer v s.
      let given = refused w v r answer (subst (λ (x : Result (List ℕ) Refusal). WalksInArm64 x w answer v) e s) in
      (given.0, subst (λ (u : Arm64CodeWalk). IsOver (StepsArm64Codes b) u) (sym given.1) (at_end b)),
)

-- ---- all steps

-- a walk that stands at an offset of a stream
abbrev walk_at : Range → ℕ → Arm64CodeWalk
walk_at codes at = record { left = range_after codes at; offset = at }

-- a stream of whole words that is not too long
record IsStream (b : List ℕ) (codes : Range) (d : List ℕ) : Type 0 where
  there : bytes_at b codes ≡ Ok d
  whole : (length d % 4 == 0) ≡ true
  short : nat_le (length d) 4294967292 ≡ true

left_at : (b : List ℕ) (codes : Range) (d : List ℕ) (at : ℕ) → IsStream b codes d → at ≤ length d → left_of_stream b (walk_at codes at) ≡ Ok (drop at d)
left_at b codes d at is h =
    let size : length d ≡ codes.length = size_of b codes d is.there in
    grind (arith, left_after b codes (range_after codes at) d is.there (omega arith) (omega (arith, size, h)), left_by)

some_left : (d : List ℕ) (at : ℕ) → at < length d → drop at d ≡ [] → ⊥
some_left d at h e = let none : length (drop at d) ≡ 0 = ap length e in omega (arith, h, none, length-drop at d)

inside : (d : List ℕ) (at : ℕ) (c : Arm64UnwindCode) → at < length d → StartsWithArm64Code (drop at d) c → at + length (encoding c) ≤ length d
inside d at c h starts =
    omega (arith, h, ap (λ (x : List ℕ). length x) starts.spelled, length-append (encoding c) (drop (length (encoding c)) (drop at d)), length-drop at d)

-- what a step returns where a code starts
gives_code : (codes : Range) (d : List ℕ) (at : ℕ) (item : Arm64UnwindCodeData) (v : Arm64CodeWalk) (answer : Result (Option Arm64Code) Refusal) → at < length d → StartsWithArm64Code (drop at d) item.code →
    item.offset ≡ at → item.len ≡ length (encoding item.code) → StepsOverArm64 (drop at d) (walk_at codes at) answer v →
    (answer ≡ Ok (Some (flat_arm64 item.offset item.code))) × (v ≡ walk_at codes (at + item.len))
gives_code codes d at item v answer h starts offset len s = grind (arith, some_left, starts_once, same_range)

-- what it returns where none starts
gives_cut : (codes : Range) (d : List ℕ) (at : ℕ) (v : Arm64CodeWalk) (answer : Result (Option Arm64Code) Refusal) → at < length d → StartsWithNoArm64Code (drop at d) →
    StepsOverArm64 (drop at d) (walk_at codes at) answer v → (answer ≡ Err Arm64Cut) × (v ≡ over_arm64)
gives_cut codes d at v answer h none s = grind (arith, some_left)

in_turn : (b : List ℕ) (codes : Range) (d : List ℕ) (items : List (Result Arm64UnwindCodeData Error)) (at : ℕ) → IsStream b codes d → at ≤ length d → Tiles d at items →
    ReturnsItems (StepsArm64Codes b) (walk_at codes at) (map flat_arm64_item items)
in_turn b codes d [] at is le h = grind (arith, is_over b (walk_at codes at) (drop at d) (left_at b codes d at is le) (drop_all at d h), left_at b codes d, drop_all)
in_turn b codes d (Ok item ∷ items) at is le h =
    λ answer v s.
    let given = gives_code codes d at item v answer h.0 h.1.0 h.1.1 h.1.2 (stepped b (walk_at codes at) v (drop at d) answer (left_at b codes d at is le) s) in
    let further : at + item.len ≤ length d = omega (arith, h.1.2, inside d at item.code h.0 h.1.0) in
    (given.0, subst (λ (u : Arm64CodeWalk). ReturnsItems (StepsArm64Codes b) u (map flat_arm64_item items)) (sym given.1) (in_turn b codes d items (at + item.len) is further h.2))
in_turn b codes d (Err e ∷ items) at is le h = (
  ap (map flat_arm64_item) h.2,
  λ answer v s.
      let given = gives_cut codes d at v answer h.0 h.1.0 (stepped b (walk_at codes at) v (drop at d) answer (left_at b codes d at is le) s) in (
        given.0 ∙ ap (λ (x : Refusal). Err x) (sym h.1.1),
        subst (λ (u : Arm64CodeWalk). IsOver (StepsArm64Codes b) u) (sym given.1) (at_end b),
      ),
)

-- ---- from where a walk starts

pub codes_in_turn : (b : List ℕ) (codes : Range) (start : ℕ) (d : List ℕ) (w : Arm64CodeWalk) (items : List (Result Arm64UnwindCodeData Error)) → bytes_at b codes ≡ Ok d → arm64_walk_at b codes start ≡ Ok w →
    Tiles d start items → ReturnsItems (StepsArm64Codes b) w (map flat_arm64_item items)
codes_in_turn b codes start d w items e k tiles = grind (arith, nat_tests, in_turn)

pub codes_of_info_in_turn : (b : List ℕ) (p : ℕ) (i : Arm64InfoView) (start : ℕ) (w : Arm64CodeWalk) (items : List (Result Arm64UnwindCodeData Error)) → info_at b p ≡ Ok i →
    arm64_walk_at b (flat_info b p i).codes start ≡ Ok w → Tiles i.codes start items → ReturnsItems (StepsArm64Codes b) w (map flat_arm64_item items)
codes_of_info_in_turn b p i start w items e k tiles =
    codes_in_turn b (flat_info b p i).codes start i.codes w items (bytes_of_range b (flat_info b p i).codes i.codes (codes_of_info b p i e)) k tiles
