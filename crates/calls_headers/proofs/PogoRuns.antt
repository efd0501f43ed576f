-- A walk over the entries of a POGO record returns all of them.
use Rattle.std.proofs.Common.{◌≡◌, ◌≢◌, ℕ, ◌+◌, ◌-◌, ◌≤◌, List, [], ◌∷◌, length, length-drop, drop, Option, Some, None, Result, Ok, Err, refl, sym, ap, subst, ◌∙◌, arith}
use Rattle.pe_core.specs.Bytes.{range}
use Rattle.pe_core.specs.Refusals.{Refusal}
use Rattle.pe_core.specs.declared.error.Error.{Error}
use Rattle.pe_records.proofs.PogoNames.{starts_once}
use Rattle.pe_records.specs.Pogo.{StartsWith, StartsWithNone, Entries, Entry, pogo_entry_of, refusal}
use Rattle.pe_records.specs.declared.debug.pogo.POGOInfoEntry.{POGOInfoEntry}
use Rattle.calls_base.proofs.LeftBytes.{bytes_there, left_after, nothing_there, size_of}
use Rattle.calls_headers.specs.Debug.{StepsOverPogo, StepsPogoEntries, entries_reported, reported}
use Rattle.calls_base.specs.Ranges.{range_after, bytes_at, no_bytes}
use Rattle.calls_base.specs.Runs.{ReturnsItems, IsOver}
use Rattle.calls_headers.specs.declared.debug.walks.PogoEntry.{PogoEntry}
use Rattle.calls_base.specs.declared.ranges.Range.{Range}

-- ---- walks that are over

stepped : (b : List ℕ) (w v : Range) (bytes : List ℕ) (answer : Result (Option PogoEntry) Refusal) → bytes_at b w ≡ Ok bytes → StepsPogoEntries b w answer v →
    (given : Option (Result POGOInfoEntry Error)) × StepsOverPogo (Ok bytes) w given v × (answer ≡ reported w given)
stepped b w v bytes answer e s = (s.0, subst (λ (r : Result (List ℕ) Refusal). StepsOverPogo r w s.0 v) e s.1, s.2)

-- a step over no bytes returns nothing, and changes nothing
over_nothing : (bytes : List ℕ) (w v : Range) (given : Option (Result POGOInfoEntry Error)) → bytes ≡ [] → StepsOverPogo (Ok bytes) w given v → (reported w given ≡ Ok None) × (v ≡ w)
over_nothing bytes w v None e s = (refl, s.2)
over_nothing bytes w v (Some (Ok x)) e s = absurd (s.1.0 e)
over_nothing bytes w v (Some (Err x)) e s = absurd (s.1.0 e)

is_over : (b : List ℕ) (w : Range) (bytes : List ℕ) → bytes_at b w ≡ Ok bytes → bytes ≡ [] → IsOver (StepsPogoEntries b) w
is_over b w bytes e none answer v s =
    let over = stepped b w v bytes answer e s in
    let nothing = over_nothing bytes w v over.0 none over.1 in
    (over.2 ∙ nothing.0, nothing.1)

at_end : (b : List ℕ) → IsOver (StepsPogoEntries b) no_bytes
at_end b = is_over b no_bytes (range b 0 0) (bytes_there b no_bytes (omega arith)) (nothing_there b)

refused : (w v : Range) (r : Refusal) (given : Option (Result POGOInfoEntry Error)) → StepsOverPogo (Err r) w given v → (reported w given ≡ Err r) × (v ≡ no_bytes)
refused w v r None s = absurd s
refused w v r (Some (Ok x)) s = absurd s
refused w v r (Some (Err e)) s = (ap (λ (x : Refusal). Err x) s.0, s.1)

pub lies_once : (b : List ℕ) (w : Range) (r : Refusal) → bytes_at b w ≡ Err r → ReturnsItems (StepsPogoEntries b) w (Err r ∷ [])
lies_once b w r e = (
  refl,
  λ answer v s.
      let given = refused w v r s.0 (subst (λ (x : Result (List ℕ) Refusal). StepsOverPogo x w s.0 v) e s.1) in
      (s.2 ∙ given.0, subst (λ (u : Range). IsOver (StepsPogoEntries b) u) (sym given.1) (at_end b)),
)

-- ---- all steps

-- an entry as a walk that stands there returns it
abbrev entry_reported : Range → Entry → PogoEntry
entry_reported w e = record { name = record { offset = w.offset + 8; length = length e.name }; rva = e.rva; size = e.size }

-- what a step returns where an entry of n bytes starts
gives_entry : (bytes : List ℕ) (w v : Range) (e : Entry) (n : ℕ) (given : Option (Result POGOInfoEntry Error)) → bytes ≢ [] → StartsWith bytes e n → StepsOverPogo (Ok bytes) w given v →
    (reported w given ≡ Ok (Some (entry_reported w e))) × (v ≡ range_after w n)
gives_entry bytes w v e n None some starts s = absurd (some s.1.0)
gives_entry bytes w v e n (Some (Ok x)) some starts s =
    let same = starts_once bytes (pogo_entry_of x) e s.1.1 n s.1.2 starts in
    let whole : n ≤ length bytes = starts.whole in
    let rest : length s.0 ≡ length bytes - n = ap length s.1.3 ∙ length-drop s.1.1 bytes ∙ ap (λ (k : ℕ). length bytes - k) same.1 in
    let taken : length bytes - length s.0 ≡ n = omega (arith, whole, rest) in
    (ap (λ (y : Entry). Ok (Some (entry_reported w y))) same.0, s.2 ∙ ap (λ (k : ℕ). range_after w k) taken)
gives_entry bytes w v e n (Some (Err x)) some starts s = absurd (s.1.1 e n starts)

-- what it returns where none starts
gives_error : (bytes : List ℕ) (w v : Range) (given : Option (Result POGOInfoEntry Error)) → bytes ≢ [] → StartsWithNone bytes → StepsOverPogo (Ok bytes) w given v →
    (reported w given ≡ Err (refusal bytes)) × (v ≡ no_bytes)
gives_error bytes w v None some none s = absurd (some s.1.0)
gives_error bytes w v (Some (Ok x)) some none s = absurd (none (pogo_entry_of x) s.1.1 s.1.2)
gives_error bytes w v (Some (Err x)) some none s = (ap (λ (r : Refusal). Err r) s.1.2, s.2)

rest_there : (b : List ℕ) (w : Range) (bytes : List ℕ) (n : ℕ) → bytes_at b w ≡ Ok bytes → n ≤ length bytes → bytes_at b (range_after w n) ≡ Ok (drop n bytes)
rest_there b w bytes n e h =
    let size : length bytes ≡ w.length = size_of b w bytes e in
    left_after b w (range_after w n) bytes e (omega arith) (omega (arith, size, h))
    ∙ ap (λ (k : ℕ). Ok (drop k bytes)) (omega (arith, size, h))

in_turn : (b : List ℕ) (items : List (Result Entry Refusal)) (w : Range) (bytes : List ℕ) → bytes_at b w ≡ Ok bytes → Entries bytes items → ReturnsItems (StepsPogoEntries b) w (entries_reported w items)
in_turn b [] w bytes e h = λ answer v s.
    let ends = is_over b w bytes e h in
    let over = ends answer v s in
    (over.0, subst (λ (u : Range). IsOver (StepsPogoEntries b) u) (sym over.1) ends)
in_turn b (Ok x ∷ items) w bytes e h = λ answer v s.
    let over = stepped b w v bytes answer e s in
    let starts : StartsWith bytes x h.1 = h.2 in
    let whole : h.1 ≤ length bytes = starts.whole in
    let given = gives_entry bytes w v x h.1 over.0 h.0 starts over.1 in
    let more : ReturnsItems (StepsPogoEntries b) (range_after w h.1) (entries_reported (range_after w h.1) items) = in_turn b items (range_after w h.1) (drop h.1 bytes) (rest_there b w bytes h.1 e whole) h.3 in (
      over.2 ∙ given.0,
      subst (λ (n : ℕ). ReturnsItems (StepsPogoEntries b) v (entries_reported (range_after w n) items)) starts.padded
          (subst (λ (u : Range). ReturnsItems (StepsPogoEntries b) u (entries_reported (range_after w h.1) items)) (sym given.1) more),
    )
in_turn b (Err r ∷ items) w bytes e h = (
  ap (entries_reported w) h.3,
  λ answer v s.
      let over = stepped b w v bytes answer e s in
      let given = gives_error bytes w v over.0 h.0 h.1 over.1 in
      (over.2 ∙ given.0 ∙ ap (λ (x : Refusal). Err x) (sym h.2), subst (λ (u : Range). IsOver (StepsPogoEntries b) u) (sym given.1) (at_end b)),
)

pub entries_in_turn : (b : List ℕ) (w : Range) (bytes : List ℕ) (items : List (Result Entry Refusal)) → bytes_at b w ≡ Ok bytes → Entries bytes items →
    ReturnsItems (StepsPogoEntries b) w (entries_reported w items)
entries_in_turn b w bytes items e h = in_turn b items w bytes e h
