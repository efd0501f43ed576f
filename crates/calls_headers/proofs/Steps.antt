-- Steps of walks over POGO entries.
use Rattle.std.proofs.Common.{◌≡◌, ℕ, ◌+◌, ◌-◌, ◌≤◌, true, List, length, take, drop, length-drop, Option, Some, None, Result, Ok, Err, sym, subst, ap, ◌∙◌, arith}
use Rattle.std.specs.Prelude.{slice_range}
use Rattle.std.proofs.lemmas.Bool.Decides.{nat_tests}
use Rattle.std.proofs.lemmas.List.{places, same_lists}
use Rattle.pe_core.specs.Bytes.{holds, range}
use Rattle.pe_core.specs.declared.error.Error.{Error}
use Rattle.pe_core.specs.SectionMap.{rounded_up}
use Rattle.pe_records.specs.Pogo.{StartsWith, ReturnsPogoEntry, pogo_entry_of}
use Rattle.pe_records.specs.declared.debug.pogo.POGOInfoEntry.{POGOInfoEntry}
use Rattle.calls_headers.specs.Debug.{IsNamed}
use Rattle.calls_base.specs.declared.ranges.Range.{Range}

-- a step that returns an entry takes its bytes
pub taken : (left rest : List ℕ) (e : POGOInfoEntry) → ReturnsPogoEntry left (Some (Ok e)) rest → (length left - length rest ≡ rounded_up (8 + length e.name.now) 4) × (rounded_up (8 + length e.name.now) 4 ≤ length left)
taken left rest e g =
    let n : ℕ = g.1 in
    let starts : StartsWith left (pogo_entry_of e) n = g.2 in
    let padded : n ≡ rounded_up (8 + length e.name.now) 4 = starts.padded in
    let whole : n ≤ length left = starts.whole in
    let after : length rest ≡ length left - n = ap length g.3 ∙ length-drop n left in
    (omega arith, omega arith)

part_of_range : (b : List ℕ) (p n m k : ℕ) → p + n ≤ length b → m + k ≤ n → slice_range b (p + m) (p + m + k) ≡ take k (drop m (slice_range b p (p + n)))
part_of_range b p n m k h i = same_lists _ _ (grind (arith, places)) (λ j d lt. grind (arith, places))

-- the name of an entry stands after its two numbers
pub named : (b left : List ℕ) (w : Range) (answer : Option (Result POGOInfoEntry Error)) (rest : List ℕ) →
    holds b w.offset w.length ≡ true → left ≡ range b w.offset w.length → ReturnsPogoEntry left answer rest → IsNamed b w answer
named b left w None rest inside is g = tt
named b left w (Some (Err e)) rest inside is g = tt
named b left w (Some (Ok e)) rest there is g =
    let inside : w.offset + w.length ≤ length b = grind (arith, nat_tests) in
    let long : length (range b w.offset w.length) ≡ w.length = grind (arith, places) in
    let n : ℕ = g.1 in
    let starts : StartsWith left (pogo_entry_of e) n = g.2 in
    let padded : n ≡ rounded_up (8 + length e.name.now) 4 = starts.padded in
    let whole : n ≤ length left = starts.whole in
    let short : 8 + length e.name.now ≤ w.length = omega (arith, ap length is, long) in
    let name : e.name.now ≡ take (length e.name.now) (drop 8 left) = starts.name in
    let here : e.name.now ≡ take (length e.name.now) (drop 8 (range b w.offset w.length)) = subst (λ (x : List ℕ). e.name.now ≡ take (length e.name.now) (drop 8 x)) is name in
    record { inside = omega arith; same = part_of_range b w.offset w.length 8 (length e.name.now) inside short ∙ sym here }
