-- What the calls return.
use Rattle.std.proofs.Common.{◌≡◌, ◌≢◌, ℕ, ◌+◌, ◌-◌, ◌^◌, ◌<◌, ◌≤◌, Bool, true, false, List, length, Result, Ok, Err, ap, sym, ◌∙◌, subst, arith}
use Rattle.pe_rewrite.proofs.Cited.{if◌then◌else◌, fit_at, splice, HeaderView, Refusal, outcome, ◌>>=◌, Leaf, section, section_of}
use Rattle.pe_rewrite.proofs.Cited.{CanMove, GoneLies, Inside, Lies, at_end, cleared_file, edited_file, edited_length, edited_of}
use Rattle.pe_rewrite.proofs.Cited.{gone_file, in_place, moved_file, or_at_end, removed_of, roomy_file, stayed_file, wants_room}
use Rattle.pe_rewrite.proofs.Cited.{with_pointers, without_section, written, header_tests, place_of, target_of, emptied_of, gone_of}
use Rattle.pe_rewrite.proofs.Cited.{RewriteRefusal, Image, RewriteReturns, RewriteReturnsWritten, room_of, Place, Target, Room}
use Rattle.pe_rewrite.specs.declared.error.RewriteError.{RewriteError}
use Rattle.pe_rewrite.proofs.Placed.{HeadersLie, TargetIs, headers_lie, placed_value, place_lies, place_made, placed, target_is}
use Rattle.pe_rewrite.proofs.Pointers.{can_move, length_can, lies_with}
use Rattle.pe_rewrite.proofs.Results.{length_value, then_is, written_done, written_short}
use Rattle.pe_rewrite.proofs.Removed.{EntryIn, IsGone, entry_in, gone_lies, is_gone, length_cleared, length_gone, length_stayed}
use Rattle.pe_rewrite.proofs.RoomWrites.{room_inside, roomy_length}
use Rattle.pe_rewrite.proofs.Roomy.{has_debug, has_room, room_made, room_small}
use Rattle.pe_rewrite.proofs.Writes.{length-edited, length_edited_inside}

pub lies : (b : List ℕ) (h : HeaderView) (xs : List Leaf) (p : Place) → place_of b h xs ≡ Ok p → Lies h p (length b)
lies b h xs p e = place_lies b h xs p (placed b h xs p e)

pub made : (b : List ℕ) (h : HeaderView) (xs : List Leaf) (p : Place) → place_of b h xs ≡ Ok p → section_of p.section.virtual_address xs ≡ Ok (section p.section.virtual_address xs)
made b h xs p e = (place_made b h xs p (placed b h xs p e)).made

pub size : (b : List ℕ) (h : HeaderView) (xs : List Leaf) (p : Place) → place_of b h xs ≡ Ok p → length (section p.section.virtual_address xs) ≡ p.length
size b h xs p e = (place_made b h xs p (placed b h xs p e)).size

file_length : (b : List ℕ) (h : HeaderView) (xs : List Leaf) (p : Place) → place_of b h xs ≡ Ok p → length (edited_file h p xs b) ≡ length b
file_length b h xs p e = length-edited h p xs b (lies b h xs p e) (size b h xs p e)

pub length_returned : (b : List ℕ) (h : HeaderView) (xs : List Leaf) (p : Place) → place_of b h xs ≡ Ok p → edited_length (in_place b h xs) ≡ Ok (length b)
length_returned b h xs p e = length_value (in_place b h xs) (edited_file h p xs b) (length b) (placed_value b h xs p e) (file_length b h xs p e)

pub room_short : (b : List ℕ) (h : HeaderView) (xs : List Leaf) (p : Place) (old : List ℕ) (r : Refusal) → place_of b h xs ≡ Ok p → fit_at old 0 (length b) ≡ Err r → written (in_place b h xs) old ≡ Err (Image r)
room_short b h xs p old r e i = written_short (in_place b h xs) (edited_file h p xs b) old (length b) r (placed_value b h xs p e) (file_length b h xs p e) i

pub file_returned : (b : List ℕ) (h : HeaderView) (xs : List Leaf) (p : Place) (old new : List ℕ) (u : Unit {0}) → place_of b h xs ≡ Ok p → fit_at old 0 (length b) ≡ Ok u → new ≡ splice old 0 (edited_file h p xs b) → written (in_place b h xs) old ≡ Ok (length b, new)
file_returned b h xs p old new u e i is = written_done (in_place b h xs) (edited_file h p xs b) old new (length b) u (placed_value b h xs p e) (file_length b h xs p e) i is

-- ---- at the end of the image

moved_value : (b : List ℕ) (h : HeaderView) (xs : List Leaf) (m : Room) → room_of b h xs ≡ Ok m → at_end b h xs ≡ Ok (moved_file h m xs b)
moved_value b h xs m e = ap (λ (r : Result Room RewriteRefusal). r >>= λ n. Ok (moved_file h n xs b)) e

pub moves : (b : List ℕ) (h : HeaderView) (xs : List Leaf) (m : Room) → room_of b h xs ≡ Ok m → CanMove h m b
moves b h xs m e = can_move b h xs m (has_room b h xs m e) (has_debug b h xs m e)

pub made_moved : (b : List ℕ) (h : HeaderView) (xs : List Leaf) (m : Room) → room_of b h xs ≡ Ok m → section_of m.place.section.virtual_address xs ≡ Ok (section m.place.section.virtual_address xs)
made_moved b h xs m e = (room_made b h xs m (has_room b h xs m e)).made

pub size_moved : (b : List ℕ) (h : HeaderView) (xs : List Leaf) (m : Room) → room_of b h xs ≡ Ok m → length (section m.place.section.virtual_address xs) ≡ m.place.length
size_moved b h xs m e = (room_made b h xs m (has_room b h xs m e)).size

pub more_small : (b : List ℕ) (h : HeaderView) (xs : List Leaf) (m : Room) → room_of b h xs ≡ Ok m → m.more < 2 ^ 32
more_small b h xs m e = room_small b h xs m (has_room b h xs m e)

moved_length : (b : List ℕ) (h : HeaderView) (xs : List Leaf) (m : Room) → room_of b h xs ≡ Ok m → length (moved_file h m xs b) ≡ length b + m.more
moved_length b h xs m e =
    let c : CanMove h m b = moves b h xs m e in
    let f : List ℕ = with_pointers m b in
    let size : length (roomy_file h m f) ≡ length b + m.more = roomy_length h m f (lies_with h m b c) ∙ ap (λ (n : ℕ). n + m.more) (length_can h m b c) in
    length_edited_inside h m.place xs (roomy_file h m f) (subst (λ (n : ℕ). Inside h m.place n) (sym size) (room_inside h m (length b) c.lies)) (size_moved b h xs m e) ∙ size

pub moved_length_returned : (b : List ℕ) (h : HeaderView) (xs : List Leaf) (m : Room) (n : ℕ) → room_of b h xs ≡ Ok m → n ≡ length b + m.more → edited_length (at_end b h xs) ≡ Ok n
moved_length_returned b h xs m n e is = length_value (at_end b h xs) (moved_file h m xs b) n (moved_value b h xs m e) (moved_length b h xs m e ∙ sym is)

pub moved_room_short : (b : List ℕ) (h : HeaderView) (xs : List Leaf) (m : Room) (n : ℕ) (old : List ℕ) (r : Refusal) → room_of b h xs ≡ Ok m → n ≡ length b + m.more → fit_at old 0 n ≡ Err r → written (at_end b h xs) old ≡ Err (Image r)
moved_room_short b h xs m n old r e is i = written_short (at_end b h xs) (moved_file h m xs b) old n r (moved_value b h xs m e) (moved_length b h xs m e ∙ sym is) i

pub moved_file_returned : (b : List ℕ) (h : HeaderView) (xs : List Leaf) (m : Room) (n : ℕ) (old new : List ℕ) (u : Unit {0}) → room_of b h xs ≡ Ok m → n ≡ length b + m.more → fit_at old 0 n ≡ Ok u → new ≡ splice old 0 (moved_file h m xs b) → written (at_end b h xs) old ≡ Ok (n, new)
moved_file_returned b h xs m n old new u e is i at = written_done (at_end b h xs) (moved_file h m xs b) old new n u (moved_value b h xs m e) (moved_length b h xs m e ∙ sym is) i at

-- ---- one of the two

refused_length : (r : Result (List ℕ) RewriteRefusal) (k : RewriteRefusal) → edited_length r ≡ Err k → r ≡ Err k
refused_length r k e = grind arith

pub length_first : (r s : Result (List ℕ) RewriteRefusal) (n : ℕ) → edited_length r ≡ Ok n → edited_length (or_at_end r s) ≡ Ok n
length_first r s n e = grind arith

second_is : (r s : Result (List ℕ) RewriteRefusal) (k : RewriteRefusal) → r ≡ Err k → wants_room k ≡ true → or_at_end r s ≡ s
second_is r s k e wants = ap (λ (x : Result (List ℕ) RewriteRefusal). or_at_end x s) e ∙ ap (λ (t : Bool). if t then s else Err k) wants

pub written_first : (r s : Result (List ℕ) RewriteRefusal) (old : List ℕ) (v : ℕ × List ℕ) → written r old ≡ Ok v → written (or_at_end r s) old ≡ Ok v
written_first r s old v e = grind arith

-- ---- what the calls return of both

pub len_second : (res : Result ℕ RewriteError) (r s : Result (List ℕ) RewriteRefusal) (k : RewriteRefusal) (t : Bool) → edited_length r ≡ Err k → t ≡ wants_room k → t ≡ true → RewriteReturns res (edited_length s) → RewriteReturns res (edited_length (or_at_end r s))
len_second res r s k t e is wants h = grind (arith, second_is, refused_length)

pub len_neither : (r s : Result (List ℕ) RewriteRefusal) (k : RewriteRefusal) (t : Bool) → edited_length r ≡ Err k → t ≡ wants_room k → t ≡ false → edited_length (or_at_end r s) ≡ Err k
len_neither r s k t e is wants = grind (arith, refused_length)

pub write_second : (res : Result ℕ RewriteError) (r s : Result (List ℕ) RewriteRefusal) (old mid new : List ℕ) (k : RewriteRefusal) (t : Bool) → (written r old ≡ Err k) × (mid ≡ old) → t ≡ wants_room k → t ≡ true → RewriteReturnsWritten res (written s mid) mid new → RewriteReturnsWritten res (written (or_at_end r s) old) old new
write_second res r s old mid new k t e is wants h = grind (arith, second_is)

pub write_neither : (r s : Result (List ℕ) RewriteRefusal) (old mid : List ℕ) (k : RewriteRefusal) (t : Bool) → (written r old ≡ Err k) × (mid ≡ old) → t ≡ wants_room k → t ≡ false → (written (or_at_end r s) old ≡ Err k) × (mid ≡ old)
write_neither r s old mid k t e is wants = grind arith

-- ---- without leaves, or with some

pub without_leaves : (b : List ℕ) (h : HeaderView) (xs : List Leaf) → length xs ≡ 0 → edited_of b h xs ≡ removed_of b h
without_leaves b h xs e = grind arith

pub with_leaves : (b : List ℕ) (h : HeaderView) (xs : List Leaf) → length xs ≢ 0 → edited_of b h xs ≡ or_at_end (in_place b h xs) (at_end b h xs)
with_leaves b h xs e = grind arith

-- ---- the image without resources

-- what was found of it
pub record Found (b : List ℕ) (h : HeaderView) (t : Target) : Type 0 where
  pub of : TargetIs h t
  pub headers : HeadersLie b h t
  pub value : removed_of b h ≡ Ok (cleared_file h t.entry (without_section h (gone_of b h t) (emptied_of b h t) b))

pub found : (b : List ℕ) (h : HeaderView) (t : Target) (u : Unit {0}) → target_of h ≡ Ok t → outcome {Y = Unit {0}} (header_tests b h t) tt ≡ Ok u → Found b h t
found b h t u e i = grind (arith, target_is, headers_lie, then_is)

pub gone_is : (b : List ℕ) (h : HeaderView) (t : Target) (m : Room) → Found b h t → gone_of b h t ≡ Ok m → removed_of b h ≡ Ok (cleared_file h m.place.entry (gone_file h m b))
gone_is b h t m x e =
    let y : IsGone b h t m = is_gone b h t m x.headers e in
    let entry : t.entry ≡ m.place.entry = ap (λ (r : Room). r.place.entry) y.value in
    grind (arith, x.value, e, entry)

pub stayed_is : (b : List ℕ) (h : HeaderView) (t : Target) (k : RewriteRefusal) → Found b h t → gone_of b h t ≡ Err k → removed_of b h ≡ Ok (cleared_file h t.entry (stayed_file (emptied_of b h t) b))
stayed_is b h t k x e = x.value ∙ ap (λ (r : Result Room RewriteRefusal). Ok (cleared_file h t.entry (without_section h r (emptied_of b h t) b))) e

pub lies_gone : (b : List ℕ) (h : HeaderView) (t : Target) (m : Room) → Found b h t → gone_of b h t ≡ Ok m → GoneLies h m (length b)
lies_gone b h t m x e = gone_lies b h t m x.of x.headers (is_gone b h t m x.headers e)

pub entry_found : (b : List ℕ) (h : HeaderView) (t : Target) → Found b h t → EntryIn h t.entry (length b)
entry_found b h t x = entry_in b h t x.of x.headers

pub gone_length : (b : List ℕ) (h : HeaderView) (t : Target) (m : Room) → Found b h t → gone_of b h t ≡ Ok m → length (cleared_file h m.place.entry (gone_file h m b)) ≡ length b - m.more
gone_length b h t m x e =
    let l : GoneLies h m (length b) = lies_gone b h t m x e in
    let size : length (gone_file h m b) ≡ length b - m.more = length_gone h m b l in
    length_cleared h m.place.entry (gone_file h m b) (omega (arith, size, l.fields.sum, l.fields.entry, l.fields.row, l.end)) (omega (arith, size, l.fields.entry, l.fields.row, l.end)) ∙ size

pub stayed_length : (b : List ℕ) (h : HeaderView) (t : Target) → Found b h t → length (cleared_file h t.entry (stayed_file (emptied_of b h t) b)) ≡ length b
stayed_length b h t x = grind (arith, size, length_stayed, entry_found, length_cleared)

pub gone_most : (b : List ℕ) (h : HeaderView) (t : Target) (m : Room) → Found b h t → gone_of b h t ≡ Ok m → m.more ≤ length b
gone_most b h t m x e = let l : GoneLies h m (length b) = lies_gone b h t m x e in omega (arith, l.end)

pub gone_length_returned : (b : List ℕ) (h : HeaderView) (t : Target) (m : Room) (n : ℕ) → Found b h t → gone_of b h t ≡ Ok m → n ≡ length b - m.more → edited_length (removed_of b h) ≡ Ok n
gone_length_returned b h t m n x e is = length_value (removed_of b h) (cleared_file h m.place.entry (gone_file h m b)) n (gone_is b h t m x e) (gone_length b h t m x e ∙ sym is)

pub stayed_length_returned : (b : List ℕ) (h : HeaderView) (t : Target) (k : RewriteRefusal) → Found b h t → gone_of b h t ≡ Err k → edited_length (removed_of b h) ≡ Ok (length b)
stayed_length_returned b h t k x e = length_value (removed_of b h) (cleared_file h t.entry (stayed_file (emptied_of b h t) b)) (length b) (stayed_is b h t k x e) (stayed_length b h t x)

pub gone_short : (b : List ℕ) (h : HeaderView) (t : Target) (m : Room) (n : ℕ) (old : List ℕ) (r : Refusal) → Found b h t → gone_of b h t ≡ Ok m → n ≡ length b - m.more → fit_at old 0 n ≡ Err r → written (removed_of b h) old ≡ Err (Image r)
gone_short b h t m n old r x e is i = written_short (removed_of b h) (cleared_file h m.place.entry (gone_file h m b)) old n r (gone_is b h t m x e) (gone_length b h t m x e ∙ sym is) i

pub stayed_short : (b : List ℕ) (h : HeaderView) (t : Target) (k : RewriteRefusal) (old : List ℕ) (r : Refusal) → Found b h t → gone_of b h t ≡ Err k → fit_at old 0 (length b) ≡ Err r → written (removed_of b h) old ≡ Err (Image r)
stayed_short b h t k old r x e i = written_short (removed_of b h) (cleared_file h t.entry (stayed_file (emptied_of b h t) b)) old (length b) r (stayed_is b h t k x e) (stayed_length b h t x) i

pub gone_returned : (b : List ℕ) (h : HeaderView) (t : Target) (m : Room) (n : ℕ) (old new : List ℕ) (u : Unit {0}) → Found b h t → gone_of b h t ≡ Ok m → n ≡ length b - m.more → fit_at old 0 n ≡ Ok u → new ≡ splice old 0 (cleared_file h m.place.entry (gone_file h m b)) → written (removed_of b h) old ≡ Ok (n, new)
gone_returned b h t m n old new u x e is i at = written_done (removed_of b h) (cleared_file h m.place.entry (gone_file h m b)) old new n u (gone_is b h t m x e) (gone_length b h t m x e ∙ sym is) i at

pub stayed_returned : (b : List ℕ) (h : HeaderView) (t : Target) (k : RewriteRefusal) (old new : List ℕ) (u : Unit {0}) → Found b h t → gone_of b h t ≡ Err k → fit_at old 0 (length b) ≡ Ok u → new ≡ splice old 0 (cleared_file h t.entry (stayed_file (emptied_of b h t) b)) → written (removed_of b h) old ≡ Ok (length b, new)
stayed_returned b h t k old new u x e i at = written_done (removed_of b h) (cleared_file h t.entry (stayed_file (emptied_of b h t) b)) old new (length b) u (stayed_is b h t k x e) (stayed_length b h t x) i at
