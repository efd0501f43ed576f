-- The file with room for resources, written into a buffer.
use Rattle.std.proofs.Common.{◌≡◌, ℕ, ◌+◌, ◌≤◌, List, [], ◌∷◌, ◌++◌, length, take, drop, replicate, refl, ap, sym, ◌∙◌, subst, arith, length-append}
use Rattle.pe_rewrite.proofs.Cited.{append_assoc, length-drop, length-replicate, length-take-le, bytes_of, splice, HeaderView}
use Rattle.pe_rewrite.proofs.Cited.{spell_section, SectionTable, length-bytes_of, length-splice, splice-splice, FieldsLie, Inside}
use Rattle.pe_rewrite.proofs.Cited.{RoomLies, changed, room_changes, roomy_file, with_zeros, Room}
use Rattle.pe_rewrite.proofs.Writes.{Fit, inner, length-changed}

-- ---- a section header

-- the bytes x, n of them, are put at p: the bytes b have become now
pub record Laid (b : List ℕ) (p n : ℕ) (now x : List ℕ) : Type 0 where
  pub inside : p ≤ length b
  pub count : length x ≡ n
  pub same : now ≡ splice b p x

pub laid_first : {b now : List ℕ} {p : ℕ} (x : List ℕ) (n : ℕ) → p ≤ length b → length x ≡ n → now ≡ splice b p x → Laid b p n now x
laid_first x n h l e = record { inside = h; count = l; same = e }

pub then_number : {b old now x : List ℕ} {p n : ℕ} (w v : ℕ) → Laid b p n old x → now ≡ splice old (p + n) (bytes_of w v) → Laid b p (n + w) now (x ++ bytes_of w v)
then_number w v l e = grind (arith, length-append, length-bytes_of, splice-splice)

pub length_row : (s : SectionTable) → length s.name ≡ 8 → length (spell_section s) ≡ 40
unfolding spell_section
length_row s h = simp (length-append, length-bytes_of) (omega (arith, h))

-- ---- the zeros

pub length_apart : (e d : ℕ) (b : List ℕ) → e ≤ length b → length (with_zeros e d b) ≡ length b + d
unfolding with_zeros
length_apart e d b h = simp (length-append, length-replicate, length-drop) (omega (arith, length-take-le e b h, h))

pub apart_set : (old b one two three : List ℕ) (e d : ℕ) → e ≤ length b → one ≡ splice old 0 (take e b) → two ≡ splice one e (replicate d 0) → three ≡ splice two (e + d) (drop e b) → three ≡ splice old 0 (with_zeros e d b)
unfolding with_zeros
apart_set old b one two three e d h i j k =
    let x : List ℕ = take e b in
    let z : List ℕ = replicate d 0 in
    let size : length x ≡ e = length-take-le e b h in
    let at_first : e ≡ 0 + length x = omega (arith, size) in
    let first : two ≡ splice old 0 (x ++ z) =
    j ∙ ap (λ (o : List ℕ). splice o e z) i ∙ ap (λ (n : ℕ). splice (splice old 0 x) n z) at_first ∙ splice-splice old 0 x z (omega arith) in
    let zeros : length z ≡ d = length-replicate {A = ℕ} d 0 in
    let at_second : e + d ≡ 0 + length (x ++ z) = omega (arith, length-append x z, size, zeros) in
    k ∙ ap (λ (o : List ℕ). splice o (e + d) (drop e b)) first ∙ ap (λ (n : ℕ). splice (splice old 0 (x ++ z)) n (drop e b)) at_second ∙ splice-splice old 0 (x ++ z) (drop e b) (omega arith)
    ∙ ap (splice old 0) (append_assoc x z (drop e b))

-- ---- the headers

pub fields_fit : (h : HeaderView) (m : Room) (n : ℕ) → FieldsLie h m n → Fit n (room_changes h.dos_header.pe_pointer m)
fields_fit h m n l = grind (arith, length_row, length-bytes_of)

-- the fields of a room lie in a file that has the bytes before it
pub fields_of : (h : HeaderView) (m : Room) (n k : ℕ) → RoomLies h m n → m.end ≤ k → FieldsLie h m k
fields_of h m n k l from = record { sum = l.sum; entry = l.entry; row = omega (arith, l.row, from); room = l.room; name = l.name }

pub room_fit : (h : HeaderView) (m : Room) (n : ℕ) → RoomLies h m n → Fit (n + m.more) (room_changes h.dos_header.pe_pointer m)
room_fit h m n l = fields_fit h m (n + m.more) (fields_of h m n (n + m.more) l (omega (arith, l.end)))

pub roomy_length : (h : HeaderView) (m : Room) (b : List ℕ) → RoomLies h m (length b) → length (roomy_file h m b) ≡ length b + m.more
unfolding roomy_file
roomy_length h m b l =
    let zeros : length (with_zeros m.end m.more b) ≡ length b + m.more = length_apart m.end m.more b l.end in
    length-changed (room_changes h.dos_header.pe_pointer m) (with_zeros m.end m.more b) (subst (λ (n : ℕ). Fit n (room_changes h.dos_header.pe_pointer m)) (sym zeros) (room_fit h m (length b) l)) ∙ zeros

pub changed_front : (cs : List (ℕ × List ℕ)) (old b now : List ℕ) → Fit (length b) cs → now ≡ splice old 0 b → changed cs now ≡ splice old 0 (changed cs b)
changed_front [] old b now f e = e
changed_front (c ∷ cs) old b now f e =
    let one : length (splice b c.0 c.1) ≡ length b = length-splice b c.0 c.1 f.0 in
    changed_front cs old (splice b c.0 c.1) (splice now c.0 c.1) (subst (λ (n : ℕ). Fit n cs) (sym one) f.1) (inner old b now (splice now c.0 c.1) c.1 c.0 e refl f.0)

pub fields_set : (h : HeaderView) (m : Room) (one two three four five six seven new : List ℕ) →
    two ≡ splice one (h.dos_header.pe_pointer + 6) (bytes_of 2 m.number_of_sections) →
    three ≡ splice two (h.dos_header.pe_pointer + 12) (bytes_of 4 m.pointer_to_symbol_table) →
    four ≡ splice three (h.dos_header.pe_pointer + 32) (bytes_of 4 m.size_of_initialized_data) →
    five ≡ splice four (h.dos_header.pe_pointer + 80) (bytes_of 4 m.size_of_image) →
    six ≡ splice five m.place.entry (bytes_of 4 m.place.section.virtual_address) →
    seven ≡ splice six (m.place.entry + 4) (bytes_of 4 m.place.length) →
    new ≡ splice seven m.place.row (spell_section m.place.section) → new ≡ changed (room_changes h.dos_header.pe_pointer m) one
fields_set h m one two three four five six seven new j k n o p q r = rw (r, q, p, o, n, k, j) refl

pub room_set : (h : HeaderView) (m : Room) (old b one new : List ℕ) → RoomLies h m (length b) → one ≡ splice old 0 (with_zeros m.end m.more b) →
    new ≡ changed (room_changes h.dos_header.pe_pointer m) one → new ≡ splice old 0 (roomy_file h m b)
unfolding roomy_file
room_set h m old b one new l i e =
    let zeros : length (with_zeros m.end m.more b) ≡ length b + m.more = length_apart m.end m.more b l.end in
    let fit = subst (λ (n : ℕ). Fit n (room_changes h.dos_header.pe_pointer m)) (sym zeros) (room_fit h m (length b) l) in
    e ∙ changed_front (room_changes h.dos_header.pe_pointer m) old (with_zeros m.end m.more b) one fit i

-- ---- the leaves in it

pub room_inside : (h : HeaderView) (m : Room) (n : ℕ) → RoomLies h m n → Inside h m.place (n + m.more)
room_inside h m n l = grind arith
