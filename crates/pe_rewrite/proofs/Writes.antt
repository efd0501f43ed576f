-- The parts of a file, written one after the other into a buffer that has the file at its start.
use Rattle.std.proofs.Common.{◌≡◌, ℕ, ◌+◌, ◌-◌, ◌≤◌, Result, Ok, Err, List, [], ◌∷◌, ◌++◌, length, take, drop, refl, ap, sym, ◌∙◌, subst, arith, length-append}
use Rattle.pe_rewrite.proofs.Cited.{replicate, append-nil, drop_all, drop_at, take_at, take-append-drop, length-replicate}
use Rattle.pe_rewrite.proofs.Cited.{length-take-le, le_is, EditRefusal, bytes_of, splice, HeaderView, SectionTable, length-bytes_of}
use Rattle.pe_rewrite.proofs.Cited.{length-splice, splice-splice, splice_first, splice_front, Leaf, section, Inside, Lies, changed}
use Rattle.pe_rewrite.proofs.Cited.{edited_file, filled, grown_size, resource_changes, sum_of, with_resources, with_sum, Place}
use Rattle.pe_edit.specs.EditRefusals.{written}

-- ---- lengths

pub length-filled : (s : SectionTable) (r : List ℕ) → length r ≤ s.size_of_raw_data → length (filled s r) ≡ s.size_of_raw_data
unfolding filled
length-filled s r h = simp (length-append, length-replicate) (omega arith)

-- changes lie in a file of n bytes
abbrev pub Fit : ℕ → List (ℕ × List ℕ) → Type 0
Fit n [] = Unit {0}
Fit n (c ∷ cs) = (c.0 + length c.1 ≤ n) × Fit n cs

pub length-changed : (cs : List (ℕ × List ℕ)) (b : List ℕ) → Fit (length b) cs → length (changed cs b) ≡ length b
length-changed [] b f = refl
length-changed (c ∷ cs) b f =
    let one : length (splice b c.0 c.1) ≡ length b = length-splice b c.0 c.1 f.0 in
    length-changed cs (splice b c.0 c.1) (subst (λ (n : ℕ). Fit n cs) (sym one) f.1) ∙ one

pub inside_of : (h : HeaderView) (p : Place) (n : ℕ) → Lies h p n → Inside h p n
inside_of h p n l = grind arith

fit_inside : (h : HeaderView) (p : Place) (r : List ℕ) (n : ℕ) → Inside h p n → length r ≡ p.length → Fit n (resource_changes p r)
fit_inside h p r n l e = grind (arith, length-filled, length-bytes_of)

pub changes_fit : (h : HeaderView) (p : Place) (r : List ℕ) (n : ℕ) → Lies h p n → length r ≡ p.length → Fit n (resource_changes p r)
changes_fit h p r n l e = fit_inside h p r n (inside_of h p n l) e

length_inside : (h : HeaderView) (p : Place) (r b : List ℕ) → Inside h p (length b) → length r ≡ p.length → length (with_resources p r b) ≡ length b
unfolding with_resources
length_inside h p r b l e = length-changed (resource_changes p r) b (fit_inside h p r (length b) l e)

pub resources_length : (h : HeaderView) (p : Place) (r b : List ℕ) → Lies h p (length b) → length r ≡ p.length → length (with_resources p r b) ≡ length b
resources_length h p r b l e = length_inside h p r b (inside_of h p (length b) l) e

pub sum_length : (h : HeaderView) (f : List ℕ) → h.dos_header.pe_pointer + 92 ≤ length f → length (with_sum h f) ≡ length f
unfolding with_sum
sum_length h f i = length-splice f (h.dos_header.pe_pointer + 88) (bytes_of 4 (sum_of h f)) (omega (arith, i, length-bytes_of 4 (sum_of h f)))

-- the checksum lies in the file
pub sum_inside : (h : HeaderView) (p : Place) (n : ℕ) → Lies h p n → h.dos_header.pe_pointer + 92 ≤ n
sum_inside h p n l = omega (arith, l.sum, l.entry, l.table, l.row, l.raw, l.end)

pub length_edited_inside : (h : HeaderView) (p : Place) (xs : List Leaf) (b : List ℕ) → Inside h p (length b) → length (section p.section.virtual_address xs) ≡ p.length → length (edited_file h p xs b) ≡ length b
length_edited_inside h p xs b l e =
    let same = length_inside h p (section p.section.virtual_address xs) b l e in
    sum_length h (with_resources p (section p.section.virtual_address xs) b) (omega (arith, same, l.sum)) ∙ same

pub length-edited : (h : HeaderView) (p : Place) (xs : List Leaf) (b : List ℕ) → Lies h p (length b) → length (section p.section.virtual_address xs) ≡ p.length → length (edited_file h p xs b) ≡ length b
length-edited h p xs b l e = length_edited_inside h p xs b (inside_of h p (length b) l) e

-- ---- writes into the file

-- a write into the file at the start of a buffer
pub inner : (old b now next s : List ℕ) (p : ℕ) → now ≡ splice old 0 b → next ≡ splice now p s → p + length s ≤ length b → next ≡ splice old 0 (splice b p s)
inner old b now next s p e f h = grind (arith, splice_front, splice_first, length-splice)

-- the file at the start of a buffer
pub start_of : (old f now : List ℕ) (n : ℕ) → now ≡ splice old 0 f → length f ≡ n → take n now ≡ f
start_of old f now n e h = ap (take n) (e ∙ splice_front old f) ∙ take_at f (drop (length f) old) n h

-- the resources and the zeros after them
pub filled_set : (old now next r : List ℕ) (s : SectionTable) (n : ℕ) → s.pointer_to_raw_data ≤ length old → n ≡ length r → now ≡ splice old s.pointer_to_raw_data r → next ≡ splice now (s.pointer_to_raw_data + n) (replicate (s.size_of_raw_data - n) 0) →
    next ≡ splice old s.pointer_to_raw_data (filled s r)
unfolding filled
filled_set old now next r s n h is e f = grind (arith, splice-splice)

-- four changes, written one after the other
four_set : (old b one two three four five : List ℕ) (c d e f : ℕ × List ℕ) → Fit (length b) (c ∷ d ∷ e ∷ f ∷ []) → one ≡ splice old 0 b →
    two ≡ splice one c.0 c.1 → three ≡ splice two d.0 d.1 → four ≡ splice three e.0 e.1 → five ≡ splice four f.0 f.1 → five ≡ splice old 0 (changed (c ∷ d ∷ e ∷ f ∷ []) b)
four_set old b one two three four five c d e f fit i j k l m = grind (arith, inner, length-splice)

pub resources_set : (h : HeaderView) (p : Place) (old b one two three four five r : List ℕ) → Inside h p (length b) → length r ≡ p.length →
    one ≡ splice old 0 b → two ≡ splice one p.section.pointer_to_raw_data (filled p.section r) → three ≡ splice two (p.row + 8) (bytes_of 4 (grown_size p)) →
    four ≡ splice three p.entry (bytes_of 4 p.section.virtual_address) → five ≡ splice four (p.entry + 4) (bytes_of 4 p.length) → five ≡ splice old 0 (with_resources p r b)
unfolding with_resources
resources_set h p old b one two three four five r l e i j k m n =
    four_set old b one two three four five (p.section.pointer_to_raw_data, filled p.section r) (p.row + 8, bytes_of 4 (grown_size p)) (p.entry, bytes_of 4 p.section.virtual_address) (p.entry + 4, bytes_of 4 p.length)
    (fit_inside h p r (length b) l e) i j k m n

pub edited_set : (h : HeaderView) (p : Place) (xs : List Leaf) (old b four five : List ℕ) (sum : ℕ) → Inside h p (length b) → length (section p.section.virtual_address xs) ≡ p.length →
    four ≡ splice old 0 (with_resources p (section p.section.virtual_address xs) b) → sum ≡ sum_of h (take (length b) four) → five ≡ splice four (h.dos_header.pe_pointer + 88) (bytes_of 4 sum) →
    five ≡ splice old 0 (edited_file h p xs b)
unfolding with_sum
edited_set h p xs old b four five sum l e i s j =
    let f : List ℕ = with_resources p (section p.section.virtual_address xs) b in
    let same = length_inside h p (section p.section.virtual_address xs) b l e in
    let value : sum ≡ sum_of h f = s ∙ ap (sum_of h) (start_of old f four (length b) i same) in
    inner old f four five (bytes_of 4 (sum_of h f)) (h.dos_header.pe_pointer + 88) i (j ∙ ap (λ (n : ℕ). splice four (h.dos_header.pe_pointer + 88) (bytes_of 4 n)) value)
    (omega (arith, same, l.sum, length-bytes_of 4 (sum_of h f)))

-- the file at the start of a buffer written over
pub whole_front : (old : List ℕ) (n : ℕ) → n ≤ length old → old ≡ splice old 0 (take n old)
whole_front old n h = sym (splice_front old (take n old) ∙ ap (λ (k : ℕ). take n old ++ drop k old) (length-take-le n old h) ∙ take-append-drop n old)

pub splice_over : (old b f : List ℕ) → length f ≡ length b → splice (splice old 0 b) 0 f ≡ splice old 0 f
splice_over old b f e = grind (arith, splice_front, drop_at)

pub over_set : (h : HeaderView) (p : Place) (xs : List Leaf) (old b now new : List ℕ) (n : ℕ) → Inside h p (length b) → length (section p.section.virtual_address xs) ≡ p.length → now ≡ splice old 0 b → length b ≡ n → new ≡ splice now 0 (edited_file h p xs (take n now)) → new ≡ splice old 0 (edited_file h p xs b)
over_set h p xs old b now new n l e i size is = grind (arith, start_of, splice_over, length_edited_inside)

-- ---- the section alone

pub whole_written : (made : Result (List ℕ) EditRefusal) (s old new : List ℕ) (n : ℕ) → written made old ≡ Ok (n, new) → made ≡ Ok s → length s ≡ length old → new ≡ s
whole_written made s old new n e is size = grind (arith, splice_front, drop_all, append-nil)

pub never_refused : (made : Result (List ℕ) EditRefusal) (s old : List ℕ) (k : EditRefusal) → written made old ≡ Err k → made ≡ Ok s → length s ≡ length old → ⊥
never_refused made s old k e is size = grind (arith, le_is)
