-- Images as a loader lays them out, run by run.
use Rattle.std.proofs.Common.{◌≡◌, ℕ, zero, suc, ◌+◌, ◌-◌, ◌<◌, ◌≤◌, min, Bool, true, false, List, [], ◌∷◌, ◌++◌, length, take, replicate, Option, Some, None, refl, ap, sym, subst, ◌∙◌, length-append, length-take, length-drop, arith}
use Rattle.std.specs.Int.{is_power_of_two}
use Rattle.pe_directories.proofs.Cited.{option_map, append-nil, append_assoc, length-replicate, places, same_lists, take_all, range, splice}
use Rattle.pe_directories.proofs.Cited.{each, offset_of, SectionTable, each_same, get_or-each, length-each, length_range, length-splice}
use Rattle.pe_directories.proofs.Cited.{splice-splice, IsRun, byte_or_zero, in_turn, loaded_byte, Run}

-- ---- runs of a section map

pub by_sections : (resolve : Bool) (alignment : ℕ) (sections : List SectionTable) (rva : ℕ) (r : Run) → resolve ≡ true → is_power_of_two alignment ≡ true
    → IsRun (in_turn alignment sections) rva r → IsRun (offset_of resolve alignment sections) rva r
unfolding offset_of
by_sections resolve alignment sections rva r on aligned g = grind arith

pub by_none : (resolve : Bool) (alignment : ℕ) (sections : List SectionTable) (rva : ℕ) (r : Run) → resolve ≡ true → is_power_of_two alignment ≡ false
    → rva < r.end → r.offset ≡ None → IsRun (offset_of resolve alignment sections) rva r
unfolding offset_of
by_none resolve alignment sections rva r on not_aligned ahead none = grind arith

pub as_loaded : (resolve : Bool) (alignment : ℕ) (sections : List SectionTable) (rva : ℕ) (r : Run) → resolve ≡ false
    → rva < r.end → r.offset ≡ Some rva → IsRun (offset_of resolve alignment sections) rva r
unfolding offset_of
as_loaded resolve alignment sections rva r off ahead is = grind arith

-- ---- bytes from an offset on, and zeros after the end

pub each_more : {X : Type 0} (f : ℕ → X) (n m : ℕ) → each f (n + m) ≡ each f n ++ each (λ i. f (n + i)) m
unfolding each
each_more {X} f n zero = let none : n + 0 ≡ n = omega arith in ap (each f) none ∙ sym (append-nil (each f n))
each_more {X} f n (suc m) =
    let more : n + suc m ≡ suc (n + m) = omega arith in
    ap (each f) more ∙ ap (λ (xs : List X). xs ++ f (n + m) ∷ []) (each_more f n m) ∙ append_assoc (each f n) (each (λ i. f (n + i)) m) (f (n + m) ∷ [])

-- the bytes that are there, written at an RVA, and then the zeros after them, are the bytes from the offset on
copied_and_zeros : (b piece : List ℕ) (offset from there count : ℕ) → from ≡ min offset (length b) → there ≡ min (length b - from) count
    → piece ≡ range b from there → length piece ≡ there → piece ++ replicate (count - there) 0 ≡ each (λ i. byte_or_zero b (offset + i)) count
copied_and_zeros b piece offset from there count start most is long =
    same_lists _ _ (simp (length-append, length-each, length-replicate) (grind (arith, long, most))) (λ k d h. grind (arith, places, get_or-each))

pub copied : (b old : List ℕ) (rva offset from there count : ℕ) → from ≡ min offset (length b) → there ≡ min (length b - from) count → rva + count ≤ length old
    → splice (splice old rva (range b from there)) (rva + there) (replicate (count - there) 0) ≡ splice old rva (each (λ i. byte_or_zero b (offset + i)) count)
copied b old rva offset from there count start most fits =
    let long : length (range b from there) ≡ there = length_range b from there (grind (arith, start, most)) in
    ap (λ (n : ℕ). splice (splice old rva (range b from there)) (rva + n) (replicate (count - there) 0)) (sym long)
    ∙ splice-splice old rva (range b from there) (replicate (count - there) 0) (omega (arith, fits))
    ∙ ap (λ (s : List ℕ). splice old rva s) (copied_and_zeros b (range b from there) offset from there count start most refl long)

-- ---- an image, run by run

-- the headers are so many bytes at the start of the file, or all of it
pub headers_are : (b : List ℕ) (headers : ℕ) → take (min (length b) headers) b ≡ take headers b
headers_are b headers = same_lists _ _ (simp length-take (grind arith)) (λ k d h. grind (arith, places))

-- what is written at an offset follows what stands before it
front : (b : List ℕ) (p : ℕ) (s : List ℕ) (n : ℕ) → length s ≡ n → p + n ≤ length b → take (p + n) (splice b p s) ≡ take p b ++ s
unfolding splice
front b p s n long fits = same_lists _ _ (simp (length-append, length-take, length-drop) (grind (arith, fits, long))) (λ k d h. grind (arith, places, long, fits))

-- the image is laid out up to an RVA
pub record LaidOut (f : ℕ → ℕ) (old image : List ℕ) (rva : ℕ) : Type 0 where
  pub inside : rva ≤ length image
  pub long : length image ≡ length old
  pub done : take rva image ≡ each f rva

pub none_laid : (f : ℕ → ℕ) (old : List ℕ) → LaidOut f old old 0
unfolding each
none_laid f old = record { inside = omega arith; long = refl; done = refl }

pub one_laid : (f g : ℕ → ℕ) (old image : List ℕ) (rva count : ℕ) → LaidOut f old image rva → rva + count ≤ length image
    → each g count ≡ each (λ i. f (rva + i)) count → LaidOut f old (splice image rva (each g count)) (rva + count)
one_laid f g old image rva count l fits same = grind (arith, length-each, length-splice, front, each_more)

pub run_laid : (to_offset : ℕ → Option ℕ) (b : List ℕ) (headers : ℕ) (old image after : List ℕ) (rva end : ℕ) (r : Run)
    → LaidOut (λ x. loaded_byte b headers x (to_offset x)) old image rva → IsRun to_offset rva r → rva < length image → end ≡ min r.end (length image)
    → after ≡ splice image rva (each (λ i. loaded_byte b headers (rva + i) (option_map (λ p. p + i) r.offset)) (end - rva))
    → LaidOut (λ x. loaded_byte b headers x (to_offset x)) old after end
run_laid to_offset b headers old image after rva end r l g inside is_end is_after =
    let forward : rva ≤ end = grind (arith, inside, is_end, g.ahead) in
    let to : rva + (end - rva) ≡ end = omega (arith, forward) in
    let image_fits : rva + (end - rva) ≤ length image = grind (arith, to, is_end) in
    let run_fits : rva + (end - rva) ≤ r.end = grind (arith, to, is_end) in
    subst (λ (xs : List ℕ). LaidOut (λ x. loaded_byte b headers x (to_offset x)) old xs end) (sym is_after)
    (subst (λ (n : ℕ). LaidOut (λ x. loaded_byte b headers x (to_offset x)) old (splice image rva (each (λ i. loaded_byte b headers (rva + i) (option_map (λ p. p + i) r.offset)) (end - rva))) n) to
    (one_laid (λ x. loaded_byte b headers x (to_offset x)) (λ i. loaded_byte b headers (rva + i) (option_map (λ p. p + i) r.offset)) old image rva (end - rva) l image_fits
    (grind (arith, each_same))))

pub all_laid : (f : ℕ → ℕ) (old image : List ℕ) (rva : ℕ) → LaidOut f old image rva → length image ≤ rva → image ≡ each f (length old)
all_laid f old image rva l end = grind (arith, take_all)
