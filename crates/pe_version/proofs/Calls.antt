-- What the calls write and return.
use Rattle.std.proofs.Common.{◌≡◌, ℕ, ◌+◌, ◌-◌, ◌<◌, ◌≤◌, Bool, true, false, List, [], ◌∷◌, ◌++◌, length, replicate, Result, Ok, Err, refl, ap, sym, ◌∙◌, arith, length-append, rules}
use Rattle.pe_version.proofs.Cited.{nat_le, nat_tests, length-replicate, bytes_of, fit_at, splice, Refusal, WriteFit, outcome}
use Rattle.pe_version.proofs.Cited.{length-bytes_of, splice-splice, up_to_four, Written, last_written, more_written}
use Rattle.pe_version.proofs.Cited.{nothing_written, VersionRefusal, Image, block_of, block_tests, length_of, parts_of, written}
use Rattle.pe_version.proofs.Cited.{BlockValue, Fits, before_others, block_bytes, block_length, children_start, padded_block}
use Rattle.pe_version.proofs.Cited.{padded_length, type_number, value_length, value_start}
use Rattle.pe_version.specs.declared.block.Parts.{Parts}
use Rattle.pe_version.proofs.Blocks as blocks
use Rattle.pe_version.proofs.Tests.{fits_if, value_is}

-- ---- a block that passes its tests

other_value : {Y Z R : Type 0} (tests : List (Bool × R)) (x y : Y) (z : Z) → outcome tests x ≡ Ok y → outcome tests z ≡ Ok z
other_value [] x y z h = refl
other_value ((true, r) ∷ tests) x y z h = other_value tests x y z h
other_value ((false, r) ∷ tests) x y z h = absurd cc

other_refused : {Y Z R : Type 0} (tests : List (Bool × R)) (y : Y) (z : Z) (r : R) → outcome tests y ≡ Err r → outcome tests z ≡ Err r
other_refused [] y z r h = absurd cc
other_refused ((true, s) ∷ tests) y z r h = other_refused tests y z r h
other_refused ((false, s) ∷ tests) y z r h = cc

pub parts_are : (k : BlockValue) (p : Parts) → outcome (block_tests k) (parts_of k) ≡ Ok p → p ≡ parts_of k
parts_are k p e = sym (value_is (block_tests k) (parts_of k) p e)

pub fits : (k : BlockValue) (p : Parts) → outcome (block_tests k) (parts_of k) ≡ Ok p → Fits k
fits k p e = fits_if k (parts_of k) p e

pub end_is : (k : BlockValue) (p : Parts) → outcome (block_tests k) (parts_of k) ≡ Ok p → p.end ≡ block_length k
end_is k p e = ap (λ (q : Parts). q.end) (parts_are k p e)

pub small_end : (k : BlockValue) (p : Parts) → outcome (block_tests k) (parts_of k) ≡ Ok p → p.end < 65536
small_end k p e = let f : Fits k = fits k p e in omega (arith, end_is k p e, f.short)

made : (k : BlockValue) (p : Parts) → outcome (block_tests k) (parts_of k) ≡ Ok p → block_of k ≡ Ok (padded_block k)
made k p e = other_value (block_tests k) (parts_of k) p (padded_block k) e

bytes_length : (k : BlockValue) → Fits k → length (block_bytes k) ≡ block_length k
bytes_length k f = let p : blocks.Parts (block_bytes k) k = blocks.parts k f in p.size

pub padded_size : (k : BlockValue) → Fits k → length (padded_block k) ≡ padded_length k
unfolding padded_block
padded_size k f = length-append (block_bytes k) (replicate (padded_length k - block_length k) 0) ∙ omega (arith, bytes_length k f, length-replicate {A = ℕ} (padded_length k - block_length k) 0)

pub length_returned : (k : BlockValue) (p : Parts) (n : ℕ) → outcome (block_tests k) (parts_of k) ≡ Ok p → n ≡ up_to_four p.end → length_of (block_of k) ≡ Ok n
length_returned k p n e is = grind (arith, made k p e, padded_size k (fits k p e), end_is k p e, is)

pub length_refused : (k : BlockValue) (r : VersionRefusal) → outcome (block_tests k) (parts_of k) ≡ Err r → length_of (block_of k) ≡ Err r
length_refused k r e = ap (λ (x : Result (List ℕ) VersionRefusal). length_of x) (other_refused (block_tests k) (parts_of k) (padded_block k) r e)

pub written_refused : (k : BlockValue) (old : List ℕ) (r : VersionRefusal) → outcome (block_tests k) (parts_of k) ≡ Err r → written (block_of k) old ≡ Err r
written_refused k old r e = ap (λ (x : Result (List ℕ) VersionRefusal). written x old) (other_refused (block_tests k) (parts_of k) (padded_block k) r e)

-- ---- the buffer

pub too_small : (t : Bool) (r : Refusal) (x : ℕ × List ℕ) → outcome {Y = Unit {0}} ((t, WriteFit) ∷ []) tt ≡ Err r → outcome ((t, Image WriteFit) ∷ []) x ≡ Err (Image r)
too_small t r x h = grind arith

pub room_enough : (t : Bool) (x : ℕ × List ℕ) (u : Unit {0}) → outcome {Y = Unit {0}} ((t, WriteFit) ∷ []) tt ≡ Ok u → outcome ((t, Image WriteFit) ∷ []) x ≡ Ok x
room_enough t x u h = grind arith

pub fit_of : (f old : List ℕ) (n : ℕ) (r : Result (Unit {0}) Refusal) → length f ≡ n → fit_at old 0 n ≡ r → outcome {Y = Unit {0}} ((nat_le (length f) (length old), WriteFit) ∷ []) tt ≡ r
fit_of f old n r same h = let start : 0 + n ≡ length f = omega (arith, same) in rw start at h

size_is : (k : BlockValue) (p : Parts) (n : ℕ) → outcome (block_tests k) (parts_of k) ≡ Ok p → n ≡ up_to_four p.end → length (padded_block k) ≡ n
size_is k p n e is = padded_size k (fits k p e) ∙ ap (λ (m : ℕ). up_to_four m) (sym (end_is k p e)) ∙ sym is

pub room_short : (k : BlockValue) (p : Parts) (old : List ℕ) (n : ℕ) (r : Refusal) → outcome (block_tests k) (parts_of k) ≡ Ok p → n ≡ up_to_four p.end → fit_at old 0 n ≡ Err r → written (block_of k) old ≡ Err (Image r)
room_short k p old n r e is h =
    let f : List ℕ = padded_block k in
    ap (λ (x : Result (List ℕ) VersionRefusal). written x old) (made k p e) ∙ too_small (nat_le (length f) (length old)) r (length f, splice old 0 f) (fit_of f old n (Err r) (size_is k p n e is) h)

pub fits_by : (t : Bool) (u : Unit {0}) → outcome {Y = Unit {0}} ((t, WriteFit) ∷ []) tt ≡ Ok u → t ≡ true
fits_by t u h = grind arith

-- the zeros after the block
padded_set : (k : BlockValue) (old one two : List ℕ) → Fits k → one ≡ splice old 0 (block_bytes k) → two ≡ splice one (block_length k) (replicate (padded_length k - block_length k) 0) → two ≡ splice old 0 (padded_block k)
unfolding padded_block
padded_set k old one two f i j =
    let zeros : List ℕ = replicate (padded_length k - block_length k) 0 in
    let at : block_length k ≡ 0 + length (block_bytes k) = omega (arith, bytes_length k f) in
    j ∙ ap (λ (n : ℕ). splice one n zeros) at ∙ ap (λ (b : List ℕ). splice b (0 + length (block_bytes k)) zeros) i ∙ splice-splice old 0 (block_bytes k) zeros (omega arith)

pub file_returned : (k : BlockValue) (p : Parts) (old one two : List ℕ) (n : ℕ) (u : Unit {0}) → outcome (block_tests k) (parts_of k) ≡ Ok p → n ≡ up_to_four p.end → fit_at old 0 n ≡ Ok u →
    one ≡ splice old 0 (block_bytes k) → two ≡ splice one p.end (replicate (n - p.end) 0) → written (block_of k) old ≡ Ok (n, two)
file_returned k p old one two n u e is h i j =
    let f : List ℕ = padded_block k in
    let end : p.end ≡ block_length k = end_is k p e in
    let up : n ≡ padded_length k = is ∙ ap (λ (m : ℕ). up_to_four m) end in
    let now : two ≡ splice old 0 f = padded_set k old one two (fits k p e) i (j ∙ ap (λ (m : ℕ). splice one m (replicate (n - m) 0)) end ∙ ap (λ (m : ℕ). splice one (block_length k) (replicate (m - block_length k) 0)) up) in
    ap (λ (x : Result (List ℕ) VersionRefusal). written x old) (made k p e) ∙ room_enough (nat_le (length f) (length old)) (length f, splice old 0 f) u (fit_of f old n (Ok u) (size_is k p n e is) h)
    ∙ ap (λ (m : ℕ). Ok (m, splice old 0 f)) (size_is k p n e is) ∙ ap (λ (x : List ℕ). Ok (n, x)) (sym now)

-- ---- the parts, one after the other

pub block_set : (k : BlockValue) (old n1 n2 n3 n4 n5 n6 n7 n8 : List ℕ) → block_length k ≤ length old → length (block_bytes k) ≡ block_length k →
    n1 ≡ splice old 0 (bytes_of 2 (block_length k)) → n2 ≡ splice n1 2 (bytes_of 2 (value_length k)) → n3 ≡ splice n2 4 (bytes_of 2 (type_number k.is_text)) → n4 ≡ splice n3 6 k.key →
    n5 ≡ splice n4 (6 + length k.key) (replicate (value_start k - (6 + length k.key)) 0) → n6 ≡ splice n5 (value_start k) k.value →
    n7 ≡ splice n6 (value_start k + length k.value) (replicate (children_start k - (value_start k + length k.value)) 0) → n8 ≡ splice n7 (children_start k) k.children → n8 ≡ splice old 0 (block_bytes k)
unfolding block_bytes
block_set k old n1 n2 n3 n4 n5 n6 n7 n8 room size e1 e2 e3 e4 e5 e6 e7 e8 =
    let z : ℕ = value_start k - (6 + length k.key) in
    let y : ℕ = before_others (length k.value) k.children - length k.value in
    let x8 : List ℕ = k.children in
    let x7 : List ℕ = replicate y 0 ++ x8 in
    let x6 : List ℕ = k.value ++ x7 in
    let x5 : List ℕ = replicate z 0 ++ x6 in
    let x4 : List ℕ = k.key ++ x5 in
    let x3 : List ℕ = bytes_of 2 (type_number k.is_text) ++ x4 in
    let x2 : List ℕ = bytes_of 2 (value_length k) ++ x3 in
    let x1 : List ℕ = bytes_of 2 (block_length k) ++ x2 in
    let more : length k.value ≤ before_others (length k.value) k.children = blocks.more_by (length k.value) k.children in
    let same : children_start k - (value_start k + length k.value) ≡ y = omega (arith, more) in
    let w0 : Written old old 0 0 x1 x1 = nothing_written old 0 x1 (omega (arith, size, room)) in
    let w1 : Written old n1 0 2 x1 x2 = more_written old old n1 0 0 2 x1 (bytes_of 2 (block_length k)) x2 w0 e1 (omega (arith, length-bytes_of 2 (block_length k))) in
    let w2 : Written old n2 0 4 x1 x3 = more_written old n1 n2 0 2 4 x1 (bytes_of 2 (value_length k)) x3 w1 e2 (omega (arith, length-bytes_of 2 (value_length k))) in
    let w3 : Written old n3 0 6 x1 x4 = more_written old n2 n3 0 4 6 x1 (bytes_of 2 (type_number k.is_text)) x4 w2 e3 (omega (arith, length-bytes_of 2 (type_number k.is_text))) in
    let w4 : Written old n4 0 (6 + length k.key) x1 x5 = more_written old n3 n4 0 6 (6 + length k.key) x1 k.key x5 w3 e4 refl in
    let w5 : Written old n5 0 (value_start k) x1 x6 = more_written old n4 n5 0 (6 + length k.key) (value_start k) x1 (replicate z 0) x6 w4 e5 (omega (arith, length-replicate {A = ℕ} z 0)) in
    let w6 : Written old n6 0 (value_start k + length k.value) x1 x7 = more_written old n5 n6 0 (value_start k) (value_start k + length k.value) x1 k.value x7 w5 e6 refl in
    let w7 : Written old n7 0 (children_start k) x1 x8 = more_written old n6 n7 0 (value_start k + length k.value) (children_start k) x1 (replicate y 0) x8 w6 (e7 ∙ ap (λ (m : ℕ). splice n6 (value_start k + length k.value) (replicate m 0)) same) (omega (arith, length-replicate {A = ℕ} y 0, more)) in
    last_written old n7 n8 0 (children_start k) x1 x8 w7 e8

pub room_inside : (k : BlockValue) (p : Parts) (old : List ℕ) (n : ℕ) (u : Unit {0}) → outcome (block_tests k) (parts_of k) ≡ Ok p → n ≡ up_to_four p.end → fit_at old 0 n ≡ Ok u → block_length k ≤ length old
room_inside k p old n u e is h = search (rules, arith, fits_by, nat_tests, end_is)

-- the same by the parts that the code has
pub block_set_by : (k : BlockValue) (p : Parts) (old n1 n2 n3 n4 n5 n6 n7 n8 : List ℕ) (v : ℕ) → p ≡ parts_of k → Fits k → block_length k ≤ length old → v ≡ value_length k →
    n1 ≡ splice old 0 (bytes_of 2 p.end) → n2 ≡ splice n1 2 (bytes_of 2 v) → n3 ≡ splice n2 4 (bytes_of 2 (type_number k.is_text)) → n4 ≡ splice n3 6 k.key →
    n5 ≡ splice n4 (6 + length k.key) (replicate (p.value - (6 + length k.key)) 0) → n6 ≡ splice n5 p.value k.value →
    n7 ≡ splice n6 (p.value + length k.value) (replicate (p.children - (p.value + length k.value)) 0) → n8 ≡ splice n7 p.children k.children → n8 ≡ splice old 0 (block_bytes k)
block_set_by k p old n1 n2 n3 n4 n5 n6 n7 n8 v is f room length_is e1 e2 e3 e4 e5 e6 e7 e8 = grind (arith, block_set, bytes_length)
