-- The stream of a kind is that of the first entry of the kind.
use Rattle.std.proofs.Common.{◌≡◌, ℕ, ◌*◌, ◌/◌, ◌<◌, ◌≤◌, ◌==◌, true, false, length, Some, None, Ok, sym, ap, ◌∙◌, arith, ⊎_elim, zero, suc, ◌+◌, Bool, map, Option, refl, subst, if◌then◌else◌}
use Rattle.std.specs.List.{find, range_with_len}
use Rattle.std.proofs.lemmas.Bool.{cases_lt}
use Rattle.std.proofs.lemmas.Bool.Decides.{nat_tests}
use Rattle.pe_minidump.specs.Dumps.{DumpView, entry_at, entry_bytes, stream}
use Rattle.pe_minidump.specs.Records.{directory_entry}
use Rattle.pe_minidump.specs.declared.dump.DirectoryEntry.{DirectoryEntry}

-- The first of the elements f s, f (s + 1), .. that passes a test.
pub first_found : {X : Type 0} (p : X → Bool) (f : ℕ → X) (s n i : ℕ) → s ≤ i → i < s + n → p (f i) ≡ true → ((j : ℕ) → s ≤ j → j < i → p (f j) ≡ false) → find p (map f (range_with_len s n)) ≡ Some (f i)
first_found p f s zero i from to here before = absurd (omega (arith, from, to))
first_found {X} p f s (suc n) i from to here before =
    let rest : Option X = find p (map f (range_with_len (s + 1) n)) in
    ⊎_elim
    (λ (h : s < i).
    ap (λ (c : Bool). if c then Some (f s) else rest) (before s (omega arith) h)
    ∙ first_found p f (s + 1) n i (omega (arith, h)) (omega (arith, to)) here (λ j le lt. before j (omega (arith, le)) lt))
    (λ (h : i ≤ s).
    let same : i ≡ s = omega (arith, h, from) in
    ap (λ (c : Bool). if c then Some (f s) else rest) (subst (λ k. p (f k) ≡ true) same here) ∙ ap (λ k. Some (f k)) (sym same))
    (cases_lt s i)

pub none_found : {X : Type 0} (p : X → Bool) (f : ℕ → X) (s n : ℕ) → ((j : ℕ) → s ≤ j → j < s + n → p (f j) ≡ false) → find p (map f (range_with_len s n)) ≡ None
none_found p f s zero none = refl
none_found {X} p f s (suc n) none =
    let rest : Option X = find p (map f (range_with_len (s + 1) n)) in
    ap (λ (c : Bool). if c then Some (f s) else rest) (none s (omega arith) (omega arith))
    ∙ none_found p f (s + 1) n (λ j le lt. none j (omega (arith, le)) (omega (arith, lt)))

entry_there : (d : DumpView) (j : ℕ) → j < length d.directory / 12 → entry_at d j ≡ Some (directory_entry d.directory (12 * j))
entry_there d j h = grind (arith, nat_tests)

entry_known : (d : DumpView) (i : ℕ) (e : DirectoryEntry) → entry_at d i ≡ Some e → (i < length d.directory / 12) × (directory_entry d.directory (12 * i) ≡ e)
entry_known d i e is =
    ⊎_elim
    (λ (h : i < length d.directory / 12). (h, (let there : Some (directory_entry d.directory (12 * i)) ≡ Some e = sym (entry_there d i h) ∙ is in cc)))
    (λ (h : length d.directory / 12 ≤ i). let out : entry_at d i ≡ None = grind (arith, nat_tests) in absurd cc)
    (cases_lt i (length d.directory / 12))

same_number : (n : ℕ) → (n == n) ≡ true
same_number n = grind (arith, nat_tests)

pub stream_of_first : (d : DumpView) (i : ℕ) (e : DirectoryEntry) → entry_at d i ≡ Some e → ((j : ℕ) (f : DirectoryEntry) → j < i → entry_at d j ≡ Some f → (f.stream_type == e.stream_type) ≡ false) → stream d e.stream_type ≡ entry_bytes d.bytes (Some e)
stream_of_first d i e is before =
    let known = entry_known d i e is in
    let here : ((directory_entry d.directory (12 * i)).stream_type == e.stream_type) ≡ true =
    ap (λ (f : DirectoryEntry). f.stream_type == e.stream_type) known.1 ∙ same_number e.stream_type in
    let found = first_found (λ (f : DirectoryEntry). f.stream_type == e.stream_type) (λ k. directory_entry d.directory (12 * k)) 0 (length d.directory / 12) i (omega arith) (omega (arith, known.0)) here
    (λ j le lt. before j (directory_entry d.directory (12 * j)) lt (entry_there d j (omega (arith, lt, known.0)))) in
    ap (entry_bytes d.bytes) (found ∙ ap (λ (f : DirectoryEntry). Some f) known.1)

pub stream_of_none : (d : DumpView) (kind : ℕ) → ((j : ℕ) (f : DirectoryEntry) → entry_at d j ≡ Some f → (f.stream_type == kind) ≡ false) → stream d kind ≡ Ok None
stream_of_none d kind none =
    ap (entry_bytes d.bytes) (none_found (λ (f : DirectoryEntry). f.stream_type == kind) (λ k. directory_entry d.directory (12 * k)) 0 (length d.directory / 12)
    (λ j le lt. none j (directory_entry d.directory (12 * j)) (entry_there d j (omega (arith, lt)))))
