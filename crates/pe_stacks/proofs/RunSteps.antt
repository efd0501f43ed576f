-- The runs of the pieces of a dump's memory.
use Rattle.std.proofs.Common.{◌≡◌, ℕ, zero, suc, ◌+◌, ◌-◌, ◌<◌, ◌≤◌, ◌^◌, Bool, true, false, cond, ◌&&◌, inl, inr, ◌⊎◌, ⊎_elim, nat_le, nat_lt, List, [], ◌∷◌, ◌++◌, length, min, if◌then◌else◌, Option, Some, None, get_or, refl, ap, sym, ◌∙◌, subst, arith, length-append}
use Rattle.std.proofs.Math.Seq.{get_or-append_seam}
use Rattle.std.proofs.Math.Nat.{min-le_right, min-le_left}
use Rattle.std.proofs.lemmas.Bool.{cases_lt}
use Rattle.std.proofs.lemmas.Bool.Decides.{nat_tests}
use Rattle.std.proofs.lemmas.List.{get_or_append_left, get_or-append-add}
use Rattle.std.proofs.lemmas.List.Folds.{find-append, list_all-append}
use Rattle.std.specs.List.{find, list_all}
use Rattle.std.specs.Option.{option_map, option_or}
use Rattle.pe_core.proofs.Equality.{both}
use Rattle.pe_core.proofs.Map.{found_passes}
use Rattle.pe_lookup.specs.AddressRanges.{AreAscending}
use Rattle.pe_frame.specs.MemoryLists.{lists_byte}
use Rattle.pe_frame.specs.declared.memory_list.MemoryPiece.{MemoryPiece}
use Rattle.pe_lookup.proofs.Lookups.{ends_before, found_none, has_it, is_within, starts_after}
use Rattle.pe_stacks.specs.MemoryRuns.{AreApart, AreRuns, IsBefore, IsRunOf, addresses_of, appended, continued, end_low, is_followed, joined, no_run, offset_in, part_of}
use Rattle.pe_core.specs.RangeIndexes.{Indexes, Rises, number_at}
use Rattle.pe_core.specs.declared.range_index.RangeEntry.{RangeEntry}
use Rattle.std.specs.Prelude.{◌==◌}
use Rattle.pe_stacks.proofs.AppendedRuns.{appended-none, appended-some, continued-last, last_view, two}
use Rattle.pe_core.proofs.RangeFounds.{index_found, index_none, index_within}
use Rattle.pe_core.proofs.RangeCuts.{last_starts, none_starts, same_start}

abbrev st : MemoryPiece → ℕ
st p = p.start

abbrev ln : MemoryPiece → ℕ
ln p = p.length

abbrev ends_by : ℕ → MemoryPiece → Bool
ends_by n p = nat_le (p.offset + p.length) n

abbrev offset_of : ℕ → MemoryPiece → ℕ
offset_of x p = p.offset + (x - p.start)

-- ---- one entry

numbered : (es : List RangeEntry) (i x : ℕ) (d : RangeEntry) → Rises es → i < length es → (get_or es i d).start ≤ x → IsBefore es (i + 1) x → (get_or es i d).number ≡ number_at es x
numbered es i x d rises lt low before =
    let same : i + 1 - 1 ≡ i = omega arith in
    ap (λ n. (get_or es n d).number) (sym same)
    ∙ last_starts es (i + 1) x d (omega arith) (omega (arith, lt))
    (λ k e h l. omega (arith, rises k i e (omega (arith, h)) lt, same_start es i e d lt, low))
    (λ k e h l. omega (arith, rises (i + 1) k e h l, before e (omega (arith, h, l))))

module _ (pieces : List MemoryPiece) (es : List RangeEntry) (m : Indexes (λ p. p.start) (λ p. p.length) 0 pieces es) (i : ℕ) (lt : i < length es) where
  covers_none : (x : ℕ) (d : RangeEntry) → x < 2 ^ 64 → (get_or es i d).start ≤ x → IsBefore es (i + 1) x → (get_or es i d).number ≡ 0 → find (lists_byte x) pieces ≡ None
  covers_none x d small low before none = index_none st ln x pieces es m small (sym (numbered es i x d m.rises lt low before) ∙ none)

  covers : (x : ℕ) (d : RangeEntry) (p : MemoryPiece) → x < 2 ^ 64 → (get_or es i d).start ≤ x → IsBefore es (i + 1) x → 0 < (get_or es i d).number → find (lists_byte x) pieces ≡ Some (get_or pieces ((get_or es i d).number - 1) p)
  covers x d p small low before some = index_found st ln x pieces es (get_or es i d).number p m small (sym (numbered es i x d m.rises lt low before)) some

  -- the start of an entry is before the next one, where there are addresses between them
  start_before : (d : RangeEntry) → 0 < addresses_of es i (get_or es i d).start → IsBefore es (i + 1) (get_or es i d).start
  start_before d some e more =
      let t : nat_lt (i + 1) (length es) ≡ true = grind (arith, nat_tests) in
      let z : RangeEntry = record { start = 0; number = 0 } in
      let n : addresses_of es i (get_or es i d).start ≡ (get_or es (i + 1) z).start - (get_or es i d).start = ap (λ b. cond b ((get_or es (i + 1) z).start - (get_or es i d).start) (2 ^ 64 - 1)) t in
      omega (arith, some, n, same_start es (i + 1) e z more)

  pub named_within : (d : RangeEntry) → (get_or es i d).start < 2 ^ 64 → 0 < addresses_of es i (get_or es i d).start → 0 < (get_or es i d).number → (get_or es i d).number - 1 < length pieces
  named_within d small some named =
      index_within st ln (get_or es i d).start pieces es (get_or es i d).number m small (sym (numbered es i (get_or es i d).start d m.rises lt (omega arith) (start_before d some))) named

  pub named_has : (d : RangeEntry) (p : MemoryPiece) → (get_or es i d).start < 2 ^ 64 → 0 < addresses_of es i (get_or es i d).start → 0 < (get_or es i d).number → lists_byte (get_or es i d).start (get_or pieces ((get_or es i d).number - 1) p) ≡ true
  named_has d p small some named =
      found_passes (lists_byte (get_or es i d).start) pieces _ (covers (get_or es i d).start d p small (omega arith) (start_before d some) named)

-- without addresses the next entry starts at or before this one
no_addresses : (es : List RangeEntry) (i x : ℕ) (d : RangeEntry) → addresses_of es i (get_or es i d).start ≡ 0 → IsBefore es (i + 1) x → x < (get_or es i d).start
no_addresses es i x d none before =
    let z : RangeEntry = record { start = 0; number = 0 } in
    elim (cases_lt (i + 1) (length es)) [
      | inl more ↦
          let t : nat_lt (i + 1) (length es) ≡ true = grind (arith, nat_tests) in
          let n : addresses_of es i (get_or es i d).start ≡ (get_or es (i + 1) z).start - (get_or es i d).start = ap (λ b. cond b ((get_or es (i + 1) z).start - (get_or es i d).start) (2 ^ 64 - 1)) t in
          omega (arith, none, n, before z more)
      | inr last ↦
          let t : nat_lt (i + 1) (length es) ≡ false = grind (arith, nat_tests) in
          let n : addresses_of es i (get_or es i d).start ≡ 2 ^ 64 - 1 = ap (λ b. cond b ((get_or es (i + 1) z).start - (get_or es i d).start) (2 ^ 64 - 1)) t in
          absurd (omega (arith, none, n))
    ]

-- ---- the run of an entry

by_first : (x : ℕ) (p : MemoryPiece) (ps : List MemoryPiece) (b : Bool) → lists_byte x p ≡ b → offset_in (p ∷ ps) x ≡ cond b (Some (offset_of x p)) (offset_in ps x)
by_first x p ps true has = rw has refl
by_first x p ps false has = rw has refl

first_has : (x : ℕ) (p : MemoryPiece) (ps : List MemoryPiece) → p.start ≤ x → x < p.start + p.length → offset_in (p ∷ ps) x ≡ Some (offset_of x p)
first_has x p ps low high = by_first x p ps true (has_it p.start p.length x low high)

first_misses : (x : ℕ) (p : MemoryPiece) (ps : List MemoryPiece) → p.start + p.length ≤ x → offset_in (p ∷ ps) x ≡ offset_in ps x
first_misses x p ps over = by_first x p ps false (ends_before p.start p.length x over)

first_later : (x : ℕ) (p : MemoryPiece) (ps : List MemoryPiece) → x < p.start → offset_in (p ∷ ps) x ≡ offset_in ps x
first_later x p ps lt = by_first x p ps false (starts_after p.start p.length x lt)

all_at : (n : ℕ) (ps : List MemoryPiece) (k : ℕ) (d : MemoryPiece) → list_all (λ p. nat_le (p.offset + p.length) n) ps ≡ true → k < length ps → (get_or ps k d).offset + (get_or ps k d).length ≤ n
all_at n [] k d all lt = absurd (omega (arith, lt))
all_at n (p ∷ ps) zero d all lt = let t = (both (ends_by n p) (list_all (λ q. nat_le (q.offset + q.length) n) ps) all).0 in grind (arith, nat_tests)
all_at n (p ∷ ps) (suc k) d all lt = all_at n ps k d (both (ends_by n p) (list_all (λ q. nat_le (q.offset + q.length) n) ps) all).1 (omega (arith, lt))

module _ (pieces : List MemoryPiece) (es : List RangeEntry) (m : Indexes (λ p. p.start) (λ p. p.length) 0 pieces es) (i : ℕ) (lt : i < length es) where
  -- an entry of no piece, or of no addresses
  pub no_run_of : (d : RangeEntry) → ((get_or es i d).number ≡ 0) ⊎ (addresses_of es i (get_or es i d).start ≡ 0) → IsRunOf pieces es i (no_run (get_or es i d).start)
  no_run_of d why =
      let s : ℕ = (get_or es i d).start in
      record {
        start = λ e. same_start es i d e lt;
        ends = λ e more. omega (arith, m.rises i (i + 1) e (omega arith) more, same_start es i d e lt);
        offsets = λ x small low before. first_misses x (no_run s) [] (omega (arith, low)) ∙ sym (ap (option_map (offset_of x)) (⊎_elim
            (λ (none : (get_or es i d).number ≡ 0). covers_none pieces es m i lt x d small low before none)
            (λ (none : addresses_of es i s ≡ 0). absurd (omega (arith, no_addresses es i x d none before, low)))
            why));
        within = λ n all some. absurd (omega (arith, some));
      }

  ends_next : (d e : RangeEntry) (most : ℕ) (n : ℕ) → i + 1 < length es → most ≡ addresses_of es i (get_or es i d).start → n ≤ most → (get_or es i d).start + n ≤ (get_or es (i + 1) e).start
  ends_next d e most k more is_most le =
      let z : RangeEntry = record { start = 0; number = 0 } in
      let t : nat_lt (i + 1) (length es) ≡ true = grind (arith, nat_tests) in
      let n : addresses_of es i (get_or es i d).start ≡ (get_or es (i + 1) z).start - (get_or es i d).start = ap (λ b. cond b ((get_or es (i + 1) z).start - (get_or es i d).start) (2 ^ 64 - 1)) t in
      omega (arith, le, is_most, n, same_start es (i + 1) e z more, same_start es (i + 1) e d more, m.rises i (i + 1) d (omega arith) more)

  -- an address before the next entry is in the run if it is in the piece
  reaches : (d : RangeEntry) (x most left : ℕ) → most ≡ addresses_of es i (get_or es i d).start → IsBefore es (i + 1) x → x < 2 ^ 64 → x < (get_or es i d).start + left → left ≤ 2 ^ 64 - 1 → x < (get_or es i d).start + min most left
  reaches d x most left is_most before less inside few =
      let z : RangeEntry = record { start = 0; number = 0 } in
      elim (cases_lt (i + 1) (length es)) [
        | inl more ↦
            let t : nat_lt (i + 1) (length es) ≡ true = grind (arith, nat_tests) in
            let n : addresses_of es i (get_or es i d).start ≡ (get_or es (i + 1) z).start - (get_or es i d).start = ap (λ b. cond b ((get_or es (i + 1) z).start - (get_or es i d).start) (2 ^ 64 - 1)) t in
            omega (arith, inside, is_most, n, before z more)
        | inr last ↦
            let t : nat_lt (i + 1) (length es) ≡ false = grind (arith, nat_tests) in
            let n : addresses_of es i (get_or es i d).start ≡ 2 ^ 64 - 1 = ap (λ b. cond b ((get_or es (i + 1) z).start - (get_or es i d).start) (2 ^ 64 - 1)) t in
            omega (arith, inside, is_most, n, few)
      ]

  -- the part of the piece that an entry names
  pub part_run_of : (d : RangeEntry) (p : MemoryPiece) (most : ℕ) → (get_or es i d).start < 2 ^ 64 → most ≡ addresses_of es i (get_or es i d).start → 0 < most → 0 < (get_or es i d).number → end_low pieces ≡ true → IsRunOf pieces es i (part_of (get_or pieces ((get_or es i d).number - 1) p) (get_or es i d).start most)
  part_run_of d p most small is_most some named low =
      let s : ℕ = (get_or es i d).start in
      let q : MemoryPiece = get_or pieces ((get_or es i d).number - 1) p in
      let r : MemoryPiece = part_of q s most in
      let addresses : 0 < addresses_of es i s = omega (arith, some, is_most) in
      let inside : (get_or es i d).number - 1 < length pieces = named_within pieces es m i lt d small addresses named in
      let has = is_within q.start q.length s (named_has pieces es m i lt d p small addresses named) in
      let fits : q.offset + q.length ≤ 2 ^ 64 - 1 = all_at (2 ^ 64 - 1) pieces ((get_or es i d).number - 1) p low inside in
      let left : ℕ = q.length - (s - q.start) in
      record {
        start = λ e. same_start es i d e lt;
        ends = λ e more. ends_next d e most (min most left) more is_most (omega (arith, min-le_left most left));
        offsets = λ x less from before.
            let found = covers pieces es m i lt x d p less from before named in
            let there = is_within q.start q.length x (found_passes (lists_byte x) pieces q found) in
            first_has x r [] from (reaches d x most left is_most before less (omega (arith, has.0, has.1, there.1)) (omega (arith, fits)))
            ∙ ap (λ (o : ℕ). Some o) (omega (arith, has.0, from))
            ∙ sym (ap (option_map (offset_of x)) found);
        within = λ n all more. omega (arith, all_at n pieces ((get_or es i d).number - 1) p all inside, min-le_right most left, has.0, has.1);
      }

-- ---- all runs

-- the runs of the entries before index i
pub record Running (pieces : List MemoryPiece) (es : List RangeEntry) (i : ℕ) (rs : List MemoryPiece) : Type 0 where
  pub ascending : AreAscending (λ p. p.start) (λ p. p.length) rs
  pub ended : (k : ℕ) (d : MemoryPiece) (e : RangeEntry) → k < length rs → i < length es → (get_or rs k d).start + (get_or rs k d).length ≤ (get_or es i e).start
  pub offsets : (x : ℕ) → x < 2 ^ 64 → IsBefore es i x → offset_in rs x ≡ offset_in pieces x
  pub within : (n : ℕ) → list_all (λ p. nat_le (p.offset + p.length) n) pieces ≡ true → list_all (λ p. nat_le (p.offset + p.length) n) rs ≡ true

either : (x : ℕ) (a b : Option MemoryPiece) → option_map (offset_of x) (option_or a b) ≡ option_or (option_map (offset_of x) a) (option_map (offset_of x) b)
either x None b = refl
either x (Some p) b = refl

offset_in-append : (x : ℕ) (xs ys : List MemoryPiece) → offset_in (xs ++ ys) x ≡ option_or (offset_in xs x) (offset_in ys x)
offset_in-append x xs ys = ap (option_map (offset_of x)) (find-append (lists_byte x) xs ys) ∙ either x (find (lists_byte x) xs) (find (lists_byte x) ys)

or_none : (o : Option ℕ) → option_or o None ≡ o
or_none None = refl
or_none (Some n) = refl

-- all end at or before an address
none_in : (x : ℕ) (rs : List MemoryPiece) → ((k : ℕ) (d : MemoryPiece) → k < length rs → (get_or rs k d).start + (get_or rs k d).length ≤ x) → offset_in rs x ≡ None
none_in x rs ended = ap (option_map (offset_of x)) (found_none (lists_byte x) rs (λ k d lt. ends_before (get_or rs k d).start (get_or rs k d).length x (ended k d lt)))

-- ---- two runs as one

both_true : (a b : Bool) → a ≡ true → b ≡ true → (a && (b && true)) ≡ true
both_true a b e f = rw (e, f) refl

module _ (x : ℕ) (y q : MemoryPiece) (starts : y.start + y.length ≡ q.start) (places : y.offset + y.length ≡ q.offset) where
  joined_offset : offset_in (joined y q ∷ []) x ≡ offset_in (y ∷ q ∷ []) x
  joined_offset = elim (cases_lt x y.start) [
    | inl early ↦ first_later x (joined y q) [] early ∙ sym (first_later x y (q ∷ []) early ∙ first_later x q [] (omega (arith, early, starts)))
    | inr late ↦ elim (cases_lt x (y.start + y.length)) [
      | inl inner ↦ first_has x (joined y q) [] late (omega (arith, inner)) ∙ sym (first_has x y (q ∷ []) late inner)
      | inr outer ↦ elim (cases_lt x (q.start + q.length)) [
        | inl inner ↦
            first_has x (joined y q) [] late (omega (arith, inner, starts))
            ∙ ap (λ (o : ℕ). Some o) (omega (arith, outer, starts, places))
            ∙ sym (first_misses x y (q ∷ []) outer ∙ first_has x q [] (omega (arith, outer, starts)) inner)
        | inr over ↦
            first_misses x (joined y q) [] (omega (arith, over, starts))
            ∙ sym (first_misses x y (q ∷ []) outer ∙ first_misses x q [] over)
      ]
    ]
  ]

module _ (pieces : List MemoryPiece) (es : List RangeEntry) (i : ℕ) (ys : List MemoryPiece) (y q : MemoryPiece) (g : Running pieces es i (ys ++ y ∷ q ∷ [])) (starts : y.start + y.length ≡ q.start) (places : y.offset + y.length ≡ q.offset) where
  abbrev before_it : List MemoryPiece
  before_it = ys ++ y ∷ q ∷ []

  abbrev after_it : List MemoryPiece
  after_it = ys ++ joined y q ∷ []

  old_left : (k : ℕ) (d : MemoryPiece) → k < length ys → get_or before_it k d ≡ get_or ys k d
  old_left k d less = get_or_append_left ys (y ∷ q ∷ []) d k less

  new_left : (k : ℕ) (d : MemoryPiece) → k < length ys → get_or after_it k d ≡ get_or ys k d
  new_left k d less = get_or_append_left ys (joined y q ∷ []) d k less

  old_first : (k : ℕ) (d : MemoryPiece) → k ≡ length ys → get_or before_it k d ≡ y
  old_first k d e = ap (λ n. get_or before_it n d) e ∙ get_or-append_seam ys y (q ∷ []) d

  old_second : (d : MemoryPiece) → get_or before_it (length ys + 1) d ≡ q
  old_second d = get_or-append-add ys (y ∷ q ∷ []) 1 d

  new_last : (k : ℕ) (d : MemoryPiece) → k ≡ length ys → get_or after_it k d ≡ joined y q
  new_last k d e = ap (λ n. get_or after_it n d) e ∙ get_or-append_seam ys (joined y q) [] d

  old_length : length before_it ≡ length ys + 2
  old_length = length-append ys (y ∷ q ∷ [])

  new_length : length after_it ≡ length ys + 1
  new_length = length-append ys (joined y q ∷ [])

  joined_ascending : AreAscending (λ p. p.start) (λ p. p.length) after_it
  joined_ascending j k d less within =
      let inner : j < length ys = omega (arith, less, within, new_length) in
      let old = g.ascending j k d less (omega (arith, within, new_length, old_length)) in
      let left = old_left j d inner in
      elim (cases_lt k (length ys)) [
        | inl early ↦ rw (new_left j d inner, new_left k d early) (omega (arith, old, ap st left, ap ln left, ap st (old_left k d early)))
        | inr late ↦
            let last : k ≡ length ys = omega (arith, late, within, new_length) in
            rw (new_left j d inner, new_last k d last) (omega (arith, old, ap st left, ap ln left, ap st (old_first k d last)))
      ]

  joined_ended : (k : ℕ) (d : MemoryPiece) (e : RangeEntry) → k < length after_it → i < length es → (get_or after_it k d).start + (get_or after_it k d).length ≤ (get_or es i e).start
  joined_ended k d e within more = elim (cases_lt k (length ys)) [
    | inl early ↦
        let old = g.ended k d e (omega (arith, early, old_length)) more in
        let left = old_left k d early in
        rw (new_left k d early) (omega (arith, old, ap st left, ap ln left))
    | inr late ↦
        let old = g.ended (length ys + 1) d e (omega (arith, old_length)) more in
        rw (new_last k d (omega (arith, late, within, new_length))) (omega (arith, old, ap st (old_second d), ap ln (old_second d), starts))
  ]

  joined_within : (n : ℕ) → list_all (λ p. nat_le (p.offset + p.length) n) before_it ≡ true → list_all (λ p. nat_le (p.offset + p.length) n) after_it ≡ true
  joined_within n all =
      let parts = both (list_all (ends_by n) ys) (list_all (ends_by n) (y ∷ q ∷ [])) (sym (list_all-append (ends_by n) ys (y ∷ q ∷ [])) ∙ all) in
      let last : q.offset + q.length ≤ n = all_at n (y ∷ q ∷ []) 1 y parts.1 (omega arith) in
      let fits : ends_by n (joined y q) ≡ true = (let le : y.offset + (y.length + q.length) ≤ n = omega (arith, last, places) in grind (arith, nat_tests)) in
      list_all-append (ends_by n) ys (joined y q ∷ []) ∙ both_true (list_all (ends_by n) ys) (ends_by n (joined y q)) parts.0 fits

  pub running_join : Running pieces es i (ys ++ joined y q ∷ [])
  running_join = record {
    ascending = joined_ascending;
    ended = joined_ended;
    offsets = λ x small before.
        offset_in-append x ys (joined y q ∷ []) ∙ ap (option_or (offset_in ys x)) (joined_offset x y q starts places)
        ∙ sym (offset_in-append x ys (y ∷ q ∷ [])) ∙ g.offsets x small before;
    within = λ n all. joined_within n (g.within n all);
  }

module _ (pieces : List MemoryPiece) (es : List RangeEntry) (m : Indexes (λ p. p.start) (λ p. p.length) 0 pieces es) where
  pub running_starts : Running pieces es 0 []
  running_starts = record {
    ascending = λ j k d h l. absurd (omega (arith, l));
    ended = λ k d e h l. absurd (omega (arith, h));
    offsets = λ x small before. sym (ap (option_map (offset_of x)) (index_none st ln x pieces es m small
        (sym (none_starts es 0 x refl (λ k d h l. omega (arith, before d (omega (arith, l)), m.rises 0 k d h l))))));
    within = λ n all. refl;
  }

  module _ (i : ℕ) (rs : List MemoryPiece) (q : MemoryPiece) (lt : i < length es) (g : Running pieces es i rs) (run : IsRunOf pieces es i q) where
    -- those before it end where it starts
    ended_at : (k : ℕ) (d : MemoryPiece) → k < length rs → (get_or rs k d).start + (get_or rs k d).length ≤ q.start
    ended_at k d less = let z : RangeEntry = record { start = 0; number = 0 } in omega (arith, g.ended k d z less lt, run.start z)

    offsets_then : (x : ℕ) → x < 2 ^ 64 → IsBefore es (i + 1) x → option_or (offset_in rs x) (offset_in (q ∷ []) x) ≡ offset_in pieces x
    offsets_then x small before = elim (cases_lt x q.start) [
      | inl early ↦ ap (option_or (offset_in rs x)) (first_later x q [] early) ∙ or_none (offset_in rs x) ∙ g.offsets x small (λ d h. omega (arith, early, run.start d))
      | inr late ↦ ap (λ o. option_or o (offset_in (q ∷ []) x)) (none_in x rs (λ k d less. omega (arith, late, ended_at k d less))) ∙ run.offsets x small late before
    ]

    nothing : q.length ≡ 0 → (x : ℕ) → offset_in (q ∷ []) x ≡ None
    nothing none x = elim (cases_lt x q.start) [
      | inl early ↦ first_later x q [] early
      | inr late ↦ first_misses x q [] (omega (arith, late, none))
    ]

    pub running_skip : q.length ≡ 0 → Running pieces es (i + 1) rs
    running_skip none = record {
      ascending = g.ascending;
      ended = λ k d e h l. omega (arith, g.ended k d e h lt, m.rises i (i + 1) e (omega arith) l);
      offsets = λ x small before. sym (or_none (offset_in rs x)) ∙ sym (ap (option_or (offset_in rs x)) (nothing none x)) ∙ offsets_then x small before;
      within = g.within;
    }

    at_last : (k : ℕ) (d : MemoryPiece) → k ≡ length rs → get_or (rs ++ q ∷ []) k d ≡ q
    at_last k d e = ap (λ n. get_or (rs ++ q ∷ []) n d) e ∙ get_or-append_seam rs q [] d

    at_left : (k : ℕ) (d : MemoryPiece) → k < length rs → get_or (rs ++ q ∷ []) k d ≡ get_or rs k d
    at_left k d less = get_or_append_left rs (q ∷ []) d k less

    push_ascending : AreAscending (λ p. p.start) (λ p. p.length) (rs ++ q ∷ [])
    push_ascending j k d less within = elim (cases_lt k (length rs)) [
      | inl inner ↦ rw (at_left j d (omega (arith, less, inner)), at_left k d inner) (g.ascending j k d less inner)
      | inr outer ↦
          let last : k ≡ length rs = omega (arith, outer, within, length-append rs (q ∷ [])) in
          rw (at_left j d (omega (arith, less, last)), at_last k d last) (ended_at j d (omega (arith, less, last)))
    ]

    push_ended : (k : ℕ) (d : MemoryPiece) (e : RangeEntry) → k < length (rs ++ q ∷ []) → i + 1 < length es → (get_or (rs ++ q ∷ []) k d).start + (get_or (rs ++ q ∷ []) k d).length ≤ (get_or es (i + 1) e).start
    push_ended k d e within more = elim (cases_lt k (length rs)) [
      | inl inner ↦ rw (at_left k d inner) (omega (arith, g.ended k d e inner lt, m.rises i (i + 1) e (omega arith) more))
      | inr outer ↦
          let last : k ≡ length rs = omega (arith, outer, within, length-append rs (q ∷ [])) in
          rw (at_last k d last) (run.ends e more)
    ]

    pub running_push : 0 < q.length → Running pieces es (i + 1) (rs ++ q ∷ [])
    running_push some = record {
      ascending = push_ascending;
      ended = push_ended;
      offsets = λ x small before. offset_in-append x rs (q ∷ []) ∙ offsets_then x small before;
      within = λ n all. list_all-append (ends_by n) rs (q ∷ []) ∙ both_true (list_all (ends_by n) rs) (ends_by n q) (g.within n all) (let le : q.offset + q.length ≤ n = run.within n all some in grind (arith, nat_tests));
    }

    followed_by : (y : MemoryPiece) → is_followed y q ≡ true → (y.start + y.length ≡ q.start) × (y.offset + y.length ≡ q.offset)
    followed_by y follows =
        let tests = both (y.start + y.length == q.start) (y.offset + y.length == q.offset) follows in
        (grind (arith, nat_tests), grind (arith, nat_tests))

    by_test : (ys : List MemoryPiece) (y : MemoryPiece) (b : Bool) → is_followed y q ≡ b → Running pieces es (i + 1) (ys ++ y ∷ q ∷ []) → Running pieces es (i + 1) (cond b (ys ++ joined y q ∷ []) (ys ++ y ∷ q ∷ []))
    by_test ys y true follows pushed = let f = followed_by y follows in running_join pieces es (i + 1) ys y q pushed f.0 f.1
    by_test ys y false follows pushed = pushed

    -- the runs with that of the next entry
    pub running_more : Running pieces es (i + 1) (appended rs q)
    running_more = elim (cases_lt 0 q.length) [
      | inl some ↦ subst (Running pieces es (i + 1)) (sym (appended-some rs q (λ none. absurd (omega (arith, some, none))))) (⊎_elim
          (λ (empty : rs ≡ []). subst (Running pieces es (i + 1)) (ap (λ l. l ++ q ∷ []) empty ∙ sym (ap (λ l. continued l q) empty)) (running_push some))
          (λ (v : (ys : List MemoryPiece) × (y : MemoryPiece) × (rs ≡ ys ++ y ∷ [])).
          subst (Running pieces es (i + 1)) (sym (ap (λ l. continued l q) v.2 ∙ continued-last v.0 v.1 q))
          (by_test v.0 v.1 (is_followed v.1 q) refl (subst (Running pieces es (i + 1)) (ap (λ l. l ++ q ∷ []) v.2 ∙ two v.0 v.1 q) (running_push some))))
          (last_view rs))
      | inr none ↦ subst (Running pieces es (i + 1)) (sym (appended-none rs q (omega (arith, none)))) (running_skip (omega (arith, none)))
    ]

by_limit : (x : ℕ) (a b : Option ℕ) → (x < 2 ^ 64 → a ≡ b) → (if nat_lt x (2 ^ 64) then a else None) ≡ (if nat_lt x (2 ^ 64) then b else None)
by_limit x a b same = elim (cases_lt x (2 ^ 64)) [
  | inl small ↦ ap (λ (o : Option ℕ). if nat_lt x (2 ^ 64) then o else None) (same small)
  | inr large ↦ let t : nat_lt x (2 ^ 64) ≡ false = grind (arith, nat_tests) in ap (λ (b' : Bool). if b' then a else None) t ∙ sym (ap (λ (b' : Bool). if b' then b else None) t)
]

-- after the last entry they are all
pub runs_all : (pieces : List MemoryPiece) (es : List RangeEntry) (n : ℕ) (rs : List MemoryPiece) → Running pieces es n rs → AreApart rs → n ≡ length es → AreRuns pieces rs
runs_all pieces es n rs g apart last = record {
  ascending = g.ascending;
  apart = apart;
  offsets = λ x. by_limit x (offset_in rs x) (offset_in pieces x) (λ small. g.offsets x small (λ d less. absurd (omega (arith, last, less))));
  inside = λ file all. g.within (length file) all;
}
