-- The two walks over a chain: to count its records, and to take them.
use Rattle.std.proofs.Common.{◌≡◌, ℕ, suc, ◌+◌, ◌^◌, ◌<◌, ◌≤◌, List, [], ◌∷◌, ◌++◌, length, Option, Some, None, Result, Ok, Err, IfSome, map, inl, refl, sym, subst, arith, length-append}
use Rattle.pe_plan.proofs.Cited.{length-map, map_push, Refusal, RuntimeFunction, Table, UnwindInfoView, unwind_view, UnwindInfo, Unwinds}
use Rattle.pe_plan.proofs.Cited.{IsChain, NeverEnds, PlansFrom, HasLength, Counts, Takes}
use Rattle.pe_plan.proofs.Chains.{one_more}
use Rattle.pe_plan.proofs.Marks.{Marked, starts, keeps, moves, comes_to_root}
use Rattle.pe_plan.proofs.Rings.{AreBelow, below_more, many_go_on}
use Rattle.pe_plan.proofs.Endings.{same_record}
use Rattle.pe_plan.proofs.RecordLaw.{RecordLaw}

-- so many chained records were counted, up to the current function
pub record CountedTo (t : Table) (b : List ℕ) (f : RuntimeFunction) (chained : ℕ) (current : RuntimeFunction) (saved : ℕ) : Type 0 where
  pub records : List UnwindInfoView
  pub many : length records ≡ chained
  pub small : AreBelow (2 ^ 32) (Some f) records
  pub way : Marked t b f records current saved

pub count_starts : (t : Table) (b : List ℕ) (f : RuntimeFunction) → f.unwind_info_address < 2 ^ 32 → CountedTo t b f 0 f f.unwind_info_address
count_starts t b f small = record { records = []; many = refl; small = small; way = starts t b f }

-- the record of a function, which is chained to another
pub record IsChained (t : Table) (b : List ℕ) (current next : RuntimeFunction) : Type 0 where
  pub info : UnwindInfoView
  pub unwinds : Unwinds t b current.unwind_info_address (Ok info)
  pub chained : info.chained_info ≡ Some next
  pub small : next.unwind_info_address < 2 ^ 32

counted_more : (t : Table) (b : List ℕ) (f current next : RuntimeFunction) (n saved later : ℕ) (c : CountedTo t b f n current saved) (to : IsChained t b current next) → Marked t b f (c.records ++ to.info ∷ []) next later → CountedTo t b f (n + 1) next later
counted_more t b f current next n saved later c to way = grind (arith, length-append, next, below_more)

-- one record more, by which the saved address stays
pub keeps_saved : (t : Table) (b : List ℕ) (f current next : RuntimeFunction) (n saved same : ℕ) → CountedTo t b f n current saved → IsChained t b current next → same ≡ saved → CountedTo t b f (n + 1) next same
keeps_saved t b f current next n saved same c to is =
    subst (λ (u : ℕ). CountedTo t b f (n + 1) next u) (sym is)
    (counted_more t b f current next n saved saved c to (keeps t b f current next c.records to.info saved c.way to.unwinds to.chained))

-- and one by which it moves
pub moves_saved : (t : Table) (b : List ℕ) (f current next : RuntimeFunction) (n saved moved : ℕ) → CountedTo t b f n current saved → IsChained t b current next → moved ≡ next.unwind_info_address → CountedTo t b f (n + 1) next moved
moves_saved t b f current next n saved moved c to is =
    subst (λ (u : ℕ). CountedTo t b f (n + 1) next u) (sym is)
    (counted_more t b f current next n saved next.unwind_info_address c to (moves t b f current next c.records to.info saved c.way to.unwinds to.chained))

-- as many chained records as there are addresses
pub too_many : (t : Table) (b : List ℕ) (f current : RuntimeFunction) (n saved : ℕ) → CountedTo t b f n current saved → 2 ^ 32 ≤ n → NeverEnds t b f
too_many t b f current n saved c many =
    inl (many_go_on t b (2 ^ 32) (Some f) current c.records c.way.chain c.small (omega (arith, many, c.many)))

-- the root
pub counted_to_root : (t : Table) (b : List ℕ) (f current : RuntimeFunction) (n saved : ℕ) (i : UnwindInfoView) → CountedTo t b f n current saved → Unwinds t b current.unwind_info_address (Ok i) → i.chained_info ≡ None → HasLength t b f (n + 1)
counted_to_root t b f current n saved i c u root = (
  c.records ++ i ∷ [],
  omega (arith, c.many, length-append c.records (i ∷ [])),
  comes_to_root t b f current c.records i saved c.way u root,
)

-- these records of the chain were taken, and those up to the root are left, from the current function on
pub record TakenTo (t : Table) (b : List ℕ) (f : RuntimeFunction) (count : ℕ) (records : List UnwindInfoView) (current : RuntimeFunction) : Type 0 where
  pub rest : List UnwindInfoView
  pub here : Option RuntimeFunction
  pub chain : IsChain t b (Some f) records here
  pub ahead : IsChain t b here rest None
  pub many : length records + length rest ≡ count
  pub is_current : IfSome here (λ g. g ≡ current)

-- the next record, and those after it
record Next (t : Table) (b : List ℕ) (f : RuntimeFunction) (count : ℕ) (records : List UnwindInfoView) (current : RuntimeFunction) : Type 0 where
  info : UnwindInfoView
  rest : List UnwindInfoView
  chain : IsChain t b (Some f) records (Some current)
  unwinds : Unwinds t b current.unwind_info_address (Ok info)
  ahead : IsChain t b info.chained_info rest None
  many : length records + suc (length rest) ≡ count

next_at : (t : Table) (b : List ℕ) (f : RuntimeFunction) (count : ℕ) (records rest : List UnwindInfoView) (here : Option RuntimeFunction) (current : RuntimeFunction) → IsChain t b (Some f) records here → IsChain t b here rest None → length records + length rest ≡ count → IfSome here (λ g. g ≡ current) → length records < count → Next t b f count records current
next_at t b f count records [] here current p q many is more = absurd (omega arith)
next_at t b f count records (i ∷ rest) None current p q many is more = absurd q
next_at t b f count records (i ∷ rest) (Some g) current p q many is more = grind (arith)

next : (t : Table) (b : List ℕ) (f : RuntimeFunction) (count : ℕ) (records : List UnwindInfoView) (current : RuntimeFunction) → TakenTo t b f count records current → length records < count → Next t b f count records current
next t b f count records current s more = next_at t b f count records s.rest s.here current s.chain s.ahead s.many s.is_current more

-- its record is not refused
pub not_refused : (law : RecordLaw) (t : Table) (b : List ℕ) (f : RuntimeFunction) (count : ℕ) (records : List UnwindInfoView) (current : RuntimeFunction) (k : Refusal) → TakenTo t b f count records current → length records < count → Unwinds t b current.unwind_info_address (Err k) → ⊥
not_refused law t b f count records current k s more u =
    let n : Next t b f count records current = next t b f count records current s more in
    let clash = law.one t b current.unwind_info_address (Ok n.info) (Err k) n.unwinds u in
    cc

-- one record more
pub takes_more : (law : RecordLaw) (t : Table) (b : List ℕ) (f : RuntimeFunction) (count : ℕ) (records : List UnwindInfoView) (current later : RuntimeFunction) (i : UnwindInfoView) → TakenTo t b f count records current → length records < count → Unwinds t b current.unwind_info_address (Ok i) → IfSome i.chained_info (λ h. h ≡ later) → TakenTo t b f count (records ++ i ∷ []) later
takes_more law t b f count records current later i s more u to =
    let n : Next t b f count records current = next t b f count records current s more in
    let same : n.info ≡ i = same_record law t b current.unwind_info_address n.info i n.unwinds u in
    record {
      rest = n.rest;
      here = i.chained_info;
      chain = one_more t b (Some f) current records i n.chain u;
      ahead = subst (λ (r : UnwindInfoView). IsChain t b r.chained_info n.rest None) same n.ahead;
      many = omega (arith, n.many, length-append records (i ∷ []));
      is_current = to;
    }

-- the same of records that are seen through their view
pub takes_next : (law : RecordLaw) (t : Table) (b : List ℕ) (f : RuntimeFunction) (count : ℕ) (xs ys : List UnwindInfo) (x : UnwindInfo) (current later : RuntimeFunction) → TakenTo t b f count (map unwind_view xs) current → length xs < count → Unwinds t b current.unwind_info_address (Ok (unwind_view x)) → IfSome x.chained_info (λ h. h ≡ later) → ys ≡ xs ++ x ∷ [] → TakenTo t b f count (map unwind_view ys) later
takes_next law t b f count xs ys x current later s more u to same = grind (arith, map_push, takes_more, length-map)

pub goes_on : (o : Option RuntimeFunction) (next later : RuntimeFunction) → o ≡ Some next → later ≡ next → IfSome o (λ h. h ≡ later)
goes_on o next later is same = rw is (sym same)

pub goes_nowhere : (o : Option RuntimeFunction) (later : RuntimeFunction) → o ≡ None → IfSome o (λ h. h ≡ later)
goes_nowhere o later is = rw is tt

-- what both walks return
pub counted : (t : Table) (b : List ℕ) (f : RuntimeFunction) (k : Refusal) → Counts t b f (Err k) → PlansFrom t b f (Err k)
counted t b f k c = grind arith

pub taken : (t : Table) (b : List ℕ) (f : RuntimeFunction) (n : ℕ) (x : Result (List UnwindInfoView) Refusal) → HasLength t b f n → Takes t b f x → PlansFrom t b f x
taken t b f n x h s = grind arith
