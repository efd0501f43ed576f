-- The entries of an index, as a loop over records writes them to a room.
use Rattle.std.proofs.Common.{◌≡◌, ℕ, ◌+◌, ◌<◌, ◌≤◌, ◌^◌, true, ltb, List, [], ◌∷◌, ◌++◌, length, take, Option, None, Result, Ok, Err, refl, ap, sym, ◌∙◌, arith, append_assoc, length-append}
use Rattle.std.proofs.lemmas.Bool.{cases_lt}
use Rattle.std.proofs.lemmas.Bool.Decides.{nat_tests}
use Rattle.std.proofs.lemmas.List.{append-nil, set_past, take-append-le, take_all, take_more_set}
use Rattle.std.proofs.Math.ListN.{length-set}
use Rattle.std.specs.Option.{option_map, option_to_list}
use Rattle.pe_core.specs.Gathered.{with_rest}
use Rattle.pe_pdb.specs.Refusals.{PdbRefusal}
use Rattle.pe_pdb.specs.SymbolEntries.{address, address_put, addresses, addresses_of, rva_by}
use Rattle.pe_pdb.specs.declared.symbol_entries.SymbolClass.{SymbolClass}
use Rattle.pe_pdb.specs.Symbols.{Symbol, symbol_at, symbols}
use Rattle.pe_pdb.proofs.RecordWalks.{symbol_offset, symbols_more, symbols_none, symbols_refused}

-- of the entries of the records before offset p this holds, and those of the records from there on are left
pub record Gathers (rva : Symbol → Option ℕ) (b : List ℕ) (start p : ℕ) (P : List ℕ → Type 0) : Type 0 where
  pub sofar : List ℕ
  pub holds : P sofar
  pub left : addresses_of rva (symbols b start) ≡ with_rest sofar (addresses_of rva (symbols b p))

-- so many entries are written to a room, as far as it has place
pub record Written (count : ℕ) (room xs : List ℕ) : Type 0 where
  pub counted : count ≡ length xs
  pub written : take count room ≡ take (length room) xs

with_none : (r : Result (List ℕ) PdbRefusal) → with_rest [] r ≡ r
with_none r = grind arith

pub gathers_none : (rva : Symbol → Option ℕ) (b : List ℕ) (start : ℕ) (P : List ℕ → Type 0) → P [] → Gathers rva b start start P
gathers_none rva b start P none = record { sofar = []; holds = none; left = sym (with_none (addresses_of rva (symbols b start))) }

-- the entries of a record, and of those after it
entries_step : (rva : Symbol → Option ℕ) (s : Symbol) (more : List (Result Symbol PdbRefusal)) →
    addresses_of rva (Ok s ∷ more) ≡ with_rest (option_to_list (option_map (λ x. address x s.offset) (rva s))) (addresses_of rva more)
unfolding addresses_of
entries_step rva s more = refl

pub written_more : (count : ℕ) (room : List ℕ) (p : ℕ) (o : Option ℕ) (next : ℕ) (after xs : List ℕ) →
    next ≡ count + length (option_to_list o) → after ≡ address_put room count (option_map (λ x. address x p) o) → Written count room xs →
    Written next after (xs ++ option_to_list (option_map (λ x. address x p) o))
written_more count room p o next after xs counts puts so =
    grind (arith, length-append, append-nil, cases_lt, length-set, take_all, take_more_set, set_past, take-append-le)

pub gathers_more : (rva : Symbol → Option ℕ) (b : List ℕ) (start p : ℕ) (s : Symbol) (q : ℕ) (P Q : List ℕ → Type 0) →
    Gathers rva b start p P → p < length b → symbol_at b p ≡ Ok s → q ≡ s.offset + 4 + length s.content →
    ((xs : List ℕ) → P xs → Q (xs ++ option_to_list (option_map (λ x. address x p) (rva s)))) → Gathers rva b start q Q
gathers_more rva b start p s q P Q so lt is end next = grind (arith, symbol_offset, symbols_more, entries_step, append_assoc)

-- a record without an entry
pub entries_other : (rva : Symbol → Option ℕ) (b : List ℕ) (p : ℕ) (s : Symbol) (q : ℕ) → p < length b → symbol_at b p ≡ Ok s → q ≡ s.offset + 4 + length s.content → rva s ≡ None →
    addresses_of rva (symbols b p) ≡ addresses_of rva (symbols b q)
entries_other rva b p s q lt is end none = grind (arith, symbols_more, entries_step, with_none)

-- records without entries before those that are left
pub gathers_skipped : (rva : Symbol → Option ℕ) (b : List ℕ) (start p q : ℕ) (P : List ℕ → Type 0) →
    Gathers rva b start p P → addresses_of rva (symbols b p) ≡ addresses_of rva (symbols b q) → Gathers rva b start q P
gathers_skipped rva b start p q P so same = record { sofar = so.sofar; holds = so.holds; left = so.left ∙ ap (with_rest so.sofar) same }

entries_none : (rva : Symbol → Option ℕ) → addresses_of rva [] ≡ Ok []
unfolding addresses_of
entries_none rva = refl

entries_refused : (rva : Symbol → Option ℕ) (r : PdbRefusal) → addresses_of rva (Err r ∷ []) ≡ Err r
unfolding addresses_of
entries_refused rva r = refl

-- a record that is refused
pub gathers_refused : (rva : Symbol → Option ℕ) (b : List ℕ) (start p : ℕ) (P : List ℕ → Type 0) (r : PdbRefusal) →
    Gathers rva b start p P → p < length b → symbol_at b p ≡ Err r → addresses_of rva (symbols b start) ≡ Err r
gathers_refused rva b start p P r so lt is = grind (arith, so.left, symbols_refused b p r lt is, entries_refused rva r)

-- the end
pub gathers_all : (rva : Symbol → Option ℕ) (b : List ℕ) (start p : ℕ) (P : List ℕ → Type 0) →
    (so : Gathers rva b start p P) → length b ≤ p → addresses_of rva (symbols b start) ≡ Ok so.sofar
gathers_all rva b start p P so past = grind (arith, symbols_none, entries_none, append-nil)

pub addresses_small : (class : SymbolClass) (b : List ℕ) (start : ℕ) (sections : List ℕ) → length b < 2 ^ 32 →
    addresses class b start sections ≡ addresses_of (rva_by class sections) (symbols b start)
addresses_small class b start sections small = let t : ltb (length b) (2 ^ 32) ≡ true = grind (arith, nat_tests) in rw t

pub entry_few : (o : Option ℕ) → length (option_to_list o) ≤ 1
entry_few o = grind arith

pub length_put : (room : List ℕ) (n : ℕ) (o : Option ℕ) → length (address_put room n o) ≡ length room
length_put room n o = grind (arith, length-set)
