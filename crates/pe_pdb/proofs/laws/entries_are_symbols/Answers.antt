use Rattle.std.proofs.Common.{◌≡◌, ℕ, Bool, List, [], ◌∷◌, ◌++◌, length, Option, Some, Result, Ok, Err, refl, ap, sym, subst, ◌∙◌, arith, inl, inr, rules}
use Rattle.std.proofs.lemmas.List.Elements.{Contains-append_cases, Contains-append_left, Contains-append_right}
use Rattle.std.specs.List.{Contains}
use Rattle.std.specs.Option.{option_map, option_to_list}
use Rattle.std.specs.Prelude.{if◌then◌else◌}
use Rattle.pe_core.specs.Gathered.{with_rest}
use Rattle.pe_pdb.specs.Refusals.{PdbRefusal, SymbolsSize}
use Rattle.pe_pdb.specs.SymbolEntries.{HasEntry, address, addresses, addresses_of, rva_by}
use Rattle.pe_pdb.specs.Symbols.{Symbol, symbols}
use Rattle.pe_pdb.specs.declared.symbol_entries.SymbolClass.{SymbolClass}
use Rattle.pe_pdb.proofs.laws.entries_are_symbols.Goals as goal

-- Which entries an index has.
split_rest : (own : List ℕ) (r : Result (List ℕ) PdbRefusal) (xs : List ℕ) → with_rest own r ≡ Ok xs → (ys : List ℕ) × (r ≡ Ok ys) × (xs ≡ own ++ ys)
split_rest own r xs is = grind arith

of_option : (o : Option ℕ) (f : ℕ → ℕ) (a : ℕ) → Contains (option_to_list (option_map f o)) a → (x : ℕ) × (o ≡ Some x) × (a ≡ f x)
of_option o f a has = grind arith

to_option : (o : Option ℕ) (f : ℕ → ℕ) (x a : ℕ) → o ≡ Some x → a ≡ f x → Contains (option_to_list (option_map f o)) a
to_option o f x a is at = grind arith

one_of_one : (s t : Symbol) → Contains {X = Result Symbol PdbRefusal} (Ok s ∷ []) (Ok t) → s ≡ t
one_of_one s t has = grind arith

has_symbol : (rva : Symbol → Option ℕ) (items : List (Result Symbol PdbRefusal)) (xs : List ℕ) → addresses_of rva items ≡ Ok xs → (a : ℕ) → Contains xs a → HasEntry rva items a
unfolding addresses_of
has_symbol rva [] xs is a has = let none : xs ≡ [] = cc is in let size = ap (λ (l : List ℕ). length l) none in absurd (omega (arith, size, has.1))
has_symbol rva (Err r ∷ more) xs is a has = absurd (cc is)
has_symbol rva (Ok s ∷ more) xs is a has =
    let own : List ℕ = option_to_list (option_map (λ x. address x s.offset) (rva s)) in
    let parts = split_rest own (addresses_of rva more) xs is in
    elim (Contains-append_cases own parts.0 a (subst (λ (l : List ℕ). Contains l a) parts.2 has)) [
      | inl here ↦ let one = of_option (rva s) (λ x. address x s.offset) a here in (s, one.0, (0, omega arith, refl), one.1, one.2)
      | inr later ↦ let h = has_symbol rva more parts.0 parts.1 a later in (h.0, h.1, Contains-append_right (Ok s ∷ []) more (Ok h.0) h.2, h.3, h.4)
    ]

has_entry : (rva : Symbol → Option ℕ) (items : List (Result Symbol PdbRefusal)) (xs : List ℕ) → addresses_of rva items ≡ Ok xs → (a : ℕ) → HasEntry rva items a → Contains xs a
unfolding addresses_of
has_entry rva [] xs is a h = absurd (omega (arith, h.2.1))
has_entry rva (Err r ∷ more) xs is a h = absurd (cc is)
has_entry rva (Ok s ∷ more) xs is a h =
    let own : List ℕ = option_to_list (option_map (λ x. address x s.offset) (rva s)) in
    let parts = split_rest own (addresses_of rva more) xs is in
    subst (λ (l : List ℕ). Contains l a) (sym parts.2) (elim (Contains-append_cases (Ok s ∷ []) more (Ok h.0) h.2) [
      | inl here ↦
          let same : s ≡ h.0 = one_of_one s h.0 here in
          Contains-append_left own parts.0 a (to_option (rva s) (λ x. address x s.offset) h.1 a (ap rva same ∙ h.3) (h.4 ∙ ap (λ (t : Symbol). address h.1 t.offset) (sym same)))
      | inr later ↦ Contains-append_right own parts.0 a (has_entry rva more parts.0 parts.1 a (h.0, h.1, later, h.3, h.4))
    ])

passes : (c : Bool) (r : Result (List ℕ) PdbRefusal) (xs : List ℕ) → (if c then r else Err SymbolsSize) ≡ Ok xs → r ≡ Ok xs
passes c r xs is = grind arith

entries_of : (class : SymbolClass) (b : List ℕ) (start : ℕ) (sections xs : List ℕ) → addresses class b start sections ≡ Ok xs → (a : ℕ) →
    (Contains xs a → HasEntry (rva_by class sections) (symbols b start) a) × (HasEntry (rva_by class sections) (symbols b start) a → Contains xs a)
entries_of class b start sections xs is a = search (rules, arith, passes, has_symbol, has_entry)

pub returns : goal.returns
returns c = entries_of
