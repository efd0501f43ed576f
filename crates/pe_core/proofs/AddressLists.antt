-- The exports of an address table from one index on, and those to which names lead.
use Rattle.std.proofs.Common.{◌≡◌, ℕ, suc, ◌+◌, ◌-◌, ◌*◌, ◌/◌, ◌<◌, ◌≤◌, List, [], ◌∷◌, map, length, Option, Some, None, refl, sym, ap, ◌∙◌, arith}
use Rattle.std.specs.List.{range_with_len}
use Rattle.std.specs.Option.{option_and_then, option_map}
use Rattle.std.proofs.lemmas.Bool.Decides.{nat_tests}
use Rattle.std.proofs.lemmas.List.{length-map}
use Rattle.std.proofs.lemmas.List.FromFn.{length-range_with_len}
use Rattle.pe_core.specs.Bytes.{le}
use Rattle.pe_core.specs.ExportAddresses.{AddressesView, NameView, address_at, address_with, addresses_from, addresses_of, name_at}
use Rattle.pe_core.specs.Exports.{ExportDataView, ExportView, export_at, table_entry, text_at_address}
use Rattle.pe_core.specs.declared.data_directories.DataDirectory.{DataDirectory}
use Rattle.pe_core.specs.declared.export_addresses.ExportAddress.{ExportAddress}

-- ---- the list

-- one export and those after it
pub addresses_more : (t : AddressesView) (i : ℕ) → i < length t.addresses / 4 → addresses_from t i ≡ address_with t i (le t.addresses (4 * i) 4) ∷ addresses_from t (i + 1)
addresses_more t i h =
    let count : length t.addresses / 4 - i ≡ suc (length t.addresses / 4 - (i + 1)) = omega arith in
    ap (λ (n : ℕ). map (λ k. address_with t k (le t.addresses (4 * k) 4)) (range_with_len i n)) count

pub addresses_none : (t : AddressesView) (i : ℕ) → length t.addresses / 4 ≤ i → addresses_from t i ≡ []
addresses_none t i h =
    let count : length t.addresses / 4 - i ≡ 0 = omega arith in
    ap (λ (n : ℕ). map (λ k. address_with t k (le t.addresses (4 * k) 4)) (range_with_len i n)) count

pub count_of_addresses : (t : AddressesView) (i : ℕ) → length (addresses_from t i) ≡ length t.addresses / 4 - i
count_of_addresses t i =
    length-map (range_with_len i (length t.addresses / 4 - i)) (λ k. address_with t k (le t.addresses (4 * k) 4)) ∙ length-range_with_len i (length t.addresses / 4 - i)

-- ---- names

-- the export of an entry whose name, index and RVA are these
abbrev named : (ℕ → Option ℕ) → List ℕ → ℕ → ExportView
named offset name rva = record { name = name; rva = rva; offset = offset rva }

abbrev leading : List ℕ → ℕ → NameView
leading name k = record { name = name; index = k }

rva_there : (t : AddressesView) (offset : ℕ → Option ℕ) (name : List ℕ) (k : ℕ) (rva : Option ℕ) (e : ExportView) → table_entry 4 t.addresses k ≡ rva → option_map (named offset name) rva ≡ Some e → (Some (leading name k) ≡ Some (leading e.name k)) × (address_at t k ≡ Some (address_with t k e.rva))
rva_there t offset name k None e there is = absurd cc
rva_there t offset name k (Some rva) e there is =
    let same : named offset name rva ≡ e = cc in
    (ap (λ (x : ExportView). Some (leading x.name k)) same, ap (option_map (address_with t k)) there ∙ ap (λ (x : ExportView). Some (address_with t k x.rva)) same)

by_parts : (t : AddressesView) (offset : ℕ → Option ℕ) (text : Option (List ℕ)) (index : Option ℕ) (e : ExportView) → option_and_then (λ name. option_map (named offset name) (option_and_then (table_entry 4 t.addresses) index)) text ≡ Some e
    → (k : ℕ) × (option_and_then (λ name. option_map (leading name) index) text ≡ Some (leading e.name k)) × (address_at t k ≡ Some (address_with t k e.rva))
by_parts t offset None index e is = absurd cc
by_parts t offset (Some name) None e is = absurd cc
by_parts t offset (Some name) (Some k) e is =
    let both = rva_there t offset name k (table_entry 4 t.addresses k) e refl is in
    (k, both.0, both.1)

-- an entry of the name table has its name
entry_there : (table : List ℕ) (i : ℕ) → i < length table / 4 → table_entry 4 table i ≡ Some (le table (4 * i) 4)
entry_there table i h = let inside : 4 * i + 4 ≤ length table = omega arith in grind (arith, nat_tests)

text_there : (offset : ℕ → Option ℕ) (b names : List ℕ) (i : ℕ) → i < length names / 4 → option_and_then (text_at_address offset b) (table_entry 4 names i) ≡ text_at_address offset b (le names (4 * i) 4)
text_there offset b names i h = ap (option_and_then (text_at_address offset b)) (entry_there names i h)

pub by_name : (offset : ℕ → Option ℕ) (b : List ℕ) (directory : DataDirectory) (d : ExportDataView) (i : ℕ) (e : ExportView) → i < length d.names / 4 → export_at offset b d i ≡ Some e
    → (k : ℕ) × (name_at offset b (addresses_of directory d) i ≡ Some (leading e.name k)) × (address_at (addresses_of directory d) k ≡ Some (address_with (addresses_of directory d) k e.rva))
by_name offset b directory d i e lt is =
    let found = by_parts (addresses_of directory d) offset (text_at_address offset b (le d.names (4 * i) 4)) (table_entry 2 d.ordinals i) e is in
    (found.0, ap (option_and_then (λ name. option_map (leading name) (table_entry 2 d.ordinals i))) (text_there offset b d.names i lt) ∙ found.1, found.2)

rva_of : (t : AddressesView) (offset : ℕ → Option ℕ) (name : List ℕ) (k : ℕ) (rva : Option ℕ) (x : ExportAddress) → table_entry 4 t.addresses k ≡ rva → option_map (address_with t k) rva ≡ Some x → option_map (named offset name) rva ≡ Some (named offset name x.rva)
rva_of t offset name k None x there is = absurd cc
rva_of t offset name k (Some rva) x there is =
    let same : address_with t k rva ≡ x = cc in
    ap (λ (y : ExportAddress). Some (named offset name y.rva)) same

parts_of : (t : AddressesView) (offset : ℕ → Option ℕ) (text : Option (List ℕ)) (index : Option ℕ) (n : NameView) (x : ExportAddress) → option_and_then (λ name. option_map (leading name) index) text ≡ Some n → address_at t n.index ≡ Some x
    → option_and_then (λ name. option_map (named offset name) (option_and_then (table_entry 4 t.addresses) index)) text ≡ Some (named offset n.name x.rva)
parts_of t offset None index n x is at = absurd cc
parts_of t offset (Some name) None n x is at = absurd cc
parts_of t offset (Some name) (Some k) n x is at =
    let same : leading name k ≡ n = cc in
    let here : address_at t k ≡ Some x = ap (λ (m : NameView). address_at t m.index) same ∙ at in
    rva_of t offset name k (table_entry 4 t.addresses k) x refl here ∙ ap (λ (m : NameView). Some (named offset m.name x.rva)) same

pub to_name : (offset : ℕ → Option ℕ) (b : List ℕ) (directory : DataDirectory) (d : ExportDataView) (i : ℕ) (n : NameView) (x : ExportAddress) → i < length d.names / 4 → name_at offset b (addresses_of directory d) i ≡ Some n → address_at (addresses_of directory d) n.index ≡ Some x
    → export_at offset b d i ≡ Some (named offset n.name x.rva)
to_name offset b directory d i n x lt is at =
    parts_of (addresses_of directory d) offset (text_at_address offset b (le d.names (4 * i) 4)) (table_entry 2 d.ordinals i) n x
    (sym (ap (option_and_then (λ name. option_map (leading name) (table_entry 2 d.ordinals i))) (text_there offset b d.names i lt)) ∙ is) at
