-- What lookups find is what reading lists from the start finds, and what frames are made of.
use Rattle.std.proofs.Common.{◌≡◌, ℕ, zero, suc, ◌-◌, ◌<◌, ◌≤◌, Bool, true, false, List, [], ◌∷◌, ◌++◌, length, get_or, map, filter, Option, Some, None, Result, Ok, refl, ap, sym, subst, ◌∙◌, arith, leb, ltb, rules}
use Rattle.std.proofs.lemmas.Bool.Decides.{nat_tests}
use Rattle.std.specs.Option.{option_and_then, option_map, option_to_list}
use Rattle.std.specs.Prelude.{◌&&◌, if◌then◌else◌, slice_get}
use Rattle.std.specs.Result.{result_ok}
use Rattle.pe_core.specs.Refusals.{◌>>=◌}
use Rattle.pe_pdb.specs.Frames.{FindsIn, Frame, HasStarts, ModuleParts, NoneHas, PdbParts, frames_at, frames_of, file_name, frames_or, greatest, id_record, later, line_at, line_with, module_with, own_frame, procedure_at, procedure_with, public_at, public_frame, symbol_before, unnamed, with_ids, with_lines, with_modules, with_names, without_file, without_source}
use Rattle.pe_pdb.specs.Ids.{TypesView, count_of, record_by, record_from, start_of}
use Rattle.pe_pdb.specs.LineEntries.{module_lines}
use Rattle.pe_pdb.specs.LineIndexes.{LineAt}
use Rattle.pe_pdb.specs.Refusals.{PdbRefusal}
use Rattle.pe_pdb.specs.SymbolEntries.{addresses}
use Rattle.pe_pdb.specs.SymbolIndexes.{Covering, Nearest, if_reaches}
use Rattle.pe_pdb.specs.Symbols.{symbol_at}
use Rattle.pe_pdb.specs.declared.inline_walk.InlineFrame.{InlineFrame}
use Rattle.pe_pdb.specs.declared.inlinee.SourceLine.{SourceLine}
use Rattle.pe_pdb.specs.declared.line_entries.CodeLine.{CodeLine}
use Rattle.pe_pdb.specs.declared.symbol_entries.SymbolClass.TheVariants.{Procedures, PublicFunctions}
use Rattle.pe_pdb.specs.declared.symbol_lookup.SymbolAddress.{SymbolAddress}
use Rattle.pe_pdb.proofs.LastLines.{line_once}
use Rattle.pe_pdb.proofs.NearestEntries.{nearest_once}

-- ---- the greatest of the items that pass a test

pub record IsGreatest {X : Type 0} (key : X → ℕ) (p : X → Bool) (xs : List X) (i : ℕ) (x : X) : Type 0 where
  pub listed : i < length xs
  pub is : (d : X) → get_or xs i d ≡ x
  pub passes : p x ≡ true
  pub last : (k : ℕ) (d : X) → k < length xs → p (get_or xs k d) ≡ true → key (get_or xs k d) ≤ key x
  pub latest : (k : ℕ) (d : X) → k < length xs → p (get_or xs k d) ≡ true → key (get_or xs k d) ≡ key x → k ≤ i

abbrev pub Greatest : {X : Type 0} → (X → ℕ) → (X → Bool) → List X → Option X → Type 0
Greatest {X} key p xs None = (k : ℕ) (d : X) → k < length xs → p (get_or xs k d) ≡ false
Greatest key p xs (Some x) = (i : ℕ) × IsGreatest key p xs i x

by_place : (P : ℕ → Type 0) → P zero → ((k : ℕ) → P (suc k)) → (k : ℕ) → P k
by_place P first more zero = first
by_place P first more (suc k) = more k

-- an item that does not pass
skipped : {X : Type 0} (key : X → ℕ) (p : X → Bool) (x : X) (xs : List X) (o : Option X) → p x ≡ false → Greatest key p xs o → Greatest key p (x ∷ xs) o
skipped key p x xs None fails none = λ k d. by_place (λ k. k < suc (length xs) → p (get_or (x ∷ xs) k d) ≡ false) (λ lt. fails) (λ k lt. none k d (omega (arith, lt))) k
skipped key p x xs (Some y) fails g = (
  suc g.0,
  record {
    listed = let l = g.1.listed in omega (arith, l);
    is = g.1.is;
    passes = g.1.passes;
    last = λ k d. by_place (λ k. k < suc (length xs) → p (get_or (x ∷ xs) k d) ≡ true → key (get_or (x ∷ xs) k d) ≤ key y) (λ lt t. absurd (cc (fails, t))) (λ k lt t. g.1.last k d (omega (arith, lt)) t) k;
    latest = λ k d. by_place (λ k. k < suc (length xs) → p (get_or (x ∷ xs) k d) ≡ true → key (get_or (x ∷ xs) k d) ≡ key y → k ≤ suc g.0) (λ lt t e. omega arith) (λ k lt t e. let l = g.1.latest k d (omega (arith, lt)) t e in omega (arith, l)) k;
  },
)

-- one that passes, where no other does
alone : {X : Type 0} (key : X → ℕ) (p : X → Bool) (x : X) (xs : List X) → p x ≡ true → Greatest key p xs None → IsGreatest key p (x ∷ xs) 0 x
alone key p x xs passes none = grind (arith, by_place)

-- one that passes, before one that is as great or greater
after : {X : Type 0} (key : X → ℕ) (p : X → Bool) (x y : X) (xs : List X) (i : ℕ) → key x ≤ key y → IsGreatest key p xs i y → IsGreatest key p (x ∷ xs) (suc i) y
after key p x y xs i le g = grind (arith, by_place)

-- one that passes, and is greater than those after it
before : {X : Type 0} (key : X → ℕ) (p : X → Bool) (x y : X) (xs : List X) (i : ℕ) → key y < key x → p x ≡ true → IsGreatest key p xs i y → IsGreatest key p (x ∷ xs) 0 x
before key p x y xs i less passes g = grind (arith, by_place)

later_if : {X : Type 0} (key : X → ℕ) (p : X → Bool) (x y : X) (xs : List X) (t : Bool) → leb (key x) (key y) ≡ t → p x ≡ true → Greatest key p xs (Some y) → Greatest key p (x ∷ xs) (if t then Some y else Some x)
later_if key p x y xs true is passes g = (suc g.0, after key p x y xs g.0 (grind (arith, nat_tests)) g.1)
later_if key p x y xs false is passes g = (0, before key p x y xs g.0 (grind (arith, nat_tests)) passes g.1)

later_is : {X : Type 0} (key : X → ℕ) (p : X → Bool) (x : X) (xs : List X) (o : Option X) → p x ≡ true → Greatest key p xs o → Greatest key p (x ∷ xs) (later key x o)
later_is key p x xs None passes none = (0, alone key p x xs passes none)
later_is key p x xs (Some y) passes g = later_if key p x y xs (leb (key x) (key y)) refl passes g

greatest_if : {X : Type 0} (key : X → ℕ) (p : X → Bool) (x : X) (xs : List X) (t : Bool) → p x ≡ t → Greatest key p xs (greatest key (filter p xs)) → Greatest key p (x ∷ xs) (greatest key (if t then x ∷ filter p xs else filter p xs))
unfolding greatest
greatest_if key p x xs t is g = grind (arith, later_is, skipped)

pub greatest_of : {X : Type 0} (key : X → ℕ) (p : X → Bool) (xs : List X) → Greatest key p xs (greatest key (filter p xs))
unfolding greatest
greatest_of key p [] = λ k d lt. absurd (omega (arith, lt))
greatest_of key p (x ∷ xs) = greatest_if key p x xs (p x) refl (greatest_of key p xs)

-- ---- symbols

nearest_here : (xs : List ℕ) (rva : ℕ) → Nearest xs rva (symbol_before xs rva)
nearest_here xs rva = grind (arith, greatest_of, nat_tests, before)

pub nearest_is : (xs : List ℕ) (rva : ℕ) (found : Option SymbolAddress) → (Nearest xs rva found → found ≡ symbol_before xs rva) × (found ≡ symbol_before xs rva → Nearest xs rva found)
nearest_is xs rva found = (λ near. nearest_once xs rva found (symbol_before xs rva) near (nearest_here xs rva), λ is. subst (Nearest xs rva) (sym is) (nearest_here xs rva))

pub covering_is : (xs b : List ℕ) (rva : ℕ) (found : Option SymbolAddress) → (Covering xs b rva found → found ≡ procedure_with xs b rva) × (found ≡ procedure_with xs b rva → Covering xs b rva found)
covering_is xs b rva found = (λ c. c.2 ∙ ap (if_reaches b rva) ((nearest_is xs rva c.0).0 c.1), λ is. (symbol_before xs rva, nearest_here xs rva, is))

-- ---- lines

line_here : (xs : List CodeLine) (rva : ℕ) → LineAt xs rva (line_with xs rva)
line_here xs rva = grind (arith, greatest_of, nat_tests, before)

pub line_is : (xs : List CodeLine) (rva : ℕ) (found : Option CodeLine) → (LineAt xs rva found → found ≡ line_with xs rva) × (found ≡ line_with xs rva → LineAt xs rva found)
line_is xs rva found = (λ at. line_once xs rva found (line_with xs rva) at (line_here xs rva), λ is. subst (LineAt xs rva) (sym is) (line_here xs rva))

-- ---- records of ids

got : (xs : List ℕ) (k d : ℕ) → k < length xs → slice_get xs k ≡ Some (get_or xs k d)
got [] k d lt = absurd (omega (arith, lt))
got (x ∷ xs) zero d lt = refl
got (x ∷ xs) (suc k) d lt = got xs k d (omega (arith, lt))

id_if : (t : TypesView) (starts : List ℕ) (id : ℕ) (c : Bool) → (leb t.first id && ltb id t.end) ≡ c → HasStarts t starts →
    record_from t.records (if c then slice_get starts (id - t.first) else None) ≡ (if c then (start_of t.records (id - t.first) >>= λ p. symbol_at t.records p >>= λ s. Ok (Some s)) else Ok None)
id_if t starts id false is has = refl
id_if t starts id true is has =
    let low : id - t.first < count_of t = grind (arith, nat_tests) in
    let all : count_of t ≤ length starts = has.0 in
    let k = id - t.first in
    grind (arith, got starts k 0 (omega (arith, low, all)), has.1 k 0 low)

pub id_is : (t : TypesView) (starts : List ℕ) (id : ℕ) → HasStarts t starts → record_by t starts id ≡ id_record t id
id_is t starts id has = id_if t starts id (leb t.first id && ltb id t.end) refl has

-- ---- frames

same_functions : {X Y : Type 0} (f g : X → Y) → ((x : X) → f x ≡ g x) → f ≡ g
same_functions f g same = λ i x. same x i

found_is : {X Y : Type 0} (Finds : List X → Option Y → Type 0) (f : List X → Option Y) (xs : Result (List X) PdbRefusal) (found : Option Y) →
    ((xs : List X) (found : Option Y) → Finds xs found → found ≡ f xs) → FindsIn Finds xs found → option_and_then f (result_ok xs) ≡ found
found_is Finds f xs found is finds = grind arith

pub procedures_found : (p : PdbParts) (m : ModuleParts) (rva : ℕ) (starts : List ℕ) (a : SymbolAddress) (line : Option CodeLine) →
    module_with p rva ≡ Some m → FindsIn (λ xs found. Covering xs m.symbols rva found) (addresses Procedures m.symbols 4 p.sections) (Some a) →
    FindsIn (λ xs found. LineAt xs rva found) (module_lines p.sections m.lines) line → HasStarts p.ids starts →
    frames_at p rva ≡ frames_of (record_by p.ids starts) p.names m rva line a
procedures_found p m rva starts a line own finds lines has =
    let public = option_map (public_frame p.publics) (public_at p rva) in
    let procedure : procedure_at p m rva ≡ Some a = found_is (λ xs found. Covering xs m.symbols rva found) (λ xs. procedure_with xs m.symbols rva) (addresses Procedures m.symbols 4 p.sections) (Some a) (λ xs found. (covering_is xs m.symbols rva found).0) finds in
    let at : line_at p m rva ≡ line = found_is (λ xs found. LineAt xs rva found) (λ xs. line_with xs rva) (module_lines p.sections m.lines) line (λ xs found. (line_is xs rva found).0) lines in
    let records : id_record p.ids ≡ record_by p.ids starts = same_functions (id_record p.ids) (record_by p.ids starts) (λ id. sym (id_is p.ids starts id has)) in
    grind (arith, own, procedure, at, records)

pub publics_found : (p : PdbParts) (rva : ℕ) (found : Option SymbolAddress) → NoneHas p rva (module_with p rva) →
    FindsIn (λ xs found. Nearest xs rva found) (addresses PublicFunctions p.publics 0 p.sections) found → frames_at p rva ≡ option_to_list (option_map (public_frame p.publics) found)
publics_found p rva found none finds = grind (arith, found_is, nearest_is, covering_is)

-- ---- a module alone

pub modules_alone : (p : PdbParts) (rva : ℕ) (modules : List ModuleParts) → module_with (with_modules p modules) rva ≡ module_with p rva → frames_at (with_modules p modules) rva ≡ frames_at p rva
modules_alone p rva modules same = grind arith

-- frames that differ in what g leaves out
alike : (g : Frame → Frame) (u v : InlineFrame → Frame) (fs : List InlineFrame) (x y : Frame) → ((f : InlineFrame) → g (u f) ≡ g (v f)) → g x ≡ g y → map g (map u fs ++ x ∷ []) ≡ map g (map v fs ++ y ∷ [])
alike g u v [] x y each last = ap (λ (f : Frame). f ∷ []) last
alike g u v (f ∷ fs) x y each last = ap (λ (z : Frame). z ∷ map g (map u fs ++ x ∷ [])) (each f) ∙ ap (λ (l : List Frame). g (v f) ∷ l) (alike g u v fs x y each last)

-- the same of what stands for frames, where a public function may
alike_or : (g : Frame → Frame) (public : Option Frame) (u v : SymbolAddress → List Frame) (o : Option SymbolAddress) → ((a : SymbolAddress) → map g (u a) ≡ map g (v a)) →
    map g (frames_or public (option_map u o)) ≡ map g (frames_or public (option_map v o))
alike_or g public u v o each = grind arith

alike_in : (g : Frame → Frame) (public : Option Frame) (u v : ModuleParts → SymbolAddress → List Frame) (at : ModuleParts → Option SymbolAddress) (o : Option ModuleParts) → ((m : ModuleParts) (a : SymbolAddress) → map g (u m a) ≡ map g (v m a)) →
    map g (frames_or public (option_and_then (λ m. option_map (u m) (at m)) o)) ≡ map g (frames_or public (option_and_then (λ m. option_map (v m) (at m)) o))
alike_in g public u v at o each = grind (arith, alike_or)

pub ids_alone : (p : PdbParts) (rva : ℕ) (ids : TypesView) → map unnamed (frames_at (with_ids p ids) rva) ≡ map unnamed (frames_at p rva)
ids_alone p rva ids = grind (arith, alike_in, alike)

file_left_out : (names others : List ℕ) (m : ModuleParts) (a : SymbolAddress) (line : Option CodeLine) → without_file (own_frame names m a line) ≡ without_file (own_frame others m a line)
file_left_out names others m a line = grind arith

file_left_inlined : (names others : List ℕ) (m : ModuleParts) (name scope : Option (List ℕ)) (o : Option SourceLine) →
    without_file (record { name = name; scope = scope; source = option_map (λ (x : SourceLine). record { file = file_name names m x.file; line = x.line; column = 0 }) o; is_inlined = true })
    ≡ without_file (record { name = name; scope = scope; source = option_map (λ (x : SourceLine). record { file = file_name others m x.file; line = x.line; column = 0 }) o; is_inlined = true })
file_left_inlined names others m name scope o = grind arith

pub names_alone : (p : PdbParts) (rva : ℕ) (names : List ℕ) → map without_file (frames_at (with_names p names) rva) ≡ map without_file (frames_at p rva)
names_alone p rva names = search (rules, arith, alike_in, alike, file_left_inlined, file_left_out)

pub lines_alone : (p : PdbParts) (rva : ℕ) (modules : List ModuleParts) (m : ModuleParts) (lines : List ℕ) →
    module_with p rva ≡ Some m → module_with (with_modules p modules) rva ≡ Some (with_lines m lines) → map without_source (frames_at (with_modules p modules) rva) ≡ map without_source (frames_at p rva)
lines_alone p rva modules m lines one other = grind (arith, alike_or, alike)
