-- Whole walks over directories return the lists of pe_directories.
use Rattle.std.proofs.Common.{◌≡◌, ℕ, ◌+◌, ◌-◌, ◌*◌, ◌≤◌, Bool, true, false, List, [], ◌∷◌, length, drop, Option, Some, None, Result, Ok, Err, refl, sym, ap, subst, ◌∙◌, arith}
use Rattle.calls_directories.proofs.Cited.{if◌then◌else◌, nat_tests, length_range, range_in_range, holds, le, range, Refusal, Short, outcome, ◌>>=◌, entry_items, text_at, Block, first_block, first_relocation, is_block_size, relocation_of, relocation_size, Bound, bound_at, bound_forwarder_at, bound_imports_end, bound_name, bound_of, bound_size, first_bound_import, first_delay_import, DirectoryRefusal, Image, BlockSize, BlockTruncated, of_image, Items, DelayImport, text_stands, Makes, gives_first, gives_nothing, gives_refusal, StepsEntries, next_of, walk_items, walk_of, bytes_of_range, size_of, there, bound_reported, forwarder_reported, next_forwarder, unless_refused, library_of, HasBound, HasBlock, StepsBlocks, StepsBoundImports, StepsDelayLibraries, StepsForwarders, StepsRelocations, blocks_reported, bounds_reported, forwarders_reported, relocations_reported, directory, IsRange, bytes_at, no_bytes, range_after, EachHas, IsOver, ReturnsItems, read_items, DelayLibrary, Range}
use Rattle.pe_directories.specs.BaseRelocations.{block_of, blocks_end}
use Rattle.pe_directories.specs.BoundImports.{name_or_refusal}
use Rattle.pe_directories.specs.declared.base_relocation.BaseRelocation.{BaseRelocation}
use Rattle.pe_directories.specs.ForwardersAfter.{forwarders_after}
use Rattle.pe_directories.specs.declared.bound_import.BoundForwarder as forwarders
use Rattle.calls_base.proofs.EntryRuns.{gives_entries}
use Rattle.calls_directories.proofs.DirectoryRuns.{Read, Reported, Takes, each_has, in_turn, read_further, refused, reported, same_read, sees_refusal}
use Rattle.calls_directories.specs.DirectoryRuns.{block_reported, relocation_reported}
use Rattle.calls_directories.specs.declared.directories.base_relocations.RelocationBlock.{RelocationBlock}
use Rattle.calls_directories.specs.declared.directories.bound_imports.BoundForwarder.{BoundForwarder}
use Rattle.calls_directories.specs.declared.directories.bound_imports.BoundImport.{BoundImport}
use Rattle.calls_base.specs.declared.image.Image as images

-- ---- what stands first, and what it leaves

pub held : (b : List ℕ) (n : ℕ) → holds b 0 n ≡ true → n ≤ length b
held b n h = grind (arith, nat_tests)

-- 8 bytes, and the part after them, are taken from the front
pub record HasTail (s t tail : List ℕ) : Type 0 where
  pub taken : t ≡ drop (8 + length tail) s
  pub inside : 8 + length tail ≤ length s
  pub same : range s 8 (length tail) ≡ tail

tail_is : (s t tail : List ℕ) (m : ℕ) → 8 + m ≤ length s → range s 8 m ≡ tail → drop (8 + m) s ≡ t → HasTail s t tail
tail_is s t tail m h e f =
    let size : length tail ≡ m = ap length (sym e) ∙ length_range s 8 m h in
    record {
      taken = sym f ∙ ap (λ (k : ℕ). drop (8 + k) s) (sym size);
      inside = omega (arith, h, size);
      same = ap (λ (k : ℕ). range s 8 k) size ∙ e;
    }

-- it has a range in a walk over these bytes
tail_stands : (b : List ℕ) (w : Range) (s t tail : List ℕ) → bytes_at b w ≡ Ok s → HasTail s t tail → IsRange b (record { offset = w.offset + 8; length = length tail }) tail
tail_stands b w s t tail e has =
    let in_b = there b w s (holds b w.offset w.length) refl e in
    let size : length s ≡ w.length = size_of b w s e in
    let inside : 8 + length tail ≤ length s = has.inside in
    record {
      inside = omega (arith, in_b.0, size, inside);
      same = range_in_range b w.offset w.length 8 (length tail) in_b.0 (omega (arith, size, inside)) ∙ ap (λ (d : List ℕ). range d 8 (length tail)) (sym in_b.1) ∙ has.same;
    }

block_by : (b : List ℕ) (empty head sized whole : Bool) (x : Block) (t : List ℕ) → is_block_size (le b 4 4) ≡ sized → holds b 0 (le b 4 4) ≡ whole →
    (if empty then None else Some (outcome {Y = Block × List ℕ} ((head, Image Short) ∷ (sized, BlockSize) ∷ (whole, BlockTruncated) ∷ []) (block_of b, drop (le b 4 4) b))) ≡ Some (Ok (x, t)) → HasTail b t x.entries
unfolding block_of
block_by b true head sized whole x t h i e = absurd (cc (e))
block_by b false false sized whole x t h i e = absurd (cc (e))
block_by b false true false whole x t h i e = absurd (cc (e))
block_by b false true true false x t h i e = absurd (cc (e))
block_by b false true true true x t h i e =
    let some : 8 ≤ le b 4 4 = grind (arith, nat_tests, h) in
    let inside : le b 4 4 ≤ length b = held b (le b 4 4) i in
    let all : 8 + (le b 4 4 - 8) ≡ le b 4 4 = omega (arith, some) in
    let fits : 8 + (le b 4 4 - 8) ≤ length b = omega (arith, some, inside) in
    let pair : (block_of b, drop (le b 4 4) b) ≡ (x, t) = cc (e) in
    tail_is b t x.entries (le b 4 4 - 8) fits (ap (λ (p : Block × List ℕ). p.0.entries) pair)
    (ap (λ (n : ℕ). drop n b) all ∙ ap (λ (p : Block × List ℕ). p.1) pair)

block_tail : (b : List ℕ) (x : Block) (t : List ℕ) → first_block b ≡ Some (Ok (x, t)) → HasTail b t x.entries
unfolding first_block
block_tail b x t e = block_by b (blocks_end b) (holds b 0 8) (is_block_size (le b 4 4)) (holds b 0 (le b 4 4)) x t refl refl e

relocation_taken : (page : ℕ) → Takes (first_relocation page) (λ x. relocation_size x.kind)
unfolding first_relocation relocation_of
relocation_taken page b x t e = grind (arith, held)

pub delay_taken : Takes first_delay_import (λ x. 32)
unfolding first_delay_import
delay_taken = grind (arith, held)

pub no_delay_import : first_delay_import [] ≡ None
unfolding first_delay_import
no_delay_import = refl

bound_by : (b : List ℕ) (ends head whole : Bool) (x : Bound) (t : List ℕ) → holds b 0 (bound_size b) ≡ whole →
    (if ends then None else Some (outcome {Y = Bound × List ℕ} ((head, Image Short) ∷ (whole, Image Short) ∷ []) (bound_at b, drop (bound_size b) b))) ≡ Some (Ok (x, t)) → HasTail b t x.forwarders
bound_by b true head whole x t i e = absurd (cc (e))
bound_by b false false whole x t i e = absurd (cc (e))
bound_by b false true false x t i e = absurd (cc (e))
bound_by b false true true x t i e =
    let pair : (bound_at b, drop (bound_size b) b) ≡ (x, t) = cc (e) in
    tail_is b t x.forwarders (8 * le b 6 2) (held b (bound_size b) i) (ap (λ (p : Bound × List ℕ). p.0.forwarders) pair) (ap (λ (p : Bound × List ℕ). p.1) pair)

pub bound_tail : (b : List ℕ) (x : Bound) (t : List ℕ) → first_bound_import b ≡ Some (Ok (x, t)) → HasTail b t x.forwarders
unfolding first_bound_import bound_of
bound_tail b x t e = bound_by b (bound_imports_end b) (holds b 0 8) (holds b 0 (bound_size b)) x t refl e

-- ---- base relocations

block_taken : Takes first_block (λ x. 8 + length x.entries)
block_taken b x t e = let tail = block_tail b x t e in (tail.taken, tail.inside)

block_walk : (b : List ℕ) → Reported b first_block block_reported (λ x. 8 + length x.entries)
unfolding first_block
block_walk b = reported b first_block block_reported (λ x. 8 + length x.entries) block_taken refl

abbrev pub BlocksOf : List ℕ → Range → List (Result Block DirectoryRefusal) → Type 0
BlocksOf b w items = ReturnsItems (StepsBlocks b) w (blocks_reported w items) × EachHas (HasBlock b) (blocks_reported w items) items

pub blocks_in_turn : (b : List ℕ) (w : Range) (s : List ℕ) (items : List (Result Block DirectoryRefusal)) → bytes_at b w ≡ Ok s → Items first_block s items → BlocksOf b w items
blocks_in_turn b w s items h f = (
  in_turn _ _ _ _ _ _ _ _ (block_walk b) w s items h f,
  each_has _ _ _ _ _ _ _ _ (block_walk b) (HasBlock b)
      (λ w s x t y h e r. let same : block_reported w x ≡ y = cc (r) in subst (λ (z : RelocationBlock). HasBlock b z x) same (record { page = refl; entries = tail_stands b w s t x.entries h (block_tail s x t e) }))
      w s items h f,
)

pub blocks_outside : (b : List ℕ) (w : Range) (r : Refusal) → bytes_at b w ≡ Err r → ReturnsItems (StepsBlocks b) w (Err (Image r) ∷ [])
blocks_outside b w r e = refused _ _ _ _ _ _ _ _ (block_walk b) w (Image r) (sees_refusal first_block b w r e)

relocation_walk : (page : ℕ) (b : List ℕ) → Reported b (first_relocation page) (λ (w : Range) (x : BaseRelocation). relocation_reported x) (λ x. relocation_size x.kind)
unfolding first_relocation
relocation_walk page b = reported b (first_relocation page) (λ (w : Range) (x : BaseRelocation). relocation_reported x) (λ x. relocation_size x.kind) (relocation_taken page) refl

pub relocations_in_turn : (page : ℕ) (b : List ℕ) (w : Range) (s : List ℕ) (items : List (Result BaseRelocation DirectoryRefusal)) → bytes_at b w ≡ Ok s → Items (first_relocation page) s items →
    ReturnsItems (StepsRelocations page b) w (relocations_reported items)
relocations_in_turn page b w s items h f =
    subst (λ ys. ReturnsItems (StepsRelocations page b) w ys) (same_read (λ (x : BaseRelocation). Ok (relocation_reported x)) (λ w x. range_after w (relocation_size x.kind)) w items)
    (in_turn _ _ _ _ _ _ _ _ (relocation_walk page b) w s items h f)

pub relocations_of_block : (b : List ℕ) (y : RelocationBlock) (x : Block) (items : List (Result BaseRelocation DirectoryRefusal)) → HasBlock b y x → Items (first_relocation x.page_rva) x.entries items →
    ReturnsItems (StepsRelocations y.page_rva b) y.entries (relocations_reported items)
relocations_of_block b y x items h f = grind (arith, relocations_in_turn, bytes_of_range)

pub relocations_outside : (page : ℕ) (b : List ℕ) (w : Range) (r : Refusal) → bytes_at b w ≡ Err r → ReturnsItems (StepsRelocations page b) w (Err (Image r) ∷ [])
relocations_outside page b w r e = refused _ _ _ _ _ _ _ _ (relocation_walk page b) w (Image r) (sees_refusal (first_relocation page) b w r e)

-- ---- delay imports

delay_walk : (offset : ℕ → Option ℕ) (b : List ℕ) (image : images.Image) → Read b first_delay_import (λ (w : Range) (e : DelayImport). library_of offset b image e) (λ x. 32)
delay_walk offset b image = read_further b first_delay_import (λ (w : Range) (e : DelayImport). library_of offset b image e) (λ x. 32) delay_taken no_delay_import

pub libraries_in_turn : (offset : ℕ → Option ℕ) (b : List ℕ) (image : images.Image) (w : Range) (s : List ℕ) (items : List (Result DelayImport DirectoryRefusal)) → bytes_at b w ≡ Ok s → Items first_delay_import s items →
    ReturnsItems (StepsDelayLibraries offset b image) w (read_items (library_of offset b image) items)
libraries_in_turn offset b image w s items h f =
    subst (λ (ys : List (Result DelayLibrary DirectoryRefusal)). ReturnsItems (StepsDelayLibraries offset b image) w ys) (same_read (library_of offset b image) (λ w x. range_after w 32) w items)
    (in_turn _ _ _ _ _ _ _ _ (delay_walk offset b image) w s items h f)

pub libraries_outside : (offset : ℕ → Option ℕ) (b : List ℕ) (image : images.Image) (w : Range) (r : Refusal) → bytes_at b w ≡ Err r → ReturnsItems (StepsDelayLibraries offset b image) w (Err (Image r) ∷ [])
libraries_outside offset b image w r e = refused _ _ _ _ _ _ _ _ (delay_walk offset b image) w (Image r) (sees_refusal first_delay_import b w r e)

-- ---- bound imports

bound_taken : Takes first_bound_import (λ x. 8 + length x.forwarders)
bound_taken b x t e = let tail = bound_tail b x t e in (tail.taken, tail.inside)

bound_walk : (b : List ℕ) (table : Range) → Read b first_bound_import (bound_reported b table) (λ x. 8 + length x.forwarders)
unfolding first_bound_import
bound_walk b table = read_further b first_bound_import (bound_reported b table) (λ x. 8 + length x.forwarders) bound_taken refl

-- a name of the directory stands in its range
name_by : (b : List ℕ) (table : Range) (directory : List ℕ) (o : ℕ) (text : Option (List ℕ)) (name : List ℕ) → bytes_at b table ≡ Ok directory → text_at directory o ≡ text → name_or_refusal text ≡ Ok name →
    IsRange b (record { offset = table.offset + o; length = length name }) name
name_by b table directory o None name e is f = absurd (cc (f))
name_by b table directory o (Some text) name e is f =
    let same : text ≡ name = cc (f) in
    let stands = text_stands directory o name (is ∙ ap (λ (t : List ℕ). Some t) same) in
    let in_b = there b table directory (holds b table.offset table.length) refl e in
    let size : length directory ≡ table.length = size_of b table directory e in
    let inside : o + length name ≤ length directory = stands.inside in
    record {
      inside = omega (arith, in_b.0, size, inside);
      same = range_in_range b table.offset table.length o (length name) in_b.0 (omega (arith, size, inside)) ∙ ap (λ (d : List ℕ). range d o (length name)) (sym in_b.1) ∙ stands.same;
    }

name_stands : (b : List ℕ) (table : Range) (directory : List ℕ) (o : ℕ) (name : List ℕ) → bytes_at b table ≡ Ok directory → bound_name directory o ≡ Ok name →
    IsRange b (record { offset = table.offset + o; length = length name }) name
unfolding bound_name
name_stands b table directory o name e f = name_by b table directory o (text_at directory o) name e refl f

abbrev with_name : Range → Bound → Range → BoundImport
with_name w x name = record { name = name; forwarders = record { offset = w.offset + 8; length = length x.forwarders }; time_date_stamp = x.time_date_stamp; spare = 0 }

bound_by_name : (b : List ℕ) (table w : Range) (directory s t : List ℕ) (x : Bound) (named : Result (List ℕ) DirectoryRefusal) (y : BoundImport) → bytes_at b table ≡ Ok directory → bound_name directory x.name ≡ named →
    bytes_at b w ≡ Ok s → HasTail s t x.forwarders → (named >>= (λ name. Ok (record { offset = table.offset + x.name; length = length name })) >>= (λ name. Ok (with_name w x name))) ≡ Ok y → HasBound b directory y x
bound_by_name b table w directory s t x (Err r) y e n h tail f = absurd (cc (f))
bound_by_name b table w directory s t x (Ok name) y e n h tail f =
    let same : with_name w x (record { offset = table.offset + x.name; length = length name }) ≡ y = cc (f) in
    subst (λ (z : BoundImport). HasBound b directory z x) same
    (record { name = (name, n, name_stands b table directory x.name name e n); forwarders = tail_stands b w s t x.forwarders h tail })

bound_has : (b : List ℕ) (table w : Range) (directory s t : List ℕ) (x : Bound) (y : BoundImport) → bytes_at b table ≡ Ok directory → bytes_at b w ≡ Ok s → first_bound_import s ≡ Some (Ok (x, t)) → bound_reported b table w x ≡ Ok y → HasBound b directory y x
bound_has b table w directory s t x y e h f r =
    bound_by_name b table w directory s t x (bound_name directory x.name) y e refl h (bound_tail s x t f) (sym (rw e refl) ∙ r)

abbrev pub BoundsOf : List ℕ → Range → List ℕ → Range → List (Result Bound DirectoryRefusal) → Type 0
BoundsOf b table directory w items = ReturnsItems (StepsBoundImports b table) w (bounds_reported b table w items) × EachHas (HasBound b directory) (bounds_reported b table w items) items

pub bounds_in_turn : (b : List ℕ) (table : Range) (directory : List ℕ) (w : Range) (s : List ℕ) (items : List (Result Bound DirectoryRefusal)) → bytes_at b table ≡ Ok directory → bytes_at b w ≡ Ok s → Items first_bound_import s items → BoundsOf b table directory w items
bounds_in_turn b table directory w s items e h f = (
  in_turn _ _ _ _ _ _ _ _ (bound_walk b table) w s items h f,
  each_has _ _ _ _ _ _ _ _ (bound_walk b table) (HasBound b directory) (λ w s x t y h f r. bound_has b table w directory s t x y e h f r) w s items h f,
)

pub bounds_outside : (b : List ℕ) (table w : Range) (r : Refusal) → bytes_at b w ≡ Err r → ReturnsItems (StepsBoundImports b table) w (Err (Image r) ∷ [])
bounds_outside b table w r e = refused _ _ _ _ _ _ _ _ (bound_walk b table) w (Image r) (sees_refusal first_bound_import b w r e)

-- ---- forwarders: entries of 8 bytes that are read further

abbrev Entries : List ℕ → Range → Result (Option forwarders.BoundForwarder) Refusal → Range → Type 0
Entries b = StepsEntries bound_forwarder_at 8 b

step_at : (b : List ℕ) (table w : Range) (entry : Result (Option forwarders.BoundForwarder) Refusal) → next_of bound_forwarder_at 8 b w ≡ entry → next_forwarder b table w ≡ (of_image entry >>= forwarder_reported b table)
step_at b table w entry e = ap (λ (x : Result (Option forwarders.BoundForwarder) Refusal). of_image x >>= forwarder_reported b table) e

forwarder_makes : (b : List ℕ) (table w : Range) (given : Result (Option BoundForwarder) DirectoryRefusal) → next_forwarder b table w ≡ given → Makes (StepsForwarders b table) w given (unless_refused given (walk_of 8 b w))
forwarder_makes b table w given e answer v s = (s.0 ∙ e, s.1 ∙ ap (λ (g : Result (Option BoundForwarder) DirectoryRefusal). unless_refused g (walk_of 8 b w)) e)

-- a walk that has no entry left has no forwarder left
forwarders_over : (b : List ℕ) (table w : Range) → IsOver (Entries b) w → IsOver (StepsForwarders b table) w
forwarders_over b table w over = grind (arith, forwarder_makes, step_at)

nothing_left : (b : List ℕ) (table : Range) → IsOver (StepsForwarders b table) no_bytes
nothing_left b table = grind (arith, nat_tests, forwarders_over)

forwarders_read : (b : List ℕ) (table w : Range) (items : List (Result forwarders.BoundForwarder Refusal)) → ReturnsItems (Entries b) w items → ReturnsItems (StepsForwarders b table) w (forwarders_reported b table items)
forwarders_read b table w [] h =
    let entry = h (next_of bound_forwarder_at 8 b w) (walk_of 8 b w) (refl, refl) in
    gives_nothing (StepsForwarders b table) w (walk_of 8 b w) (forwarder_makes b table w (Ok None) (step_at b table w (Ok None) entry.0)) (forwarders_over b table (walk_of 8 b w) entry.1)
forwarders_read b table w (Ok x ∷ items) h =
    let entry = h (next_of bound_forwarder_at 8 b w) (walk_of 8 b w) (refl, refl) in
    grind (arith, gives_first, forwarder_makes, step_at, gives_refusal, nothing_left, entry.0, forwarders_read b table (walk_of 8 b w) items entry.1)
forwarders_read b table w (Err r ∷ items) h =
    let entry = h.1 (next_of bound_forwarder_at 8 b w) (walk_of 8 b w) (refl, refl) in
    gives_refusal (StepsForwarders b table) w no_bytes (Image r) (forwarder_makes b table w (Err (Image r)) (step_at b table w (Err r) entry.0)) (nothing_left b table)

pub forwarders_in_turn : (b : List ℕ) (table w : Range) (s : List ℕ) → bytes_at b w ≡ Ok s → ReturnsItems (StepsForwarders b table) w (forwarders_reported b table (entry_items bound_forwarder_at 8 s))
forwarders_in_turn b table w s e =
    let in_b = there b w s (holds b w.offset w.length) refl e in
    let inside : holds b w.offset w.length ≡ true = (let room : w.offset + w.length ≤ length b = in_b.0 in grind (arith, nat_tests)) in
    let items : walk_items bound_forwarder_at 8 b w ≡ entry_items bound_forwarder_at 8 s = rw inside (ap (entry_items bound_forwarder_at 8) (sym in_b.1)) in
    forwarders_read b table w (entry_items bound_forwarder_at 8 s)
    (subst (λ (xs : List (Result forwarders.BoundForwarder Refusal)). ReturnsItems (Entries b) w xs) items (gives_entries bound_forwarder_at 8 forwarders_after (omega arith) b w))

pub forwarders_of_import : (b : List ℕ) (table : Range) (directory : List ℕ) (y : BoundImport) (x : Bound) → HasBound b directory y x →
    ReturnsItems (StepsForwarders b table) y.forwarders (forwarders_reported b table (entry_items bound_forwarder_at 8 x.forwarders))
forwarders_of_import b table directory y x h = forwarders_in_turn b table y.forwarders x.forwarders (bytes_of_range b y.forwarders x.forwarders h.forwarders)

pub forwarders_outside : (b : List ℕ) (table w : Range) (r : Refusal) → bytes_at b w ≡ Err r → ReturnsItems (StepsForwarders b table) w (Err (Image r) ∷ [])
forwarders_outside b table w r e =
    gives_refusal (StepsForwarders b table) w no_bytes (Image r) (forwarder_makes b table w (Err (Image r)) (step_at b table w (Err r) (grind arith))) (nothing_left b table)
