-- Whole walks over metadata streams return the streams of their headers.
use Rattle.std.proofs.Common.{◌≡◌, ℕ, ◌+◌, ◌-◌, ◌≤◌, ◌==◌, Bool, true, false, List, [], ◌∷◌, length, take, drop, length-take-le, Some, None, Result, Ok, Err, refl, sym, ap, subst, ◌∙◌, arith}
use Rattle.calls_directories.proofs.Cited.{if◌then◌else◌, nat_le, position-Some, holds, le, range, record_at, Short, outcome, ◌>>=◌}
use Rattle.calls_directories.proofs.Cited.{Stream, first_stream, header_size, name_field, name_length, stream_of, DirectoryRefusal}
use Rattle.calls_directories.proofs.Cited.{Image, First, Items, size_of, first_stream_in, no_streams, stream_reported}
use Rattle.calls_directories.proofs.Cited.{streams_after, streams_in, HasContent, HasStream, StepsStreams, after_stream}
use Rattle.calls_directories.proofs.Cited.{streams_reported, first_of, range_left, bytes_at, range_after, EachHas, ReturnsItems}
use Rattle.calls_directories.proofs.Cited.{MetadataStreams, Range}
use Rattle.calls_directories.proofs.DirectoryLists.{held}
use Rattle.calls_directories.proofs.DirectoryParts.{content_stands, name_of_stream_stands}
use Rattle.calls_directories.proofs.DirectoryRuns.{IsWalk, each_has, goes_on, in_turn, makes_reported, moved, no_bytes_at, refused}
use Rattle.calls_directories.specs.declared.directories.clr.MetadataStream.{MetadataStream}

-- ---- what stands first, and what it leaves

-- a header takes its bytes from the front
abbrev IsTaken : List ℕ → Stream → List ℕ → Type 0
IsTaken b s t = (t ≡ drop (header_size (length s.name)) b) × (header_size (length s.name) ≤ length b)

header_by : (b : List ℕ) (n : ℕ) (whole : Bool) (s : Stream) (t : List ℕ) → n ≤ length (name_field b) → holds b 0 (header_size n) ≡ whole →
    outcome {Y = Stream × List ℕ} ((whole, Image Short) ∷ []) (record { offset = le b 0 4; size = le b 4 4; name = take n (name_field b) }, drop (header_size n) b) ≡ Ok (s, t) → IsTaken b s t
header_by b n whole s t h i e = grind (arith, length-take-le, held)

stream_taken : (b : List ℕ) (s : Stream) (t : List ℕ) → stream_of b ≡ Ok (s, t) → IsTaken b s t
unfolding stream_of name_length
stream_taken b s t e = grind (arith, position-Some, header_by)

first_by : (b : List ℕ) (n : ℕ) (none : Bool) (found : Result (Stream × List ℕ) DirectoryRefusal) (s : Stream) (t : ℕ × List ℕ) → stream_of b ≡ found →
    (if none then None else Some (◌>>=◌ {B = Stream × (ℕ × List ℕ)} found (λ y. Ok (y.0, (n, y.1))))) ≡ Some (Ok (s, t)) → (t.0 ≡ n) × IsTaken b s t.1
first_by b n true found s t h e = absurd (cc (e))
first_by b n false (Err r) s t h e = absurd (cc (e))
first_by b n false (Ok y) s t h e =
    let pair : (y.0, (n, y.1)) ≡ (s, t) = cc (e) in
    let rest : y.1 ≡ t.1 = ap (λ (p : Stream × (ℕ × List ℕ)). p.1.1) pair in
    let stream : y.0 ≡ s = ap (λ (p : Stream × (ℕ × List ℕ)). p.0) pair in (
      sym (ap (λ (p : Stream × (ℕ × List ℕ)). p.1.0) pair),
      subst (λ (d : List ℕ). IsTaken b s d) rest (subst (λ (x : Stream). IsTaken b x y.1) stream (stream_taken b y.0 y.1 h)),
    )

-- ---- the walk

-- a walk over these metadata has so many streams left, with these bytes of their headers
abbrev HoldsStreams : List ℕ → List ℕ → MetadataStreams → ℕ × List ℕ → Type 0
HoldsStreams b metadata w s = (bytes_at b w.metadata ≡ Ok metadata) × (bytes_at b w.headers ≡ Ok s.1) × (w.count ≡ s.0)

streams_there : (b metadata : List ℕ) (w : MetadataStreams) (s : ℕ × List ℕ) → HoldsStreams b metadata w s → streams_in b w ≡ Ok s
streams_there b metadata w s h = rw h.0 (rw h.1 (ap (λ (n : ℕ). Ok (n, s.1)) h.2))

abbrev next_streams : MetadataStreams → Stream → ℕ × List ℕ → MetadataStreams
next_streams w x t = record w { headers = range_left w.headers (length t.1); count = t.0 }

abbrev over_streams : MetadataStreams → MetadataStreams
over_streams w = no_streams

streams_move : (w : MetadataStreams) (f : First Stream (ℕ × List ℕ)) → streams_after w f ≡ moved (λ (x : Stream). Ok (stream_reported w x)) (next_streams w) no_streams w f
streams_move w f = grind arith

streams_go_on : (b metadata : List ℕ) (w : MetadataStreams) (s : ℕ × List ℕ) (x : Stream) (t : ℕ × List ℕ) → HoldsStreams b metadata w s → first_stream s ≡ Some (Ok (x, t)) →
    (next_streams w x t ≡ after_stream w x) × HoldsStreams b metadata (after_stream w x) t
streams_go_on b metadata w s x t h e =
    let taken = first_by s.1 (s.0 - 1) (s.0 == 0) (stream_of s.1) x t refl e in
    let on = goes_on b w.headers s.1 t.1 (header_size (length x.name)) h.1 taken.1.0 taken.1.1 in
    let count : w.count - 1 ≡ t.0 = ap (λ (n : ℕ). n - 1) h.2 ∙ sym taken.0 in (
      ap (λ (r : Range). record w { headers = r; count = t.0 }) on.0 ∙ ap (λ (n : ℕ). record w { headers = range_after w.headers (header_size (length x.name)); count = n }) (sym count),
      (h.0, on.1, count),
    )

stream_walk : (b metadata : List ℕ) → IsWalk (StepsStreams b) first_stream (first_stream_in b) (λ w x. Ok (stream_reported w x)) after_stream next_streams over_streams (HoldsStreams b metadata)
stream_walk b metadata = record {
  sees = λ w s h. ap (first_of first_stream) (streams_there b metadata w s h);
  makes = makes_reported stream_reported (first_stream_in b) streams_after next_streams over_streams streams_move;
  goes_on = streams_go_on b metadata;
  ends = λ w. (ap (first_of first_stream) (streams_there b [] no_streams (0, []) (no_bytes_at b, no_bytes_at b, refl)));
}

-- ---- the parts of a stream

content_by : (b metadata : List ℕ) (w : MetadataStreams) (s : Stream) (inside : Bool) → nat_le (s.offset + s.size) w.metadata.length ≡ inside → holds metadata s.offset s.size ≡ inside → bytes_at b w.metadata ≡ Ok metadata →
    HasContent b (stream_reported w s) (record_at metadata s.offset s.size (range metadata s.offset s.size))
content_by b metadata w s true h i e = let stands = rw h at (content_stands b metadata w s e) in rw i (rw h (refl, stands))
content_by b metadata w s false h i e = rw i (rw h refl)

content_has : (b metadata : List ℕ) (w : MetadataStreams) (s : Stream) → bytes_at b w.metadata ≡ Ok metadata → HasContent b (stream_reported w s) (record_at metadata s.offset s.size (range metadata s.offset s.size))
content_has b metadata w s e = grind (arith, size_of, content_by)

stream_has : (b metadata : List ℕ) (w : MetadataStreams) (s : ℕ × List ℕ) (x : Stream) (t : ℕ × List ℕ) (y : MetadataStream) → HoldsStreams b metadata w s → first_stream s ≡ Some (Ok (x, t)) →
    ◌≡◌ {A = Result MetadataStream DirectoryRefusal} (Ok (stream_reported w x)) (Ok y) → HasStream b metadata y x
stream_has b metadata w s x t y h e r =
    let same : stream_reported w x ≡ y = cc (r) in
    subst (λ (z : MetadataStream). HasStream b metadata z x) same
    (record { name = name_of_stream_stands b w x t (ap (first_of first_stream) (streams_there b metadata w s h) ∙ e); content = content_has b metadata w x h.0 })

abbrev pub StreamsOf : List ℕ → List ℕ → MetadataStreams → List (Result Stream DirectoryRefusal) → Type 0
StreamsOf b metadata w items = ReturnsItems (StepsStreams b) w (streams_reported w items) × EachHas (HasStream b metadata) (streams_reported w items) items

pub streams_in_turn : (b : List ℕ) (w : MetadataStreams) (metadata headers : List ℕ) (items : List (Result Stream DirectoryRefusal)) → bytes_at b w.metadata ≡ Ok metadata → bytes_at b w.headers ≡ Ok headers →
    Items first_stream (w.count, headers) items → StreamsOf b metadata w items
streams_in_turn b w metadata headers items e h f = (
  in_turn _ _ _ _ _ _ _ _ (stream_walk b metadata) w (w.count, headers) items (e, h, refl) f,
  each_has _ _ _ _ _ _ _ _ (stream_walk b metadata) (HasStream b metadata) (stream_has b metadata) w (w.count, headers) items (e, h, refl) f,
)

pub streams_outside : (b : List ℕ) (w : MetadataStreams) (r : DirectoryRefusal) → streams_in b w ≡ Err r → ReturnsItems (StepsStreams b) w (Err r ∷ [])
streams_outside b w r e = refused _ _ _ _ _ _ _ _ (stream_walk b []) w r (ap (first_of first_stream) e)
