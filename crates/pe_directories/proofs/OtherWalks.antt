-- After a number, a delay import or a bound import fewer bytes are left, after a stream fewer streams, and after an entry of a
-- table of a load configuration fewer entries.
use Rattle.std.proofs.Common.{◌≡◌, ℕ, ◌<◌, ◌≤◌, if◌then◌else◌, Bool, List, [], ◌∷◌, length, drop, Some, None, Ok, length-drop, refl, ap, arith}
use Rattle.pe_directories.proofs.Cited.{nat_tests, holds, Short, outcome, Stream, first_stream, first_delay_import, delay_imports_end}
use Rattle.pe_directories.proofs.Cited.{delay_import_at, DelayImport, Image, Guarded, first_guarded, first_va}
use Rattle.pe_directories.specs.BoundImports.{Bound, first_bound_import, bound_of}

pub va_shrinks : (is_64 : Bool) (b : List ℕ) (x : ℕ) (t : List ℕ) → first_va is_64 b ≡ Some (Ok (x, t)) → length t < length b
unfolding first_va
va_shrinks is_64 b x t h = grind (arith, nat_tests, length-drop)

shorter : (b : List ℕ) (n : ℕ) (t : List ℕ) → 0 < n → n ≤ length b → drop n b ≡ t → length t < length b
shorter b n t some room e = omega (arith, ap length e, length-drop n b)

fewer_by : (b : List ℕ) (n : ℕ) (ends there : Bool) (v x : DelayImport) (t : List ℕ) → 0 < n → holds b 0 n ≡ there → (if ends then None else Some (outcome {Y = DelayImport × List ℕ} ((there, Image Short) ∷ []) (v, drop n b))) ≡ Some (Ok (x, t)) → length t < length b
fewer_by b n ends there v x t some e h = grind (arith, nat_tests, shorter)

pub delay_import_shrinks : (b : List ℕ) (x : DelayImport) (t : List ℕ) → first_delay_import b ≡ Some (Ok (x, t)) → length t < length b
unfolding first_delay_import
delay_import_shrinks b x t h = fewer_by b 32 (delay_imports_end b) (holds b 0 32) (delay_import_at b) x t (omega arith) refl h

pub bound_import_shrinks : (b : List ℕ) (x : Bound) (t : List ℕ) → first_bound_import b ≡ Some (Ok (x, t)) → length t < length b
unfolding first_bound_import bound_of
bound_import_shrinks b x t h = grind (arith, nat_tests, shorter)

abbrev pub count_of : ℕ × List ℕ → ℕ
count_of s = s.0

pub stream_shrinks : (s : ℕ × List ℕ) (x : Stream) (t : ℕ × List ℕ) → first_stream s ≡ Some (Ok (x, t)) → count_of t < count_of s
stream_shrinks s x t h = grind (arith, nat_tests)

pub guarded_shrinks : (n : ℕ) (s : ℕ × List ℕ) (x : Guarded) (t : ℕ × List ℕ) → first_guarded n s ≡ Some (Ok (x, t)) → count_of t < count_of s
unfolding first_guarded
guarded_shrinks n s x t h = grind (arith, nat_tests)
