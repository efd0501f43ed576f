-- Inlined functions (S_INLINESITE): records within that of a procedure, in scopes that nest.
use Rattle.std.specs.Prelude.{ℕ, ◌+◌, ◌-◌, ◌==◌, ◌&&◌, ◌||◌, Bool, List, [], ◌∷◌, drop, nat_lt, Option, Some, None, Result, Ok, Err, if◌then◌else◌}
use Rattle.std.specs.Option.{option_map}
use Rattle.pe_core.specs.Bytes.{le, holds}
use Rattle.pe_core.specs.Refusals.{outcome, ◌>>=◌}
use Rattle.pe_pdb.specs.Annotations.{row_at}
use Rattle.pe_pdb.specs.Procedures.{is_procedure}
use Rattle.pe_pdb.specs.Refusals.{PdbRefusal, Short}
use Rattle.pe_pdb.specs.Symbols.{Symbol, symbol_at, symbol_end, symbols}
use Rattle.pe_pdb.specs.declared.inline_rows.InlineRow.{InlineRow}
use Rattle.pe_pdb.specs.declared.inline_site.InlineSite.{InlineSite}
use Rattle.pe_pdb.specs.declared.inline_site.TheConstants.{S_INLINESITE, S_INLINESITE2}
use Rattle.pe_pdb.specs.declared.inline_walk.InlineFrame.{InlineFrame}
use Rattle.pe_pdb.specs.declared.inline_walk.InlineFrames.{InlineFrames}
use Rattle.pe_pdb.specs.declared.inline_walk.Scopes.{Scopes}
use Rattle.pe_pdb.specs.declared.inline_walk.Step.{Step}
use Rattle.pe_pdb.specs.declared.inline_walk.Step.TheVariants.{Over, On, Found}

-- what callers see of the record of one
pub record InlineSiteView : Type 0 where
  pub parent : ℕ
  pub end : ℕ
  pub inlinee : ℕ
  pub annotations : List ℕ

abbrev pub inline_site_view : InlineSite → InlineSiteView
inline_site_view s = record { parent = s.parent; end = s.end; inlinee = s.inlinee; annotations = s.annotations.now }

-- where the annotations start: of the later kind after one number more
abbrev pub annotations_start : ℕ → ℕ
annotations_start kind = if kind == S_INLINESITE2 then 16 else 12

-- the inlined function of a record of a kind with this content
unfoldable pub inline_site_of : ℕ → List ℕ → Result InlineSiteView PdbRefusal
inline_site_of kind b =
    outcome ((holds b 0 (annotations_start kind), Short) ∷ []) (record { parent = le b 0 4; end = le b 4 4; inlinee = le b 8 4; annotations = drop (annotations_start kind) b })

-- ---- scopes

-- the kinds of records that end a scope: S_END, S_INLINESITE_END, S_PROC_ID_END
abbrev pub is_end : ℕ → Bool
is_end kind = kind == 0x0006 || kind == 0x114E || kind == 0x114F

-- of inlined functions
abbrev pub is_site : ℕ → Bool
is_site kind = kind == S_INLINESITE || kind == S_INLINESITE2

-- of parts of a function: S_THUNK32, S_BLOCK32, S_SEPCODE
abbrev pub is_block : ℕ → Bool
is_block kind = kind == 0x1102 || kind == 0x1103 || kind == 0x1132

-- the scopes after a record that ends one: one that is left out, if there is one, else a part of the function
abbrev pub after_end : Scopes → Scopes
after_end s = if s.skipped == 0 then record { skipped = 0; parts = s.parts - 1 } else record { skipped = s.skipped - 1; parts = s.parts }

-- after a record that starts one that is left out, with all that is in it
abbrev pub after_skipped : Scopes → Scopes
after_skipped s = record { skipped = s.skipped + 1; parts = s.parts }

-- after another record, if none is left out before: parts of the function count to it, other procedures are left out
abbrev pub after_part : ℕ → Scopes → Scopes
after_part kind s =
    if is_block kind then record { skipped = 0; parts = s.parts + 1 }
    else if is_procedure kind then record { skipped = 1; parts = s.parts }
    else s

-- within one that is left out
abbrev pub after_inner : ℕ → Scopes → Scopes
after_inner kind s = if is_block kind || is_procedure kind || is_site kind then after_skipped s else s

-- ---- the inlined functions of an offset

-- an inlined function and the row of it that has an offset from the start of the procedure, if one has
unfoldable pub frame_of : ℕ → Symbol → Result (Option InlineFrame) PdbRefusal
frame_of x s = do
  site ← inline_site_of s.kind s.content
  row ← row_at site.annotations x
  Ok (option_map (λ (r : InlineRow). record { record_offset = s.offset; inlinee = site.inlinee; row = r }) row)

-- one that has the offset is found; one that does not is left out, with all that is in it
abbrev pub found_or_skipped : Scopes → Option InlineFrame → Step
found_or_skipped scopes None = On (after_skipped scopes)
found_or_skipped scopes (Some frame) = Found frame

-- what a record is for a walk: the end of the function that was found last, a scope that starts or ends, or a function that is found
unfoldable pub step_of : ℕ → Scopes → Symbol → Result Step PdbRefusal
step_of x scopes s =
    if is_end s.kind then (if scopes.skipped == 0 && scopes.parts == 0 then Ok Over else Ok (On (after_end scopes)))
    else if nat_lt 0 scopes.skipped then Ok (On (after_inner s.kind scopes))
    else if is_site s.kind then (frame_of x s >>= λ frame. Ok (found_or_skipped scopes frame))
    else Ok (On (after_part s.kind scopes))

-- no scopes
abbrev pub no_scopes : Scopes
no_scopes = record { skipped = 0; parts = 0 }

-- what a walk has from a record on
abbrev pub followed : (Scopes → List (Result InlineFrame PdbRefusal)) → Result Step PdbRefusal → List (Result InlineFrame PdbRefusal)
followed more (Ok Over) = []
followed more (Ok (On scopes)) = more scopes
followed more (Ok (Found frame)) = Ok frame ∷ more no_scopes
followed more (Err r) = Err r ∷ []

-- The inlined functions that have an offset, each in the one before it, by the records that follow. Parts of a function are no scopes of
-- their own; where the function ends that was found last, there are no more.
unfoldable pub frames_in : ℕ → Scopes → List (Result Symbol PdbRefusal) → List (Result InlineFrame PdbRefusal)
frames_in x scopes [] = []
frames_in x scopes (Err r ∷ more) = Err r ∷ []
frames_in x scopes (Ok s ∷ more) = followed (λ inner. frames_in x inner more) (step_of x scopes s)

-- those in the procedure whose record is at an offset
abbrev pub inline_frames : List ℕ → ℕ → ℕ → Result (List (Result InlineFrame PdbRefusal)) PdbRefusal
inline_frames b p x = symbol_at b p >>= λ s. Ok (frames_in x no_scopes (symbols b (symbol_end s)))

-- what a walk has left
abbrev pub frames_left : InlineFrames → List (Result InlineFrame PdbRefusal)
frames_left s = frames_in s.offset s.scopes (symbols s.bytes.now s.next)
