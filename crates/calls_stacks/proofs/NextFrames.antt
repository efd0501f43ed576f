-- A call that steps a walk: what it leaves in the walk is what the walk of pe_frame does.
use Rattle.std.proofs.Common.{◌≡◌, inl, inr, add-one, ℕ, zero, suc, ◌+◌, ◌-◌, ◌<◌, List, get_or, [], ◌∷◌, ◌++◌, length, set, take, drop, Some, None, Result, Ok, Err, refl, ap, sym, ◌∙◌, subst, arith}
use Rattle.std.proofs.lemmas.List.{drop-drop, drop-set-lt, take_more_set}
use Rattle.pe_frame.specs.FrameWalks.{Advances, AdvancesBy, Follows, FrameWalk, Process, returned_frame, walk_after}
use Rattle.pe_frame.specs.declared.walk.WalkEnd.{WalkEnd}
use Rattle.std.proofs.lemmas.Grind.{get_or-set_at}
use Rattle.calls_stacks.specs.FrameCalls.{ComesTo, FillsFrames, HandsOutBy, HandsOutFound, HandsOutNext, WalkRecords, reached, state_in}

-- ---- the walk after so many frames

pub reached_by : {W : Type 0} (x w v : W) (slots : List W) (n : ℕ) → w ≡ v → x ≡ reached w slots n → x ≡ reached v slots n
reached_by x w v slots n same is = subst (λ (u : _). x ≡ reached u slots n) same is

pub reached_here : {W : Type 0} (w x : W) (slots : List W) (n : ℕ) → n < length slots → x ≡ reached w (set slots n x) (n + 1)
reached_here w x slots n within = rw add-one (sym (get_or-set_at slots n n x w refl within))

module _ {W F : Type 0} (Calls : Process → F → Result F WalkEnd → Type 0) (m : WalkRecords W F) (p : Process) where
  abbrev at : W → FrameWalk Process F
  at w = state_in m p w

  abbrev HandsOut : ℕ → W → W → Type 0
  HandsOut number old next =
      (found : Result F WalkEnd) × Follows Calls (at old) found × HandsOutFound Calls m number old next found

  -- ---- how many frames may follow

  pub same_remaining : (w : W) (v : FrameWalk Process F) → v ≡ at w → m.remaining w ≡ v.remaining
  same_remaining w v e = sym (ap (λ (x : FrameWalk Process F). x.remaining) e)

  -- ---- a frame

  done_with : (old next : W) (s : F) (found : Result F WalkEnd) → Follows Calls (at old) found → Some s ≡ returned_frame found → next ≡ m.after_frame old s → m.frame next ≡ s → HandsOut 0 old next
  done_with old next s (Ok x) follows answer is same =
      let this : s ≡ x = cc answer in
      (Ok x, follows, (refl, is ∙ ap (m.after_frame old) this, same ∙ this))
  done_with old next s (Err e) follows answer is same = absurd (cc answer)

  done_by : (n : ℕ) (old next : W) (s : F) (new : FrameWalk Process F) → 0 < n → AdvancesBy Calls n (at old) (Some s) new → next ≡ m.after_frame old s → m.frame next ≡ s → HandsOutBy Calls m n p 0 old next
  done_by zero old next s new some h is same = absurd (omega (arith, some))
  done_by (suc n) old next s new some h is same = done_with old next s h.0 h.1 h.2 is same

  pub done : (old next : W) (s : F) (w new : FrameWalk Process F) → w ≡ at old → 0 < m.remaining old → Advances Calls w (Some s) new → next ≡ m.after_frame old s → m.frame next ≡ s → HandsOutNext Calls m p 0 old next
  done old next s w new start some h is kept =
      done_by (m.remaining old) old next s new some (subst (λ (v : FrameWalk Process F). Advances Calls v (Some s) new) start h) is kept

  -- where the walk is then: the position from which it went on says the same

  same_with : (old next : W) (s : F) (new : FrameWalk Process F) (found : Result F WalkEnd) → Some s ≡ returned_frame found → new ≡ walk_after (at old) found → at next ≡ walk_after (at old) (Ok s) → new ≡ at next
  same_with old next s new (Ok x) answer after is =
      let this : x ≡ s = cc answer in
      after ∙ (ap (λ (f : F). walk_after (at old) (Ok f)) this ∙ sym is)
  same_with old next s new (Err e) answer after is = absurd (cc answer)

  same_by : (n : ℕ) (old next : W) (s : F) (new : FrameWalk Process F) → 0 < n → AdvancesBy Calls n (at old) (Some s) new → at next ≡ walk_after (at old) (Ok s) → new ≡ at next
  same_by zero old next s new some h is = absurd (omega (arith, some))
  same_by (suc n) old next s new some h is = same_with old next s new h.0 h.2 h.3 is

  pub same_position : (old next : W) (s : F) (w new : FrameWalk Process F) → w ≡ at old → 0 < m.remaining old → Advances Calls w (Some s) new → at next ≡ walk_after (at old) (Ok s) → new ≡ at next
  same_position old next s w new start some h is =
      same_by (m.remaining old) old next s new some (subst (λ (v : FrameWalk Process F). Advances Calls v (Some s) new) start h) is

  -- ---- several frames

  frame_with : (number : ℕ) (old next : W) (found : Result F WalkEnd) → Follows Calls (at old) found → HandsOutFound Calls m number old next found → (number ≡ 100 → ⊥) → HandsOut 0 old next
  frame_with number old next (Ok s) follows h goes_on = (Ok s, follows, (refl, h.1, h.2))
  frame_with number old next (Err e) follows h goes_on = absurd (goes_on h.0)

  -- a call that does not say that the walk is over returned a frame
  frame_by : (n number : ℕ) (old next : W) → HandsOutBy Calls m n p number old next → (number ≡ 100 → ⊥) → HandsOutBy Calls m n p 0 old next
  frame_by zero number old next h goes_on = absurd (goes_on h.0)
  frame_by (suc n) number old next h goes_on = frame_with number old next h.0 h.1 h.2 goes_on

  more : (w x : W) (xs : List W) (old : W) → ComesTo Calls m p old xs w → HandsOutNext Calls m p 0 w x → ComesTo Calls m p old (xs ++ x ∷ []) x
  more w x [] old is next = (subst (λ (v : W). HandsOutNext Calls m p 0 v x) is next, refl)
  more w x (y ∷ ys) old h next = (h.0, more w x ys y h.1 next)

  pub none_yet : (old : W) (filled : List W) → ComesTo Calls m p old (take 0 filled) old
  none_yet old filled = refl

  pub one_more : (old w x : W) (filled : List W) (i number : ℕ) → ComesTo Calls m p old (take i filled) w → HandsOutNext Calls m p number w x → (number ≡ 100 → ⊥) → i < length filled → ComesTo Calls m p old (take (i + 1) (set filled i x)) x
  one_more old w x filled i number frames next goes_on within =
      subst (λ (xs : List W). ComesTo Calls m p old xs x) (sym (take_more_set filled i x within)) (more w x (take i filled) old frames (frame_by (m.remaining w) number w x next goes_on))

  -- one frame more: the walk after it stands in its slot
  pub frames_more : (old last x : W) (slots : List W) (i : ℕ) → ComesTo Calls m p old (take i slots) (reached old slots i) → last ≡ reached old slots i → HandsOutNext Calls m p 0 last x → i < length slots → ComesTo Calls m p old (take (i + 1) (set slots i x)) (reached old (set slots i x) (i + 1))
  frames_more old last x slots i frames is next within =
      let so_far = subst (λ (w : W). ComesTo Calls m p old (take i slots) w) (sym is) frames in
      let all = one_more old last x slots i 0 so_far next (λ e. absurd (omega (arith, e))) within in
      subst (λ (w : W). ComesTo Calls m p old (take (i + 1) (set slots i x)) w) (reached_here old x slots i within) all

  pub others_stay : (slots filled : List W) (i : ℕ) (x : W) → drop i filled ≡ drop i slots → drop (i + 1) (set filled i x) ≡ drop (i + 1) slots
  others_stay slots filled i x same =
      drop-set-lt (i + 1) filled i x (omega arith) ∙ (sym (drop-drop 1 i filled) ∙ (ap (drop 1) same ∙ drop-drop 1 i slots))

  pub over_here : (n number : ℕ) (slots filled : List W) (old w new : W) → ComesTo Calls m p old (take n filled) w → drop n filled ≡ drop n slots → length filled ≡ length slots → n < length filled → HandsOutNext Calls m p number w new → number ≡ 100 → FillsFrames Calls m p n slots filled old new
  over_here n number slots filled old w new frames others same lt next is =
      record {
        reached = w;
        frames = frames;
        others = others;
        within = omega (arith, lt, same);
        same = same;
        ending = inr (omega (arith, lt, same), subst (λ (k : ℕ). HandsOutNext Calls m p k w new) is next);
      }

  pub all_filled : (n : ℕ) (slots filled : List W) (old w : W) → ComesTo Calls m p old (take n filled) w → drop n filled ≡ drop n slots → length filled ≡ length slots → n ≡ length filled → FillsFrames Calls m p n slots filled old w
  all_filled n slots filled old w frames others same all =
      record {
        reached = w;
        frames = frames;
        others = others;
        within = omega (arith, all, same);
        same = same;
        ending = inl (all ∙ same, refl);
      }
