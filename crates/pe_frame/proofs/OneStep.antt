-- There is one step, up to the numbers in a refusal of codes.
use Rattle.std.proofs.Common.{◌≡◌, ℕ, Bool, false, ◌||◌, List, ◌∷◌, map, Option, Some, None, Result, Ok, Err, refl, ap, sym, ◌∙◌, arith, []}
use Rattle.pe_frame.proofs.Cited.{answer_of, ◌>>=◌, Error, UnwindCode, UnwindInfoView, code_stream, one_reading, some_items, Instruction}
use Rattle.pe_frame.proofs.Cited.{FrameError, Registers, entered, stack_pointer, known_codes, HasCodes, frame_register_in, limit_of, Enters}
use Rattle.pe_frame.proofs.Cited.{Then, UndoesRecords, returned, rising, Steps, by_kind, executed_all, StepsFrom}

pub same_then : {A B : Type 0} (x y : Result A FrameError) (f : A → Result B FrameError) → by_kind x ≡ by_kind y → by_kind (x >>= f) ≡ by_kind (y >>= f)
same_then x y f e = grind arith

one_list : (xs ys : List (Result UnwindCode Error)) → map answer_of xs ≡ map answer_of ys → by_kind (known_codes xs) ≡ by_kind (known_codes ys)
one_list [] [] e = refl
one_list [] (y ∷ ys) e = cc
one_list (x ∷ xs) [] e = cc
one_list (Ok c ∷ xs) (Ok d ∷ ys) e = grind (arith, same_then, one_list xs ys)
one_list (Ok c ∷ xs) (Err d ∷ ys) e = cc
one_list (Err c ∷ xs) (Ok d ∷ ys) e = cc
one_list (Err c ∷ xs) (Err d ∷ ys) e = grind arith

pub one_codes : (i : UnwindInfoView) (x y : Result (List UnwindCode) FrameError) → HasCodes i x → HasCodes i y → by_kind x ≡ by_kind y
one_codes i x y h k = rw h.2 (rw k.2 (one_list h.0 k.0 (one_reading (code_stream i) h.0 k.0 h.1 k.1)))

one_entry : (m : ℕ → Option ℕ) (limit : Option ℕ) (i : UnwindInfoView) (g : Registers) (x y : Result (Registers × Bool) FrameError) →
    Enters m limit i g x → Enters m limit i g y → by_kind x ≡ by_kind y
one_entry m limit i g x y h k = rw h.2 (rw k.2 (same_then h.0 k.0 (λ cs. entered m (frame_register_in i) limit cs g) (one_codes i h.0 k.0 h.1 k.1)))

abbrev Undone : (ℕ → Option ℕ) → List UnwindInfoView → Bool → (Registers × Bool) → Result (Registers × Bool) FrameError → Type 0
Undone m is b u answer = UndoesRecords m is None (b || u.1) u.0 answer

one_then : (m : ℕ → Option ℕ) (is : List UnwindInfoView) (b : Bool) (d e x y : Result (Registers × Bool) FrameError) → by_kind d ≡ by_kind e →
    ((u : Registers × Bool) → Undone m is b u x → Undone m is b u y → by_kind x ≡ by_kind y) →
    Then d (Undone m is b) x → Then e (Undone m is b) y → by_kind x ≡ by_kind y
one_then m is b d e x y h next k l = grind arith

pub one_undoing : (m : ℕ → Option ℕ) (is : List UnwindInfoView) (limit : Option ℕ) (b : Bool) (g : Registers) (x y : Result (Registers × Bool) FrameError) →
    UndoesRecords m is limit b g x → UndoesRecords m is limit b g y → by_kind x ≡ by_kind y
one_undoing m [] limit b g x y h k = ap by_kind (h ∙ sym k)
one_undoing m (i ∷ is) limit b g x y h k =
    one_then m is b h.0 k.0 x y (one_entry m limit i g h.0 k.0 h.1 k.1) (λ u h' k'. one_undoing m is None (b || u.1) u.0 x y h' k') h.2 k.2

pub one_step : (m : ℕ → Option ℕ) (plan : List UnwindInfoView) (offset : ℕ) (g : Registers) (x y : Result Registers FrameError) →
    Steps m plan offset g x → Steps m plan offset g y → by_kind x ≡ by_kind y
one_step m plan offset g x y h k = grind (arith, same_then, one_undoing)

some_then : (m : ℕ → Option ℕ) (is : List UnwindInfoView) (b : Bool) (e : Result (Registers × Bool) FrameError) →
    ((u : Registers × Bool) → (x : Result (Registers × Bool) FrameError) × Undone m is b u x) → (x : Result (Registers × Bool) FrameError) × Then e (Undone m is b) x
some_then m is b (Ok u) next = next u
some_then m is b (Err e) next = (Err e, refl)

pub some_undoing : (m : ℕ → Option ℕ) (is : List UnwindInfoView) (limit : Option ℕ) (b : Bool) (g : Registers) → (x : Result (Registers × Bool) FrameError) × UndoesRecords m is limit b g x
some_undoing m [] limit b g = (Ok (g, b), refl)
some_undoing m (i ∷ is) limit b g =
    let items = some_items (code_stream i) in
    let entry = known_codes items.0 >>= λ cs. entered m (frame_register_in i) limit cs g in
    let rest = some_then m is b entry (λ u. some_undoing m is None (b || u.1) u.0) in
    (rest.0, (entry, (known_codes items.0, (items.0, items.1, refl), refl), rest.1))

pub some_step : (m : ℕ → Option ℕ) (plan : List UnwindInfoView) (offset : ℕ) (g : Registers) → (x : Result Registers FrameError) × Steps m plan offset g x
some_step m plan offset g =
    let entry = some_undoing m plan (limit_of plan offset) false g in
    (entry.0 >>= returned m (stack_pointer g), (entry.0, entry.1, refl))

pub some_from : (o : Option (List Instruction)) (m : ℕ → Option ℕ) (plan : List UnwindInfoView) (offset : ℕ) (g : Registers) → (x : Result Registers FrameError) × StepsFrom o m plan offset g x
some_from None m plan offset g = some_step m plan offset g
some_from (Some rest) m plan offset g = (executed_all m rest g >>= rising (stack_pointer g), refl)

pub one_from : (o : Option (List Instruction)) (m : ℕ → Option ℕ) (plan : List UnwindInfoView) (offset : ℕ) (g : Registers) (x y : Result Registers FrameError) →
    StepsFrom o m plan offset g x → StepsFrom o m plan offset g y → by_kind x ≡ by_kind y
one_from None m plan offset g x y h k = one_step m plan offset g x y h k
one_from (Some rest) m plan offset g x y h k = ap by_kind (h ∙ sym k)
