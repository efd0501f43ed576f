-- Lists are the items that steps return.
use Rattle.std.proofs.Common.{◌≡◌, inl, inr, ℕ, zero, suc, ◌<◌, ◌≤◌, List, [], ◌∷◌, ◌++◌, length, map, take, drop, length-drop, Option, Some, None, Result, Ok, Err, refl, sym, ap, subst, ◌∙◌, arith}
use Rattle.calls_base.proofs.Cited.{flat_map, IsOver, ReturnsItems}
use Rattle.calls_base.specs.Lists.{EndAtRefusal, GiveLists, GiveSteps, HaveRoom, Lists, Numbered, Stops, Takes, by_number, in_lists, items_after, items_in, list_of, one_of, values_first}

module _ {W X R : Type 0} (number : R → ℕ) (Steps : W → Result (Option X) R → W → Type 0) where
  -- a step by number is one by its refusal
  value_of : (answer : Result (Option X) R) (x : X) → Ok (Some x) ≡ by_number number answer → answer ≡ Ok (Some x)
  value_of (Ok o) x e = let same : Some x ≡ o = cc in ap (λ p. Ok p) (sym same)
  value_of (Err r) x e = absurd cc

  nothing_of : (answer : Result (Option X) R) → Ok None ≡ by_number number answer → answer ≡ Ok None
  nothing_of (Ok o) e = let same : None ≡ o = cc in ap (λ p. Ok p) (sym same)
  nothing_of (Err r) e = absurd cc

  refusal_of : (answer : Result (Option X) R) (n : ℕ) → Err n ≡ by_number number answer → (r : R) × (answer ≡ Err r) × (n ≡ number r)
  refusal_of (Ok o) n e = absurd cc
  refusal_of (Err r) n e = (r, refl, cc)

  -- a walk that is over has no items
  over_has_none : (w : W) → IsOver Steps w → ReturnsItems Steps w []
  over_has_none w over answer v s = let given = over answer v s in (given.0, subst (λ (u : W). IsOver Steps u) (sym given.1) over)

  -- ---- a step that returns a value, nothing or a refusal, by the items that are left

  takes_one : (w u : W) (x : X) (items : List (Result X R)) → ReturnsItems Steps w items → Numbered number Steps w (Ok (Some x)) u → (more : List (Result X R)) × (items ≡ Ok x ∷ more) × ReturnsItems Steps u more
  takes_one w u x [] h s = let given = h s.0 u s.1 in let value = value_of s.0 x s.2 in absurd cc
  takes_one w u x (Ok y ∷ items) h s =
      let given = h s.0 u s.1 in
      let value = value_of s.0 x s.2 in
      let same : y ≡ x = cc in
      (items, ap (λ (z : X). Ok z ∷ items) same, given.1)
  takes_one w u x (Err r ∷ items) h s = let given = h.1 s.0 u s.1 in let value = value_of s.0 x s.2 in absurd cc

  takes_none : (w u : W) (items : List (Result X R)) → ReturnsItems Steps w items → Numbered number Steps w (Ok None) u → (items ≡ []) × ReturnsItems Steps u []
  takes_none w u [] h s = (refl, over_has_none u (h s.0 u s.1).1)
  takes_none w u (Ok y ∷ items) h s = let given = h s.0 u s.1 in let nothing = nothing_of s.0 s.2 in absurd cc
  takes_none w u (Err r ∷ items) h s = let given = h.1 s.0 u s.1 in let nothing = nothing_of s.0 s.2 in absurd cc

  is_refused : (w u : W) (e : ℕ) (items : List (Result X R)) → ReturnsItems Steps w items → Numbered number Steps w (Err e) u → (r : R) × (items ≡ Err r ∷ []) × (e ≡ number r) × ReturnsItems Steps u []
  is_refused w u e [] h s = let given = h s.0 u s.1 in let refused = refusal_of s.0 e s.2 in absurd cc
  is_refused w u e (Ok y ∷ items) h s = let given = h s.0 u s.1 in let refused = refusal_of s.0 e s.2 in absurd cc
  is_refused w u e (Err r ∷ items) h s =
      let given = h.1 s.0 u s.1 in
      let refused = refusal_of s.0 e s.2 in
      let same : refused.0 ≡ r = cc in
      (r, ap (λ (more : List (Result X R)). Err r ∷ more) h.0, refused.2 ∙ ap number same, over_has_none u given.1)

  -- values that steps return are the first items
  takes_all : (xs : List X) (w u : W) (items : List (Result X R)) → ReturnsItems Steps w items → Takes (Numbered number Steps) w xs u → (more : List (Result X R)) × (items ≡ map (λ x. Ok x) xs ++ more) × ReturnsItems Steps u more
  takes_all [] w u items h t = (items, refl, subst (λ (v : W). ReturnsItems Steps v items) (sym t) h)
  takes_all (x ∷ xs) w u items h t =
      let one = takes_one w t.0 x items h t.1 in
      let rest = takes_all xs t.0 u one.0 one.2 t.2 in
      (rest.0, one.1 ∙ ap (λ (more : List (Result X R)). Ok x ∷ more) rest.1, rest.2)

  -- ---- the values at the front of items

  all_taken : (n : ℕ) (xs : List X) → length xs ≤ n → take n xs ≡ xs
  all_taken zero [] le = refl
  all_taken zero (x ∷ xs) le = absurd (omega arith)
  all_taken (suc n) [] le = refl
  all_taken (suc n) (x ∷ xs) le = ap (λ (ys : List X). x ∷ ys) (all_taken n xs (omega arith))

  all_first : (xs : List X) (n : ℕ) (more : List (Result X R)) → length xs ≡ n → values_first n (map (λ x. Ok x) xs ++ more) ≡ xs
  all_first [] zero more e = refl
  all_first [] (suc n) more e = absurd (omega arith)
  all_first (x ∷ xs) zero more e = absurd (omega arith)
  all_first (x ∷ xs) (suc n) more e = ap (λ (ys : List X). x ∷ ys) (all_first xs n more (omega arith))

  then_none : (xs : List X) (n : ℕ) → values_first {R = R} n (map (λ x. Ok x) xs ++ []) ≡ take n xs
  then_none [] zero = refl
  then_none [] (suc n) = refl
  then_none (x ∷ xs) zero = refl
  then_none (x ∷ xs) (suc n) = ap (λ (ys : List X). x ∷ ys) (then_none xs n)

  then_refused : (xs : List X) (n : ℕ) (r : R) → values_first n (map (λ x. Ok x) xs ++ Err r ∷ []) ≡ take n xs
  then_refused [] zero r = refl
  then_refused [] (suc n) r = refl
  then_refused (x ∷ xs) zero r = refl
  then_refused (x ∷ xs) (suc n) r = ap (λ (ys : List X). x ∷ ys) (then_refused xs n r)

  rest_after : (xs : List X) (more : List (Result X R)) → drop (length xs) (map (λ x. Ok x) xs ++ more) ≡ more
  rest_after [] more = refl
  rest_after (x ∷ xs) more = rest_after xs more

  -- ---- a call

  abbrev Gives : W → ℕ → List (Result X R) → Result (List X) ℕ → Type 0
  Gives v n items answer = (answer ≡ list_of number n items) × ReturnsItems Steps v (items_after n items)

  -- values, if they are the first n of these items
  by_values : (xs : List X) (n : ℕ) (v : W) (more : List (Result X R)) → 0 < length xs → values_first n (map (λ x. Ok x) xs ++ more) ≡ xs → ReturnsItems Steps v more → Gives v n (map (λ x. Ok x) xs ++ more) (Ok xs)
  by_values [] n v more some e h = absurd (omega arith)
  by_values (x ∷ xs) n v more some e h =
      let same : drop (length (values_first n (map (λ z. Ok z) (x ∷ xs) ++ more))) (map (λ z. Ok z) (x ∷ xs) ++ more) ≡ more = ap (λ (ys : List X). drop (length ys) (map (λ z. Ok z) (x ∷ xs) ++ more)) e ∙ rest_after (x ∷ xs) more in
      (ap (λ (ys : List X). Ok ys) (sym e), subst (λ (items : List (Result X R)). ReturnsItems Steps v items) (sym same) h)

  by_items : (n : ℕ) (v : W) (items more : List (Result X R)) (answer : Result (List X) ℕ) → items ≡ more → Gives v n more answer → Gives v n items answer
  by_items n v items more answer e g = subst (λ (xs : List (Result X R)). Gives v n xs answer) (sym e) g

  ends : (xs : List X) (n : ℕ) (v : W) → length xs < n → ReturnsItems Steps v [] → Gives v n (map (λ x. Ok x) xs ++ []) (Ok xs)
  ends [] n v lt h = (refl, h)
  ends (x ∷ xs) n v lt h = by_values (x ∷ xs) n v [] (omega arith) (then_none (x ∷ xs) n ∙ all_taken n (x ∷ xs) (omega (arith, lt))) h

  stops : (n : ℕ) (xs : List X) (u v : W) (more : List (Result X R)) → 0 < n → ReturnsItems Steps u more → Stops (Numbered number Steps) n xs u v → Gives v n (map (λ x. Ok x) xs ++ more) (Ok xs)
  stops n xs u v more some h (inl full) =
      by_values xs n v more (omega (arith, some, full.0)) (all_first xs n more full.0) (subst (λ (w : W). ReturnsItems Steps w more) (sym full.1) h)
  stops n xs u v more some h (inr (inl over)) =
      let none = takes_none u v more h over.1 in
      by_items n v (map (λ x. Ok x) xs ++ more) (map (λ x. Ok x) xs ++ []) (Ok xs) (ap (λ (ys : List (Result X R)). map (λ x. Ok x) xs ++ ys) none.0) (ends xs n v over.0 none.1)
  stops n xs u v more some h (inr (inr left)) =
      let refused = is_refused u left.3.1 left.3.0 more h left.3.2 in
      by_items n v (map (λ x. Ok x) xs ++ more) (map (λ x. Ok x) xs ++ Err refused.0 ∷ []) (Ok xs) (ap (λ (ys : List (Result X R)). map (λ x. Ok x) xs ++ ys) refused.1)
      (by_values xs n v (Err refused.0 ∷ []) left.0 (then_refused xs n refused.0 ∙ all_taken n xs (omega (arith, left.1))) (subst (λ (w : W). ReturnsItems Steps w (Err refused.0 ∷ [])) (sym left.2) (subst (λ (ys : List (Result X R)). ReturnsItems Steps u ys) refused.1 h)))

  one_call : (n : ℕ) (w v : W) (items : List (Result X R)) (answer : Result (List X) ℕ) → 0 < n → ReturnsItems Steps w items → Lists (Numbered number Steps) n w answer v → Gives v n items answer
  one_call n w v items (Ok xs) some h (u, t, s) =
      let taken = takes_all xs w u items h t in
      by_items n v items (map (λ x. Ok x) xs ++ taken.0) (Ok xs) taken.1 (stops n xs u v taken.0 some taken.2 s)
  one_call n w v items (Err e) some h l =
      let refused = is_refused w v e items h l in
      by_items n v items (Err refused.0 ∷ []) (Err e) refused.1 (ap (λ (m : ℕ). Err m) refused.2, refused.3)

  -- ---- calls one after the other

  front_and_rest : (n : ℕ) (items : List (Result X R)) → map (λ x. Ok x) (values_first n items) ++ map (by_number number) (drop (length (values_first n items)) items) ≡ map (by_number number) items
  front_and_rest zero items = refl
  front_and_rest (suc n) [] = refl
  front_and_rest (suc n) (Ok x ∷ items) = ap (λ (ys : List (Result X ℕ)). Ok x ∷ ys) (front_and_rest n items)
  front_and_rest (suc n) (Err r ∷ items) = refl

  end_of_rest : (n : ℕ) (items : List (Result X R)) → EndAtRefusal items → EndAtRefusal (drop (length (values_first n items)) items)
  end_of_rest zero items e = e
  end_of_rest (suc n) [] e = e
  end_of_rest (suc n) (Ok x ∷ items) e = end_of_rest n items e
  end_of_rest (suc n) (Err r ∷ items) e = e

  shorter : (k : ℕ) (items : List (Result X R)) → length (drop k items) ≤ length items
  shorter k items = omega (arith, length-drop k items)

  fewer : (n : ℕ) (x : X) (items : List (Result X R)) → 0 < n → length (drop (length (values_first n (Ok x ∷ items))) (Ok x ∷ items)) ≤ length items
  fewer zero x items some = absurd (omega arith)
  fewer (suc n) x items some = shorter (length (values_first n items)) items

  join : (ns : List ℕ) (items : List (Result X R)) → EndAtRefusal items → HaveRoom ns → length items ≤ length ns → flat_map items_in (in_lists number ns items) ≡ map (by_number number) items
  join [] [] e some le = refl
  join [] (x ∷ items) e some le = absurd (omega arith)
  join (n ∷ ns) [] e some le = join ns [] e some.1 (omega arith)
  join (n ∷ ns) (Ok x ∷ items) e some le =
      let less = fewer n x items some.0 in
      let more = join ns (drop (length (values_first n (Ok x ∷ items))) (Ok x ∷ items)) (end_of_rest n (Ok x ∷ items) e) some.1 (omega (arith, less, le)) in
      ap (λ (ys : List (Result X ℕ)). map (λ z. Ok z) (values_first n (Ok x ∷ items)) ++ ys) more ∙ front_and_rest n (Ok x ∷ items)
  join (n ∷ ns) (Err r ∷ items) e some le =
      let more = join ns [] tt some.1 (omega arith) in
      ap (λ (ys : List (Result X ℕ)). Err (number r) ∷ ys) (more ∙ ap (map (by_number number)) (sym e))

  -- ---- a call with room for one

  a_step : (xs : List X) (w u v : W) → Takes (Numbered number Steps) w xs u → Stops (Numbered number Steps) 1 xs u v → (given : Result (Option X) R) × Steps w given v × (Ok xs ≡ one_of number given)
  a_step [] w u v t (inl full) = absurd (omega (arith, full.0))
  a_step [] w u v t (inr (inl over)) =
      let none = nothing_of over.1.0 over.1.2 in
      (Ok None, subst (λ (z : W). Steps z (Ok None) v) t (subst (λ (a : Result (Option X) R). Steps u a v) none over.1.1), refl)
  a_step [] w u v t (inr (inr left)) = absurd (omega (arith, left.0))
  a_step (x ∷ []) w u v t (inl full) =
      let value = value_of t.1.0 x t.1.2 in
      (Ok (Some x), subst (λ (z : W). Steps w (Ok (Some x)) z) (sym (full.1 ∙ t.2)) (subst (λ (a : Result (Option X) R). Steps w a t.0) value t.1.1), refl)
  a_step (x ∷ []) w u v t (inr (inl over)) = absurd (omega (arith, over.0))
  a_step (x ∷ []) w u v t (inr (inr left)) = absurd (omega (arith, left.1))
  a_step (x ∷ y ∷ xs) w u v t (inl full) = absurd (omega (arith, full.0))
  a_step (x ∷ y ∷ xs) w u v t (inr (inl over)) = absurd (omega (arith, over.0))
  a_step (x ∷ y ∷ xs) w u v t (inr (inr left)) = absurd (omega (arith, left.1))

  one_step : GiveSteps number Steps
  one_step w v (Ok xs) (u, t, s) = a_step xs w u v t s
  one_step w v (Err e) l =
      let refused = refusal_of l.0 e l.2 in
      (Err refused.0, subst (λ (a : Result (Option X) R). Steps w a v) refused.1 l.1, ap (λ (n : ℕ). Err n) refused.2)

  pub give_lists : GiveLists number Steps
  give_lists = (one_call, λ items e ns some le. join ns items e some le, one_step)
