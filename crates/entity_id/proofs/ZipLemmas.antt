-- Two lists side by side.
use Rattle.std.proofs.Common.{◌≡◌, ℕ, zero, suc, ◌-◌, List, [], ◌∷◌, ◌++◌, map, take, set, get_or, length, Some, slice_get, sym, refl, ap, ap₂, ◌∙◌, arith}
use Rattle.std.specs.List.{zip, swap}
use Rattle.std.proofs.lemmas.Option.{none-some, same_Some}
use Rattle.entity_id.specs.PackedLists.{swap_popped}

module _ {K X : Type 0} where
  pub first-zip : (ks : List K) (vs : List X) → length vs ≡ length ks → map (λ (pair : K × X). pair.0) (zip ks vs) ≡ ks
  first-zip [] vs h = refl
  first-zip (k ∷ ks) [] h = absurd (omega arith)
  first-zip (k ∷ ks) (v ∷ vs) h = ap (λ l. k ∷ l) (first-zip ks vs (omega arith))

  pub second-zip : (ks : List K) (vs : List X) → length vs ≡ length ks → map (λ (pair : K × X). pair.1) (zip ks vs) ≡ vs
  second-zip [] [] h = refl
  second-zip [] (v ∷ vs) h = absurd (omega arith)
  second-zip (k ∷ ks) [] h = absurd (omega arith)
  second-zip (k ∷ ks) (v ∷ vs) h = ap (λ l. v ∷ l) (second-zip ks vs (omega arith))

  pub length-zip_same : (ks : List K) (vs : List X) → length vs ≡ length ks → length (zip ks vs) ≡ length ks
  length-zip_same [] vs h = refl
  length-zip_same (k ∷ ks) [] h = absurd (omega arith)
  length-zip_same (k ∷ ks) (v ∷ vs) h = ap suc (length-zip_same ks vs (omega arith))

  pub zip_at : (ks : List K) (vs : List X) (k : ℕ) (e : K) (x : X) → slice_get ks k ≡ Some e → slice_get vs k ≡ Some x → slice_get (zip ks vs) k ≡ Some (e, x)
  zip_at [] vs k e x hk hv = absurd (none-some e hk)
  zip_at (d ∷ ks) [] k e x hk hv = absurd (none-some x hv)
  zip_at (d ∷ ks) (v ∷ vs) zero e x hk hv = ap₂ (λ (a : K) (b : X). Some (a, b)) (same_Some d e hk) (same_Some v x hv)
  zip_at (d ∷ ks) (v ∷ vs) (suc k) e x hk hv = zip_at ks vs k e x hk hv

  pub key_of_zip : (ks : List K) (vs : List X) (k : ℕ) (pair : K × X) → slice_get (zip ks vs) k ≡ Some pair → slice_get ks k ≡ Some pair.0
  key_of_zip [] vs k pair h = absurd (none-some pair h)
  key_of_zip (d ∷ ks) [] k pair h = absurd (none-some pair h)
  key_of_zip (d ∷ ks) (v ∷ vs) zero pair h = ap (λ (r : K × X). Some r.0) (same_Some (d, v) pair h)
  key_of_zip (d ∷ ks) (v ∷ vs) (suc k) pair h = key_of_zip ks vs k pair h

  pub zip-push : (ks : List K) (vs : List X) (e : K) (x : X) → length vs ≡ length ks → zip (ks ++ e ∷ []) (vs ++ x ∷ []) ≡ zip ks vs ++ (e, x) ∷ []
  zip-push [] [] e x h = refl
  zip-push [] (v ∷ vs) e x h = absurd (omega arith)
  zip-push (k ∷ ks) [] e x h = absurd (omega arith)
  zip-push (k ∷ ks) (v ∷ vs) e x h = ap (λ l. (k, v) ∷ l) (zip-push ks vs e x (omega arith))

  zip-set : (ks : List K) (vs : List X) (i : ℕ) (e : K) (x : X) → zip (set ks i e) (set vs i x) ≡ set (zip ks vs) i (e, x)
  zip-set [] [] i e x = refl
  zip-set [] (v ∷ vs) i e x = refl
  zip-set (k ∷ ks) [] zero e x = refl
  zip-set (k ∷ ks) [] (suc i) e x = refl
  zip-set (k ∷ ks) (v ∷ vs) zero e x = refl
  zip-set (k ∷ ks) (v ∷ vs) (suc i) e x = ap (λ l. (k, v) ∷ l) (zip-set ks vs i e x)

  get_or-zip : (ks : List K) (vs : List X) (i : ℕ) (e : K) (x : X) → length vs ≡ length ks → get_or (zip ks vs) i (e, x) ≡ (get_or ks i e, get_or vs i x)
  get_or-zip [] [] i e x h = refl
  get_or-zip [] (v ∷ vs) i e x h = absurd (omega arith)
  get_or-zip (k ∷ ks) [] i e x h = absurd (omega arith)
  get_or-zip (k ∷ ks) (v ∷ vs) zero e x h = refl
  get_or-zip (k ∷ ks) (v ∷ vs) (suc i) e x h = get_or-zip ks vs i e x (omega arith)

  pub zip-swap : (ks : List K) (vs : List X) (i j : ℕ) → length vs ≡ length ks → zip (swap ks i j) (swap vs i j) ≡ swap (zip ks vs) i j
  zip-swap [] [] i j h = refl
  zip-swap [] (v ∷ vs) i j h = absurd (omega arith)
  zip-swap (k ∷ ks) [] i j h = absurd (omega arith)
  zip-swap (k ∷ ks) (v ∷ vs) i j h =
      let l : List K = k ∷ ks in
      let m : List X = v ∷ vs in
      zip-set (set l i (get_or l j k)) (set m i (get_or m j v)) j (get_or l i k) (get_or m i v)
      ∙ ap (λ z. set z j (get_or l i k, get_or m i v)) (zip-set l m i (get_or l j k) (get_or m j v))
      ∙ ap₂ (λ (a b : K × X). set (set (zip l m) i a) j b) (sym (get_or-zip l m j k v h)) (sym (get_or-zip l m i k v h))

  zip-take : (n : ℕ) (ks : List K) (vs : List X) → zip (take n ks) (take n vs) ≡ take n (zip ks vs)
  zip-take zero ks vs = refl
  zip-take (suc n) [] vs = refl
  zip-take (suc n) (k ∷ ks) [] = refl
  zip-take (suc n) (k ∷ ks) (v ∷ vs) = ap (λ l. (k, v) ∷ l) (zip-take n ks vs)

  pub zip-swap_popped : (ks : List K) (vs : List X) (place : ℕ) → length vs ≡ length ks → zip (swap_popped ks place) (swap_popped vs place) ≡ swap_popped (zip ks vs) place
  zip-swap_popped ks vs place h =
      let n : length vs - 1 ≡ length ks - 1 = omega arith in
      let m : length ks - 1 ≡ length (zip ks vs) - 1 = omega (arith, length-zip_same ks vs h) in
      ap (λ t. zip (swap_popped ks place) (take t (swap vs place t))) n
      ∙ zip-take (length ks - 1) (swap ks place (length ks - 1)) (swap vs place (length ks - 1))
      ∙ ap (take (length ks - 1)) (zip-swap ks vs place (length ks - 1) h)
      ∙ ap (λ t. take t (swap (zip ks vs) place t)) m
