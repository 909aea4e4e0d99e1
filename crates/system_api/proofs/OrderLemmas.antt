-- Orders along a packed list, and along its map.
use Rattle.std.proofs.Common.{◌≡◌, ◌≢◌, ℕ, suc, ◌<◌, ◌≤◌, ◌==◌, Bool, true, false, cond, List, [], ◌∷◌, ◌++◌, map, filter, Some, refl, sym, ap, ap₂, ◌∙◌, subst, arith, eqb, eq-eqb}
use Rattle.std.specs.Prelude.{slice_get, nat_lt}
use Rattle.std.specs.List.{AllByRecursion}
use Rattle.std.proofs.lemmas.Bool.{eqb-true, ltb-true, ltb-false, lt-ltb}
use Rattle.std.proofs.lemmas.List.{map-append}
use Rattle.entity_id.specs.declared.entity.Entity.{Entity}
use Rattle.entity_id.specs.FiniteMap as entries
use Rattle.entity_id.proofs.ListLemmas.{all-append}
use Rattle.entity_id.proofs.PackedMapLemmas.{ascending-map_of, rest_once}
use Rattle.world_model.specs.declared.deferred.Deferred.{Deferred}
use Rattle.system_api.specs.Settling.{of_number, NeverFalls}
use Rattle.system_api.proofs.SettledLemmas.{one-list}
use Rattle.system_api.specs.Emissions.{Emission, GiveTheSame, SettlesAs, emissions_for, emissions_along, orders_along}
use lib.Dec.{ltb}

-- ---- filters

kept : {X : Type 0} (b : Bool) (x : X) (xs ys zs : List X) → xs ≡ ys ++ zs → cond b (x ∷ xs) xs ≡ cond b (x ∷ ys) ys ++ zs
kept true x xs ys zs e = ap (λ us. x ∷ us) e
kept false x xs ys zs e = e

filter-append : {X : Type 0} (p : X → Bool) (xs ys : List X) → filter p (xs ++ ys) ≡ filter p xs ++ filter p ys
filter-append p [] ys = refl
filter-append p (x ∷ xs) ys = kept (p x) x _ (filter p xs) (filter p ys) (filter-append p xs ys)

-- a filter after one that it implies
within-step : {X : Type 0} (b c : Bool) (p : X → Bool) (x : X) (qs ps : List X) → p x ≡ c → (c ≡ true → b ≡ true) → filter p qs ≡ ps → filter p (cond b (x ∷ qs) qs) ≡ cond c (x ∷ ps) ps
within-step true true p x qs ps e h is = ap (λ (d : Bool). cond d (x ∷ filter p qs) (filter p qs)) e ∙ ap (λ zs. x ∷ zs) is
within-step true false p x qs ps e h is = ap (λ (d : Bool). cond d (x ∷ filter p qs) (filter p qs)) e ∙ is
within-step false true p x qs ps e h is = let no = h refl in absurd (cc)
within-step false false p x qs ps e h is = is

within : {X : Type 0} (p q : X → Bool) (xs : List X) → ((x : X) → p x ≡ true → q x ≡ true) → filter p (filter q xs) ≡ filter p xs
within p q [] h = refl
within p q (x ∷ xs) h = within-step (q x) (p x) p x (filter q xs) (filter p xs) refl (h x) (within p q xs h)

-- a filter after one that excludes it
without-step : {X : Type 0} (b : Bool) (p : X → Bool) (x : X) (qs : List X) → (b ≡ true → p x ≡ false) → filter p qs ≡ [] → filter p (cond b (x ∷ qs) qs) ≡ []
without-step true p x qs h is = ap (λ (d : Bool). cond d (x ∷ filter p qs) (filter p qs)) (h refl) ∙ is
without-step false p x qs h is = is

without : {X : Type 0} (p q : X → Bool) (xs : List X) → ((x : X) → q x ≡ true → p x ≡ false) → filter p (filter q xs) ≡ []
without p q [] h = refl
without p q (x ∷ xs) h = without-step (q x) p x (filter q xs) (h x) (without p q xs h)

none-step : {X : Type 0} (b : Bool) (x : X) (ps : List X) → b ≡ false → ps ≡ [] → cond b (x ∷ ps) ps ≡ []
none-step true x ps e is = absurd (cc)
none-step false x ps e is = is

ne-eqb : (a b : ℕ) (c : Bool) → eqb a b ≡ c → a ≢ b → eqb a b ≡ false
ne-eqb a b true e ne = absurd (ne (eqb-true a b e))
ne-eqb a b false e ne = e

zero-suc : (k : ℕ) → 0 ≡ suc k → ⊥
zero-suc k e = absurd (omega arith)

module _ {X : Type 0} where
  -- no other entry has the index of the first one
  none-left : (xs : List (Entity × X)) (i : ℕ) → ((k : ℕ) (y : Entity × X) → slice_get xs k ≡ Some y → y.0.index ≢ i) → filter (λ entry. entry.0.index == i) xs ≡ []
  none-left [] i h = refl
  none-left (x ∷ xs) i h = none-step (eqb x.0.index i) x (filter (λ entry. entry.0.index == i) xs) (ne-eqb x.0.index i (eqb x.0.index i) refl (h 0 x refl)) (none-left xs i (λ k y is. h (suc k) y is))

  alone : (x : Entity × X) (xs : List (Entity × X)) → entries.HasEachOnce (x ∷ xs) → filter (λ entry. entry.0.index == x.0.index) xs ≡ []
  alone x xs once = none-left xs x.0.index (λ k y is same. zero-suc k (once 0 (suc k) x y refl is (sym same)))

  -- those of one index, in the pairs and in their map
  put-here : (m : List (Entity × X)) (e : Entity) (v : X) → filter (λ entry. entry.0.index == e.index) (entries.put m e v) ≡ (e, v) ∷ []
  put-here m e v =
      filter-append (λ entry. entry.0.index == e.index) (filter (λ entry. nat_lt entry.0.index e.index) m) ((e, v) ∷ filter (λ entry. nat_lt e.index entry.0.index) m)
      ∙ ap₂ (λ (a b : List (Entity × X)). a ++ b) (without (λ entry. entry.0.index == e.index) (λ entry. nat_lt entry.0.index e.index) m (λ x low. ne-eqb x.0.index e.index _ refl (λ same. absurd (omega (arith, ltb-true x.0.index e.index low, same)))))
      (ap (λ (b : Bool). cond b ((e, v) ∷ filter (λ entry. entry.0.index == e.index) (filter (λ entry. nat_lt e.index entry.0.index) m)) (filter (λ entry. entry.0.index == e.index) (filter (λ entry. nat_lt e.index entry.0.index) m))) (eq-eqb e.index e.index refl)
      ∙ ap (λ es. (e, v) ∷ es) (without (λ entry. entry.0.index == e.index) (λ entry. nat_lt e.index entry.0.index) m (λ x high. ne-eqb x.0.index e.index _ refl (λ same. absurd (omega (arith, ltb-true e.index x.0.index high, same))))))

  append-none : (xs : List (Entity × X)) → xs ++ [] ≡ xs
  append-none [] = refl
  append-none (x ∷ xs) = ap (λ ys. x ∷ ys) (append-none xs)

  put-other : (b : Bool) (m : List (Entity × X)) (e : Entity) (v : X) (i : ℕ) → ltb i e.index ≡ b → e.index ≢ i → filter (λ entry. entry.0.index == i) (entries.put m e v) ≡ filter (λ entry. entry.0.index == i) m
  put-other true m e v i low ne =
      let less : i < e.index = ltb-true i e.index low in
      filter-append (λ entry. entry.0.index == i) (filter (λ entry. nat_lt entry.0.index e.index) m) ((e, v) ∷ filter (λ entry. nat_lt e.index entry.0.index) m)
      ∙ ap₂ (λ (a b : List (Entity × X)). a ++ b) (within (λ entry. entry.0.index == i) (λ entry. nat_lt entry.0.index e.index) m (λ x is. lt-ltb x.0.index e.index (omega (arith, eqb-true x.0.index i is, less))))
      (none-step (eqb e.index i) (e, v) _ (ne-eqb e.index i _ refl ne) (without (λ entry. entry.0.index == i) (λ entry. nat_lt e.index entry.0.index) m (λ x high. ne-eqb x.0.index i _ refl (λ same. absurd (omega (arith, ltb-true e.index x.0.index high, same, less))))))
      ∙ append-none (filter (λ entry. entry.0.index == i) m)
  put-other false m e v i low ne =
      let more : e.index < i = let le = ltb-false i e.index low in omega (arith, le, ne) in
      filter-append (λ entry. entry.0.index == i) (filter (λ entry. nat_lt entry.0.index e.index) m) ((e, v) ∷ filter (λ entry. nat_lt e.index entry.0.index) m)
      ∙ ap₂ (λ (a b : List (Entity × X)). a ++ b) (without (λ entry. entry.0.index == i) (λ entry. nat_lt entry.0.index e.index) m (λ x below. ne-eqb x.0.index i _ refl (λ same. absurd (omega (arith, ltb-true x.0.index e.index below, same, more)))))
      (ap (λ (b : Bool). cond b ((e, v) ∷ filter (λ entry. entry.0.index == i) (filter (λ entry. nat_lt e.index entry.0.index) m)) (filter (λ entry. entry.0.index == i) (filter (λ entry. nat_lt e.index entry.0.index) m))) (ne-eqb e.index i _ refl ne)
      ∙ within (λ entry. entry.0.index == i) (λ entry. nat_lt e.index entry.0.index) m (λ x is. lt-ltb e.index x.0.index (omega (arith, eqb-true x.0.index i is, more))))

  same-step : (b : Bool) (x : Entity × X) (xs : List (Entity × X)) (i : ℕ) → eqb x.0.index i ≡ b → filter (λ entry. entry.0.index == x.0.index) xs ≡ [] → filter (λ entry. entry.0.index == i) xs ≡ filter (λ entry. entry.0.index == i) (entries.map_of xs)
      → cond b (x ∷ filter (λ entry. entry.0.index == i) xs) (filter (λ entry. entry.0.index == i) xs) ≡ filter (λ entry. entry.0.index == i) (entries.put (entries.map_of xs) x.0 x.1)
  same-step true x xs i e only is =
      let same : x.0.index ≡ i = eqb-true x.0.index i e in
      subst (λ (j : ℕ). x ∷ filter (λ entry. entry.0.index == j) xs ≡ filter (λ entry. entry.0.index == j) (entries.put (entries.map_of xs) x.0 x.1)) same (ap (λ es. x ∷ es) only ∙ sym (put-here (entries.map_of xs) x.0 x.1))
  same-step false x xs i e only is = is ∙ sym (put-other (ltb i x.0.index) (entries.map_of xs) x.0 x.1 i refl (λ same. let f = eq-eqb x.0.index i same in absurd (cc)))

  same-entries : (pairs : List (Entity × X)) (i : ℕ) → entries.HasEachOnce pairs → filter (λ entry. entry.0.index == i) pairs ≡ filter (λ entry. entry.0.index == i) (entries.map_of pairs)
  same-entries [] i once = refl
  same-entries (x ∷ xs) i once = same-step (eqb x.0.index i) x xs i refl (alone x xs once) (same-entries xs i (rest_once x xs once))

  module _ (give : Entity → X → List Deferred) where
    tag-step : (b : Bool) (n i : ℕ) (os : List Deferred) → eqb n i ≡ b → of_number (λ (entry : Emission). entry.index) i (map (λ order. record { index = n; order = order }) os) ≡ cond {A = List (Emission)} b (map (λ order. record { index = n; order = order }) os) []
    tag-step true n i [] e = refl
    tag-step false n i [] e = refl
    tag-step true n i (o ∷ os) e = ap (λ (b : Bool). cond {A = List (Emission)} b (record { index = n; order = o } ∷ of_number (λ (entry : Emission). entry.index) i (map (λ order. record { index = n; order = order }) os)) (of_number (λ (entry : Emission). entry.index) i (map (λ order. record { index = n; order = order }) os))) e ∙ ap (λ es. record { index = n; order = o } ∷ es) (tag-step true n i os e)
    tag-step false n i (o ∷ os) e = ap (λ (b : Bool). cond {A = List (Emission)} b (record { index = n; order = o } ∷ of_number (λ (entry : Emission). entry.index) i (map (λ order. record { index = n; order = order }) os)) (of_number (λ (entry : Emission). entry.index) i (map (λ order. record { index = n; order = order }) os))) e ∙ tag-step false n i os e

    emit-step : (b : Bool) (x : Entity × X) (ys : List (Entity × X)) → cond {A = List (Emission)} b (emissions_for give x) [] ++ emissions_along give ys ≡ emissions_along give (cond b (x ∷ ys) ys)
    emit-step true x ys = refl
    emit-step false x ys = refl

    of-emitted : (xs : List (Entity × X)) (i : ℕ) → of_number (λ (entry : Emission). entry.index) i (emissions_along give xs) ≡ emissions_along give (filter (λ entry. entry.0.index == i) xs)
    of-emitted [] i = refl
    of-emitted (x ∷ xs) i =
        filter-append (λ (entry : Emission). entry.index == i) (emissions_for give x) (emissions_along give xs)
        ∙ ap₂ (λ (a b : List (Emission)). a ++ b) (tag-step (eqb x.0.index i) x.0.index i (give x.0 x.1) refl) (of-emitted xs i)
        ∙ emit-step (eqb x.0.index i) x (filter (λ entry. entry.0.index == i) xs)

    all-tagged : (n k : ℕ) (os : List Deferred) → n ≤ k → AllByRecursion (λ (y : Emission). n ≤ y.index) (map (λ order. record { index = k; order = order }) os)
    all-tagged n k [] h = tt
    all-tagged n k (o ∷ os) h = (h, all-tagged n k os h)

    all-emitted : (n : ℕ) (xs : List (Entity × X)) → AllByRecursion (λ y. n < y.0.index) xs → AllByRecursion (λ (y : Emission). n ≤ y.index) (emissions_along give xs)
    all-emitted n [] all = tt
    all-emitted n (x ∷ xs) all = all-append (λ (y : Emission). n ≤ y.index) (emissions_for give x) (emissions_along give xs) (all-tagged n x.0.index (give x.0 x.1) (omega (arith, all.0))) (all-emitted n xs all.1)

    falls-tagged : (n : ℕ) (os : List Deferred) (rest : List (Emission)) → AllByRecursion (λ (y : Emission). n ≤ y.index) rest → NeverFalls (λ (entry : Emission). entry.index) rest → NeverFalls (λ (entry : Emission). entry.index) (map (λ order. record { index = n; order = order }) os ++ rest)
    falls-tagged n [] rest all falls = falls
    falls-tagged n (o ∷ os) rest all falls = (all-append (λ (y : Emission). n ≤ y.index) (map (λ order. record { index = n; order = order }) os) rest (all-tagged n n os (omega arith)) all, falls-tagged n os rest all falls)

    falls-emitted : (xs : List (Entity × X)) → entries.IsAscending xs → NeverFalls (λ (entry : Emission). entry.index) (emissions_along give xs)
    falls-emitted [] up = tt
    falls-emitted (x ∷ xs) up = falls-tagged x.0.index (give x.0 x.1) (emissions_along give xs) (all-emitted x.0.index xs up.0) (falls-emitted xs up.1)

    orders-tagged : (n : ℕ) (os : List Deferred) → map (λ (entry : Emission). entry.order) (map (λ order. record { index = n; order = order }) os) ≡ os
    orders-tagged n [] = refl
    orders-tagged n (o ∷ os) = ap (λ es. o ∷ es) (orders-tagged n os)

    orders-emitted : (xs : List (Entity × X)) → map (λ (entry : Emission). entry.order) (emissions_along give xs) ≡ orders_along give xs
    orders-emitted [] = refl
    orders-emitted (x ∷ xs) = map-append (λ (entry : Emission). entry.order) (emissions_for give x) (emissions_along give xs) ∙ ap₂ (λ (a b : List Deferred). a ++ b) (orders-tagged x.0.index (give x.0 x.1)) (orders-emitted xs)

    -- whatever is given in the order of the pairs, index by index, is settled as the orders along the map
    pub settles_in_order : (pairs : List (Entity × X)) (given : List Emission) → entries.HasEachOnce pairs → GiveTheSame given (emissions_along give pairs) → SettlesAs given (orders_along give (entries.map_of pairs))
    settles_in_order pairs given once same = λ settled is.
        ap (map (λ (entry : Emission). entry.order)) (one-list (λ (entry : Emission). entry.index) settled (emissions_along give (entries.map_of pairs)) is.ascending (falls-emitted (entries.map_of pairs) (ascending-map_of pairs))
        (λ i. is.parts i ∙ same i ∙ of-emitted pairs i ∙ ap (emissions_along give) (same-entries pairs i once) ∙ sym (of-emitted (entries.map_of pairs) i)))
        ∙ orders-emitted (entries.map_of pairs)
