-- The leading set: the first of the smallest.
use Rattle.std.proofs.Common.{◌≡◌, ℕ, zero, suc, ◌+◌, ◌<◌, ◌≤◌, Bool, true, false, cond, List, [], ◌∷◌, get_or, map, length, Some, slice_get, sym, refl, ap, ◌∙◌, subst, arith}
use Rattle.std.specs.Prelude.{nat_lt}
use Rattle.std.specs.Option.{unwrap_or}
use Rattle.std.specs.List.{list_all, position_from, IsFirstBest}
use Rattle.std.proofs.lemmas.Bool.{ltb-true, ltb-false, leb-true, le-leb, false_from_ne_true, and_from, and_parts}
use Rattle.std.proofs.lemmas.List.{length-map}
use Rattle.std.proofs.lemmas.List.MinMax.{IsStrictWeakOrder-by_number, IsFirstBest-from_best_of}
use Rattle.std.proofs.lemmas.Option.{none-some, same_Some, slice_get_within, slice_get-get_or}
use Rattle.entity_id.specs.declared.entity.Entity.{Entity}
use Rattle.pool_view.specs.ViewedSets.{is_smallest, leading_place, leading_set}

-- the first place at which a test passes
position_first : {X : Type 0} (t : X → Bool) (xs : List X) (n k : ℕ) (x : X) → slice_get xs k ≡ Some x → t x ≡ true → ((j : ℕ) (y : X) → j < k → slice_get xs j ≡ Some y → t y ≡ false) → position_from t n xs ≡ Some (n + k)
position_first t [] n k x here passes before = absurd (none-some x here)
position_first t (y ∷ xs) n zero x here passes before = ap (λ b. cond b (Some n) (position_from t (n + 1) xs)) (ap t (same_Some y x here) ∙ passes) ∙ ap Some (let e : n ≡ n + 0 = omega arith in e)
position_first t (y ∷ xs) n (suc k) x here passes before =
    ap (λ b. cond b (Some n) (position_from t (n + 1) xs)) (before zero y (omega arith) refl)
    ∙ position_first t xs (n + 1) k x here passes (λ j z low at. before (suc j) z (omega arith) at)
    ∙ ap Some (let e : n + 1 + k ≡ n + suc k = omega arith in e)

all_by_place : {X : Type 0} (t : X → Bool) (xs : List X) → ((k : ℕ) (x : X) → slice_get xs k ≡ Some x → t x ≡ true) → list_all t xs ≡ true
all_by_place t [] each = refl
all_by_place t (x ∷ xs) each = and_from _ _ (each zero x refl) (all_by_place t xs (λ k y at. each (suc k) y at))

pub all_at_place : {X : Type 0} (t : X → Bool) (xs : List X) (k : ℕ) (x : X) → list_all t xs ≡ true → slice_get xs k ≡ Some x → t x ≡ true
all_at_place t [] k x all here = absurd (none-some x here)
all_at_place t (y ∷ xs) zero x all here = ap t (sym (same_Some y x here)) ∙ (and_parts _ _ all).0
all_at_place t (y ∷ xs) (suc k) x all here = all_at_place t xs k x (and_parts _ _ all).1 here

size_at : (sets : List (List Entity)) (k : ℕ) (set : List Entity) → slice_get sets k ≡ Some set → get_or (map length sets) k 0 ≡ length set
size_at [] k set here = absurd (none-some set here)
size_at (x ∷ sets) zero set here = ap length (same_Some x set here)
size_at (x ∷ sets) (suc k) set here = size_at sets k set here

-- the first of the least sizes is the leading place
module _ (sets : List (List Entity)) (n b : ℕ) (h : IsFirstBest nat_lt (map length sets) n b) (all : n ≡ length sets) where
  abbrev lead : List Entity
  lead = get_or sets b []

  here : slice_get sets b ≡ Some lead
  here = slice_get-get_or sets b [] (omega (arith, h.0, all))

  pub least : (k : ℕ) (set : List Entity) → slice_get sets k ≡ Some set → length lead ≤ length set
  least k set at =
      let low : k < n = omega (arith, all, slice_get_within sets k set at) in
      let sizes : get_or (map length sets) b 0 ≤ get_or (map length sets) k 0 = ltb-false _ _ (h.1 k 0 low) in
      omega (arith, sizes, size_at sets k set at, size_at sets b lead here)

  pub first : (k : ℕ) (set : List Entity) → k < b → slice_get sets k ≡ Some set → length lead < length set
  first k set low at =
      let sizes : get_or (map length sets) b 0 < get_or (map length sets) k 0 = ltb-true _ _ (h.2 k 0 low) in
      omega (arith, sizes, size_at sets k set at, size_at sets b lead here)

  pub is_leading : b ≡ leading_place sets
  is_leading =
      let smallest : is_smallest sets lead ≡ true = all_by_place _ sets (λ k set at. le-leb (length lead) (length set) (least k set at)) in
      let before : (j : ℕ) (y : List Entity) → j < b → slice_get sets j ≡ Some y → is_smallest sets y ≡ false =
      λ j y low at. false_from_ne_true (is_smallest sets y) (λ none.
      let over : length y ≤ length lead = leb-true _ _ (all_at_place _ sets b lead none here) in
      omega (arith, over, first j y low at)) in
      sym (ap (λ p. unwrap_or p 0) (position_first (is_smallest sets) sets 0 b lead here smallest before) ∙ (let e : 0 + b ≡ b = omega arith in e))

-- some set leads, where there is one
leads : (sets : List (List Entity)) → 0 < length sets → (b : ℕ) × IsFirstBest nat_lt (map length sets) (length sets) b
leads [] some = absurd (omega arith)
leads (set ∷ sets) some =
    let best = IsFirstBest-from_best_of (IsStrictWeakOrder-by_number (λ (n : ℕ). n)) (length set) (map length sets) in
    (best.0, subst (λ n. IsFirstBest nat_lt (length set ∷ map length sets) n best.0) (length-map (set ∷ sets) length) best.1)

pub leading_within : (sets : List (List Entity)) → 0 < length sets → leading_place sets < length sets
leading_within sets some =
    let best = leads sets some in
    subst (λ b. b < length sets) (is_leading sets (length sets) best.0 best.1 refl) best.1.0

pub leading_smallest : (sets : List (List Entity)) (k : ℕ) (set : List Entity) → slice_get sets k ≡ Some set → length (leading_set sets) ≤ length set
leading_smallest sets k set at =
    let best = leads sets (omega (arith, slice_get_within sets k set at)) in
    subst (λ b. length (get_or sets b []) ≤ length set) (is_leading sets (length sets) best.0 best.1 refl) (least sets (length sets) best.0 best.1 refl k set at)

pub leading_first : (sets : List (List Entity)) (k : ℕ) (set : List Entity) → k < leading_place sets → slice_get sets k ≡ Some set → length (leading_set sets) < length set
leading_first sets k set low at =
    let best = leads sets (omega (arith, slice_get_within sets k set at)) in
    let is = is_leading sets (length sets) best.0 best.1 refl in
    subst (λ b. length (get_or sets b []) < length set) is (first sets (length sets) best.0 best.1 refl k set (omega (arith, low, is)) at)
