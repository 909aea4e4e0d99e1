-- Lists that are put in an order by exchanges, from the first place on.
use Rattle.std.proofs.Common.{◌≡◌, ℕ, zero, suc, ◌+◌, ◌<◌, ◌≤◌, List, [], ◌∷◌, ◌++◌, take, drop, length, Some, IfSome, slice_get, sym, refl, subst, ap, ◌∙◌, inl, inr, arith, length-take}
use Rattle.std.specs.List.{swap}
use Rattle.std.specs.List.Sorted.{IsPermutation}
use Rattle.std.proofs.lemmas.Bool.{cases_eq, cases_lt}
use Rattle.std.proofs.lemmas.List.Sorted.{IsPermutation-keeps, IsPermutation-sym, length_permutation}
use Rattle.std.proofs.lemmas.Option.{slice_get_within, slice_get-get_or}
use Rattle.entity_id.specs.declared.entity.Entity.{Entity}
use Rattle.entity_id.specs.FiniteMap.{AreDistinctBy}
use Rattle.entity_id.specs.PackedLists.{place_of}
use Rattle.entity_id.proofs.ListLemmas.{slice_get-append, equal_by_place}
use Rattle.entity_id.proofs.PackedListLemmas.{at_taken, swapped_to, swapped_from, swap-second, swap-other, length-swap, distinct-swap, distinct-take, distinct-permutation, place_found}

-- the list is in the order below a place: what stands there, what stands behind the order, and where the rest of the order stands
pub record IsArranged {X : Type 0} (number : X → ℕ) (old order now : List X) (place : ℕ) : Type 0 where
  pub within : place ≤ length order
  pub done : (k : ℕ) → k < place → slice_get now k ≡ slice_get order k
  pub rest : (k : ℕ) → length order ≤ k → slice_get now k ≡ slice_get old k
  pub there : (k : ℕ) (x : X) → slice_get order k ≡ Some x → (j : ℕ) × (slice_get now j ≡ Some x) × (j < length order)
  pub once : AreDistinctBy number now
  pub order_once : AreDistinctBy number order
  pub len : length now ≡ length old
  pub fits : length order ≤ length old

module _ {X : Type 0} (number : X → ℕ) (old order : List X) where
  -- what stands somewhere after exchanges stood somewhere before
  stood_somewhere : (base xs : List X) → IsPermutation base xs → (k : ℕ) (x : X) → slice_get xs k ≡ Some x → (j : ℕ) × (slice_get base j ≡ Some x)
  stood_somewhere base xs h = IsPermutation-keeps base (λ l. (k : ℕ) (x : X) → slice_get l k ≡ Some x → (j : ℕ) × (slice_get base j ≡ Some x)) (λ k x g. (k, g)) step xs h
    where
      step : (l : List X) (i j : ℕ) → i < length l → j < length l → ((k : ℕ) (x : X) → slice_get l k ≡ Some x → (m : ℕ) × (slice_get base m ≡ Some x)) → (k : ℕ) (x : X) → slice_get (swap l i j) k ≡ Some x → (m : ℕ) × (slice_get base m ≡ Some x)
      step [] i j p q before k x g = absurd (omega arith)
      step (d ∷ l) i j p q before k x g =
          let from = swapped_from (d ∷ l) i j _ _ (slice_get-get_or (d ∷ l) i d p) (slice_get-get_or (d ∷ l) j d q) k x g in
          before from.0 x from.1

  pub arranged_start : IsPermutation order (take (length order) old) → AreDistinctBy number old → IsArranged number old order old 0
  arranged_start h once =
      let n = length order in
      let back : IsPermutation (take n old) order = IsPermutation-sym order (take n old) h in
      let long : length (take n old) ≡ n = length_permutation order (take n old) h in
      record {
        within = omega arith;
        done = λ k low. absurd (omega arith);
        rest = λ k high. refl;
        there = λ k x g. let at = stood_somewhere (take n old) order back k x g in let here = at_taken n old at.0 x at.1 in (at.0, here.1, here.0);
        once = once;
        order_once = distinct-permutation number (take n old) order back (distinct-take number n old once);
        len = refl;
        fits = omega (arith, long, length-take n old);
      }

  -- the next of the order brought to its place
  pub arranged_more : (now : List X) (place at : ℕ) (x : X) → IsArranged number old order now place → slice_get order place ≡ Some x → slice_get now at ≡ Some x → IsArranged number old order (swap now at place) (place + 1)
  arranged_more now place at x h next here =
      let low : place < length order = slice_get_within order place x next in
      let behind : place ≤ at = elim (cases_lt at place) [
        | inl before ↦ (let same : at ≡ place = h.order_once at place x x (sym (h.done at before) ∙ here) next refl in omega arith)
        | inr after ↦ after
      ] in
      let found = h.there place x next in
      let same : at ≡ found.0 = h.once at found.0 x x here found.1 refl in
      let inside : at < length order = let w : found.0 < length order = found.2 in omega arith in
      let in_place : place < length now = omega (arith, h.len, h.fits) in
      stepped in_place low behind inside
    where
      stepped : place < length now → place < length order → place ≤ at → at < length order → IsArranged number old order (swap now at place) (place + 1)
      stepped in_place low behind inside =
          elim now as (λ l. l ≡ now → IsArranged number old order (swap now at place) (place + 1)) [
            | [] ↦ λ is. absurd (let z : length now ≡ 0 = ap length (sym is) in omega arith)
            | d ∷ l ↦ λ is. from_other (slice_get-get_or now place d in_place)
          ] refl
        where
          from_other : {y : X} → slice_get now place ≡ Some y → IsArranged number old order (swap now at place) (place + 1)
          from_other {y = y} hy = record {
            within = omega arith;
            done = λ k below. elim (cases_eq k place) [
              | inl last ↦ ap (slice_get (swap now at place)) last ∙ swap-second now at place x here in_place ∙ sym (ap (slice_get order) last ∙ next)
              | inr apart ↦ let small : k < place = omega arith in swap-other now at place k (λ e. omega arith) apart ∙ h.done k small
            ];
            rest = λ k high. swap-other now at place k (λ e. omega arith) (λ e. omega arith) ∙ h.rest k high;
            there = λ k z g.
                let was = h.there k z g in
                let to = swapped_to now at place x y here hy was.0 z was.1 in
                (to.0, to.1, to.2 (length order) inside low was.2);
            once = distinct-swap number now h.once at place x y here hy;
            order_once = h.order_once;
            len = length-swap now at place ∙ h.len;
            fits = h.fits;
          }

  pub arranged_end : (now : List X) (place : ℕ) → length order ≤ place → IsArranged number old order now place → now ≡ order ++ drop (length order) old
  arranged_end now place all h = equal_by_place now (order ++ drop (length order) old) (λ k. elim (cases_lt k (length order)) [
    | inl below ↦ h.done k (omega arith) ∙ sym (slice_get-append order (drop (length order) old) k below)
    | inr above ↦ h.rest k above ∙ sym (behind order old k h.fits above)
  ])
    where
      behind : (xs ys : List X) (k : ℕ) → length xs ≤ length ys → length xs ≤ k → slice_get (xs ++ drop (length xs) ys) k ≡ slice_get ys k
      behind [] ys k p q = refl
      behind (x ∷ xs) [] k p q = absurd (omega arith)
      behind (x ∷ xs) (y ∷ ys) zero p q = absurd (omega arith)
      behind (x ∷ xs) (y ∷ ys) (suc k) p q = behind xs ys k (omega arith) (omega arith)

-- the next identifier of the order brought from where it stands
pub arranged_by_place : (old order now new : List Entity) (place : ℕ) (e : Entity) → IsArranged (λ (v : Entity). v.index) old order now place → slice_get order place ≡ Some e → IfSome (place_of now e) (λ at. new ≡ swap now at place) → IsArranged (λ (v : Entity). v.index) old order new (place + 1)
arranged_by_place old order now new place e h next moved =
    let at = h.there place e next in
    let found : place_of now e ≡ Some at.0 = place_found now h.once e at.0 at.1 in
    let is : new ≡ swap now at.0 place = subst (λ o. IfSome o (λ k. new ≡ swap now k place)) found moved in
    subst (λ l. IsArranged (λ (v : Entity). v.index) old order l (place + 1)) (sym is) (arranged_more (λ (v : Entity). v.index) old order now place at.0 e h next at.1)
