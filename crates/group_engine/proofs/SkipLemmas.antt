-- A pass that goes from one place of the order to the next whose bit is set: what stands between is not entered, and not left.
use Rattle.std.proofs.Common.{◌≡◌, ℕ, zero, suc, ◌+◌, ◌-◌, ◌<◌, ◌≤◌, Bool, not, cond, List, take, drop, length, get_or, Some, slice_get, sym, ap, subst, ◌∙◌, inl, inr, arith}
use Rattle.std.specs.Int.{bit_at}
use Rattle.std.specs.List.{sum_by}
use Rattle.std.proofs.lemmas.Bool.{cases_lt}
use Rattle.std.proofs.lemmas.List.{take-take, drop-drop, take_all}
use Rattle.std.proofs.lemmas.List.Sums.{sum_by-take-le, sum_by-take-drop}
use Rattle.std.proofs.lemmas.Option.{slice_get-get_or}
use Rattle.entity_id.specs.declared.entity.Entity.{Entity}
use Rattle.world_model.specs.declared.group.GroupDecl.{GroupDecl}
use Rattle.world_model.specs.Groups.{has_pool}
use Rattle.group_engine.specs.Families.{IsFamily, IsOutermostFirst}
use Rattle.group_engine.specs.Masks.{may_enter, IsMask}
use Rattle.group_engine.specs.Moving.{AreMixed, matches_if, stays_in}
use Rattle.group_engine.proofs.MaskLemmas.{clear_fails}
use Rattle.group_engine.proofs.PassLemmas.{entering, leaving, passed_over, left_alone, mixed_alike}
use Rattle.group_engine.proofs.TestLemmas.{comes_concerned, goes_concerned}

-- what stays the same from each place to the next stays the same over all
all_alike : (decls : List GroupDecl) (f : ℕ → ℕ → GroupDecl → Bool) (i n : ℕ) → ((k : ℕ) → i ≤ k → k < i + n → (h : ℕ) (c : GroupDecl) → slice_get decls h ≡ Some c → f (k + 1) h c ≡ f k h c) → (h : ℕ) (c : GroupDecl) → slice_get decls h ≡ Some c → f (i + n) h c ≡ f i h c
all_alike decls f i zero each h c there = ap (λ k. f k h c) (let e : i + 0 ≡ i = omega arith in e)
all_alike decls f i (suc n) each h c there =
    ap (λ k. f k h c) (let e : i + suc n ≡ i + n + 1 = omega arith in e)
    ∙ each (i + n) (omega arith) (omega arith) h c there
    ∙ all_alike decls f i n (λ k low high. each k low (omega arith)) h c there

module _ (base now : List (List Entity)) (e : Entity) (p : ℕ) (held : Bool) (order lens : List ℕ) (decls : List GroupDecl) (family : IsFamily decls) (ordered : IsOutermostFirst decls order) (mask : ℕ) where
  not_entered : IsMask mask decls order (may_enter p held) → (i : ℕ) → bit_at mask i ≡ 0 → (h : ℕ) (c : GroupDecl) → slice_get decls h ≡ Some c → entering base e p held order (i + 1) h c ≡ entering base e p held order i h c
  not_entered is i clear h c there = elim (cases_lt i (length order)) [
    | inl low ↦
        let g = get_or order i 0 in
        let at : slice_get order i ≡ Some g = slice_get-get_or order i 0 low in
        let here : slice_get decls g ≡ Some (get_or decls g c) = slice_get-get_or decls g c (ordered.within i g at) in
        passed_over base e p held order decls family ordered i g (get_or decls g c) at here
        (comes_concerned base e p (get_or decls g c) held (clear_fails decls order (may_enter p held) mask is i g (get_or decls g c) at here clear)) h c there
    | inr past ↦ ap (λ l. cond (has_pool l h) (matches_if base e p held c) (stays_in base e p held c)) (take_all (i + 1) order (omega arith) ∙ sym (take_all i order past))
  ]

  not_left : IsMask mask decls order (may_enter p (not held)) → (i : ℕ) → bit_at mask i ≡ 0 → (h : ℕ) (c : GroupDecl) → slice_get decls h ≡ Some c → leaving base e p held order (i + 1) h c ≡ leaving base e p held order i h c
  not_left is i clear h c there = elim (cases_lt i (length order)) [
    | inl low ↦
        let g = get_or order i 0 in
        let at : slice_get order i ≡ Some g = slice_get-get_or order i 0 low in
        let here : slice_get decls g ≡ Some (get_or decls g c) = slice_get-get_or decls g c (ordered.within i g at) in
        sym (left_alone base e p held order decls family ordered i g (get_or decls g c) at here
        (goes_concerned base e p (get_or decls g c) held (clear_fails decls order (may_enter p (not held)) mask is i g (get_or decls g c) at here clear)) h c there)
    | inr past ↦ ap (λ l. cond (has_pool l h) (matches_if base e p (not held) c) (stays_in base e p held c)) (take_all (i + 1) order (omega arith) ∙ sym (take_all i order past))
  ]

  pub enters_none_between : IsMask mask decls order (may_enter p held) → (i j : ℕ) → i ≤ j → ((k : ℕ) → i ≤ k → k < j → bit_at mask k ≡ 0) → AreMixed decls lens base now e (entering base e p held order i) → AreMixed decls lens base now e (entering base e p held order j)
  enters_none_between is i j up clear mixed =
      let far : i + (j - i) ≡ j = omega arith in
      subst (λ k. AreMixed decls lens base now e (entering base e p held order k)) far
      (mixed_alike decls lens base now e (entering base e p held order i) (entering base e p held order (i + (j - i))) mixed
      (all_alike decls (entering base e p held order) i (j - i) (λ k low high. not_entered is k (clear k low (omega arith)))))

  pub leaves_none_between : IsMask mask decls order (may_enter p (not held)) → (i j : ℕ) → i ≤ j → ((k : ℕ) → i ≤ k → k < j → bit_at mask k ≡ 0) → AreMixed decls lens base now e (leaving base e p held order j) → AreMixed decls lens base now e (leaving base e p held order i)
  leaves_none_between is i j up clear mixed =
      let far : j ≡ i + (j - i) = omega arith in
      mixed_alike decls lens base now e (leaving base e p held order (i + (j - i))) (leaving base e p held order i)
      (subst (λ k. AreMixed decls lens base now e (leaving base e p held order k)) far mixed)
      (λ h c there. sym (all_alike decls (leaving base e p held order) i (j - i) (λ k low high. not_left is k (clear k low (omega arith))) h c there))

-- ---- the steps so far

pub sum_to : (f : ℕ → ℕ) (order : List ℕ) (i j : ℕ) → i ≤ j → sum_by f (take i order) ≤ sum_by f (take j order)
sum_to f order i j up = subst (λ l. sum_by f l ≤ sum_by f (take j order)) (take-take i j order up) (sum_by-take-le f (take j order) i)

pub sum_from : (f : ℕ → ℕ) (order : List ℕ) (i j : ℕ) → i ≤ j → sum_by f (drop j order) ≤ sum_by f (drop i order)
sum_from f order i j up =
    let whole : sum_by f (take (j - i) (drop i order)) + sum_by f (drop (j - i) (drop i order)) ≡ sum_by f (drop i order) = sum_by-take-drop f (drop i order) (j - i) in
    let far : drop (j - i) (drop i order) ≡ drop j order = drop-drop (j - i) i order ∙ ap (λ k. drop k order) (let e : i + (j - i) ≡ j = omega arith in e) in
    let same : sum_by f (drop (j - i) (drop i order)) ≡ sum_by f (drop j order) = ap (sum_by f) far in
    omega arith
