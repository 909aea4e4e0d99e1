-- Lawful groups of a world are a family.
use Rattle.std.proofs.Common.{◌≡◌, ◌≢◌, ◌⊎◌, ℕ, zero, suc, ◌+◌, ◌<◌, ◌≤◌, Bool, true, false, not, ◌&&◌, ◌||◌, eqb, List, [], ◌∷◌, ◌++◌, length, get_or, Some, slice_get, sym, refl, ap, ap₂, subst, ◌∙◌, inl, inr, arith}
use Rattle.std.specs.Prelude.{AllPairs}
use Rattle.std.specs.List.{list_any}
use Rattle.std.proofs.Math.Dec.{ltb}
use Rattle.std.proofs.lemmas.Bool.{cases_Bool, cases_lt, false≢true, ltb-true, and_parts, and_from, not-true, or_left, or_right}
use Rattle.std.proofs.lemmas.List.Folds.{list_any-append}
use Rattle.std.proofs.lemmas.Option.{same_Some, slice_get_within, get_or_from_slice_get, none-some}
use Rattle.entity_id.specs.FiniteMap.{AreDistinctBy}
use Rattle.entity_id.proofs.ListLemmas.{all_at}
use Rattle.world_model.specs.declared.group.GroupDecl.{GroupDecl}
use Rattle.world_model.specs.Groups.{has_pool, are_distinct, group_pools, is_inner, is_same_group, is_apart, groups_conflict, may_coexist, is_well_formed, AreLawfulGroups}
use Rattle.group_rules.specs.Families.{AreLawfulTogether}
use Rattle.group_engine.specs.Families.{StandsTo, apart_from, inner_to, outer_to, IsFamily}
use Rattle.group_engine.proofs.OwnLemmas.{has_at, at_has}

pair_of : {X : Type 0} (R : X → X → Type 0) (xs : List X) (i j : ℕ) (x y : X) → AllPairs R xs → i < j → slice_get xs i ≡ Some x → slice_get xs j ≡ Some y → R x y
pair_of R xs i j x y h less hi hj = subst (λ a. R a y) (get_or_from_slice_get xs i x x hi) (subst (R (get_or xs i x)) (get_or_from_slice_get xs j y x hj) (h i j x less (slice_get_within xs j y hj)))

distinct_front : (xs ys : List ℕ) → are_distinct (xs ++ ys) ≡ true → AreDistinctBy (λ (pool : ℕ). pool) xs
distinct_front [] ys h i j x y hi hj same = absurd (none-some x hi)
distinct_front (z ∷ xs) ys h zero zero x y hi hj same = refl
distinct_front (z ∷ xs) ys h zero (suc j) x y hi hj same =
    let parts = and_parts (not (has_pool (xs ++ ys) z)) (are_distinct (xs ++ ys)) h in
    let there : has_pool xs z ≡ true = has_at xs j z (hj ∙ ap Some (sym same ∙ sym (same_Some z x hi))) in
    absurd (false≢true (sym (not-true _ parts.0) ∙ list_any-append (λ o. eqb o z) xs ys ∙ or_left (has_pool xs z) (has_pool ys z) there))
distinct_front (z ∷ xs) ys h (suc i) zero x y hi hj same =
    let parts = and_parts (not (has_pool (xs ++ ys) z)) (are_distinct (xs ++ ys)) h in
    let there : has_pool xs z ≡ true = has_at xs i z (hi ∙ ap Some (same ∙ sym (same_Some z y hj))) in
    absurd (false≢true (sym (not-true _ parts.0) ∙ list_any-append (λ o. eqb o z) xs ys ∙ or_left (has_pool xs z) (has_pool ys z) there))
distinct_front (z ∷ xs) ys h (suc i) (suc j) x y hi hj same =
    let parts = and_parts (not (has_pool (xs ++ ys) z)) (are_distinct (xs ++ ys)) h in
    ap suc (distinct_front xs ys parts.1 i j x y hi hj same)

one_inside : (p q : Bool) → (not p && not q) ≡ false → (p ≡ true) ⊎ (q ≡ true)
one_inside true q h = inl refl
one_inside false true h = inr refl
one_inside false false h = absurd (false≢true (sym h))

pub stands : (a c : GroupDecl) → may_coexist a c ≡ true → StandsTo a c
stands a c h = elim (cases_Bool (is_apart a c)) [
  | inl apart ↦ apart_from (λ pool has. elim (cases_Bool (has_pool c.own pool)) [
    | inr none ↦ none
    | inl held ↦
        let at = at_has c.own pool held in
        absurd (false≢true (sym (not-true _ apart) ∙ any_of (has_pool a.own) c.own at.0 pool at.1 has))
  ])
  | inr beside ↦
      let parts = and_parts (not (is_same_group a c)) (not (groups_conflict a c)) h in
      let none : (not (is_inner a c) && not (is_inner c a)) ≡ false = rest (is_apart a c) (is_inner a c) (is_inner c a) beside (not-true _ parts.1) in
      elim (one_inside (is_inner a c) (is_inner c a) none) [ inl within ↦ inner_to within | inr around ↦ outer_to around ]
]
  where
    any_of : (f : ℕ → Bool) (xs : List ℕ) (k x : ℕ) → slice_get xs k ≡ Some x → f x ≡ true → list_any f xs ≡ true
    any_of f [] k x at h = absurd (none-some x at)
    any_of f (y ∷ xs) zero x at h = or_left (f y) (list_any f xs) (ap f (same_Some y x at) ∙ h)
    any_of f (y ∷ xs) (suc k) x at h = or_right (f y) (list_any f xs) (any_of f xs k x at h)

    rest : (p q r : Bool) → p ≡ false → (not p && not q && not r) ≡ false → (not q && not r) ≡ false
    rest p q r is h = sym (ap (λ b. not b && not q && not r) is) ∙ h

turned : (a c : GroupDecl) → StandsTo a c → StandsTo c a
turned a c h = elim h [
  | apart_from none ↦ apart_from (λ pool has. elim (cases_Bool (has_pool a.own pool)) [
    | inr out ↦ out
    | inl held ↦ absurd (false≢true (sym (none pool held) ∙ has))
  ])
  | inner_to within ↦ outer_to within
  | outer_to around ↦ inner_to around
]

not_both : (a c : GroupDecl) → may_coexist a c ≡ true → is_inner a c ≡ true → is_inner c a ≡ false
not_both a c h within = elim (cases_Bool (is_inner c a)) [
  | inr none ↦ none
  | inl around ↦ absurd (false≢true (sym (not-true _ (and_parts (not (is_same_group a c)) (not (groups_conflict a c)) h).0) ∙ and_from (is_inner a c) (is_inner c a) within around))
]

not_both_turned : (a c : GroupDecl) → may_coexist c a ≡ true → is_inner a c ≡ true → is_inner c a ≡ false
not_both_turned a c h within = elim (cases_Bool (is_inner c a)) [
  | inr none ↦ none
  | inl around ↦ absurd (false≢true (sym (not_both c a h around) ∙ within))
]

pub together_family : (decls : List GroupDecl) → AreLawfulTogether decls → IsFamily decls
together_family decls h = record {
  some = λ g d at. (let w = formed g d at in ltb-true 0 (length d.own) w.0);
  distinct = λ g d at. (let w = formed g d at in distinct_front d.own (d.get ++ d.without) (ap are_distinct (sym (Rattle.std.proofs.Common.append_assoc d.own d.get d.without)) ∙ w.1));
  nested = λ g k a c ha hc differs. elim (cases_lt g k) [
    | inl less ↦ turned c a (stands c a (pair_of (λ x y. may_coexist y x ≡ true) decls g k a c h.coexist less ha hc))
    | inr past ↦ stands a c (pair_of (λ x y. may_coexist y x ≡ true) decls k g c a h.coexist (omega arith) hc ha)
  ];
  different = λ g k a c ha hc differs within. elim (cases_lt g k) [
    | inl less ↦ not_both_turned a c (pair_of (λ x y. may_coexist y x ≡ true) decls g k a c h.coexist less ha hc) within
    | inr past ↦ not_both a c (pair_of (λ x y. may_coexist y x ≡ true) decls k g c a h.coexist (omega arith) hc ha) within
  ];
}
  where
    formed : (g : ℕ) (d : GroupDecl) → slice_get decls g ≡ Some d → (ltb 0 (length d.own) ≡ true) × (are_distinct (group_pools d) ≡ true)
    formed g d at =
        let w : is_well_formed d ≡ true = all_at (λ x. is_well_formed x ≡ true) decls g d h.well_formed at in
        let outer = and_parts (ltb 0 (length d.own) && are_distinct (group_pools d)) _ w in
        let parts = and_parts (ltb 0 (length d.own)) (are_distinct (group_pools d)) outer.0 in
        (parts.0, parts.1)

pub lawful_family : (count : ℕ) (decls : List GroupDecl) → AreLawfulGroups count decls → IsFamily decls
lawful_family count decls h = together_family decls (record { few = h.few; well_formed = h.well_formed; coexist = h.coexist })
