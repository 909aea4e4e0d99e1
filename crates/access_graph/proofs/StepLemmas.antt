-- One more system in a set of those that conflict with a later one, and of those that reach it.
use Rattle.std.proofs.Common.{◌≡◌, ◌↔◌, ℕ, ◌+◌, ◌<◌, true, false, not, ◌||◌, eqb, List, length, sym, ap, ◌∙◌, subst, inl, inr, arith}
use Rattle.std.specs.FinSet as set
use Rattle.std.specs.Ordering.{nat_cmp}
use Rattle.std.specs.Cmp.{nat_cmp_total, unsigned_tied}
use Rattle.std.proofs.lemmas.Bool.{cases_eq, both_ways, and_parts, or_cases, or_left, or_right, eqb-true, eq-eqb}
use Rattle.world_model.specs.declared.access.Access.{Access}
use Rattle.access_graph.specs.Building.{IsImplied}
use Rattle.access_graph.specs.Conflicts.{ComesBefore, access_at, systems_conflict}
use Rattle.access_graph.specs.Graphs.{set_at}
use Rattle.access_graph.specs.Systems.{SystemSet}

pub empty_has : (P : Type 0) (k : ℕ) → set.contains (set.empty {R = nat_cmp}) k ≡ true → P
empty_has P k has = absurd (both_ways _ (set.contains-empty nat_cmp k) has)

pub insert_cases : (systems : SystemSet) (i k : ℕ) → set.contains (set.insert systems i) k ≡ (eqb k i || set.contains systems k)
insert_cases systems i k = set.contains-insert nat_cmp_total systems i k ∙ ap (λ b. b || set.contains systems k) (unsigned_tied k i)

-- ---- those that conflict

-- a set has the systems below this number that come before a system
abbrev pub ArePredsBelow : List Access → ℕ → ℕ → SystemSet → Type 0
ArePredsBelow systems j below preds = (k : ℕ) → (set.contains preds k ≡ true) ↔ ((k < below) × ComesBefore systems k j)

module _ (systems : List Access) (j : ℕ) where
  pub preds_none : ArePredsBelow systems j 0 set.empty
  preds_none k = (empty_has _ k, λ h. absurd (omega (arith, h.0)))

  pub preds_more : (preds : SystemSet) (i : ℕ) → j < length systems → i < j → systems_conflict (access_at systems i) (access_at systems j) ≡ true
      → ArePredsBelow systems j i preds → ArePredsBelow systems j (i + 1) (set.insert preds i)
  preds_more preds i in_range earlier conflict are k = (there, back)
    where
      there : set.contains (set.insert preds i) k ≡ true → (k < i + 1) × ComesBefore systems k j
      there has = elim (or_cases (eqb k i) (set.contains preds k) (sym (insert_cases preds i k) ∙ has)) [
        | inl same ↦ let e = eqb-true k i same in
            (omega arith, subst (λ (x : ℕ). ComesBefore systems x j) (sym e) (record { earlier = earlier; in_range = in_range; conflict = conflict }))
        | inr old ↦ let h = (are k).0 old in (omega (arith, h.0), h.1)
      ]

      back : (k < i + 1) × ComesBefore systems k j → set.contains (set.insert preds i) k ≡ true
      back h = insert_cases preds i k ∙ elim (cases_eq k i) [
        | inl same ↦ or_left (eqb k i) (set.contains preds k) (eq-eqb k i same)
        | inr apart ↦ or_right (eqb k i) (set.contains preds k) ((are k).1 (omega (arith, h.0), h.1))
      ]

  pub preds_same : (preds : SystemSet) (i : ℕ) → systems_conflict (access_at systems i) (access_at systems j) ≡ false
      → ArePredsBelow systems j i preds → ArePredsBelow systems j (i + 1) preds
  preds_same preds i none are k = ((λ has. let h = (are k).0 has in (omega (arith, h.0), h.1)), back)
    where
      back : (k < i + 1) × ComesBefore systems k j → set.contains preds k ≡ true
      back h = elim (cases_eq k i) [
        | inl same ↦ absurd (both_ways _ none (subst (λ (x : ℕ). systems_conflict (access_at systems x) (access_at systems j) ≡ true) same h.1.conflict))
        | inr apart ↦ (are k).1 (omega (arith, h.0), h.1)
      ]

  pub preds_all : (preds : SystemSet) → ArePredsBelow systems j j preds → (k : ℕ) → (set.contains preds k ≡ true) ↔ ComesBefore systems k j
  preds_all preds are k = ((λ has. ((are k).0 has).1), (λ before. (are k).1 (before.earlier, before)))

-- ---- those that reach one of them

-- a set has those that reach one of the systems below this number that come before a system
abbrev pub AreImpliedBelow : List Access → List SystemSet → ℕ → ℕ → SystemSet → Type 0
AreImpliedBelow systems reached j below implied = (k : ℕ) → (set.contains implied k ≡ true) ↔ IsImplied systems reached j below k

module _ (systems : List Access) (reached : List SystemSet) (j : ℕ) where
  pub implied_none : AreImpliedBelow systems reached j 0 set.empty
  implied_none k = (empty_has _ k, λ h. absurd (omega (arith, h.1)))

  pub implied_more : (implied : SystemSet) (i : ℕ) → ComesBefore systems i j
      → AreImpliedBelow systems reached j i implied → AreImpliedBelow systems reached j (i + 1) (set.union implied (set_at reached i))
  implied_more implied i before are k = (there, back)
    where
      cases : set.contains (set.union implied (set_at reached i)) k ≡ (set.contains implied k || set.contains (set_at reached i) k)
      cases = set.contains-union nat_cmp_total implied (set_at reached i) k

      there : set.contains (set.union implied (set_at reached i)) k ≡ true → IsImplied systems reached j (i + 1) k
      there has = elim (or_cases (set.contains implied k) (set.contains (set_at reached i) k) (sym cases ∙ has)) [
        | inl old ↦ let h = (are k).0 old in (h.0, omega (arith, h.1), h.2, h.3)
        | inr new ↦ (i, omega arith, before, new)
      ]

      back : IsImplied systems reached j (i + 1) k → set.contains (set.union implied (set_at reached i)) k ≡ true
      back h = cases ∙ elim (cases_eq h.0 i) [
        | inl same ↦ or_right (set.contains implied k) _ (subst (λ (x : ℕ). set.contains (set_at reached x) k ≡ true) same h.3)
        | inr apart ↦ or_left (set.contains implied k) _ ((are k).1 (h.0, omega (arith, h.1), h.2, h.3))
      ]

  pub implied_same : (implied : SystemSet) (i : ℕ) → systems_conflict (access_at systems i) (access_at systems j) ≡ false
      → AreImpliedBelow systems reached j i implied → AreImpliedBelow systems reached j (i + 1) implied
  implied_same implied i none are k = ((λ has. let h = (are k).0 has in (h.0, omega (arith, h.1), h.2, h.3)), back)
    where
      back : IsImplied systems reached j (i + 1) k → set.contains implied k ≡ true
      back h = elim (cases_eq h.0 i) [
        | inl same ↦ absurd (both_ways _ none (subst (λ (x : ℕ). systems_conflict (access_at systems x) (access_at systems j) ≡ true) same h.2.conflict))
        | inr apart ↦ (are k).1 (h.0, omega (arith, h.1), h.2, h.3)
      ]

-- what is left of a set was in it
pub left_of : (preds implied : SystemSet) (i : ℕ) → set.contains (set.difference preds implied) i ≡ true → set.contains preds i ≡ true
left_of preds implied i has =
    (and_parts (set.contains preds i) (not (set.contains implied i)) (sym (set.contains-difference nat_cmp_total preds implied i) ∙ has)).0
