-- Families: a group more, any two, and one after another.
use Rattle.std.proofs.Common.{◌≡◌, ◌≢◌, ℕ, ◌+◌, ◌<◌, ◌≤◌, Bool, true, false, cond, not, ◌&&◌, List, [], ◌∷◌, ◌++◌, take, length, get_or, Option, Some, None, slice_get, refl, sym, ap, subst, ◌∙◌, inl, inr, arith}
use Rattle.std.specs.Prelude.{if◌then◌else◌, nat_lt, nat_le, is_some, AllPairs}
use Rattle.std.specs.Option.{option_map, option_or}
use Rattle.std.specs.List.{AllByRecursion, position_from}
use Rattle.std.proofs.lemmas.Bool.{cases_Bool, cases_lt, false≢true, and_parts, and_from, not-true, not_from_false, ltb-true, leb-true, lt-ltb}
use Rattle.std.proofs.lemmas.Option.{none-some, slice_get_within, get_or_from_slice_get}
use Rattle.std.proofs.lemmas.List.{length_push, length-take-le}
use Rattle.std.proofs.lemmas.List.Elements.{All-from_recursion}
use Rattle.std.proofs.lemmas.List.Quantifiers.{all_pairs_push}
use Rattle.entity_id.proofs.ListLemmas.{all-append}
use Rattle.entity_id.proofs.PackedListLemmas.{at_taken, position_none}
use Rattle.entity_id.specs.FiniteMap.{AreDistinctBy}
use Rattle.world_model.specs.declared.group.GroupDecl.{GroupDecl}
use Rattle.world_model.specs.Groups.{group_limit, group_pool_limit, group_pools, are_distinct, is_well_formed, is_same_group, groups_conflict, may_coexist}
use Rattle.group_rules.specs.declared.refused.FamilyRefused.TheVariants as refused
use Rattle.group_rules.specs.Families.{AreLawfulTogether, StandsBeside, same_in, conflict_in, add_refusal}
use Rattle.group_rules.proofs.DistinctLemmas.{front_distinct, distinct_places}
use Rattle.group_rules.proofs.RelationLemmas.{beside, beside_turned}

-- ---- one more

-- what is found nowhere holds of none
none_found : {X : Type 0} (t : X → Bool) (xs : List X) (n : ℕ) → position_from t n xs ≡ None → AllByRecursion (λ x. t x ≡ false) xs
none_found t [] n h = tt
none_found t (x ∷ xs) n h =
    let rest : Bool → Option ℕ = λ b. cond b (Some n) (position_from t (n + 1) xs) in
    elim (cases_Bool (t x)) [
      | inl passes ↦ absurd (none-some n (sym h ∙ ap rest passes))
      | inr other ↦ (other, none_found t xs (n + 1) (sym (ap rest other) ∙ h))
    ]

may_all : (decl : GroupDecl) (groups : List GroupDecl) → AllByRecursion (λ other. is_same_group decl other ≡ false) groups → AllByRecursion (λ other. groups_conflict decl other ≡ false) groups → AllByRecursion (λ other. may_coexist decl other ≡ true) groups
may_all decl [] differs fits = tt
may_all decl (other ∷ groups) differs fits =
    (and_from (not (is_same_group decl other)) (not (groups_conflict decl other)) (not_from_false _ differs.0) (not_from_false _ fits.0), may_all decl groups differs.1 fits.1)

-- a well-formed group that is none of a family's and conflicts with none is lawful with them
pub lawful_push : (groups : List GroupDecl) (decl : GroupDecl) → AreLawfulTogether groups → is_well_formed decl ≡ true → same_in groups decl ≡ None → conflict_in groups decl ≡ None → length groups < group_limit → AreLawfulTogether (groups ++ decl ∷ [])
lawful_push groups decl h formed differs fits room = record {
  few = omega (arith, length_push groups decl, room);
  well_formed = all-append _ groups (decl ∷ []) h.well_formed (formed, tt);
  coexist = all_pairs_push (λ earlier later. may_coexist later earlier ≡ true) groups decl h.coexist (All-from_recursion _ groups (may_all decl groups (none_found (is_same_group decl) groups 0 differs) (none_found (groups_conflict decl) groups 0 fits)));
}

-- ---- one of them

-- what a well-formed group owns and names
pub record AreFormed (decl : GroupDecl) : Type 0 where
  pub owns : 0 < length decl.own
  pub once : are_distinct (group_pools decl) ≡ true
  pub few : length (group_pools decl) ≤ group_pool_limit

pub formed : (decl : GroupDecl) → is_well_formed decl ≡ true → AreFormed decl
formed decl h =
    let three = and_parts (nat_lt 0 (length decl.own) && are_distinct (group_pools decl)) (nat_le (length (group_pools decl)) group_pool_limit) h in
    let two = and_parts (nat_lt 0 (length decl.own)) (are_distinct (group_pools decl)) three.0 in
    record { owns = ltb-true 0 (length decl.own) two.0; once = two.1; few = leb-true (length (group_pools decl)) group_pool_limit three.1 }

pub owned_once : (decl : GroupDecl) → is_well_formed decl ≡ true → AreDistinctBy (λ (pool : ℕ). pool) decl.own
owned_once decl h =
    distinct_places decl.own (front_distinct decl.own decl.get (front_distinct (decl.own ++ decl.get) decl.without (formed decl h).once))

-- ---- two of them

pair_at : {X : Type 0} (R : X → X → Type 0) (xs : List X) (i j : ℕ) (x y : X) → AllPairs R xs → i < j → slice_get xs i ≡ Some x → slice_get xs j ≡ Some y → R x y
pair_at R xs i j x y h less at_i at_j =
    subst (λ a. R a y) (get_or_from_slice_get xs i x x at_i)
    (subst (R (get_or xs i x)) (get_or_from_slice_get xs j y x at_j) (h i j x less (slice_get_within xs j y at_j)))

may_at : (groups : List GroupDecl) (group other : ℕ) (earlier later : GroupDecl) → AreLawfulTogether groups → group < other → slice_get groups group ≡ Some earlier → slice_get groups other ≡ Some later → may_coexist later earlier ≡ true
may_at groups group other earlier later h less here there =
    pair_at (λ x y. may_coexist y x ≡ true) groups group other earlier later h.coexist less here there

pub stand_beside : (groups : List GroupDecl) (group other : ℕ) (a b : GroupDecl) → AreLawfulTogether groups → slice_get groups group ≡ Some a → slice_get groups other ≡ Some b → group ≢ other → StandsBeside a b
stand_beside groups group other a b h here there differs =
    elim (cases_lt group other) [
      | inl less ↦ beside_turned b a (beside b a (may_at groups group other a b h less here there))
      | inr past ↦ beside a b (may_at groups other group b a h (omega (arith, differs)) there here)
    ]

-- ---- one after another

pub grows_new : (groups : List GroupDecl) (group : ℕ) (decl : GroupDecl) → AreLawfulTogether groups → slice_get groups group ≡ Some decl → same_in (take group groups) decl ≡ None
grows_new groups group decl h here =
    position_none (is_same_group decl) (take group groups) 0 (λ place other at same.
    (let low = at_taken group groups place other at in
    let may = may_at groups place group other decl h low.0 low.1 here in
    false≢true (sym (not-true _ (and_parts (not (is_same_group decl other)) (not (groups_conflict decl other)) may).0) ∙ same)))

grows_beside : (groups : List GroupDecl) (group : ℕ) (decl : GroupDecl) → AreLawfulTogether groups → slice_get groups group ≡ Some decl → conflict_in (take group groups) decl ≡ None
grows_beside groups group decl h here =
    position_none (groups_conflict decl) (take group groups) 0 (λ place other at conflict.
    (let low = at_taken group groups place other at in
    let may = may_at groups place group other decl h low.0 low.1 here in
    false≢true (sym (not-true _ (and_parts (not (is_same_group decl other)) (not (groups_conflict decl other)) may).1) ∙ conflict)))

pub grows_accepted : (groups : List GroupDecl) (group : ℕ) (decl : GroupDecl) → AreLawfulTogether groups → slice_get groups group ≡ Some decl → add_refusal (take group groups) decl ≡ None
grows_accepted groups group decl h here =
    let within : group < length groups = slice_get_within groups group decl here in
    let few : length groups ≤ group_limit = h.few in
    let taken = length-take-le group groups (omega (arith, within)) in
    let room : nat_lt (length (take group groups)) group_limit ≡ true = lt-ltb (length (take group groups)) group_limit (omega (arith, taken, within, few)) in
    none_left (same_in (take group groups) decl) (conflict_in (take group groups) decl) (nat_lt (length (take group groups)) group_limit) (grows_beside groups group decl h here) room
  where
    none_left : (same with : Option ℕ) (room : Bool) → with ≡ None → room ≡ true → (if is_some same then None else option_or (option_map (λ group. refused.Conflict group) with) (if room then None else Some refused.TooMany)) ≡ None
    none_left (Some group) with room fits holds = refl
    none_left None with room fits holds = ap (λ o. option_or (option_map (λ group. refused.Conflict group) o) (if room then None else Some refused.TooMany)) fits ∙ ap (λ b. if b then None else Some refused.TooMany) holds
