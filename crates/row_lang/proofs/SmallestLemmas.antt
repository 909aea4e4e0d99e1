-- A system gives no more orders than it has command statements, for each row of any one component that it reads or writes.
use Rattle.std.proofs.Common.{◌≡◌, inl, inr, ℕ, zero, suc, ◌<◌, ◌≤◌, Bool, true, false, eqb, ◌&&◌, not, List, [], ◌∷◌, map, get_or, length, sym, ap, ap₂, ◌∙◌, subst, arith}
use Rattle.std.specs.Cmp.{IsEquivalence}
use Rattle.std.specs.List.{AllZip, IsDistinct, list_any, list_all}
use Rattle.std.proofs.Math.Nat.{mul-le-mul_left}
use Rattle.std.proofs.lemmas.Bool.{and_parts, eqb-true, false≢true, or_cases}
use Rattle.std.proofs.lemmas.Cmp.{nat_eq_equiv}
use Rattle.std.proofs.lemmas.Map.Made.{length-le_from_is_member}
use Rattle.entity_id.specs.declared.entity.Entity.{Entity}
use Rattle.entity_id.specs.declared.entity.Profile.{Profile}
use Rattle.entity_id.specs.FiniteMap as entries
use Rattle.entity_id.specs.Identifiers.{is_same}
use Rattle.entity_id.specs.Matching.{is_in, matches}
use Rattle.entity_id.proofs.ListLemmas.{all_weaker}
use Rattle.entity_id.proofs.MapLemmas.{ascending-keys, same_false, same_itself, same_true}
use Rattle.entity_id.proofs.MatchLemmas.{any-matches, ascending-matches}
use Rattle.world_model.specs.declared.access.Access.{Access}
use Rattle.world_model.specs.declared.component.Decl.{Decl}
use Rattle.world_model.specs.declared.world.World.{World}
use Rattle.world_model.specs.Groups.{has_pool}
use Rattle.world_model.specs.Ticks.{Maps}
use Rattle.world_model.specs.Worlds.{AreLawfulRows, IsLawful}
use Rattle.row_lang.specs.Effects.{IsChecked, system_effect}
use Rattle.world_model.specs.Frames.{AreAscendingMaps, GivesAtMostOfEach, map_at, members, own_pools}
use Rattle.row_lang.specs.Systems.{System, command_count}
use Rattle.row_lang.proofs.FewLemmas.{keys_counted, orders_counted}

-- ---- identifiers, each once

same_laws : IsEquivalence is_same
same_laws = record {
  refl = same_itself;
  symm = λ a b. ap₂ (λ x y. x && y) (nat_eq_equiv.symm a.index b.index) (nat_eq_equiv.symm a.version b.version);
  congr = λ a b c same. ap (λ e. is_same e c) (same_true a b same);
}

distinct_identifiers : (es : List Entity) → entries.AreAscending es → IsDistinct is_same es
unfolding IsDistinct
distinct_identifiers [] ascending = tt
distinct_identifiers (e ∷ es) ascending = (
  all_weaker (λ other. e.index < other.index) (λ other. is_same e other ≡ false) (λ other above. same_false e other (λ same. omega (arith, above, same))) es ascending.0,
  distinct_identifiers es ascending.1,
)

ascending_at : (maps : Maps) (pool : ℕ) → AreAscendingMaps maps → entries.AreAscending (get_or (map entries.keys maps) pool [])
ascending_at [] pool ascending = tt
ascending_at (rows ∷ maps) zero ascending = ascending-keys rows ascending.0
ascending_at (rows ∷ maps) (suc pool) ascending = ascending_at maps pool ascending.1

-- the maps of a lawful world ascend
pub lawful_ascend : (limit : ℕ) (world : World) → IsLawful limit world → AreAscendingMaps world.pools
lawful_ascend limit world lawful = each world.decls world.pools lawful.pools
  where
    each : (decls : List Decl) (maps : Maps) → AllZip (AreLawfulRows world.profile world.slots) decls maps → AreAscendingMaps maps
    each [] [] are = tt
    each [] (rows ∷ maps) are = absurd are
    each (decl ∷ decls) [] are = absurd are
    each (decl ∷ decls) (rows ∷ maps) are = (are.0.ascending, each decls maps are.1)

-- ---- members

each_named : (test : ℕ → Bool) (pools : List ℕ) (pool : ℕ) → list_all test pools ≡ true → has_pool pools pool ≡ true → test pool ≡ true
each_named test [] pool all has = absurd (false≢true has)
each_named test (first ∷ pools) pool all has =
    let parts = and_parts (test first) (list_all test pools) all in
    elim (or_cases (eqb first pool) (has_pool pools pool) has) [
      | inl here ↦ subst (λ (n : ℕ). test n ≡ true) (eqb-true first pool here) parts.0
      | inr later ↦ each_named test pools pool parts.1 later
    ]

-- a system has no more entities than any component that it reads or writes has rows
members_few : (access : Access) (maps : Maps) (pool : ℕ) → AreAscendingMaps maps → has_pool (own_pools access) pool ≡ true → length (members access maps) ≤ length (map_at maps pool)
members_few access maps pool ascending has = of_any (own_pools access) has
  where
    of_any : (pools : List ℕ) → has_pool pools pool ≡ true → length (matches (map entries.keys maps) pools access.without) ≤ length (map_at maps pool)
    of_any [] has = absurd (false≢true has)
    of_any (first ∷ rest) has =
        let keys = map entries.keys maps in
        let among = length-le_from_is_member same_laws (matches keys (first ∷ rest) access.without) (get_or keys pool [])
        (distinct_identifiers (matches keys (first ∷ rest) access.without) (ascending-matches keys first rest access.without (ascending_at maps first ascending)))
        (λ e is.
        let match = sym (any-matches keys first rest access.without e) ∙ is in
        each_named (is_in keys e) (first ∷ rest) pool (and_parts (list_all (is_in keys e) (first ∷ rest)) (not (list_any (is_in keys e) access.without)) match).0 has) in
        omega (arith, among, keys_counted maps pool)

pub gives_at_most_of_each : (profile : Profile) (decls : List Decl) (system : System) → IsChecked decls system → GivesAtMostOfEach (command_count system.statements) system.access (system_effect profile system)
gives_at_most_of_each profile decls system checked tick maps pool ascending has =
    let product = mul-le-mul_left (command_count system.statements) (members_few system.access maps pool ascending has) in
    omega (arith, orders_counted profile decls system checked tick maps, product)
