-- What the parts keep, in the words of a registry's law.
use Rattle.std.proofs.Common.{◌≡◌, ℕ, suc, ◌+◌, ◌<◌, ◌≤◌, List, [], ◌∷◌, get_or, map, length, Option, Some, IsTrue, slice_get, sym, refl, ap, ◌∙◌, subst, inl, inr, arith}
use Rattle.std.proofs.Math.ListN.{get_or-eq_default}
use Rattle.std.proofs.lemmas.Bool.{cases_lt}
use Rattle.std.specs.List.{AllByRecursion}
use Rattle.std.proofs.lemmas.List.{length-take-le}
use Rattle.std.proofs.lemmas.List.Sorted.{length_permutation}
use Rattle.entity_id.proofs.ListLemmas.{all_at}
use Rattle.std.proofs.lemmas.Option.{none-some, same_Some, slice_get-get_or, get_or_from_slice_get, slice_get_within}
use Rattle.entity_id.specs.declared.entity.Entity.{Entity}
use Rattle.entity_id.specs.FiniteMap as entries
use Rattle.entity_id.proofs.MapChangeLemmas.{length-map_of}
use Rattle.signal_sink.specs.Hearings.{Hearing, HaveSpare}
use Rattle.storage.specs.Stored.{Stored}
use Rattle.world_model.specs.declared.component.Row.{Row}
use Rattle.world_model.specs.declared.group.GroupDecl.{GroupDecl}
use Rattle.world_model.specs.Contents.{pool_at, keys_of, group_at}
use Rattle.world_model.specs.Groups.{packed_at, group_prefix, members, is_well_formed, ArePackedListsOf, IsLawfulGroup}
use Rattle.registry.specs.declared.parts.Parts.{Parts}
use Rattle.registry.specs.Laws.{IsLawfulRegistry}
use Rattle.group_engine.specs.Engine.{Groups, len_at}
use Rattle.group_engine.specs.Grouped.{packed_of}
use Rattle.registry.specs.Held.{member_count}
use Rattle.registry.specs.Layout.{held_of, world_of, maps_of, IsKept}
use Rattle.registry.proofs.OrderLemmas.{keys_permute}
use Rattle.registry.proofs.PoolLemmas.{at_pool}

-- pools in each of which no index comes twice
abbrev pub HaveEachOnce : List (Stored Row) → Type 0
HaveEachOnce pools = (pool : ℕ) (stored : Stored Row) → slice_get pools pool ≡ Some stored → entries.HasEachOnce stored.pairs

-- one pool more was looked at
pub once_more : (pools : List (Stored Row)) (i : ℕ) (p : Stored Row) → ((k : ℕ) (stored : Stored Row) → k < i → slice_get pools k ≡ Some stored → entries.HasEachOnce stored.pairs) → slice_get pools i ≡ Some p → entries.HasEachOnce p.pairs
    → (k : ℕ) (stored : Stored Row) → k < i + 1 → slice_get pools k ≡ Some stored → entries.HasEachOnce stored.pairs
once_more pools i p before here once k stored low at = elim (cases_lt k i) [
  | inl less ↦ before k stored less at
  | inr not_less ↦
      let is : k ≡ i = omega arith in
      let same : p ≡ stored = same_Some p stored (sym here ∙ ap (slice_get pools) (sym is) ∙ at) in
      subst (λ (s : Stored Row). entries.HasEachOnce s.pairs) same once
]

pub packed_lists : (pools : List (Stored Row)) → HaveEachOnce pools → ArePackedListsOf (map entries.keys (maps_of pools)) (packed_of pools)
packed_lists [] once = tt
packed_lists (p ∷ pools) once = (keys_permute p.pairs (once 0 p refl), packed_lists pools (λ pool stored at. once (suc pool) stored at))

room_each : {L : Type 0} (parts : Parts L) → IsKept parts → HaveEachOnce parts.pools.items → (pool : ℕ) → HaveSpare (length (pool_at (world_of parts) pool)) (get_or parts.destroy.items pool [])
room_each parts h once pool = elim (cases_lt pool (length parts.destroy.items)) [
  | inl low ↦
      let none : Stored Row = record { pairs = []; spare = 0; index_bound = 0 } in
      let p = get_or parts.pools.items pool none in
      let here : slice_get parts.pools.items pool ≡ Some p = slice_get-get_or parts.pools.items pool none (omega (arith, h.pool_each, h.destroy_each)) in
      let there : slice_get parts.destroy.items pool ≡ Some (get_or parts.destroy.items pool []) = slice_get-get_or parts.destroy.items pool [] low in
      let long : length (pool_at (world_of parts) pool) ≡ length p.pairs = ap length (at_pool parts pool p p here) ∙ length-map_of p.pairs (once pool p here) in
      subst (λ n. HaveSpare n (get_or parts.destroy.items pool [])) (sym long) (h.room pool p (get_or parts.destroy.items pool []) here there)
  | inr past ↦ λ number hearing at. absurd (none-some (Some hearing) (ap (λ (l : List (Option Hearing)). slice_get l number) (sym (get_or-eq_default parts.destroy.items [] past)) ∙ at))
]

-- ---- groups

first_of : (P : ℕ → Type 0) (own : List ℕ) → 0 < length own → AllByRecursion P own → P (get_or own 0 0)
first_of P [] some h = absurd (omega arith)
first_of P (pool ∷ own) some h = h.0

-- a lawful group is as long as it has members
length_of_lawful : (maps packed : List (List Entity)) (decl : GroupDecl) (count : ℕ) → 0 < length decl.own → IsLawfulGroup maps packed decl count → count ≡ length (members maps decl)
length_of_lawful maps packed decl count some h =
    sym (length-take-le count (packed_at packed (get_or decl.own 0 0)) (first_of (λ pool. count ≤ length (packed_at packed pool)) decl.own some h.within))
    ∙ sym (length_permutation (group_prefix packed decl count) (members maps decl) h.matching)

-- what laws say of groups: one that is well-formed owns a pool, and those of lawful parts are lawful, each of the length that is kept
pub record AreKnown (maps packed : List (List Entity)) (groups : Groups) : Type 0 where
  pub each : length groups.lens ≡ length groups.decls
  pub owns : (decl : GroupDecl) → IsTrue (is_well_formed decl) → 0 < length decl.own
  pub lawful : (group : ℕ) (decl : GroupDecl) (count : ℕ) → slice_get groups.decls group ≡ Some decl → slice_get groups.lens group ≡ Some count → IsLawfulGroup maps packed decl count

-- so each is as long as it has members
pub counted_at : {L : Type 0} (parts : Parts L) → IsKept parts → AreKnown (keys_of (world_of parts)) (packed_of parts.pools.items) parts.groups → (group : ℕ) (decl : GroupDecl) → slice_get parts.groups.decls group ≡ Some decl
    → len_at parts.groups group ≡ member_count (held_of parts) group
counted_at parts h known group decl at =
    let low : group < length parts.groups.decls = slice_get_within parts.groups.decls group decl at in
    let long : slice_get parts.groups.lens group ≡ Some (len_at parts.groups group) = slice_get-get_or parts.groups.lens group 0 (omega (arith, known.each)) in
    let here : group_at (world_of parts) group ≡ decl = get_or_from_slice_get parts.groups.decls group decl (record { own = []; get = []; without = [] }) at in
    let formed : IsTrue (is_well_formed decl) = all_at (λ (d : GroupDecl). IsTrue (is_well_formed d)) parts.groups.decls group decl h.lawful.groups.well_formed at in
    length_of_lawful (keys_of (world_of parts)) (packed_of parts.pools.items) decl (len_at parts.groups group) (known.owns decl formed) (known.lawful group decl (len_at parts.groups group) at long)
    ∙ ap (λ (d : GroupDecl). length (members (keys_of (world_of parts)) d)) (sym here)

pub counted_groups : {L : Type 0} (parts : Parts L) → IsKept parts → AreKnown (keys_of (world_of parts)) (packed_of parts.pools.items) parts.groups → (group : ℕ) → group < length parts.groups.decls
    → len_at parts.groups group ≡ member_count (held_of parts) group
counted_groups parts h known group low =
    let none : GroupDecl = record { own = []; get = []; without = [] } in
    counted_at parts h known group (get_or parts.groups.decls group none) (slice_get-get_or parts.groups.decls group none low)

lawful_group : {L : Type 0} (parts : Parts L) → IsKept parts → AreKnown (keys_of (world_of parts)) (packed_of parts.pools.items) parts.groups → (group : ℕ) (decl : GroupDecl) → slice_get parts.groups.decls group ≡ Some decl
    → IsLawfulGroup (keys_of (world_of parts)) (packed_of parts.pools.items) decl (member_count (held_of parts) group)
lawful_group parts h known group decl at =
    let low : group < length parts.groups.decls = slice_get_within parts.groups.decls group decl at in
    let long : slice_get parts.groups.lens group ≡ Some (len_at parts.groups group) = slice_get-get_or parts.groups.lens group 0 (omega (arith, known.each)) in
    subst (IsLawfulGroup (keys_of (world_of parts)) (packed_of parts.pools.items) decl) (counted_at parts h known group decl at) (known.lawful group decl (len_at parts.groups group) at long)

-- ---- the law

-- each pool's packed list has the keys of its map
pub packed_of_maps : {L : Type 0} (parts : Parts L) → HaveEachOnce parts.pools.items → ArePackedListsOf (keys_of (world_of parts)) (packed_of parts.pools.items)
packed_of_maps parts once = packed_lists parts.pools.items once

-- what the parts keep is the law of the registry that they make
pub lawful_registry : {L : Type 0} (parts : Parts L) → IsKept parts → HaveEachOnce parts.pools.items → AreKnown (keys_of (world_of parts)) (packed_of parts.pools.items) parts.groups → IsLawfulRegistry (held_of parts)
lawful_registry parts h once known = record {
  world = h.lawful;
  packed = packed_of_maps parts once;
  groups = λ group decl at. lawful_group parts h known group decl at;
  room = λ pool. room_each parts h once pool;
}
