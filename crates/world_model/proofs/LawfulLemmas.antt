-- A lawful world after one change: of its slots, of the rows of one component, of its groups.
use Rattle.std.proofs.Common.{◌≡◌, ℕ, ◌<◌, ◌≤◌, Bool, true, false, not, List, [], ◌∷◌, ◌++◌, replicate, length, Some, None, slice_get, refl, ap, arith, length-append}
use Rattle.std.specs.List.{AllByRecursion, AllZip}
use Rattle.std.specs.Option.{option_map_or}
use Rattle.std.proofs.lemmas.Bool.Decides.{nat_tests}
use Rattle.std.proofs.lemmas.Bool.{and_from}
use Rattle.std.proofs.lemmas.List.Elements.{All-from_recursion}
use Rattle.std.proofs.lemmas.List.Quantifiers.{all_pairs_push}
use Rattle.entity_id.specs.declared.entity.Entity.{Entity}
use Rattle.entity_id.specs.declared.entity.Profile.{Profile}
use Rattle.entity_id.specs.Identifiers.{is_profile}
use Rattle.entity_id.specs.FiniteMap as rows
use Rattle.entity_id.proofs.ListLemmas.{all-append, all_weaker}
use Rattle.entity_id.proofs.MapLemmas.{all-put, all-remove, ascending-put, ascending-remove}
use Rattle.world_model.specs.declared.component.Decl.{Decl}
use Rattle.world_model.specs.declared.component.Row.{Row}
use Rattle.world_model.specs.declared.group.GroupDecl.{GroupDecl}
use Rattle.world_model.specs.declared.command.Reply.TheVariants.{GroupNumber}
use Rattle.world_model.specs.declared.world.World.{World}
use Rattle.world_model.specs.Components.{IsDecl, IsRow, fits}
use Rattle.world_model.specs.Contents.{pool_at, with_pool, group_where}
use Rattle.world_model.specs.Groups.{group_limit, are_declared, group_pools, is_well_formed, is_same_group, groups_conflict, may_coexist}
use Rattle.world_model.specs.Outcomes.{answers, makes, destroys, finds_or_adds}
use Rattle.world_model.specs.Refusing.{when_not_addable}
use Rattle.world_model.specs.Slots.{Creation, is_live}
use Rattle.world_model.specs.Worlds.{AreLawfulRows, IsLawful, component_limit, empty_world}
use Rattle.world_model.proofs.ListLemmas.{all_zip_weaker, all_zip-map, all_zip-set, position_none, all-filter_both}
use Rattle.world_model.proofs.SlotLemmas.{released_slots, released_live}
use Rattle.world_model.proofs.AcceptedLemmas.{IsLawfulCreation}

-- ---- slots

pub makes_lawful : (limit : ℕ) (w : World) (made : Creation) → IsLawful limit w → IsLawfulCreation limit w made → IsLawful limit (makes w made).world
makes_lawful limit w made h creation = record {
  profile = h.profile;
  few_decls = h.few_decls;
  decls = h.decls;
  slots = creation.lawful;
  pools = all_zip_weaker _ _ (λ decl pool p. record {
    ascending = p.ascending;
    live = all_weaker _ _ (λ entry live. creation.keeps entry.0 live) pool p.live;
    wide = p.wide;
    fitting = p.fitting;
  }) w.decls w.pools h.pools;
  groups = h.groups;
}

pub destroys_lawful : (limit : ℕ) (w : World) (e : Entity) → IsLawful limit w → is_live w.slots e ≡ true → IsLawful limit (destroys w e).world
destroys_lawful limit w e h live = record {
  profile = h.profile;
  few_decls = h.few_decls;
  decls = h.decls;
  slots = released_slots w.profile limit w.slots w.free e live h.slots;
  pools = all_zip-map _ _ (λ pool. rows.remove pool e) (λ decl pool p. record {
    ascending = ascending-remove pool e p.ascending;
    live = all-filter_both _ _ _ (λ entry was differ. released_live w.profile w.slots e entry.0 live was (not_true _ differ)) pool p.live;
    wide = all-remove _ pool e p.wide;
    fitting = all-remove _ pool e p.fitting;
  }) w.decls w.pools h.pools;
  groups = h.groups;
}
  where
    not_true : (b : Bool) → not b ≡ true → b ≡ false
    not_true b h = grind arith

-- ---- rows

-- other rows in one component, lawful where those before were
pub with_pool_lawful : (limit : ℕ) (w : World) (pool : ℕ) (new : List (Entity × Row)) → IsLawful limit w
    → ((decl : Decl) → slice_get w.decls pool ≡ Some decl → AreLawfulRows w.profile w.slots decl (pool_at w pool) → AreLawfulRows w.profile w.slots decl new)
    → IsLawful limit (with_pool w pool new)
with_pool_lawful limit w pool new h next = record {
  profile = h.profile;
  few_decls = h.few_decls;
  decls = h.decls;
  slots = h.slots;
  pools = all_zip-set _ w.decls w.pools pool [] new h.pools next;
  groups = h.groups;
}

-- a row set for a live identifier
pub put_lawful : (limit : ℕ) (w : World) (e : Entity) (pool : ℕ) (row : Row) → IsLawful limit w → is_live w.slots e ≡ true
    → ((decl : Decl) → slice_get w.decls pool ≡ Some decl → AreLawfulRows w.profile w.slots decl (pool_at w pool) → IsRow row × (fits w.profile decl row ≡ true))
    → IsLawful limit (with_pool w pool (rows.put (pool_at w pool) e row))
put_lawful limit w e pool row h live may = with_pool_lawful limit w pool _ h (λ decl is p. record {
  ascending = ascending-put (pool_at w pool) e row p.ascending;
  live = all-put _ (pool_at w pool) e row p.live live;
  wide = all-put _ (pool_at w pool) e row p.wide (may decl is p).0;
  fitting = all-put _ (pool_at w pool) e row p.fitting (may decl is p).1;
})

pub remove_lawful : (limit : ℕ) (w : World) (e : Entity) (pool : ℕ) → IsLawful limit w → IsLawful limit (with_pool w pool (rows.remove (pool_at w pool) e))
remove_lawful limit w e pool h = with_pool_lawful limit w pool _ h (λ decl is p. record {
  ascending = ascending-remove (pool_at w pool) e p.ascending;
  live = all-remove _ (pool_at w pool) e p.live;
  wide = all-remove _ (pool_at w pool) e p.wide;
  fitting = all-remove _ (pool_at w pool) e p.fitting;
})

pub clear_lawful : (limit : ℕ) (w : World) (pool : ℕ) → IsLawful limit w → IsLawful limit (with_pool w pool [])
clear_lawful limit w pool h = with_pool_lawful limit w pool [] h (λ decl is p. record { ascending = tt; live = tt; wide = tt; fitting = tt })

-- ---- groups

-- a group that is neither the same as any nor in conflict with one may stand beside each
beside_each : (w : World) (decl : GroupDecl) → group_where w (is_same_group decl) ≡ None → group_where w (groups_conflict decl) ≡ None
    → AllByRecursion (λ (other : GroupDecl). may_coexist decl other ≡ true) w.groups
beside_each w decl same apart = both w.groups (position_none _ 0 w.groups same) (position_none _ 0 w.groups apart)
  where
    both : (gs : List GroupDecl) → AllByRecursion (λ g. is_same_group decl g ≡ false) gs → AllByRecursion (λ g. groups_conflict decl g ≡ false) gs → AllByRecursion (λ g. may_coexist decl g ≡ true) gs
    both [] p q = tt
    both (g ∷ gs) p q = (and_from _ _ (ap not p.0) (ap not q.0), both gs p.1 q.1)

added_lawful : (limit : ℕ) (w : World) (decl : GroupDecl) → IsLawful limit w → are_declared (length w.decls) (group_pools decl) ≡ true → is_well_formed decl ≡ true
    → group_where w (is_same_group decl) ≡ None → group_where w (groups_conflict decl) ≡ None → length w.groups < group_limit
    → IsLawful limit (record w { groups = w.groups ++ decl ∷ [] })
added_lawful limit w decl h declared formed same apart room = record {
  profile = h.profile;
  few_decls = h.few_decls;
  decls = h.decls;
  slots = h.slots;
  pools = h.pools;
  groups = record {
    few = omega (arith, length-append w.groups (decl ∷ []));
    declared = all-append _ w.groups (decl ∷ []) h.groups.declared (declared, tt);
    well_formed = all-append _ w.groups (decl ∷ []) h.groups.well_formed (formed, tt);
    coexist = all_pairs_push (λ earlier later. may_coexist later earlier ≡ true) w.groups decl h.groups.coexist
        (All-from_recursion (λ earlier. may_coexist decl earlier ≡ true) w.groups (beside_each w decl same apart));
  };
}

-- a group that may be added, and that none is the same as, is in conflict with none and finds room
addable_parts : (w : World) (decl : GroupDecl) → group_where w (is_same_group decl) ≡ None → when_not_addable w decl ≡ None → (group_where w (groups_conflict decl) ≡ None) × (length w.groups < group_limit)
addable_parts w decl same addable = (grind arith, grind (arith, nat_tests))

pub group_lawful : (limit : ℕ) (w : World) (decl : GroupDecl) → IsLawful limit w → are_declared (length w.decls) (group_pools decl) ≡ true → is_well_formed decl ≡ true → when_not_addable w decl ≡ None
    → IsLawful limit (finds_or_adds w decl).world
group_lawful limit w decl h declared formed addable =
    elim (group_where w (is_same_group decl)) as
    (λ f. group_where w (is_same_group decl) ≡ f → IsLawful limit (option_map_or (λ g. answers w (GroupNumber g)) f (answers (record w { groups = w.groups ++ decl ∷ [] }) (GroupNumber (length w.groups)))).world) [
      | Some g ↦ λ _. h
      | None ↦ λ same. let parts = addable_parts w decl same addable in added_lawful limit w decl h declared formed same parts.0 parts.1
    ] refl

-- ---- the first world

-- a world without slots, groups and rows is lawful
pub empty_lawful : (limit : ℕ) (profile : Profile) (decls : List Decl) → is_profile profile ≡ true → limit ≤ profile.index_limit → length decls ≤ component_limit → AllByRecursion IsDecl decls → IsLawful limit (empty_world profile decls)
empty_lawful limit profile decls known addressable few each = record {
  profile = known;
  few_decls = few;
  decls = each;
  slots = record { few = omega arith; addressable = addressable; versions = tt; listed = λ _. refl };
  pools = none decls;
  groups = record { few = omega arith; declared = tt; well_formed = tt; coexist = λ i j d less within. absurd (omega arith) };
}
  where
    none : (ds : List Decl) → AllZip (AreLawfulRows profile []) ds (replicate (length ds) [])
    none [] = tt
    none (d ∷ ds) = (record { ascending = tt; live = tt; wide = tt; fitting = tt }, none ds)
