-- Pools put in another order: the world stays, and nobody hears of it.
use Rattle.std.proofs.Common.{◌≡◌, ℕ, List, [], set, length, Some, slice_get, refl, sym, ap, ◌∙◌}
use Rattle.std.specs.Global.{Vec}
use Rattle.std.specs.Option.{option_map}
use Rattle.std.proofs.lemmas.List.{length-map, map-set, set-get_or}
use Rattle.std.proofs.lemmas.Option.{slice_get-map, get_or_from_slice_get}
use Rattle.entity_id.specs.FiniteMap as entries
use Rattle.storage.specs.Stored.{Stored}
use Rattle.group_engine.specs.Grouped.{core_of, cores_of, packed_of, AreGrouped}
use Rattle.world_model.specs.declared.component.Row.{Row}
use Rattle.world_model.specs.declared.event.EventKind.TheVariants as event
use Rattle.registry.specs.declared.parts.Parts.{Parts}
use Rattle.registry.specs.Layout.{world_of, IsKept, IsChanged, Stays}
use Rattle.registry.proofs.CoreLemmas.{core_maps, core_count, core_room, groups_stay}
use Rattle.registry.proofs.HeardLemmas.{hear_nothing}
use Rattle.registry.proofs.PoolLemmas.{with_rows, pools_changed}

-- pools of the same cores have as many packed lists
pub packed_count : (old new : List (Stored Row)) → cores_of new ≡ cores_of old → length (packed_of new) ≡ length (packed_of old)
packed_count old new same =
    let keys = λ (p : Stored Row). entries.keys p.pairs in
    length-map new keys ∙ core_count new old same ∙ sym (length-map old keys)

module _ {L : Type 0} (old : Parts L) (pools : Vec (Stored Row)) (h : IsKept old) where
  -- the parts with other pools
  abbrev pub with_pools : Parts L
  with_pools = with_rows old pools old.groups old.construct old.update old.destroy

  -- where the groups stand in them
  pub reordered : cores_of pools.items ≡ cores_of old.pools.items → AreGrouped old.groups.decls old.groups.lens (packed_of pools.items) → IsChanged old with_pools (world_of old) []
  reordered same grouped =
      pools_changed old pools old.groups old.construct old.update old.destroy _ [] (core_maps pools.items old.pools.items same) (record { decls = refl; count = refl; grouped = grouped })
      (hear_nothing event.Construct [] old.construct.items (λ n. refl)) (hear_nothing event.Update [] old.update.items (λ n. refl)) (hear_nothing event.Destroy [] old.destroy.items (λ n. refl))
      refl refl refl (core_room pools.items old.pools.items old.destroy.items same h.room)

  -- where they are those of before
  pub put_back : pools.items ≡ old.pools.items → Stays old with_pools
  put_back is = record {
    unchanged = reordered (ap cores_of is) (groups_stay old.groups old.pools.items pools.items h.grouped (ap packed_of is)).grouped;
    packed = ap packed_of is;
  }

-- one pool of the same core leaves all cores
pub one_core : (pools : List (Stored Row)) (pool : ℕ) (p p' : Stored Row) → slice_get pools pool ≡ Some p → core_of p' ≡ core_of p → cores_of (set pools pool p') ≡ cores_of pools
one_core pools pool p p' here same =
    map-set core_of pools pool p' ∙ ap (set (cores_of pools) pool) (same ∙ sym (get_or_from_slice_get (cores_of pools) pool (core_of p) (core_of p) (slice_get-map core_of pools pool ∙ ap (option_map core_of) here)))
    ∙ set-get_or (cores_of pools) pool (core_of p)

-- and where it is the one of before, nothing changes
pub set_same : (pools : List (Stored Row)) (pool : ℕ) (p p' : Stored Row) → slice_get pools pool ≡ Some p → p' ≡ p → set pools pool p' ≡ pools
set_same pools pool p p' here same = ap (set pools pool) (same ∙ sym (get_or_from_slice_get pools pool p p here)) ∙ set-get_or pools pool p
