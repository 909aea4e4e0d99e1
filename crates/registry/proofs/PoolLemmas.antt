-- One pool and its signals changed.
use Rattle.std.proofs.Common.{◌≡◌, ℕ, ◌<◌, true, false, cond, List, [], ◌∷◌, set, get_or, length, Option, Some, slice_get, sym, refl, ap, ◌∙◌, subst, arith, length-set}
use Rattle.std.specs.Global.{Vec}
use Rattle.std.specs.Option.{option_map}
use Rattle.std.specs.Vec.{with_item}
use Rattle.std.proofs.lemmas.List.{map-set, set-get_or}
use Rattle.std.proofs.lemmas.Option.{slice_get-map, slice_get-get_or, get_or_from_slice_get, slice_get_read}
use Rattle.entity_id.specs.declared.entity.Entity.{Entity}
use Rattle.entity_id.specs.FiniteMap as entries
use Rattle.signal_sink.specs.Hearings.{Hearing, HaveSpare, all_told, heard_lists, heard_also}
use Rattle.storage.specs.Stored.{Stored}
use Rattle.world_model.specs.declared.command.Reply.{Reply}
use Rattle.world_model.specs.declared.component.Row.{Row}
use Rattle.world_model.specs.declared.event.Event.{Event}
use Rattle.world_model.specs.declared.event.EventKind.TheVariants as event
use Rattle.group_engine.specs.Engine.{Groups}
use Rattle.group_engine.specs.Grouped.{packed_of, cores_of}
use Rattle.world_model.specs.Contents.{pool_at, has_row}
use Rattle.world_model.specs.Outcomes.{sets, drops, tells}
use Rattle.registry.specs.declared.parts.Parts.{Parts}
use Rattle.registry.specs.Held.{Hear}
use Rattle.registry.specs.Layout.{maps_of, world_of, HaveRoom, KeepGroups, IsKept, IsChanged, Gives, Stays}
use Rattle.registry.specs.Leaving.{hearings_after}
use Rattle.registry.proofs.CoreLemmas.{core_maps, core_room, groups_stay}
use Rattle.registry.proofs.HeardLemmas.{hear_nothing, hear_set, hear_told, hear_quiet}
use Rattle.registry.proofs.LeavingLemmas.{room_set, same_room, none_withdrawn, none_told}
use Rattle.registry.proofs.PackingLemmas.{packed_stays}

-- what stands at a place below the length
pub read_at : {X : Type 0} (xs : List X) (n i : ℕ) (x : X) → length xs ≡ n → i < n → x ≡ get_or xs i x → slice_get xs i ≡ Some x
read_at xs n i x long low is = slice_get_read xs (length xs) i x refl (omega (arith, long)) is

module _ {L : Type 0} (old : Parts L) (pools : Vec (Stored Row)) (groups : Groups) (construct update destroy : Vec (List (Option Hearing))) where
  -- the parts with other pools, groups and signals
  abbrev pub with_rows : Parts L
  with_rows = record { profile = old.profile; decls = old.decls; slots = old.slots; pools = pools; groups = groups; construct = construct; update = update; destroy = destroy }

  -- other rows, and the groups of before
  pub pools_changed : (maps : List (List (Entity × Row))) (events : List Event) → maps_of pools.items ≡ maps → KeepGroups old.groups groups pools.items
      → Hear event.Construct events old.construct.items construct.items → Hear event.Update events old.update.items update.items → Hear event.Destroy events old.destroy.items destroy.items
      → length construct.items ≡ length old.construct.items → length update.items ≡ length old.update.items → length destroy.items ≡ length old.destroy.items
      → HaveRoom pools.items destroy.items → IsChanged old with_rows (record (world_of old) { pools = maps }) events
  pools_changed maps events is kept on_construct on_update on_destroy construct_each update_each destroy_each room = record {
    becomes = record {
      limit = refl;
      world = λ i. record { profile = old.slots.profile; decls = old.decls; groups = kept.decls i; tick = 0; slots = old.slots.slots; free = old.slots.free; pools = is i };
      construct = on_construct;
      update = on_update;
      destroy = on_destroy;
    };
    profile = refl;
    construct_each = construct_each;
    update_each = update_each;
    destroy_each = destroy_each;
    room = room;
    group_pools = kept.count;
    grouped = kept.grouped;
  }

  -- the rows of before, in the same order
  pub pools_stay : maps_of pools.items ≡ maps_of old.pools.items → packed_of pools.items ≡ packed_of old.pools.items → KeepGroups old.groups groups pools.items
      → Hear event.Construct [] old.construct.items construct.items → Hear event.Update [] old.update.items update.items → Hear event.Destroy [] old.destroy.items destroy.items
      → length construct.items ≡ length old.construct.items → length update.items ≡ length old.update.items → length destroy.items ≡ length old.destroy.items
      → HaveRoom pools.items destroy.items → Stays old with_rows
  pools_stay is packed kept on_construct on_update on_destroy construct_each update_each destroy_each room = record {
    unchanged = pools_changed (maps_of old.pools.items) [] is kept on_construct on_update on_destroy construct_each update_each destroy_each room;
    packed = packed;
  }

module _ {L : Type 0} (old : Parts L) (pool : ℕ) (p p' : Stored Row) (hp : slice_get old.pools.items pool ≡ Some p) where
  pub at_pool : pool_at (world_of old) pool ≡ entries.map_of p.pairs
  at_pool = get_or_from_slice_get (maps_of old.pools.items) pool (entries.map_of p.pairs) [] (slice_get-map (λ (s : Stored Row). entries.map_of s.pairs) old.pools.items pool ∙ ap (option_map (λ (s : Stored Row). entries.map_of s.pairs)) hp)

  -- the maps with other rows in this one
  pub changed_maps : (rows : List (Entity × Row)) → entries.map_of p'.pairs ≡ rows → maps_of (set old.pools.items pool p') ≡ set (maps_of old.pools.items) pool rows
  changed_maps rows is = map-set (λ (s : Stored Row). entries.map_of s.pairs) old.pools.items pool p' ∙ ap (set (maps_of old.pools.items) pool) is

  same_maps : entries.map_of p'.pairs ≡ entries.map_of p.pairs → maps_of (set old.pools.items pool p') ≡ maps_of old.pools.items
  same_maps is = changed_maps (pool_at (world_of old) pool) (is ∙ sym at_pool) ∙ set-get_or (maps_of old.pools.items) pool []

  same_groups : IsKept old → entries.keys p'.pairs ≡ entries.keys p.pairs → KeepGroups old.groups old.groups (set old.pools.items pool p')
  same_groups h is = groups_stay old.groups old.pools.items (set old.pools.items pool p') h.grouped (packed_stays old.pools.items pool p p' hp is)

  module _ (s s' d d' : List (Option Hearing)) (hs : slice_get old.construct.items pool ≡ Some s) (hd : slice_get old.destroy.items pool ≡ Some d) (h : IsKept old)
      (quiet : heard_lists d' ≡ heard_lists d) (room : HaveSpare (length p'.pairs) d') where
    -- a row was added, and the groups kept up with it
    pub entered : (e : Entity) (row : Row) (pools : Vec (Stored Row)) (groups : Groups) → cores_of pools.items ≡ cores_of (set old.pools.items pool p') → KeepGroups old.groups groups pools.items
        → entries.map_of p'.pairs ≡ entries.put (entries.map_of p.pairs) e row → heard_lists s' ≡ heard_also (tells event.Construct pool e) (heard_lists s)
        → Gives old (with_rows old pools groups (with_item old.construct pool s') old.update (with_item old.destroy pool d')) (sets event.Construct (world_of old) e pool row)
    entered e row pools groups cores kept is heard =
        pools_changed old pools groups (with_item old.construct pool s') old.update (with_item old.destroy pool d') (set (maps_of old.pools.items) pool (entries.put (pool_at (world_of old) pool) e row)) (tells event.Construct pool e ∷ [])
        (core_maps pools.items (set old.pools.items pool p') cores ∙ changed_maps (entries.put (pool_at (world_of old) pool) e row) (is ∙ ap (λ rows. entries.put rows e row) (sym at_pool))) kept
        (hear_told event.Construct old.construct.items pool e s s' hs heard) (hear_nothing event.Update (tells event.Construct pool e ∷ []) old.update.items (λ n. refl)) (hear_quiet event.Destroy (tells event.Construct pool e ∷ []) old.destroy.items pool d d' hd quiet (λ n. refl))
        (length-set old.construct.items pool s') refl (length-set old.destroy.items pool d')
        (core_room pools.items (set old.pools.items pool p') (set old.destroy.items pool d') cores (room_set old.pools.items old.destroy.items pool p p' d d' hp hd h.room room))

    -- none was
    pub not_entered : p' ≡ p → heard_lists s' ≡ heard_lists s → Stays old (with_rows old (with_item old.pools pool p') old.groups (with_item old.construct pool s') old.update (with_item old.destroy pool d'))
    not_entered is heard =
        let keys_are : entries.keys p'.pairs ≡ entries.keys p.pairs = ap (λ (v : Stored Row). entries.keys v.pairs) is in
        pools_stay old (with_item old.pools pool p') old.groups (with_item old.construct pool s') old.update (with_item old.destroy pool d')
        (same_maps (ap (λ (v : Stored Row). entries.map_of v.pairs) is)) (packed_stays old.pools.items pool p p' hp keys_are) (same_groups h keys_are)
        (hear_quiet event.Construct [] old.construct.items pool s s' hs heard (λ n. refl)) (hear_nothing event.Update [] old.update.items (λ n. refl)) (hear_quiet event.Destroy [] old.destroy.items pool d d' hd quiet (λ n. refl))
        (length-set old.construct.items pool s') refl (length-set old.destroy.items pool d') (room_set old.pools.items old.destroy.items pool p p' d d' hp hd h.room room)

  module _ (s s' : List (Option Hearing)) (hs : slice_get old.update.items pool ≡ Some s) (h : IsKept old) (long : length p'.pairs ≡ length p.pairs) (keys_are : entries.keys p'.pairs ≡ entries.keys p.pairs) where
    room_left : HaveRoom (set old.pools.items pool p') old.destroy.items
    room_left k stored list hk hl = same_room old.pools.items old.destroy.items pool p p' hp h.room long k stored list hk hl

    -- a row was set
    pub row_set : (e : Entity) (row : Row) → entries.map_of p'.pairs ≡ entries.put (entries.map_of p.pairs) e row → heard_lists s' ≡ heard_also (tells event.Update pool e) (heard_lists s)
        → Gives old (with_rows old (with_item old.pools pool p') old.groups old.construct (with_item old.update pool s') old.destroy) (sets event.Update (world_of old) e pool row)
    row_set e row is heard =
        pools_changed old (with_item old.pools pool p') old.groups old.construct (with_item old.update pool s') old.destroy (set (maps_of old.pools.items) pool (entries.put (pool_at (world_of old) pool) e row)) (tells event.Update pool e ∷ [])
        (changed_maps (entries.put (pool_at (world_of old) pool) e row) (is ∙ ap (λ rows. entries.put rows e row) (sym at_pool))) (same_groups h keys_are)
        (hear_nothing event.Construct (tells event.Update pool e ∷ []) old.construct.items (λ n. refl)) (hear_told event.Update old.update.items pool e s s' hs heard) (hear_nothing event.Destroy (tells event.Update pool e ∷ []) old.destroy.items (λ n. refl))
        refl (length-set old.update.items pool s') refl room_left

    -- none was
    pub not_set : p' ≡ p → heard_lists s' ≡ heard_lists s → Stays old (with_rows old (with_item old.pools pool p') old.groups old.construct (with_item old.update pool s') old.destroy)
    not_set is heard =
        pools_stay old (with_item old.pools pool p') old.groups old.construct (with_item old.update pool s') old.destroy
        (same_maps (ap (λ (v : Stored Row). entries.map_of v.pairs) is)) (packed_stays old.pools.items pool p p' hp keys_are) (same_groups h keys_are)
        (hear_nothing event.Construct [] old.construct.items (λ n. refl)) (hear_quiet event.Update [] old.update.items pool s s' hs heard (λ n. refl)) (hear_nothing event.Destroy [] old.destroy.items (λ n. refl))
        refl (length-set old.update.items pool s') refl room_left

module _ {L : Type 0} (old : Parts L) (pool : ℕ) (e : Entity) (pools : Vec (Stored Row)) (groups : Groups) (destroy : Vec (List (Option Hearing))) (low : pool < length old.destroy.items)
    (kept : KeepGroups old.groups groups pools.items) (room : HaveRoom pools.items destroy.items)
    (is : maps_of pools.items ≡ set (maps_of old.pools.items) pool (entries.remove (pool_at (world_of old) pool) e))
    (hearings : destroy.items ≡ set old.destroy.items pool (hearings_after pool e (pool_at (world_of old) pool) (get_or old.destroy.items pool []))) where
  abbrev after : Parts L
  after = with_rows old pools groups old.construct old.update destroy

  as_many : length destroy.items ≡ length old.destroy.items
  as_many = ap length hearings ∙ length-set old.destroy.items pool (hearings_after pool e (pool_at (world_of old) pool) (get_or old.destroy.items pool []))

  -- a row left
  pub left : (reply : Reply) → has_row (world_of old) pool e ≡ true → Gives old after (drops (world_of old) e pool reply)
  left reply held =
      let told = tells event.Destroy pool e in
      let s = get_or old.destroy.items pool [] in
      let destroy_is : destroy.items ≡ set old.destroy.items pool (all_told told s) = hearings ∙ ap (λ b. set old.destroy.items pool (cond b (all_told told s) s)) held in
      pools_changed old pools groups old.construct old.update destroy (set (maps_of old.pools.items) pool (entries.remove (pool_at (world_of old) pool) e)) (told ∷ []) is kept
      (hear_nothing event.Construct (told ∷ []) old.construct.items (λ n. refl)) (hear_nothing event.Update (told ∷ []) old.update.items (λ n. refl))
      (subst (Hear event.Destroy (told ∷ []) old.destroy.items) (sym destroy_is) (hear_set event.Destroy told old.destroy.items s refl (slice_get-get_or old.destroy.items pool [] low)))
      refl refl as_many room

  -- none did
  pub not_left : has_row (world_of old) pool e ≡ false → packed_of pools.items ≡ packed_of old.pools.items → Stays old after
  not_left none packed =
      let destroy_is : destroy.items ≡ old.destroy.items = hearings ∙ sym (none_told old.destroy.items pool e (pool_at (world_of old) pool) none) in
      pools_stay old pools groups old.construct old.update destroy (is ∙ sym (none_withdrawn (maps_of old.pools.items) pool e none)) packed kept
      (hear_nothing event.Construct [] old.construct.items (λ n. refl)) (hear_nothing event.Update [] old.update.items (λ n. refl))
      (subst (Hear event.Destroy [] old.destroy.items) (sym destroy_is) (hear_nothing event.Destroy [] old.destroy.items (λ n. refl)))
      refl refl as_many room
