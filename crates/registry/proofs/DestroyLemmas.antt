-- A destroy against its step.
use Rattle.std.proofs.Common.{◌≡◌, ◌<◌, true, false, cond, List, [], ◌∷◌, map, get_or, length, Option, Some, None, slice_get, sym, refl, ap, ◌∙◌, arith}
use Rattle.std.specs.Global.{Vec}
use Rattle.std.specs.Option.{option_map}
use Rattle.std.proofs.lemmas.List.{length-map}
use Rattle.std.proofs.lemmas.Option.{slice_get_within}
use Rattle.entity_id.specs.declared.entity.Entity.{Entity}
use Rattle.entity_id.specs.FiniteMap as entries
use Rattle.entity_slots.specs.SlotLists.{SlotLists}
use Rattle.entity_slots.specs.SlotLists as slot_lists
use Rattle.signal_sink.specs.Hearings.{Hearing, heard_lists, all_told}
use Rattle.storage.specs.Stored.{Stored}
use Rattle.group_engine.specs.Engine.{Groups}
use Rattle.world_model.specs.declared.component.Row.{Row}
use Rattle.world_model.specs.declared.event.EventKind.TheVariants as event
use Rattle.world_model.specs.declared.world.World.{World}
use Rattle.world_model.specs.Contents.{has_row, holders}
use Rattle.world_model.specs.Outcomes.{destroys, tells}
use Rattle.world_model.specs.Slots.{slots_after_destroy}
use Rattle.registry.specs.declared.parts.Parts.{Parts}
use Rattle.registry.specs.Held.{Hear, heard_after}
use Rattle.registry.specs.Layout.{maps_of, world_of, HaveRoom, KeepGroups, IsKept, Gives}
use Rattle.registry.specs.Leaving.{hearings_after, Leave}
use Rattle.registry.proofs.HeardLemmas.{heard_nothing, heard_one, hear_nothing, constructed_of_destroyed, updated_of_destroyed, heard_of_holders}

-- the destruction listeners hear just their pool's event
pub destroyed_heard : (w : World) (e : Entity) (old new : List (List (Option Hearing))) → length old ≡ length w.pools → Leave e w.pools old new → Hear event.Destroy (destroys w e).events old new
destroyed_heard w e old new each leaves pool =
    ap (option_map heard_lists) (leaves pool) ∙ elim (slice_get old pool) as (λ o. slice_get old pool ≡ o → option_map heard_lists (option_map (hearings_after pool e (get_or w.pools pool [])) o) ≡ option_map (λ l. heard_after event.Destroy pool (destroys w e).events (heard_lists l)) o) [
      | None ↦ λ h. refl
      | Some l ↦ λ h.
          let within : pool < length w.pools = let low : pool < length old = slice_get_within old pool l h in omega arith in
          let events = heard_of_holders w e pool within in
          ap (λ (v : List (Option _)). Some v) (elim (has_row w pool e) as (λ b. has_row w pool e ≡ b → heard_lists (cond b (all_told (tells event.Destroy pool e) l) l) ≡ heard_after event.Destroy pool (destroys w e).events (heard_lists l)) [
            | true ↦ λ q. heard_one event.Destroy pool (destroys w e).events (tells event.Destroy pool e) l (events ∙ ap (λ b. cond b (tells event.Destroy pool e ∷ []) []) q)
            | false ↦ λ q. sym (heard_nothing event.Destroy pool (destroys w e).events (heard_lists l) (events ∙ ap (λ b. cond b (tells event.Destroy pool e ∷ []) []) q))
          ] refl)
    ] refl

-- the entity is out of each pool, and its slot is free
pub destroyed : {L : Type 0} (old : Parts L) (slots : SlotLists) (pools : Vec (Stored Row)) (groups : Groups) (destroy : Vec (List (Option Hearing))) (e : Entity) → IsKept old
    → slot_lists.Becomes old.slots slots (slots_after_destroy old.slots.profile old.slots.slots e) (e.index ∷ old.slots.free)
    → maps_of pools.items ≡ map (λ rows. entries.remove rows e) (maps_of old.pools.items) → Leave e (maps_of old.pools.items) old.destroy.items destroy.items
    → length destroy.items ≡ length old.destroy.items → HaveRoom pools.items destroy.items → KeepGroups old.groups groups pools.items
    → Gives old (record { profile = old.profile; decls = old.decls; slots = slots; pools = pools; groups = groups; construct = old.construct; update = old.update; destroy = destroy }) (destroys (world_of old) e)
destroyed old slots pools groups destroy e h to maps leaves signals room kept =
    let w = world_of old in
    let each : length old.destroy.items ≡ length w.pools = h.destroy_each ∙ sym h.pool_each ∙ sym (length-map old.pools.items (λ (s : Stored Row). entries.map_of s.pairs)) in
    record {
      becomes = record {
        limit = to.limit;
        world = λ i. record { profile = to.profile i; decls = old.decls; groups = kept.decls i; tick = 0; slots = to.slots i; free = to.free i; pools = maps i };
        construct = hear_nothing event.Construct (destroys w e).events old.construct.items (λ p. constructed_of_destroyed p e (holders w e));
        update = hear_nothing event.Update (destroys w e).events old.update.items (λ p. updated_of_destroyed p e (holders w e));
        destroy = destroyed_heard w e old.destroy.items destroy.items each leaves;
      };
      profile = refl;
      construct_each = refl;
      update_each = refl;
      destroy_each = signals;
      room = room;
      group_pools = kept.count;
      grouped = kept.grouped;
    }
