-- Room made for orders.
use Rattle.std.proofs.Common.{◌≡◌, ℕ, ◌+◌, ◌<◌, ◌≤◌, List, [], ◌∷◌, set, length, Option, Some, slice_get, sym, refl, ap, ◌∙◌, subst, arith, length-set}
use Rattle.std.specs.Prelude.{min, slice_index}
use Rattle.std.specs.Vec.{with_item}
use Rattle.std.proofs.lemmas.List.{set-get_or}
use Rattle.std.proofs.lemmas.Option.{slice_get_within}
use Rattle.entity_id.specs.FiniteMap as entries
use Rattle.entity_id.proofs.ListLemmas.{slice_get-set_same}
use Rattle.entity_slots.specs.SlotLists.{SlotLists}
use Rattle.entity_slots.specs.SlotLists as slot_lists
use Rattle.signal_sink.specs.Hearings.{Hearing, HaveSpare, heard_lists}
use Rattle.storage.specs.Stored.{Stored}
use Rattle.world_model.specs.declared.component.Row.{Row}
use Rattle.world_model.specs.declared.deferred.Needs.{Needs}
use Rattle.world_model.specs.declared.event.EventKind.TheVariants as event
use Rattle.world_model.specs.Contents.{pool_at}
use Rattle.registry.specs.declared.parts.Parts.{Parts}
use Rattle.registry.specs.Held.{Held, PoolRoom, AsBefore}
use Rattle.registry.specs.Layout.{maps_of, world_of, held_of, IsKept, Stays}
use Rattle.registry.specs.Rooms.{rows_in, room_in, hearings_in, slots_after, HasRoomInPool, HasRoom, HasRoomFor}
use Rattle.registry.specs.Spending.{nowhere, IsRoomy, Spends}
use Rattle.registry.proofs.BothLemmas.{becomes_alone}
use Rattle.registry.proofs.CoreLemmas.{groups_stay}
use Rattle.registry.proofs.HeardLemmas.{hear_quiet}
use Rattle.registry.proofs.LeavingLemmas.{room_set}
use Rattle.registry.proofs.PackingLemmas.{packed_stays}
use Rattle.registry.proofs.PoolLemmas.{with_rows, pools_stay, changed_maps, at_pool}
use Rattle.registry.proofs.RoomLemmas.{room_less}
use Rattle.registry.proofs.SpendLemmas.{spare_less, room_here, rows_here, hearings_here, rows_set, rows_both, events_set, room_left}
use Rattle.world_model.specs.declared.world.World.{World}

-- ---- one pool

module _ {L : Type 0} (old : Parts L) (pool : ℕ) (p p' : Stored Row) (s s' u u' d d' : List (Option Hearing)) (hp : slice_get old.pools.items pool ≡ Some p) (hs : slice_get old.construct.items pool ≡ Some s)
    (hu : slice_get old.update.items pool ≡ Some u) (hd : slice_get old.destroy.items pool ≡ Some d) (pairs : p'.pairs ≡ p.pairs) (on_destroy : (m : ℕ) → HaveSpare m d → HaveSpare m d') where
  abbrev made : Parts L
  made = with_rows old (with_item old.pools pool p') old.groups (with_item old.construct pool s') (with_item old.update pool u') (with_item old.destroy pool d')

  -- all is as before but for spare
  pub made_stays : IsKept old → heard_lists s' ≡ heard_lists s → heard_lists u' ≡ heard_lists u → heard_lists d' ≡ heard_lists d → Stays old made
  made_stays h quiet_s quiet_u quiet_d =
      let packed_are = packed_stays old.pools.items pool p p' hp (ap entries.keys pairs) in
      let room : HaveSpare (length p'.pairs) d' = on_destroy (length p'.pairs) (subst (λ (n : ℕ). HaveSpare n d) (ap length (sym pairs)) (h.room pool p d hp hd)) in
      pools_stay old (with_item old.pools pool p') old.groups (with_item old.construct pool s') (with_item old.update pool u') (with_item old.destroy pool d')
      (changed_maps old pool p p' hp (pool_at (world_of old) pool) (ap entries.map_of pairs ∙ sym (at_pool old pool p p' hp)) ∙ set-get_or (maps_of old.pools.items) pool []) packed_are
      (groups_stay old.groups old.pools.items (set old.pools.items pool p') h.grouped packed_are)
      (hear_quiet event.Construct [] old.construct.items pool s s' hs quiet_s (λ n. refl)) (hear_quiet event.Update [] old.update.items pool u u' hu quiet_u (λ n. refl)) (hear_quiet event.Destroy [] old.destroy.items pool d d' hd quiet_d (λ n. refl))
      (length-set old.construct.items pool s') (length-set old.update.items pool u') (length-set old.destroy.items pool d') (room_set old.pools.items old.destroy.items pool p p' d d' hp hd h.room room)

  -- no room falls
  pub made_spends : p.spare ≤ p'.spare → p.index_bound ≤ p'.index_bound → ((m : ℕ) → HaveSpare m s → HaveSpare m s') → ((m : ℕ) → HaveSpare m u → HaveSpare m u') → Spends nowhere nowhere (held_of old) (held_of made)
  made_spends spare bound on_construct on_update = record {
    slots = omega arith;
    rows = rows_set nowhere old.pools.items old.destroy.items pool p p' d d' hp hd (omega (arith, spare)) bound
        (λ n h. on_destroy (n + length p'.pairs) (spare_less (n + length p'.pairs) (n + (length p.pairs + 0)) d (omega (arith, ap length pairs)) h));
    construct = events_set nowhere old.construct.items pool s s' hs (λ n h. on_construct n (spare_less n (n + 0) s (omega arith) h));
    update = events_set nowhere old.update.items pool u u' hu (λ n h. on_update n (spare_less n (n + 0) u (omega arith) h));
  }

  -- the room is there
  pub made_room : (reach adds updates : ℕ) → IsRoomy reach adds updates p' s' u' d' → HasRoomInPool (held_of made) reach adds updates pool
  made_room reach adds updates roomy =
      let new : slice_get (set old.pools.items pool p') pool ≡ Some p' = slice_get-set_same old.pools.items pool p' (slice_get_within old.pools.items pool p hp) in
      let here = room_here (set old.pools.items pool p') pool p' new in
      let spare : adds ≤ p'.spare = roomy.spare in
      record {
        spare = omega (arith, spare, ap (λ (r : PoolRoom). r.spare) here);
        indices = λ some. omega (arith, roomy.indices some, ap (λ (r : PoolRoom). r.index_bound) here);
        construct = subst (HaveSpare adds) (sym (hearings_here (set old.construct.items pool s') pool s' (slice_get-set_same old.construct.items pool s' (slice_get_within old.construct.items pool s hs)))) roomy.construct;
        update = subst (HaveSpare updates) (sym (hearings_here (set old.update.items pool u') pool u' (slice_get-set_same old.update.items pool u' (slice_get_within old.update.items pool u hu)))) roomy.update;
        destroy = subst (λ n. HaveSpare (n + adds) (hearings_in (set old.destroy.items pool d') pool)) (sym (rows_here (set old.pools.items pool p') pool p' new))
            (subst (HaveSpare (length p'.pairs + adds)) (sym (hearings_here (set old.destroy.items pool d') pool d' (slice_get-set_same old.destroy.items pool d' (slice_get_within old.destroy.items pool d hd)))) roomy.destroy);
      }

-- ---- one pool after another

pub before_both : (old mid new : Held) → AsBefore old mid → AsBefore mid new → AsBefore old new
before_both old mid new one next = record { unchanged = becomes_alone old mid new old.world [] one.unchanged next; packed = next.packed ∙ one.packed }

pub kept_both : (old mid new : Held) → Spends nowhere nowhere old mid → Spends nowhere nowhere mid new → Spends nowhere nowhere old new
kept_both old mid new one next = record {
  slots = omega (arith, one.slots, next.slots);
  rows = rows_both old.rooms mid.rooms new.rooms old.packed mid.packed new.packed old.destroy mid.destroy new.destroy one.rows next.rows;
  construct = λ pool n h. next.construct pool n (spare_less (n + 0) n (hearings_in mid.construct pool) (omega arith) (one.construct pool n h));
  update = λ pool n h. next.update pool n (spare_less (n + 0) n (hearings_in mid.update pool) (omega arith) (one.update pool n h));
}

-- room that was made stays where none falls
pub room_stays : (old new : Held) (reach adds updates pool : ℕ) → HasRoomInPool old reach adds updates pool → Spends nowhere nowhere old new → new.packed ≡ old.packed → HasRoomInPool new reach adds updates pool
room_stays old new reach adds updates pool h kept packed =
    let spare : adds ≤ (room_in old.rooms pool).spare = h.spare in
    let rows : rows_in new.packed pool ≡ rows_in old.packed pool = ap (λ lists. rows_in lists pool) packed in
    record {
      spare = omega (arith, kept.rows.spare pool);
      indices = λ some. let enough : reach ≤ (room_in old.rooms pool).index_bound = h.indices some in omega (arith, kept.rows.bound pool);
      construct = kept.construct pool adds (spare_less (adds + 0) adds (hearings_in old.construct pool) (omega arith) h.construct);
      update = kept.update pool updates (spare_less (updates + 0) updates (hearings_in old.update pool) (omega arith) h.update);
      destroy = spare_less (rows_in new.packed pool + adds) (adds + rows_in new.packed pool) (hearings_in new.destroy pool) (omega arith)
          (kept.rows.destroy pool adds (spare_less (adds + (rows_in old.packed pool + 0)) (rows_in old.packed pool + adds) (hearings_in old.destroy pool) (omega arith) h.destroy));
    }

-- there is room for all that was asked for, once there is in each pool
pub room_made : (old new : Held) (needs : Needs) (reach : ℕ) → AsBefore old new → slots_after old needs.spawns ≤ reach → slots_after old needs.spawns ≤ length new.world.slots + new.slots_spare
    → ((pool : ℕ) → pool < length new.world.decls → HasRoomInPool new reach (slice_index needs.adds pool) (slice_index needs.updates pool) pool) → HasRoomFor needs new
room_made old new needs reach same far slots all =
    let limit : new.limit ≡ old.limit = same.unchanged.limit in
    let count : length new.world.slots ≡ length old.world.slots = ap (λ (w : World). length w.slots) same.unchanged.world in
    let alike : slots_after new needs.spawns ≡ slots_after old needs.spawns = omega arith in
    record {
      slots = omega arith;
      pools = λ pool low. let h = all pool low in record {
        spare = h.spare;
        indices = λ some. let enough : reach ≤ (room_in new.rooms pool).index_bound = h.indices some in omega arith;
        construct = h.construct;
        update = h.update;
        destroy = h.destroy;
      };
    }

-- where no room falls, there is room for whatever there was room for
pub room_kept : (old new : Held) (adds updates : ℕ → ℕ) (spawns : ℕ) → HasRoom adds updates spawns old → Spends nowhere nowhere old new → AsBefore old new → HasRoom adds updates spawns new
room_kept old new adds updates spawns room kept same =
    let slots : length new.world.slots ≡ length old.world.slots = ap (λ (w : World). length w.slots) same.unchanged.world in
    room_left nowhere nowhere adds updates spawns 0 old new (room_less adds updates (λ pool. adds pool + 0) (λ pool. updates pool + 0) spawns (spawns + 0) old room (λ pool _. omega arith) (λ pool _. omega arith) (omega arith)) kept
    same.unchanged.limit (ap (λ (w : World). length w.decls) same.unchanged.world) (omega arith)
