-- Room for one row or one order, and what they take of it.
use Rattle.std.proofs.Common.{◌≡◌, ◌≢◌, ℕ, zero, suc, ◌+◌, ◌<◌, ◌≤◌, Bool, true, false, cond, ◌||◌, eqb, List, [], ◌∷◌, set, get_or, length, Option, Some, None, slice_get, IsTrue, sym, refl, ap, ap₂, ◌∙◌, subst, inl, inr, arith, length-set}
use Rattle.std.specs.Prelude.{min, is_some}
use Rattle.std.specs.Global.{Vec}
use Rattle.std.specs.List.{AllByRecursion, AllZip}
use Rattle.std.specs.Vec.{with_item}
use Rattle.std.proofs.lemmas.Bool.{cases_eq, eq-eqb, ne_eqb}
use Rattle.std.proofs.lemmas.Option.{slice_get_within, get_or_from_slice_get}
use Rattle.entity_id.specs.declared.entity.Entity.{Entity}
use Rattle.entity_id.specs.declared.entity.Profile.{Profile}
use Rattle.entity_id.specs.FiniteMap as entries
use Rattle.entity_id.specs.Identifiers.{is_same}
use Rattle.entity_id.proofs.MapChangeLemmas.{has_index-map_of}
use Rattle.group_engine.specs.Engine.{Groups}
use Rattle.group_engine.specs.Grouped.{packed_of, cores_of}
use Rattle.signal_sink.specs.Hearings.{Hearing, HaveSpare}
use Rattle.storage.specs.Stored.{Stored}
use Rattle.world_model.specs.declared.component.Decl.{Decl}
use Rattle.world_model.specs.declared.component.Row.{Row}
use Rattle.world_model.specs.declared.deferred.Deferred.{Deferred}
use Rattle.world_model.specs.declared.slot.Slot.{Slot}
use Rattle.world_model.specs.Contents.{pool_at}
use Rattle.world_model.specs.Orders.{is_add, is_update}
use Rattle.world_model.specs.Slots.{is_live, is_live_at}
use Rattle.world_model.specs.Worlds.{AreLawfulRows}
use Rattle.world_model.proofs.SlotLemmas.{live_once, live_within, slot_of_live}
use Rattle.registry.specs.declared.parts.Parts.{Parts}
use Rattle.registry.specs.Held.{Held}
use Rattle.registry.specs.Layout.{world_of, held_of, rooms_of, IsKept}
use Rattle.registry.specs.Rooms.{rows_in, room_in, hearings_in, slots_after, HasRoomInPool, HasRoom}
use Rattle.registry.specs.Spending.{once_in, IsReadyFor, SpendsRows, Spends, adds_of, updates_of, spawns_of}
use Rattle.registry.proofs.PoolLemmas.{with_rows, at_pool}
use Rattle.registry.proofs.SpendLemmas.{spare_less, room_here, rows_here, hearings_here, no_events, rows_set, rows_kept, rows_by_cores, events_set}

-- ---- one row

-- the identifiers of rows are live
rows_live : (profile : Profile) (slots : List Slot) (decls : List Decl) (pools : List (List (Entity × Row))) (pool : ℕ) → AllZip (AreLawfulRows profile slots) decls pools → AllByRecursion (λ (entry : Entity × Row). IsTrue (is_live slots entry.0)) (get_or pools pool [])
rows_live profile slots decls [] pool h = tt
rows_live profile slots [] (rows ∷ pools) pool h = absurd h
rows_live profile slots (decl ∷ decls) (rows ∷ pools) zero h = h.0.live
rows_live profile slots (decl ∷ decls) (rows ∷ pools) (suc pool) h = rows_live profile slots decls pools pool h.1

-- so a live one that has no row shares its index with none
fresh_live : (slots : List Slot) (e : Entity) (rows : List (Entity × Row)) → AllByRecursion (λ (entry : Entity × Row). IsTrue (is_live slots entry.0)) rows → is_live slots e ≡ true → entries.contains rows e ≡ false → entries.has_index rows e.index ≡ false
fresh_live slots e [] all live none = refl
fresh_live slots e (x ∷ rows) all live none = by_same (is_same e x.0) refl (λ rest. fresh_live slots e rows all.1 live rest)
  where
    by_same : (b : Bool) → is_same e x.0 ≡ b → (entries.contains rows e ≡ false → entries.has_index rows e.index ≡ false) → entries.has_index (x ∷ rows) e.index ≡ false
    by_same true q further =
        let held : entries.contains (x ∷ rows) e ≡ true = ap (λ b. is_some (cond b (Some x.1) (entries.get rows e))) q in
        let apart : true ≡ false = sym held ∙ none in
        cc
    by_same false q further =
        let rest : entries.contains rows e ≡ false = sym (ap (λ b. is_some (cond b (Some x.1) (entries.get rows e))) q) ∙ none in
        let apart : x.0.index ≢ e.index = λ at. let same : is_same e x.0 ≡ true = live_once slots e x.0 live all.0 at in cc in
        ap₂ (λ a b. a || b) (ne_eqb x.0.index e.index apart) (further rest)

pub live_low : (slots : List Slot) (e : Entity) → is_live slots e ≡ true → e.index < length slots
live_low slots e live = live_within slots e.index (slot_of_live slots e live).0

-- a pool with room for one row is ready for any live identifier
pub ready_here : {L : Type 0} (old : Parts L) (e : Entity) (pool : ℕ) (p : Stored Row) (s d : List (Option Hearing)) → slice_get old.pools.items pool ≡ Some p → slice_get old.construct.items pool ≡ Some s → slice_get old.destroy.items pool ≡ Some d
    → IsKept old → is_live old.slots.slots e ≡ true → HasRoomInPool (held_of old) (length old.slots.slots) 1 1 pool → IsReadyFor e p s d
ready_here old e pool p s d hp hs hd h live room =
    let spare : 1 ≤ (room_in (rooms_of old.pools.items) pool).spare = room.spare in
    let bound : length old.slots.slots ≤ (room_in (rooms_of old.pools.items) pool).index_bound = room.indices (omega arith) in
    let here = room_here old.pools.items pool p hp in
    record {
      fresh = λ none. sym (has_index-map_of p.pairs e.index)
          ∙ fresh_live old.slots.slots e (entries.map_of p.pairs) (subst (AllByRecursion (λ (entry : Entity × Row). IsTrue (is_live old.slots.slots entry.0))) (at_pool old pool p p hp) (rows_live (world_of old).profile old.slots.slots old.decls (world_of old).pools pool h.lawful.pools)) live none;
      spare = omega (arith, ap (λ r. r.spare) here);
      bound = omega (arith, ap (λ r. r.index_bound) here, live_low old.slots.slots e live);
      construct = subst (HaveSpare 1) (hearings_here old.construct.items pool s hs) room.construct;
      destroy = subst (λ n. HaveSpare (n + 1) d) (rows_here old.pools.items pool p hp) (subst (HaveSpare (rows_in (packed_of old.pools.items) pool + 1)) (hearings_here old.destroy.items pool d hd) room.destroy);
    }

once_here : (pool : ℕ) → once_in pool pool ≡ 1
once_here pool = ap (λ b. cond b 1 0) (eq-eqb pool pool refl)

-- a row that was added took room for one
pub entered_spends : {L : Type 0} (old : Parts L) (pool : ℕ) (p p' : Stored Row) (s s' d d' : List (Option Hearing)) (pools : Vec (Stored Row)) (groups : Groups) (updates : ℕ → ℕ) → slice_get old.pools.items pool ≡ Some p → slice_get old.construct.items pool ≡ Some s
    → slice_get old.destroy.items pool ≡ Some d → p.spare ≤ p'.spare + 1 → p'.index_bound ≡ p.index_bound → length p'.pairs ≤ length p.pairs + 1 → ((m : ℕ) → HaveSpare (m + 1) s → HaveSpare m s') → ((m : ℕ) → HaveSpare m d → HaveSpare m d')
    → cores_of pools.items ≡ cores_of (set old.pools.items pool p')
    → Spends (once_in pool) updates (held_of old) (held_of (with_rows old pools groups (with_item old.construct pool s') old.update (with_item old.destroy pool d')))
entered_spends old pool p p' s s' d d' pools groups updates hp hs hd spare bound few on_construct on_destroy cores =
    let one : once_in pool pool ≡ 1 = once_here pool in
    record {
      slots = omega arith;
      rows = rows_by_cores (once_in pool) (rooms_of old.pools.items) (packed_of old.pools.items) (set old.pools.items pool p') pools.items old.destroy.items (set old.destroy.items pool d') cores
          (rows_set (once_in pool) old.pools.items old.destroy.items pool p p' d d' hp hd (omega (arith, one, spare)) (omega (arith, bound))
          (λ n h. on_destroy (n + length p'.pairs) (spare_less (n + length p'.pairs) (n + (length p.pairs + once_in pool pool)) d (omega (arith, one, few)) h)));
      construct = events_set (once_in pool) old.construct.items pool s s' hs (λ n h. on_construct n (subst (λ k. HaveSpare (n + k) s) one h));
      update = no_events updates old.update.items;
    }

-- one that was changed took room for one event
pub changed_spends : {L : Type 0} (old : Parts L) (pool : ℕ) (p p' : Stored Row) (s s' : List (Option Hearing)) (adds : ℕ → ℕ) → slice_get old.pools.items pool ≡ Some p → slice_get old.update.items pool ≡ Some s → p'.spare ≡ p.spare → p'.index_bound ≡ p.index_bound
    → length p'.pairs ≡ length p.pairs → ((m : ℕ) → HaveSpare (m + 1) s → HaveSpare m s') → Spends adds (once_in pool) (held_of old) (held_of (with_rows old (with_item old.pools pool p') old.groups old.construct (with_item old.update pool s') old.destroy))
changed_spends old pool p p' s s' adds hp hs spare bound long on_update = record {
  slots = omega arith;
  rows = rows_kept adds old.pools.items old.destroy.items pool p p' hp spare bound long;
  construct = no_events adds old.construct.items;
  update = events_set (once_in pool) old.update.items pool s s' hs (λ n h. on_update n (subst (λ k. HaveSpare (n + k) s) (once_here pool) h));
}

-- ---- one order

-- room for an order that sets a row
pub room_to_give : (held : Held) (order : Deferred) (pool : ℕ) → HasRoom (adds_of order) (updates_of order) (spawns_of order) held → pool < length held.world.decls → is_add pool order ≡ true → is_update pool order ≡ true → length held.world.slots ≤ held.limit
    → HasRoomInPool held (length held.world.slots) 1 1 pool
room_to_give held order pool room low add update few =
    let h = room.pools pool low in
    let one : adds_of order pool ≡ 1 = ap (λ b. cond b 1 0) add in
    let once : updates_of order pool ≡ 1 = ap (λ b. cond b 1 0) update in
    let spare : adds_of order pool ≤ (room_in held.rooms pool).spare = h.spare in
    record {
      spare = omega arith;
      indices = λ some. let enough : slots_after held (spawns_of order) ≤ (room_in held.rooms pool).index_bound = h.indices (omega arith) in omega arith;
      construct = subst (λ n. HaveSpare n (hearings_in held.construct pool)) one h.construct;
      update = subst (λ n. HaveSpare n (hearings_in held.update pool)) once h.update;
      destroy = subst (λ n. HaveSpare (rows_in held.packed pool + n) (hearings_in held.destroy pool)) one h.destroy;
    }

-- and for one that sets a field
pub room_to_send : (held : Held) (order : Deferred) (pool : ℕ) → HasRoom (adds_of order) (updates_of order) (spawns_of order) held → pool < length held.world.decls → is_update pool order ≡ true → HaveSpare 1 (hearings_in held.update pool)
room_to_send held order pool room low update = subst (λ n. HaveSpare n (hearings_in held.update pool)) (ap (λ b. cond b 1 0) update) (room.pools pool low).update

-- what an order takes, whichever it was found to be
pub spends_as : (old new : Held) (order same : Deferred) → order ≡ same → Spends (adds_of same) (updates_of same) old new → Spends (adds_of order) (updates_of order) old new
spends_as old new order same is h = subst (λ (o : Deferred). Spends (adds_of o) (updates_of o) old new) (sym is) h
