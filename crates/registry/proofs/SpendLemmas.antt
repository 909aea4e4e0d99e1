-- Room that is spent, and what is left of it.
use Rattle.std.proofs.Common.{◌≡◌, ◌≢◌, ℕ, zero, suc, ◌+◌, ◌<◌, ◌≤◌, cond, eqb, List, [], ◌∷◌, map, set, get_or, length, Option, Some, None, slice_get, sym, refl, ap, ◌∙◌, subst, inl, inr, arith}
use Rattle.std.specs.Prelude.{min, unwrap_or}
use Rattle.std.specs.Option.{option_map, option_map_or}
use Rattle.std.proofs.lemmas.Bool.{cases_eq, eq-eqb}
use Rattle.std.proofs.lemmas.List.{length-map}
use Rattle.std.proofs.lemmas.Option.{slice_get-map, slice_get_within}
use Rattle.entity_id.specs.declared.entity.Entity.{Entity}
use Rattle.entity_id.specs.FiniteMap as entries
use Rattle.entity_id.proofs.ListLemmas.{slice_get-set_same, slice_get-set_other}
use Rattle.group_engine.specs.Grouped.{Core, packed_of, core_of, cores_of}
use Rattle.signal_sink.specs.Hearings.{Hearing, HaveSpare}
use Rattle.storage.specs.Stored.{Stored}
use Rattle.world_model.specs.declared.component.Row.{Row}
use Rattle.registry.specs.Held.{Held, PoolRoom, no_room}
use Rattle.registry.specs.Layout.{room_of, rooms_of}
use Rattle.registry.specs.Rooms.{rows_in, room_in, hearings_in, slots_after, HasRoomInPool, HasRoom}
use Rattle.registry.specs.Spending.{nowhere, once_in, SpendsEvents, SpendsRows, Spends}
use Rattle.registry.proofs.CoreLemmas.{core_rooms}

-- ---- listeners

-- room for fewer events
pub spare_less : (n m : ℕ) (l : List (Option Hearing)) → n ≤ m → HaveSpare m l → HaveSpare n l
spare_less n m l le h number hearing at = let low : m ≤ hearing.spare = h number hearing at in omega arith

-- ---- nothing spent

pub no_events : (events : ℕ → ℕ) (hearings : List (List (Option Hearing))) → SpendsEvents events hearings hearings
no_events events hearings pool n h = spare_less n (n + events pool) (hearings_in hearings pool) (omega arith) h

pub no_rows : (adds : ℕ → ℕ) (rooms : List PoolRoom) (packed : List (List Entity)) (hearings : List (List (Option Hearing))) → SpendsRows adds rooms rooms packed packed hearings hearings
no_rows adds rooms packed hearings = record {
  spare = λ pool. omega arith;
  bound = λ pool. omega arith;
  destroy = λ pool n h. spare_less (n + rows_in packed pool) (n + (rows_in packed pool + adds pool)) (hearings_in hearings pool) (omega arith) h;
}

pub spends_nothing : (adds updates : ℕ → ℕ) (held : Held) → Spends adds updates held held
spends_nothing adds updates held = record {
  slots = omega arith;
  rows = no_rows adds held.rooms held.packed held.destroy;
  construct = no_events adds held.construct;
  update = no_events updates held.update;
}

-- ---- what is left

-- of room for more, once some of it was spent
pub room_left : (adds updates a u : ℕ → ℕ) (s more : ℕ) (old new : Held) → HasRoom (λ pool. a pool + adds pool) (λ pool. u pool + updates pool) (s + more) old → Spends adds updates old new
    → new.limit ≡ old.limit → length new.world.decls ≡ length old.world.decls → length new.world.slots ≤ length old.world.slots + more → HasRoom a u s new
room_left adds updates a u s more old new room spent limit decls few =
    let kept : old.slots_spare + length old.world.slots ≤ new.slots_spare + length new.world.slots = spent.slots in
    let slots : slots_after old (s + more) ≤ length old.world.slots + old.slots_spare = room.slots in
    let fewer : slots_after new s ≤ slots_after old (s + more) = omega arith in
    record {
      slots = omega arith;
      pools = λ pool low.
          let before = room.pools pool (omega arith) in
          let spare : a pool + adds pool ≤ (room_in old.rooms pool).spare = before.spare in
          let less : (room_in old.rooms pool).spare ≤ (room_in new.rooms pool).spare + adds pool = spent.rows.spare pool in
          let bound : (room_in old.rooms pool).index_bound ≤ (room_in new.rooms pool).index_bound = spent.rows.bound pool in
          let of_rows : HaveSpare (a pool + (rows_in old.packed pool + adds pool)) (hearings_in old.destroy pool)
          = spare_less (a pool + (rows_in old.packed pool + adds pool)) (rows_in old.packed pool + (a pool + adds pool)) (hearings_in old.destroy pool) (omega arith) before.destroy in
          record {
            spare = omega arith;
            indices = λ some. let enough : slots_after old (s + more) ≤ (room_in old.rooms pool).index_bound = before.indices (omega arith) in omega arith;
            construct = spent.construct pool (a pool) before.construct;
            update = spent.update pool (u pool) before.update;
            destroy = spare_less (rows_in new.packed pool + a pool) (a pool + rows_in new.packed pool) (hearings_in new.destroy pool) (omega arith) (spent.rows.destroy pool (a pool) of_rows);
          };
    }

-- rows that leave one after another spend nothing
pub rows_both : (rooms between left : List PoolRoom) (packed mid after : List (List Entity)) (old then new : List (List (Option Hearing))) → SpendsRows nowhere rooms between packed mid old then → SpendsRows nowhere between left mid after then new
    → SpendsRows nowhere rooms left packed after old new
rows_both rooms between left packed mid after old then new one next = record {
  spare = λ pool. omega (arith, one.spare pool, next.spare pool);
  bound = λ pool. omega (arith, one.bound pool, next.bound pool);
  destroy = λ pool n h. next.destroy pool n (spare_less (n + (rows_in mid pool + 0)) (n + rows_in mid pool) (hearings_in then pool) (omega arith) (one.destroy pool n h));
}

-- ---- one pool

get_or_is : {X : Type 0} (xs : List X) (k : ℕ) (d : X) → get_or xs k d ≡ unwrap_or (slice_get xs k) d
get_or_is [] k d = refl
get_or_is (x ∷ xs) zero d = refl
get_or_is (x ∷ xs) (suc k) d = get_or_is xs k d

-- what is seen of the pool at a place, if there is one
abbrev room_seen : Option (Stored Row) → PoolRoom
room_seen place = unwrap_or (option_map room_of place) no_room

abbrev rows_seen : Option (Stored Row) → ℕ
rows_seen place = option_map_or (λ stored. length stored.pairs) place 0

abbrev hearings_seen : Option (List (Option Hearing)) → List (Option Hearing)
hearings_seen place = unwrap_or place []

room_is : (pools : List (Stored Row)) (k : ℕ) → room_in (rooms_of pools) k ≡ room_seen (slice_get pools k)
room_is pools k = get_or_is (rooms_of pools) k no_room ∙ ap (λ (o : Option PoolRoom). unwrap_or o no_room) (slice_get-map room_of pools k)

rows_are : (pools : List (Stored Row)) (k : ℕ) → rows_in (packed_of pools) k ≡ rows_seen (slice_get pools k)
rows_are [] k = refl
rows_are (p ∷ pools) zero = length-map p.pairs (λ pair. pair.0)
rows_are (p ∷ pools) (suc k) = rows_are pools k

pub room_here : (pools : List (Stored Row)) (pool : ℕ) (p : Stored Row) → slice_get pools pool ≡ Some p → room_in (rooms_of pools) pool ≡ room_of p
room_here pools pool p h = room_is pools pool ∙ ap room_seen h

pub rows_here : (pools : List (Stored Row)) (pool : ℕ) (p : Stored Row) → slice_get pools pool ≡ Some p → rows_in (packed_of pools) pool ≡ length p.pairs
rows_here pools pool p h = rows_are pools pool ∙ ap rows_seen h

pub hearings_here : (hearings : List (List (Option Hearing))) (pool : ℕ) (s : List (Option Hearing)) → slice_get hearings pool ≡ Some s → hearings_in hearings pool ≡ s
hearings_here hearings pool s h = get_or_is hearings pool [] ∙ ap hearings_seen h

-- the same of one place
record SpendsPlace (adds : ℕ) (p p' : Option (Stored Row)) (d d' : Option (List (Option Hearing))) : Type 0 where
  spare : (room_seen p).spare ≤ (room_seen p').spare + adds
  bound : (room_seen p).index_bound ≤ (room_seen p').index_bound
  destroy : (n : ℕ) → HaveSpare (n + (rows_seen p + adds)) (hearings_seen d) → HaveSpare (n + rows_seen p') (hearings_seen d')

by_places : (adds : ℕ → ℕ) (pools new : List (Stored Row)) (hearings told : List (List (Option Hearing))) → ((k : ℕ) → SpendsPlace (adds k) (slice_get pools k) (slice_get new k) (slice_get hearings k) (slice_get told k))
    → SpendsRows adds (rooms_of pools) (rooms_of new) (packed_of pools) (packed_of new) hearings told
by_places adds pools new hearings told all = record {
  spare = λ k. let one : (room_seen (slice_get pools k)).spare ≤ (room_seen (slice_get new k)).spare + adds k = (all k).spare in
      omega (arith, one, ap (λ (r : PoolRoom). r.spare) (room_is pools k), ap (λ (r : PoolRoom). r.spare) (room_is new k));
  bound = λ k. let one : (room_seen (slice_get pools k)).index_bound ≤ (room_seen (slice_get new k)).index_bound = (all k).bound in
      omega (arith, one, ap (λ (r : PoolRoom). r.index_bound) (room_is pools k), ap (λ (r : PoolRoom). r.index_bound) (room_is new k));
  destroy = λ k n h.
      subst (λ l. HaveSpare (n + rows_in (packed_of new) k) l) (sym (get_or_is told k []))
      (subst (λ m. HaveSpare (n + m) (hearings_seen (slice_get told k))) (sym (rows_are new k))
      ((all k).destroy n
      (subst (λ m. HaveSpare (n + (m + adds k)) (hearings_seen (slice_get hearings k))) (rows_are pools k)
      (subst (λ l. HaveSpare (n + (rows_in (packed_of pools) k + adds k)) l) (get_or_is hearings k []) h))));
}

place_stays : (adds : ℕ) (p : Option (Stored Row)) (d : Option (List (Option Hearing))) → SpendsPlace adds p p d d
place_stays adds p d = record { spare = omega arith; bound = omega arith; destroy = λ n h. spare_less (n + rows_seen p) (n + (rows_seen p + adds)) (hearings_seen d) (omega arith) h }

-- one pool and its listeners changed
pub rows_set : (adds : ℕ → ℕ) (pools : List (Stored Row)) (hearings : List (List (Option Hearing))) (pool : ℕ) (p p' : Stored Row) (d d' : List (Option Hearing)) → slice_get pools pool ≡ Some p → slice_get hearings pool ≡ Some d
    → p.spare ≤ p'.spare + adds pool → p.index_bound ≤ p'.index_bound → ((n : ℕ) → HaveSpare (n + (length p.pairs + adds pool)) d → HaveSpare (n + length p'.pairs) d')
    → SpendsRows adds (rooms_of pools) (rooms_of (set pools pool p')) (packed_of pools) (packed_of (set pools pool p')) hearings (set hearings pool d')
rows_set adds pools hearings pool p p' d d' hp hd spare bound destroy =
    by_places adds pools (set pools pool p') hearings (set hearings pool d') (λ k. elim (cases_eq k pool) [
      | inl at ↦ subst (λ n. SpendsPlace (adds n) (slice_get pools n) (slice_get (set pools pool p') n) (slice_get hearings n) (slice_get (set hearings pool d') n)) (sym at)
          (subst (λ o. SpendsPlace (adds pool) o (slice_get (set pools pool p') pool) (slice_get hearings pool) (slice_get (set hearings pool d') pool)) (sym hp)
          (subst (λ o. SpendsPlace (adds pool) (Some p) o (slice_get hearings pool) (slice_get (set hearings pool d') pool)) (sym (slice_get-set_same pools pool p' (slice_get_within pools pool p hp)))
          (subst (λ o. SpendsPlace (adds pool) (Some p) (Some p') o (slice_get (set hearings pool d') pool)) (sym hd)
          (subst (λ o. SpendsPlace (adds pool) (Some p) (Some p') (Some d) o) (sym (slice_get-set_same hearings pool d' (slice_get_within hearings pool d hd)))
          (record { spare = spare; bound = bound; destroy = destroy })))))
      | inr apart ↦ subst (λ o. SpendsPlace (adds k) (slice_get pools k) o (slice_get hearings k) (slice_get (set hearings pool d') k)) (sym (slice_get-set_other pools pool k p' apart))
          (subst (λ o. SpendsPlace (adds k) (slice_get pools k) (slice_get pools k) (slice_get hearings k) o) (sym (slice_get-set_other hearings pool k d' apart))
          (place_stays (adds k) (slice_get pools k) (slice_get hearings k)))
    ])

-- one pool changed that has as many rows and as much room as before
pub rows_kept : (adds : ℕ → ℕ) (pools : List (Stored Row)) (hearings : List (List (Option Hearing))) (pool : ℕ) (p p' : Stored Row) → slice_get pools pool ≡ Some p → p'.spare ≡ p.spare → p'.index_bound ≡ p.index_bound → length p'.pairs ≡ length p.pairs
    → SpendsRows adds (rooms_of pools) (rooms_of (set pools pool p')) (packed_of pools) (packed_of (set pools pool p')) hearings hearings
rows_kept adds pools hearings pool p p' hp spare bound long =
    by_places adds pools (set pools pool p') hearings hearings (λ k. elim (cases_eq k pool) [
      | inl at ↦ subst (λ n. SpendsPlace (adds n) (slice_get pools n) (slice_get (set pools pool p') n) (slice_get hearings n) (slice_get hearings n)) (sym at)
          (subst (λ o. SpendsPlace (adds pool) o (slice_get (set pools pool p') pool) (slice_get hearings pool) (slice_get hearings pool)) (sym hp)
          (subst (λ o. SpendsPlace (adds pool) (Some p) o (slice_get hearings pool) (slice_get hearings pool)) (sym (slice_get-set_same pools pool p' (slice_get_within pools pool p hp)))
          (record { spare = omega (arith, spare); bound = omega (arith, bound); destroy = λ n h. spare_less (n + length p'.pairs) (n + (length p.pairs + adds pool)) (hearings_seen (slice_get hearings pool)) (omega (arith, long)) h })))
      | inr apart ↦ subst (λ o. SpendsPlace (adds k) (slice_get pools k) o (slice_get hearings k) (slice_get hearings k)) (sym (slice_get-set_other pools pool k p' apart))
          (place_stays (adds k) (slice_get pools k) (slice_get hearings k))
    ])

-- the listeners of one pool were told
pub events_set : (events : ℕ → ℕ) (hearings : List (List (Option Hearing))) (pool : ℕ) (s s' : List (Option Hearing)) → slice_get hearings pool ≡ Some s → ((n : ℕ) → HaveSpare (n + events pool) s → HaveSpare n s') → SpendsEvents events hearings (set hearings pool s')
events_set events hearings pool s s' hs told k n = elim (cases_eq k pool) [
  | inl at ↦ subst (λ m. HaveSpare (n + events m) (hearings_in hearings m) → HaveSpare n (hearings_in (set hearings pool s') m)) (sym at)
      (subst (λ (l : List (Option Hearing)). HaveSpare (n + events pool) l → HaveSpare n (hearings_in (set hearings pool s') pool)) (sym (get_or_is hearings pool [] ∙ ap (λ (o : Option (List (Option Hearing))). unwrap_or o []) hs))
      (subst (λ (l : List (Option Hearing)). HaveSpare (n + events pool) s → HaveSpare n l)
      (sym (get_or_is (set hearings pool s') pool [] ∙ ap (λ (o : Option (List (Option Hearing))). unwrap_or o []) (slice_get-set_same hearings pool s' (slice_get_within hearings pool s hs)))) (told n)))
  | inr apart ↦ subst (λ (l : List (Option Hearing)). HaveSpare (n + events k) (hearings_in hearings k) → HaveSpare n l)
      (sym (get_or_is (set hearings pool s') k [] ∙ ap (λ (o : Option (List (Option Hearing))). unwrap_or o []) (slice_get-set_other hearings pool k s' apart) ∙ sym (get_or_is hearings k []))) (no_events events hearings k n)
]

-- ---- pools in another order

-- pools that have the rows, the room and the length of before, in whatever order
pub rows_by_cores : (adds : ℕ → ℕ) (rooms : List PoolRoom) (packed : List (List Entity)) (mid new : List (Stored Row)) (old told : List (List (Option Hearing))) → cores_of new ≡ cores_of mid → SpendsRows adds rooms (rooms_of mid) packed (packed_of mid) old told
    → SpendsRows adds rooms (rooms_of new) packed (packed_of new) old told
rows_by_cores adds rooms packed mid new old told same h =
    let rooms_are : rooms_of new ≡ rooms_of mid = core_rooms new mid same in
    record {
      spare = λ k. subst (λ (r : List PoolRoom). (room_in rooms k).spare ≤ (room_in r k).spare + adds k) (sym rooms_are) (h.spare k);
      bound = λ k. subst (λ (r : List PoolRoom). (room_in rooms k).index_bound ≤ (room_in r k).index_bound) (sym rooms_are) (h.bound k);
      destroy = λ k n room. subst (λ m. HaveSpare (n + m) (hearings_in told k)) (lens mid k ∙ ap (λ (cores : List (Core Row)). core_len cores k) (sym same) ∙ sym (lens new k)) (h.destroy k n room);
    }
  where
    core_len : List (Core Row) → ℕ → ℕ
    core_len cores k = get_or (map (λ (c : Core Row). c.len) cores) k 0

    lens : (pools : List (Stored Row)) (k : ℕ) → rows_in (packed_of pools) k ≡ core_len (cores_of pools) k
    lens [] k = refl
    lens (p ∷ pools) zero = length-map p.pairs (λ pair. pair.0)
    lens (p ∷ pools) (suc k) = lens pools k

pub rows_to_cores : (adds : ℕ → ℕ) (left : List PoolRoom) (after : List (List Entity)) (pools mid : List (Stored Row)) (old told : List (List (Option Hearing))) → cores_of mid ≡ cores_of pools → SpendsRows adds (rooms_of mid) left (packed_of mid) after old told
    → SpendsRows adds (rooms_of pools) left (packed_of pools) after old told
rows_to_cores adds left after pools mid old told same h =
    let first = rows_by_cores nowhere (rooms_of pools) (packed_of pools) pools mid old old same (no_rows nowhere (rooms_of pools) (packed_of pools) old) in
    record {
      spare = λ k. omega (arith, first.spare k, h.spare k);
      bound = λ k. omega (arith, first.bound k, h.bound k);
      destroy = λ k n room.
          h.destroy k n (spare_less (n + (rows_in (packed_of mid) k + adds k)) ((n + adds k) + rows_in (packed_of mid) k) (hearings_in old k) (omega arith)
          (first.destroy k (n + adds k) (spare_less ((n + adds k) + (rows_in (packed_of pools) k + 0)) (n + (rows_in (packed_of pools) k + adds k)) (hearings_in old k) (omega arith) room)));
    }
