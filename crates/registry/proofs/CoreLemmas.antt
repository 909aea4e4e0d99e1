-- Pools that were put into another order for the groups' sake.
use Rattle.std.proofs.Common.{◌≡◌, ℕ, ◌<◌, List, [], ◌∷◌, ◌++◌, map, take, drop, length, get_or, Option, Some, slice_get, sym, refl, ap, ◌∙◌, subst, arith}
use Rattle.std.specs.Option.{option_map}
use Rattle.std.proofs.lemmas.List.{length-map}
use Rattle.std.proofs.lemmas.Option.{same_Some, slice_get-map, slice_get-get_or, slice_get_within, get_or_from_slice_get}
use Rattle.entity_id.specs.FiniteMap as entries
use Rattle.signal_sink.specs.Hearings.{Hearing, HaveSpare}
use Rattle.storage.specs.Stored.{Stored}
use Rattle.world_model.specs.declared.component.Row.{Row}
use Rattle.group_engine.specs.Engine.{Groups}
use Rattle.group_engine.specs.Grouped.{Core, packed_of, core_of, cores_of, AreGrouped}
use Rattle.group_engine.proofs.UseLemmas.{written_back}
use Rattle.registry.specs.Held.{PoolRoom}
use Rattle.registry.specs.Layout.{maps_of, rooms_of, HaveRoom, KeepGroups}

maps_by_core : (pools : List (Stored Row)) → maps_of pools ≡ map (λ (c : Core Row). c.map) (cores_of pools)
maps_by_core [] = refl
maps_by_core (p ∷ pools) = ap (λ rest. (core_of p).map ∷ rest) (maps_by_core pools)

-- the maps stay
pub core_maps : (new old : List (Stored Row)) → cores_of new ≡ cores_of old → maps_of new ≡ maps_of old
core_maps new old same = maps_by_core new ∙ ap (map (λ (c : Core Row). c.map)) same ∙ sym (maps_by_core old)

rooms_by_core : (pools : List (Stored Row)) → rooms_of pools ≡ map (λ (c : Core Row). record { spare = c.spare; index_bound = c.bound }) (cores_of pools)
rooms_by_core [] = refl
rooms_by_core (p ∷ pools) = ap (λ (rest : List PoolRoom). record { spare = p.spare; index_bound = p.index_bound } ∷ rest) (rooms_by_core pools)

-- and their room
pub core_rooms : (new old : List (Stored Row)) → cores_of new ≡ cores_of old → rooms_of new ≡ rooms_of old
core_rooms new old same = rooms_by_core new ∙ ap (map (λ (c : Core Row). record { spare = c.spare; index_bound = c.bound })) same ∙ sym (rooms_by_core old)

-- and how many pools there are
pub core_count : (new old : List (Stored Row)) → cores_of new ≡ cores_of old → length new ≡ length old
core_count new old same = sym (length-map new core_of) ∙ ap length same ∙ length-map old core_of

-- and the room for what is told of them
pub core_room : (new old : List (Stored Row)) (hearings : List (List (Option Hearing))) → cores_of new ≡ cores_of old → HaveRoom old hearings → HaveRoom new hearings
core_room new old hearings same room pool stored list here at =
    let none : Stored Row = record { pairs = []; spare = 0; index_bound = 0 } in
    let before = get_or old pool none in
    let low : pool < length new = slice_get_within new pool stored here in
    let there : slice_get old pool ≡ Some before = slice_get-get_or old pool none (omega (arith, core_count new old same)) in
    let core : core_of before ≡ core_of stored = same_Some (core_of before) (core_of stored) (
    sym (slice_get-map core_of old pool ∙ ap (option_map core_of) there) ∙ ap (λ cores. slice_get cores pool) (sym same) ∙ slice_get-map core_of new pool ∙ ap (option_map core_of) here) in
    subst (λ n. HaveSpare n list) (ap (λ (c : Core Row). c.len) core) (room pool before list there at)

-- the groups stay where the packed lists do
pub groups_stay : (groups : Groups) (old new : List (Stored Row)) → AreGrouped groups.decls groups.lens (packed_of old) → packed_of new ≡ packed_of old → KeepGroups groups groups new
groups_stay groups old new h same = record { decls = refl; count = refl; grouped = subst (AreGrouped groups.decls groups.lens) (sym same) h }

-- the rows of one pool
pub core_here : (new old : List (Stored Row)) (pool : ℕ) (p : Stored Row) → cores_of new ≡ cores_of old → slice_get new pool ≡ Some p → entries.map_of p.pairs ≡ get_or (maps_of old) pool []
core_here new old pool p same here =
    sym (get_or_from_slice_get (maps_of new) pool (entries.map_of p.pairs) [] (slice_get-map (λ (s : Stored Row). entries.map_of s.pairs) new pool ∙ ap (option_map (λ (s : Stored Row). entries.map_of s.pairs)) here))
    ∙ ap (λ maps. get_or maps pool []) (core_maps new old same)

-- and how many they are
pub core_len : (new old : List (Stored Row)) (pool : ℕ) (p before : Stored Row) → cores_of new ≡ cores_of old → slice_get new pool ≡ Some p → slice_get old pool ≡ Some before → length p.pairs ≡ length before.pairs
core_len new old pool p before same here there =
    ap (λ (c : Core Row). c.len) (same_Some (core_of p) (core_of before) (
    sym (slice_get-map core_of new pool ∙ ap (option_map core_of) here) ∙ ap (λ cores. slice_get cores pool) same ∙ slice_get-map core_of old pool ∙ ap (option_map core_of) there))

-- pools that were lent and put into another order, and came back
pub came_back : (items lent new : List (Stored Row)) (len : ℕ) → lent ≡ items → length lent ≡ len → cores_of new ≡ cores_of lent → take len (new ++ drop (length new) items) ≡ new
came_back items lent new len value long same = written_back new items len (core_count new lent same ∙ long)

pub back_cores : (items lent new : List (Stored Row)) (len : ℕ) → lent ≡ items → length lent ≡ len → cores_of new ≡ cores_of lent → cores_of (take len (new ++ drop (length new) items)) ≡ cores_of items
back_cores items lent new len value long same = ap cores_of (came_back items lent new len value long same) ∙ same ∙ ap cores_of value
