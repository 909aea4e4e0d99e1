-- Registries that were just made.
use Rattle.std.proofs.Common.{◌≡◌, ℕ, zero, suc, ◌+◌, List, [], ◌∷◌, ◌++◌, map, replicate, length, ap₂, Option, Some, slice_get, sym, refl, ap, ◌∙◌, subst, arith}
use Rattle.std.specs.List.{AllByRecursion}
use Rattle.std.proofs.lemmas.List.{length-map}
use Rattle.std.proofs.lemmas.Option.{none-some, same_Some}
use Rattle.entity_id.specs.FiniteMap as entries
use Rattle.entity_id.specs.declared.entity.Profile.{Profile}
use Rattle.entity_slots.specs.SlotLists.{SlotLists, slot_lists}
use Rattle.group_engine.specs.Engine.{Groups}
use Rattle.group_engine.specs.Grouped.{packed_of, cores_of, AreGrouped, AreStill}
use Rattle.signal_sink.specs.Hearings.{Hearing}
use Rattle.storage.specs.Stored.{Stored}
use Rattle.world_model.specs.declared.component.Decl.{Decl}
use Rattle.world_model.specs.declared.component.Row.{Row}
use Rattle.world_model.specs.declared.slot.Slot.{Slot}
use Rattle.entity_id.specs.declared.entity.Entity.{Entity}
use Rattle.world_model.specs.declared.group.GroupDecl.{GroupDecl}
use Rattle.world_model.specs.declared.world.World.{World}
use Rattle.world_model.specs.Worlds.{IsLawful, empty_world}
use Rattle.registry.specs.declared.parts.Parts.{Parts}
use Rattle.registry.specs.Held.{no_room, unheard}
use Rattle.registry.specs.Layout.{maps_of, pairs_of, rooms_of, world_of, held_of, HaveRoom, IsKept, AreMadeOf}
use Rattle.registry.specs.Packing.{is_owned}
use Rattle.world_model.specs.Contents.{keys_of}
use Rattle.registry.proofs.CoreLemmas.{core_maps, core_rooms}
use Rattle.registry.proofs.DoneLemmas.{length_all_zip}
use Rattle.registry.proofs.MapListLemmas.{map_of-ascending, pools_ascend}

pub replicate_more : {X : Type 0} (n : ℕ) (x : X) → replicate n x ++ x ∷ [] ≡ replicate (n + 1) x
replicate_more zero x = refl
replicate_more (suc n) x = ap (λ rest. x ∷ rest) (replicate_more n x) ∙ (let e : suc (n + 1) ≡ suc n + 1 = omega arith in ap (λ m. replicate m x) e)

length_replicate : {X : Type 0} (n : ℕ) (x : X) → length (replicate n x) ≡ n
length_replicate zero x = refl
length_replicate (suc n) x = ap suc (length_replicate n x)

-- where nobody listens there is room
room_of_none : (n : ℕ) (pools : List (Stored Row)) → HaveRoom pools (replicate n [])
room_of_none n pools pool stored list hp hl number hearing at =
    let none : list ≡ [] = all_empty n pool list hl in
    absurd (none-some (Some hearing) (ap (λ l. slice_get l number) (sym none) ∙ at))
  where
    all_empty : (n pool : ℕ) (list : List (Option Hearing)) → slice_get (replicate n []) pool ≡ Some list → list ≡ []
    all_empty zero pool list h = absurd (none-some list h)
    all_empty (suc n) zero list h = sym (same_Some [] list h)
    all_empty (suc n) (suc pool) list h = all_empty n pool list h

-- pools whose entries stand in ascending index stand for just these maps
maps_of_pairs : (pools : List (Stored Row)) (rows : List (List (Entity × Row))) → pairs_of pools ≡ rows → AllByRecursion entries.IsAscending rows → maps_of pools ≡ rows
maps_of_pairs pools rows is ascend = all_own pools (subst (AllByRecursion entries.IsAscending) (sym is) ascend) ∙ is
  where
    all_own : (pools : List (Stored Row)) → AllByRecursion entries.IsAscending (pairs_of pools) → maps_of pools ≡ pairs_of pools
    all_own [] h = refl
    all_own (p ∷ pools) h = ap₂ (λ (a : List (Entity × Row)) (rest : List (List (Entity × Row))). a ∷ rest) (map_of-ascending p.pairs h.0) (all_own pools h.1)

-- and their packed lists have the keys in that order
packed_of_pairs : (pools : List (Stored Row)) (rows : List (List (Entity × Row))) → pairs_of pools ≡ rows → packed_of pools ≡ map entries.keys rows
packed_of_pairs pools rows is = all_keys pools ∙ ap (map entries.keys) is
  where
    all_keys : (pools : List (Stored Row)) → packed_of pools ≡ map entries.keys (pairs_of pools)
    all_keys [] = refl
    all_keys (p ∷ pools) = ap (λ rest. entries.keys p.pairs ∷ rest) (all_keys pools)

none_ascend : (n : ℕ) → AllByRecursion (entries.IsAscending {X = Row}) (replicate n [])
none_ascend zero = tt
none_ascend (suc n) = (tt, none_ascend n)

-- no groups are packed in any pools
pub no_groups : (decls : List GroupDecl) (lens : List ℕ) (packed : List (List Entity)) → decls ≡ [] → AreGrouped decls lens packed
no_groups decls lens packed none = record { each = λ group decl count at _. absurd (none-some decl (ap (λ (l : List GroupDecl). slice_get l group) (sym none) ∙ at)) }

-- what was made of a lawful world is kept, and is that world with nobody who listens
pub fresh : {L : Type 0} (parts : Parts L) (decls : List Decl) (slots : SlotLists) (pools : List (Stored Row)) (groups : Groups) (limit : ℕ) (world : World) → AreMadeOf parts slots.profile decls slots pools groups → slots.limit ≡ limit
    → record { profile = slots.profile; decls = decls; groups = groups.decls; tick = 0; slots = slots.slots; free = slots.free; pools = maps_of pools } ≡ world → IsLawful limit world
    → groups.pools ≡ length decls → AreGrouped groups.decls groups.lens (packed_of pools) → rooms_of pools ≡ replicate (length decls) no_room → slots.spare ≡ 0
    → IsKept parts × (held_of parts ≡ unheard limit world (packed_of pools))
fresh parts decls slots pools groups limit world made limit_is is lawful group_pools grouped bare none =
    let world_is : world_of parts ≡ world = (λ i. record { profile = (made.slots i).profile; decls = made.decls i; groups = (made.groups i).decls; tick = 0; slots = (made.slots i).slots; free = (made.slots i).free; pools = maps_of (made.pools i) }) ∙ is in
    let limits : parts.slots.limit ≡ limit = ap (λ (s : SlotLists). s.limit) made.slots ∙ limit_is in
    let now : IsLawful parts.slots.limit (world_of parts) = subst (λ n. IsLawful n (world_of parts)) (sym limits) (subst (IsLawful limit) (sym world_is) lawful) in
    let each : length decls ≡ length parts.decls = ap length (sym made.decls) in
    let count : length decls ≡ length world.decls = ap (λ (w : World). length w.decls) is in
    let regrouped : AreGrouped parts.groups.decls parts.groups.lens (packed_of pools) = subst (λ (g : Groups). AreGrouped g.decls g.lens (packed_of pools)) (sym made.groups) grouped in (
      record {
        lawful = now;
        profile = made.profile ∙ ap (λ (s : SlotLists). s.profile) (sym made.slots);
        pool_each = sym (length-map parts.pools.items (λ (s : Stored _). entries.map_of s.pairs)) ∙ length_all_zip _ parts.decls (maps_of parts.pools.items) now.pools;
        construct_each = ap length made.construct ∙ length_replicate (length decls) [] ∙ each;
        update_each = ap length made.update ∙ length_replicate (length decls) [] ∙ each;
        destroy_each = ap length made.destroy ∙ length_replicate (length decls) [] ∙ each;
        room = subst (HaveRoom parts.pools.items) (sym made.destroy) (room_of_none (length decls) parts.pools.items);
        group_pools = ap (λ (g : Groups). g.pools) made.groups ∙ group_pools ∙ each;
        grouped = subst (λ (list : List (Stored Row)). AreGrouped parts.groups.decls parts.groups.lens (packed_of list)) (sym made.pools) regrouped;
      },
      λ i. record {
        limit = limits i;
        world = world_is i;
        packed = packed_of (made.pools i);
        construct = (made.construct ∙ ap (λ n. replicate n []) count) i;
        update = (made.update ∙ ap (λ n. replicate n []) count) i;
        destroy = (made.destroy ∙ ap (λ n. replicate n []) count) i;
        rooms = (ap rooms_of made.pools ∙ bare ∙ ap (λ n. replicate n no_room) count) i;
        slots_spare = (ap (λ (s : SlotLists). s.spare) made.slots ∙ none) i;
      },
    )

-- the same, of no slots, no groups and no rows
pub fresh_new : {L : Type 0} (parts : Parts L) (profile : Profile) (limit : ℕ) (decls : List Decl) (slots : SlotLists) (pools : List (Stored Row)) (groups : Groups) → AreMadeOf parts profile decls slots pools groups → slots ≡ slot_lists profile limit [] []
    → pairs_of pools ≡ replicate (length decls) [] → rooms_of pools ≡ replicate (length decls) no_room → groups.decls ≡ [] → groups.pools ≡ length decls → IsLawful limit (empty_world profile decls) → IsKept parts × (held_of parts ≡ unheard limit (empty_world profile decls) (keys_of (empty_world profile decls)))
fresh_new parts profile limit decls slots pools groups made is none bare ungrouped group_pools lawful =
    let of : profile ≡ slots.profile = ap (λ (s : SlotLists). s.profile) (sym is) in
    let maps : maps_of pools ≡ replicate (length decls) [] = maps_of_pairs pools _ none (none_ascend (length decls)) in
    let both = fresh parts decls slots pools groups limit (empty_world profile decls) (subst (λ p. AreMadeOf parts p decls slots pools groups) of made) (ap (λ (s : SlotLists). s.limit) is)
    (λ i. record { profile = (is i).profile; decls = decls; groups = ungrouped i; tick = 0; slots = (is i).slots; free = (is i).free; pools = maps i }) lawful
    group_pools (no_groups groups.decls groups.lens (packed_of pools) ungrouped) bare (ap (λ (s : SlotLists). s.spare) is) in
    (both.0, both.1 ∙ ap (unheard limit (empty_world profile decls)) (packed_of_pairs pools _ none))

-- as many pools were loaded as there are components
pub count_loaded : (limit : ℕ) (world : World) (loaded : List (Stored Row)) → pairs_of loaded ≡ world.pools → IsLawful limit world → length loaded ≡ length world.decls
count_loaded limit world loaded rows h = sym (length-map loaded (λ (s : Stored Row). s.pairs)) ∙ ap length rows ∙ length_all_zip _ world.decls world.pools h.pools

-- what is made of a lawful world's rows and groups: the pools were loaded, and then put in order for the groups
pub record IsLoaded (world : World) (groups : Groups) (loaded pools : List (Stored Row)) : Type 0 where
  pub decls : groups.decls ≡ world.groups
  pub count : groups.pools ≡ length loaded
  pub grouped : AreGrouped groups.decls groups.lens (packed_of pools)
  pub rows : pairs_of loaded ≡ world.pools
  pub spare : rooms_of loaded ≡ replicate (length world.pools) no_room
  pub cores : cores_of pools ≡ cores_of loaded
  pub still : AreStill (is_owned world.groups) (packed_of loaded) (packed_of pools)

-- a registry of a lawful world
pub record IsOfWorld {L : Type 0} (parts : Parts L) (limit : ℕ) (world : World) : Type 0 where
  pub kept : IsKept parts
  pub held : held_of parts ≡ unheard limit (record world { tick = 0 }) (packed_of parts.pools.items)
  pub still : AreStill (is_owned world.groups) (keys_of world) (packed_of parts.pools.items)

pub fresh_load : {L : Type 0} (parts : Parts L) (limit : ℕ) (world : World) (decls : List Decl) (slots : SlotLists) (list : List Slot) (free : List ℕ) (loaded pools : List (Stored Row)) (groups : Groups) → AreMadeOf parts world.profile decls slots pools groups
    → decls ≡ world.decls → slots ≡ slot_lists world.profile limit list free → list ≡ world.slots → free ≡ world.free → IsLoaded world groups loaded pools → IsLawful limit world → IsOfWorld parts limit world
fresh_load parts limit world decls slots list free loaded pools groups made decls_is is list_is free_is of_rows h =
    let of : world.profile ≡ slots.profile = ap (λ (s : SlotLists). s.profile) (sym is) in
    let lists : slots ≡ slot_lists world.profile limit world.slots world.free = is ∙ (λ i. slot_lists world.profile limit (list_is i) (free_is i)) in
    let stored : maps_of pools ≡ world.pools = core_maps pools loaded of_rows.cores ∙ maps_of_pairs loaded world.pools of_rows.rows (pools_ascend world.profile world.slots world.decls world.pools h.pools) in
    let rows_each : length world.pools ≡ length decls = ap length (sym of_rows.rows) ∙ length-map loaded (λ (s : Stored Row). s.pairs) ∙ count_loaded limit world loaded of_rows.rows h ∙ ap length (sym decls_is) in
    let each : length loaded ≡ length decls = count_loaded limit world loaded of_rows.rows h ∙ ap length (sym decls_is) in
    let both = fresh parts decls slots pools groups limit (record world { tick = 0 }) (subst (λ p. AreMadeOf parts p decls slots pools groups) of made) (ap (λ (s : SlotLists). s.limit) is)
    (λ i. record { profile = (lists i).profile; decls = decls_is i; groups = of_rows.decls i; tick = 0; slots = (lists i).slots; free = (lists i).free; pools = stored i })
    (record { profile = h.profile; few_decls = h.few_decls; decls = h.decls; slots = h.slots; pools = h.pools; groups = h.groups })
    (of_rows.count ∙ each) of_rows.grouped (core_rooms pools loaded of_rows.cores ∙ of_rows.spare ∙ ap (λ n. replicate n no_room) rows_each) (ap (λ (s : SlotLists). s.spare) is) in
    let here : packed_of pools ≡ packed_of parts.pools.items = ap packed_of (sym made.pools) in
    record {
      kept = both.0;
      held = both.1 ∙ ap (unheard limit (record world { tick = 0 })) here;
      still = subst (AreStill (is_owned world.groups) (keys_of world)) here
          (subst (λ (lists : List (List Entity)). AreStill (is_owned world.groups) lists (packed_of pools)) (packed_of_pairs loaded world.pools of_rows.rows) of_rows.still);
    }
