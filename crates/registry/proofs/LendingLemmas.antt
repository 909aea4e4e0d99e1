-- Pools lent, given other rows, and put back.
use Rattle.std.proofs.Common.{◌≡◌, ℕ, ◌<◌, Bool, true, false, cond, IsTrue, List, [], ◌∷◌, ◌++◌, map, drop, get_or, length, Option, Some, slice_get, refl, sym, ap, ap₂, ◌∙◌, subst, arith}
use Rattle.std.specs.Prelude.{filter, nat_lt}
use Rattle.std.specs.Global.{Vec}
use Rattle.std.specs.List.{AllByRecursion, AllZip}
use Rattle.std.specs.Option.{option_map}
use Rattle.std.proofs.lemmas.List.{length-map, map-append}
use Rattle.std.proofs.lemmas.Option.{same_Some, slice_get-map, slice_get-get_or, slice_get_within}
use Rattle.entity_id.specs.declared.entity.Entity.{Entity}
use Rattle.entity_id.specs.declared.entity.Profile.{Profile}
use Rattle.entity_id.specs.FiniteMap as entries
use Rattle.entity_id.proofs.ListLemmas.{all_weaker}
use Rattle.entity_id.proofs.MapLemmas.{ascending-keys}
use Rattle.signal_sink.specs.Hearings.{Hearing, HaveSpare}
use Rattle.storage.specs.Stored.{Stored}
use Rattle.world_model.specs.declared.component.Decl.{Decl}
use Rattle.world_model.specs.declared.component.Row.{Row}
use Rattle.world_model.specs.declared.slot.Slot.{Slot}
use Rattle.world_model.specs.declared.world.World.{World}
use Rattle.world_model.specs.Components.{IsRow, fits}
use Rattle.world_model.specs.Contents.{keys_of}
use Rattle.world_model.specs.Frames.{AreFittingMaps}
use Rattle.world_model.specs.Slots.{is_live}
use Rattle.world_model.specs.Ticks.{Maps}
use Rattle.world_model.specs.Worlds.{AreLawfulRows, IsLawful}
use Rattle.group_engine.specs.Grouped.{packed_of, AreGrouped}
use Rattle.registry.specs.declared.parts.Parts.{Parts}
use Rattle.registry.specs.Emptying.{emptied_of, IsShell}
use Rattle.registry.specs.Layout.{maps_of, room_of, rooms_of, HaveRoom, IsKept}
use Rattle.registry.specs.Lending.{Emptied, Shape, shape_of, shapes_of, refilled, IsLent, MayComeBack}

-- ---- other rows of the same identifiers

-- what holds of the identifiers holds of the entries
all_of_keys : (P : Entity → Type 0) (rows : List (Entity × Row)) → AllByRecursion P (entries.keys rows) → AllByRecursion (λ entry. P entry.0) rows
all_of_keys P [] all = tt
all_of_keys P (entry ∷ rows) all = (all.0, all_of_keys P rows all.1)

keys_of_all : (P : Entity → Type 0) (rows : List (Entity × Row)) → AllByRecursion (λ entry. P entry.0) rows → AllByRecursion P (entries.keys rows)
keys_of_all P [] all = tt
keys_of_all P (entry ∷ rows) all = (all.0, keys_of_all P rows all.1)

ascending_of_keys : (rows : List (Entity × Row)) → entries.AreAscending (entries.keys rows) → entries.IsAscending rows
ascending_of_keys [] all = tt
ascending_of_keys (entry ∷ rows) all = (all_of_keys (λ e. entry.0.index < e.index) rows all.0, ascending_of_keys rows all.1)

module _ (profile : Profile) (slots : List Slot) where
  rows_lawful : (decl : Decl) (old new : List (Entity × Row)) → entries.keys new ≡ entries.keys old → AreLawfulRows profile slots decl old
      → AllByRecursion (λ entry. IsRow entry.1 × IsTrue (fits profile decl entry.1)) new → AreLawfulRows profile slots decl new
  rows_lawful decl old new same lawful fit = record {
    ascending = ascending_of_keys new (subst entries.AreAscending (sym same) (ascending-keys old lawful.ascending));
    live = all_of_keys (λ e. IsTrue (is_live slots e)) new (subst (AllByRecursion (λ e. IsTrue (is_live slots e))) (sym same) (keys_of_all (λ e. IsTrue (is_live slots e)) old lawful.live));
    wide = all_weaker (λ entry. IsRow entry.1 × IsTrue (fits profile decl entry.1)) (λ entry. IsRow entry.1) (λ entry is. is.0) new fit;
    fitting = all_weaker (λ entry. IsRow entry.1 × IsTrue (fits profile decl entry.1)) (λ entry. IsTrue (fits profile decl entry.1)) (λ entry is. is.1) new fit;
  }

  maps_lawful : (decls : List Decl) (old new : Maps) → map entries.keys new ≡ map entries.keys old → AllZip (AreLawfulRows profile slots) decls old → AreFittingMaps profile decls new
      → AllZip (AreLawfulRows profile slots) decls new
  maps_lawful [] old [] same lawful fit = tt
  maps_lawful [] old (n ∷ new) same lawful fit = absurd fit
  maps_lawful (d ∷ decls) old [] same lawful fit = absurd fit
  maps_lawful (d ∷ decls) [] (n ∷ new) same lawful fit = absurd lawful
  maps_lawful (d ∷ decls) (o ∷ old) (n ∷ new) same lawful fit =
      (rows_lawful d o n (ap (λ keys. get_or keys 0 []) same) lawful.0 fit.0, maps_lawful decls old new (ap (drop 1) same) lawful.1 fit.1)

-- a lawful world stays so with other rows that fit
pub lawful_again : (limit : ℕ) (world : World) (maps : Maps) → IsLawful limit world → map entries.keys maps ≡ keys_of world → AreFittingMaps world.profile world.decls maps → IsLawful limit (record world { pools = maps })
lawful_again limit world maps lawful same fit = record {
  profile = lawful.profile;
  few_decls = lawful.few_decls;
  decls = lawful.decls;
  slots = lawful.slots;
  groups = lawful.groups;
  pools = maps_lawful world.profile world.slots world.decls world.pools maps same lawful.pools fit;
}

-- ---- the identifiers of a map are told by those of its pool

one_kept : {X : Type 0} (b : Bool) (x : Entity × X) (rest : List (Entity × X)) (list : List Entity) → entries.keys rest ≡ list → entries.keys (cond b (x ∷ rest) rest) ≡ cond b (x.0 ∷ list) list
one_kept true x rest list is = ap (λ more. x.0 ∷ more) is
one_kept false x rest list is = is

keys-filter : {X : Type 0} (p : Entity → Bool) (m : List (Entity × X)) → entries.keys (filter (λ entry. p entry.0) m) ≡ filter p (entries.keys m)
keys-filter p [] = refl
keys-filter p (x ∷ m) = one_kept (p x.0) x (filter (λ entry. p entry.0) m) (filter p (entries.keys m)) (keys-filter p m)

-- identifiers with one more in its place
put_key : Entity → List Entity → List Entity
put_key e list = filter (λ k. nat_lt k.index e.index) list ++ e ∷ filter (λ k. nat_lt e.index k.index) list

keys-put : {X : Type 0} (m : List (Entity × X)) (e : Entity) (x : X) → entries.keys (entries.put m e x) ≡ put_key e (entries.keys m)
unfolding put_key
keys-put m e x =
    map-append (λ entry. entry.0) (filter (λ entry. nat_lt entry.0.index e.index) m) ((e, x) ∷ filter (λ entry. nat_lt e.index entry.0.index) m)
    ∙ ap₂ (λ a b. a ++ e ∷ b) (keys-filter (λ k. nat_lt k.index e.index) m) (keys-filter (λ k. nat_lt e.index k.index) m)

pub keys-map_of : {X : Type 0} (a b : List (Entity × X)) → entries.keys a ≡ entries.keys b → entries.keys (entries.map_of a) ≡ entries.keys (entries.map_of b)
keys-map_of [] [] same = refl
keys-map_of [] (y ∷ b) same = absurd (cc)
keys-map_of (x ∷ a) [] same = absurd (cc)
keys-map_of (x ∷ a) (y ∷ b) same =
    keys-put (entries.map_of a) x.0 x.1
    ∙ ap₂ put_key (ap (λ keys. get_or keys 0 x.0) same) (keys-map_of a b (ap (drop 1) same))
    ∙ sym (keys-put (entries.map_of b) y.0 y.1)

-- ---- pools of the same shapes

packed_by_shape : (pools : List (Stored Row)) → packed_of pools ≡ map (λ (s : Shape). s.identifiers) (shapes_of pools)
packed_by_shape [] = refl
packed_by_shape (p ∷ pools) = ap (λ rest. entries.keys p.pairs ∷ rest) (packed_by_shape pools)

-- have the same packed lists
pub shape_packed : (new old : List (Stored Row)) → shapes_of new ≡ shapes_of old → packed_of new ≡ packed_of old
shape_packed new old same = packed_by_shape new ∙ ap (map (λ (s : Shape). s.identifiers)) same ∙ sym (packed_by_shape old)

rooms_by_shape : (pools : List (Stored Row)) → rooms_of pools ≡ map (λ (s : Shape). s.room) (shapes_of pools)
rooms_by_shape [] = refl
rooms_by_shape (p ∷ pools) = ap (λ rest. room_of p ∷ rest) (rooms_by_shape pools)

-- have the same room
pub shape_rooms : (new old : List (Stored Row)) → shapes_of new ≡ shapes_of old → rooms_of new ≡ rooms_of old
shape_rooms new old same = rooms_by_shape new ∙ ap (map (λ (s : Shape). s.room)) same ∙ sym (rooms_by_shape old)

-- are as many
pub shape_count : (new old : List (Stored Row)) → shapes_of new ≡ shapes_of old → length new ≡ length old
shape_count new old same = sym (length-map new shape_of) ∙ ap length same ∙ length-map old shape_of

-- and have the same identifiers in their maps
pub shape_keys : (new old : List (Stored Row)) → shapes_of new ≡ shapes_of old → map entries.keys (maps_of new) ≡ map entries.keys (maps_of old)
shape_keys [] [] same = refl
shape_keys [] (q ∷ old) same = absurd (cc)
shape_keys (p ∷ new) [] same = absurd (cc)
shape_keys (p ∷ new) (q ∷ old) same =
    ap₂ (λ (a : List Entity) (rest : List (List Entity)). a ∷ rest)
    (keys-map_of p.pairs q.pairs (ap (λ (s : List Shape). (get_or s 0 (shape_of p)).identifiers) same))
    (shape_keys new old (ap (drop 1) same))

-- the room for what is told of them stays
pub shape_room : (new old : List (Stored Row)) (hearings : List (List (Option Hearing))) → shapes_of new ≡ shapes_of old → HaveRoom old hearings → HaveRoom new hearings
shape_room new old hearings same room pool stored list here at =
    let before = get_or old pool stored in
    let low : pool < length new = slice_get_within new pool stored here in
    let there : slice_get old pool ≡ Some before = slice_get-get_or old pool stored (omega (arith, shape_count new old same)) in
    let shape : shape_of before ≡ shape_of stored = same_Some (shape_of before) (shape_of stored) (
    sym (slice_get-map shape_of old pool ∙ ap (option_map shape_of) there) ∙ ap (λ shapes. slice_get shapes pool) (sym same) ∙ slice_get-map shape_of new pool ∙ ap (option_map shape_of) here) in
    let long : length before.pairs ≡ length stored.pairs = sym (length-map before.pairs (λ (pair : Entity × Row). pair.0)) ∙ ap (λ (s : Shape). length s.identifiers) shape ∙ length-map stored.pairs (λ (pair : Entity × Row). pair.0) in
    subst (λ n. HaveSpare n list) long (room pool before list there at)

-- so they fit where the others did, if their rows do
pub lent_again : (shell : Emptied) (new old : List (Stored Row)) → IsLent shell old → shapes_of new ≡ shapes_of old → AreFittingMaps shell.rest.world.profile shell.rest.world.decls (maps_of new) → IsLent shell new
lent_again shell new old lent same fit = record {
  each = shape_count new old same ∙ lent.each;
  lawful = lawful_again shell.rest.limit (refilled shell old).world (maps_of new) lent.lawful (shape_keys new old same) fit;
  grouped = subst (AreGrouped shell.rest.world.groups shell.lens) (sym (shape_packed new old same)) lent.grouped;
  room = shape_room new old shell.rest.destroy same lent.room;
}

pub came_back : (shell : Emptied) (pools : List (Stored Row)) → MayComeBack shell pools → IsLent shell pools
came_back shell pools back = lent_again shell pools back.lent back.taken back.shapes back.fitting

-- nothing but rows has changed of the registry
pub other_rows : (shell : Emptied) (new old : List (Stored Row)) → shapes_of new ≡ shapes_of old
    → refilled shell new ≡ record (refilled shell old) { world = record (refilled shell old).world { pools = maps_of new } }
other_rows shell new old same =
    ap₂ (λ packed rooms. record shell.rest { world = record shell.rest.world { pools = maps_of new }; packed = packed; rooms = rooms })
    (shape_packed new old same) (shape_rooms new old same)

-- ---- parts without their pools

module _ {L : Type 0} (parts : Parts L) (pools : Vec (Stored Row)) where
  -- the parts with other pools
  abbrev pub with_pools : Parts L
  with_pools = record { profile = parts.profile; decls = parts.decls; slots = parts.slots; pools = pools; groups = parts.groups; construct = parts.construct; update = parts.update; destroy = parts.destroy }

  pub shell_left : IsKept parts → IsShell with_pools
  shell_left kept = record {
    profile = kept.profile;
    construct_each = kept.construct_each;
    update_each = kept.update_each;
    destroy_each = kept.destroy_each;
    group_pools = kept.group_pools;
  }

  pub taken_out : IsKept parts → IsLent (emptied_of with_pools) parts.pools.items
  taken_out kept = record { each = kept.pool_each; lawful = kept.lawful; grouped = kept.grouped; room = kept.room }

  pub kept_again : IsShell parts → IsLent (emptied_of parts) pools.items → IsKept with_pools
  kept_again shell lent = record {
    lawful = lent.lawful;
    profile = shell.profile;
    pool_each = lent.each;
    construct_each = shell.construct_each;
    update_each = shell.update_each;
    destroy_each = shell.destroy_each;
    room = lent.room;
    group_pools = shell.group_pools;
    grouped = lent.grouped;
  }
