-- Groups added, and their members.
use Rattle.std.proofs.Common.{◌≡◌, ◌≢◌, ℕ, zero, suc, ◌+◌, true, false, not, ◌&&◌, List, [], ◌∷◌, ◌++◌, cond, get_or, map, take, length, Option, Some, None, slice_get, sym, refl, ap, ap₂, ◌∙◌, subst, Result, Ok, Err, OnOk, OnErr, IfOk, IfErr, IsTrue}
use Rattle.std.specs.Global.{Vec}
use Rattle.std.specs.Option.{option_map, option_or, unwrap_or}
use Rattle.std.specs.Prelude.{is_some}
use Rattle.std.proofs.lemmas.Bool.{or_parts}
use Rattle.std.proofs.lemmas.List.{length-map, take-map, take_more}
use Rattle.std.proofs.lemmas.List.Sorted.{length_permutation}
use Rattle.std.proofs.lemmas.Option.{none-some, same_Some, get_or_from_slice_get, slice_get-map, slice_get_within}
use Rattle.entity_id.specs.declared.entity.Entity.{Entity}
use Rattle.entity_id.specs.FiniteMap as entries
use Rattle.entity_id.proofs.ListLemmas.{all_at}
use Rattle.entity_id.proofs.PackedMapLemmas.{get-map_of, get_here}
use Rattle.group_engine.specs.Engine.{Groups, len_at, prefix_at, values_at, build_refusal}
use Rattle.group_engine.specs.Grouped.{packed_of, cores_of, AreGrouped, AreStill}
use Rattle.group_rules.specs.declared.refused.DeclRefused.TheVariants as decl_refused
use Rattle.group_rules.specs.Families.{same_in, decl_refusal, add_refusal, number_of, groups_with}
use Rattle.group_rules.specs.Refusals.{of_decl, of_family}
use Rattle.storage.specs.Stored.{Stored}
use Rattle.world_model.specs.declared.command.Command.TheVariants.{Group}
use Rattle.world_model.specs.declared.command.Reply.TheVariants.{GroupNumber}
use Rattle.world_model.specs.declared.component.Row.{Row}
use Rattle.world_model.specs.declared.group.GroupDecl.{GroupDecl}
use Rattle.world_model.specs.declared.refusal.Refusal.{Refusal}
use Rattle.world_model.specs.declared.refusal.Refusal.TheVariants as refusal
use Rattle.world_model.specs.declared.world.World.{World}
use Rattle.world_model.specs.Components.{zero_row}
use Rattle.world_model.specs.Contents.{pool_at, row_at, keys_of, group_at}
use Rattle.world_model.specs.Groups.{has_pool, packed_at, group_prefix, group_pools, are_declared, is_well_formed, ArePackedListsOf, AreLawfulGroups}
use Rattle.world_model.specs.Outcomes.{Outcome, answers, outcome_of}
use Rattle.world_model.specs.Refusing.{refusal_of}
use Rattle.world_model.proofs.KeyLemmas.{keys_at}
use Rattle.registry.specs.declared.parts.Parts.{Parts}
use Rattle.registry.specs.Held.{member_count, packed_members, reply_to, refusal_to}
use Rattle.registry.specs.Layout.{world_of, held_of, IsKept, IsChanged, Gives, Stays}
use Rattle.registry.specs.Packing.{is_owned, Repacks}
use Rattle.registry.proofs.CoreLemmas.{core_maps, core_count, core_room}
use Rattle.registry.proofs.DoneLemmas.{IsFinished, finished, same}
use Rattle.registry.proofs.FreshLemmas.{no_groups}
use Rattle.registry.proofs.PackingLemmas.{packed_here}
use Rattle.registry.proofs.PoolLemmas.{at_pool}

-- what the groups refuse is what the command is refused for, and what they become is what the command makes of them
pub record AreOfWorlds : Type 0 where
  pub refusals : (limit : ℕ) (w : World) (decl : GroupDecl) → refusal_of limit w (Group decl) ≡ option_or (option_map of_decl (decl_refusal (length w.decls) decl)) (option_map of_family (add_refusal w.groups decl))
  pub outcomes : (limit : ℕ) (w : World) (decl : GroupDecl) → outcome_of limit w (Group decl) ≡ answers (record w { groups = groups_with w.groups decl }) (GroupNumber (number_of w.groups decl))

pub refusal_is : {L : Type 0} (parts : Parts L) (decl : GroupDecl) → AreOfWorlds → IsKept parts → refusal_to (held_of parts) (Group decl) ≡ build_refusal parts.groups decl
refusal_is parts decl laws h =
    laws.refusals parts.slots.limit (world_of parts) decl ∙ ap (λ n. option_or (option_map of_decl (decl_refusal n decl)) (option_map of_family (add_refusal parts.groups.decls decl))) (sym h.group_pools)

-- ---- the parts

-- the parts with other groups, and pools in another order
abbrev pub with_groups : {L : Type 0} → Parts L → Vec (Stored Row) → Groups → Parts L
with_groups old pools groups = record { profile = old.profile; decls = old.decls; slots = old.slots; pools = pools; groups = groups; construct = old.construct; update = old.update; destroy = old.destroy }

-- what a group built makes of groups and pools
pub record AreBuilt {L : Type 0} (old : Parts L) (pools : Vec (Stored Row)) (groups : Groups) (decls : List GroupDecl) : Type 0 where
  pub decls_are : groups.decls ≡ decls
  pub count : groups.pools ≡ old.groups.pools
  pub grouped : AreGrouped groups.decls groups.lens (packed_of pools.items)
  pub cores : cores_of pools.items ≡ cores_of old.pools.items

pub groups_changed : {L : Type 0} (old : Parts L) (pools : Vec (Stored Row)) (groups : Groups) (decls : List GroupDecl) → IsKept old → AreBuilt old pools groups decls → IsChanged old (with_groups old pools groups) (record (world_of old) { groups = decls }) []
groups_changed old pools groups decls h built = record {
  becomes = record {
    limit = refl;
    world = let maps = core_maps pools.items old.pools.items built.cores in
        let is = built.decls_are in λ i. record { profile = old.slots.profile; decls = old.decls; groups = is i; tick = 0; slots = old.slots.slots; free = old.slots.free; pools = maps i };
    construct = (same (held_of old)).unchanged.construct;
    update = (same (held_of old)).unchanged.update;
    destroy = (same (held_of old)).unchanged.destroy;
  };
  profile = refl;
  construct_each = refl;
  update_each = refl;
  destroy_each = refl;
  room = core_room pools.items old.pools.items old.destroy.items built.cores h.room;
  group_pools = built.count;
  grouped = built.grouped;
}

-- where the pools and the groups are those of before, all is
pub groups_stayed : {L : Type 0} (old : Parts L) (pools : Vec (Stored Row)) (groups : Groups) → IsKept old → pools.items ≡ old.pools.items → groups ≡ old.groups → Stays old (with_groups old pools groups)
groups_stayed old pools groups h pools_are groups_are =
    let grouped : AreGrouped groups.decls groups.lens (packed_of pools.items)
    = subst (λ (items : List (Stored Row)). AreGrouped groups.decls groups.lens (packed_of items)) (sym pools_are) (subst (λ (g : Groups). AreGrouped g.decls g.lens (packed_of old.pools.items)) (sym groups_are) h.grouped) in
    record {
      unchanged = groups_changed old pools groups old.groups.decls h (record {
        decls_are = ap (λ (g : Groups). g.decls) groups_are;
        count = ap (λ (g : Groups). g.pools) groups_are;
        grouped = grouped;
        cores = ap cores_of pools_are;
      });
      packed = ap packed_of pools_are;
    }

-- ---- the command

none_by_ok : {A E : Type 0} (o : Option E) (r : Result A E) → ((cause : E) → o ≡ Some cause → r ≡ Err cause) → OnOk r (o ≡ None)
none_by_ok None (Ok x) h = refl
none_by_ok (Some cause) (Ok x) h = cc (h cause refl)
none_by_ok o (Err cause) h = tt

-- a group that is not refused was added or found
pub group_done : {L : Type 0} (old : Parts L) (pools : Vec (Stored Row)) (groups : Groups) (decl : GroupDecl) (r : Result ℕ Refusal) → AreOfWorlds → IsKept old → ((cause : Refusal) → build_refusal old.groups decl ≡ Some cause → r ≡ Err cause)
    → OnOk r (AreBuilt old pools groups (groups_with old.groups.decls decl)) → OnErr r ((pools.items ≡ old.pools.items) × (groups ≡ old.groups)) → IsFinished old (with_groups old pools groups) (Group decl) r
group_done old pools groups decl (Err cause) laws h refused built stays =
    finished old (with_groups old pools groups) (Group decl) (Err cause) h tt tt tt (groups_stayed old pools groups h stays.0 stays.1)
group_done old pools groups decl (Ok number) laws h refused built stays =
    finished old (with_groups old pools groups) (Group decl) (Ok number) h tt
    (refusal_is old decl laws h ∙ none_by_ok (build_refusal old.groups decl) (Ok number) refused)
    (subst (Gives old (with_groups old pools groups)) (sym (laws.outcomes old.slots.limit (world_of old) decl)) (groups_changed old pools groups (groups_with old.groups.decls decl) h built)) tt

-- one that was found
pub group_found : {L : Type 0} (old : Parts L) (decl : GroupDecl) (number : ℕ) → AreOfWorlds → IsKept old → build_refusal old.groups decl ≡ None → same_in old.groups.decls decl ≡ Some number → IsFinished {A = ℕ} old old (Group decl) (Ok number)
group_found old decl number laws h accepted found =
    let stay : groups_with old.groups.decls decl ≡ old.groups.decls = ap (λ o. cond (is_some o) old.groups.decls (old.groups.decls ++ decl ∷ [])) found in
    finished old old (Group decl) (Ok number) h tt (refusal_is old decl laws h ∙ accepted)
    (subst (Gives old old) (sym (laws.outcomes old.slots.limit (world_of old) decl))
    (groups_changed old old.pools old.groups (groups_with old.groups.decls decl) h (record { decls_are = sym stay; count = refl; grouped = h.grouped; cores = refl }))) tt

-- it is answered its number
pub group_answered : {L : Type 0} (old new : Parts L) (decl : GroupDecl) (r : Result ℕ Refusal) → AreOfWorlds → IsFinished old new (Group decl) r → IfOk r (λ number. number ≡ number_of old.groups.decls decl)
    → IfOk r (λ number. reply_to (held_of old) (Group decl) ≡ GroupNumber number)
group_answered old new decl (Err cause) laws done is = tt
group_answered old new decl (Ok number) laws done is = done.reply ∙ ap (λ (o : Outcome). o.reply) (laws.outcomes old.slots.limit (world_of old) decl) ∙ ap GroupNumber (sym is)

-- and refused its cause
pub group_refused : {L A : Type 0} (old : Parts L) (decl : GroupDecl) (r : Result A Refusal) → AreOfWorlds → IsKept old → ((cause : Refusal) → build_refusal old.groups decl ≡ Some cause → r ≡ Err cause)
    → (cause : Refusal) → refusal_to (held_of old) (Group decl) ≡ Some cause → r ≡ Err cause
group_refused old decl r laws h refused cause is = refused cause (sym (refusal_is old decl laws h) ∙ is)

-- and its cause, but for want of memory, is the command's
pub group_cause : {L A : Type 0} (old : Parts L) (decl : GroupDecl) (r : Result A Refusal) → AreOfWorlds → IsKept old → IfErr r (λ cause. cause ≢ refusal.OutOfMemory → build_refusal old.groups decl ≡ Some cause)
    → IfErr r (λ cause. cause ≢ refusal.OutOfMemory → refusal_to (held_of old) (Group decl) ≡ Some cause)
group_cause old decl (Ok x) laws h causes = tt
group_cause old decl (Err cause) laws h causes = λ other. refusal_is old decl laws h ∙ causes other

-- only the pools that a new group owns are packed in another order
pub group_repacks : {L : Type 0} (old : Parts L) (pools : Vec (Stored Row)) (groups : Groups) (decl : GroupDecl) → cores_of pools.items ≡ cores_of old.pools.items
    → (IsTrue (is_some (same_in old.groups.decls decl)) → pools.items ≡ old.pools.items) → AreStill (has_pool decl.own) (packed_of old.pools.items) (packed_of pools.items)
    → Repacks (held_of old) (held_of (with_groups old pools groups)) (Group decl)
group_repacks old pools groups decl cores found still = record {
  each = length-map pools.items (λ (s : Stored Row). entries.keys s.pairs) ∙ core_count pools.items old.pools.items cores ∙ sym (length-map old.pools.items (λ (s : Stored Row). entries.keys s.pairs));
  lists = elim (same_in old.groups.decls decl) as (λ o. (IsTrue (is_some o) → pools.items ≡ old.pools.items) → AreStill (λ pool. not (is_some o) && has_pool decl.own pool) (packed_of old.pools.items) (packed_of pools.items)) [
    | Some number ↦ λ is. record { still = λ pool _. ap (λ (items : List (Stored Row)). packed_at (packed_of items) pool) (is refl) }
    | None ↦ λ _. still
  ] found;
}

-- ---- steps

as_long : (maps packed : List (List Entity)) (pool : ℕ) → ArePackedListsOf maps packed → length (get_or packed pool []) ≡ length (get_or maps pool [])
as_long [] [] pool h = refl
as_long [] (list ∷ packed) pool h = absurd h
as_long (m ∷ maps) [] pool h = absurd h
as_long (m ∷ maps) (list ∷ packed) zero h = length_permutation m list h.0
as_long (m ∷ maps) (list ∷ packed) (suc pool) h = as_long maps packed pool h.1

-- a pool's packed list is as long as it has rows
pub rows_as_long : {L : Type 0} (parts : Parts L) (pool : ℕ) → ArePackedListsOf (keys_of (world_of parts)) (packed_of parts.pools.items) → length (packed_at (packed_of parts.pools.items) pool) ≡ length (pool_at (world_of parts) pool)
rows_as_long parts pool h =
    as_long (keys_of (world_of parts)) (packed_of parts.pools.items) pool h ∙ ap length (keys_at (world_of parts) pool) ∙ length-map (pool_at (world_of parts) pool) (λ (entry : Entity × Row). entry.0)

-- ---- members and their rows

map_by_place : {X Y : Type 0} (f g : X → Y) (xs : List X) → ((k : ℕ) (x : X) → slice_get xs k ≡ Some x → f x ≡ g x) → map f xs ≡ map g xs
map_by_place f g [] same = refl
map_by_place {Y = Y} f g (x ∷ xs) same = ap₂ (λ (y : Y) ys. y ∷ ys) (same 0 x refl) (map_by_place f g xs (λ k z at. same (suc k) z at))

-- the row of each identifier, in packed order, where no index comes twice
rows_in_order : (pairs : List (Entity × Row)) → entries.HasEachOnce pairs → map (λ (e : Entity). unwrap_or (entries.get (entries.map_of pairs) e) zero_row) (entries.keys pairs) ≡ map (λ pair. pair.1) pairs
rows_in_order pairs once =
    map-map pairs
    ∙ map_by_place (λ (pair : Entity × Row). unwrap_or (entries.get (entries.map_of pairs) pair.0) zero_row) (λ pair. pair.1) pairs
    (λ k pair at. ap (λ o. unwrap_or o zero_row) (get-map_of pairs pair.0 once ∙ get_here pairs k pair.0 pair.1 once at))
  where
    map-map : (list : List (Entity × Row)) → map (λ (e : Entity). unwrap_or (entries.get (entries.map_of pairs) e) zero_row) (entries.keys list) ≡ map (λ (pair : Entity × Row). unwrap_or (entries.get (entries.map_of pairs) pair.0) zero_row) list
    map-map [] = refl
    map-map (pair ∷ list) = ap (λ (rest : List Row). unwrap_or (entries.get (entries.map_of pairs) pair.0) zero_row ∷ rest) (map-map list)

-- the members of a group are its prefix
pub members_here : {L : Type 0} (parts : Parts L) (group : ℕ) → len_at parts.groups group ≡ member_count (held_of parts) group → prefix_at parts.groups (packed_of parts.pools.items) group ≡ packed_members (held_of parts) group
members_here parts group counted = ap (group_prefix (packed_of parts.pools.items) (group_at (world_of parts) group)) counted

-- the values at their places are their rows
pub rows_here : {L : Type 0} (parts : Parts L) (group pool : ℕ) (p : Stored Row) → slice_get parts.pools.items pool ≡ Some p → entries.HasEachOnce p.pairs → len_at parts.groups group ≡ member_count (held_of parts) group
    → take (len_at parts.groups group) (packed_at (packed_of parts.pools.items) pool) ≡ prefix_at parts.groups (packed_of parts.pools.items) group
    → take (len_at parts.groups group) (values_at parts.pools.items pool) ≡ map (λ entity. row_at (world_of parts) pool entity) (packed_members (held_of parts) group)
rows_here parts group pool p here once counted order =
    let n = len_at parts.groups group in
    let row : Entity → Row = λ e. row_at (world_of parts) pool e in
    let values : values_at parts.pools.items pool ≡ map (λ pair. pair.1) p.pairs
    = get_or_from_slice_get (map values_in parts.pools.items) pool (map (λ pair. pair.1) p.pairs) [] (slice_get-map values_in parts.pools.items pool ∙ ap (option_map values_in) here) in
    let found : row ≡ (λ e. unwrap_or (entries.get (entries.map_of p.pairs) e) zero_row)
    = ap (λ (rows : List (Entity × Row)). λ (e : Entity). unwrap_or (entries.get rows e) zero_row) (at_pool parts pool p p here) in
    ap (take n) (values ∙ sym (rows_in_order p.pairs once) ∙ ap (λ (f : Entity → Row). map f (entries.keys p.pairs)) (sym found))
    ∙ take-map row n (entries.keys p.pairs)
    ∙ ap (map row) (ap (take n) (sym (packed_here parts.pools.items pool p here)) ∙ order ∙ members_here parts group counted)
  where
    values_in : Stored Row → List Row
    values_in stored = map (λ pair. pair.1) stored.pairs

-- ---- groups of a lawful world, one after another

-- the groups before a number, over the pools of before in an order in which they are packed
pub record AreLoaded (decls : List GroupDecl) (old now : List (Stored Row)) (groups : Groups) (number : ℕ) : Type 0 where
  pub decls_are : groups.decls ≡ take number decls
  pub count : groups.pools ≡ length old
  pub grouped : AreGrouped groups.decls groups.lens (packed_of now)
  pub cores : cores_of now ≡ cores_of old
  pub still : AreStill (is_owned decls) (packed_of old) (packed_of now)

pub none_loaded : (decls : List GroupDecl) (pools : List (Stored Row)) (groups : Groups) → groups.decls ≡ [] → groups.pools ≡ length pools → AreLoaded decls pools pools groups 0
none_loaded decls pools groups none count = record {
  decls_are = none;
  count = count;
  grouped = no_groups groups.decls groups.lens (packed_of pools) none;
  cores = refl;
  still = record { still = λ pool _. refl };
}

-- what laws say of the groups of a world: the next one is not there, and may stand beside those before it
pub record AreInOrder (decls : List GroupDecl) : Type 0 where
  pub new : (number : ℕ) (decl : GroupDecl) → slice_get decls number ≡ Some decl → same_in (take number decls) decl ≡ None
  pub accepted : (number : ℕ) (decl : GroupDecl) → slice_get decls number ≡ Some decl → add_refusal (take number decls) decl ≡ None

-- so it is not refused
pub next_accepted : (decls : List GroupDecl) (old now : List (Stored Row)) (groups : Groups) (number : ℕ) (decl : GroupDecl) → AreInOrder decls → AreLawfulGroups (length old) decls → AreLoaded decls old now groups number → slice_get decls number ≡ Some decl
    → build_refusal groups decl ≡ None
next_accepted decls old now groups number decl order lawful loaded at =
    let declared : are_declared groups.pools (group_pools decl) ≡ true = ap (λ n. are_declared n (group_pools decl)) loaded.count ∙ all_at (λ (d : GroupDecl). IsTrue (are_declared (length old) (group_pools d))) decls number decl lawful.declared at in
    let formed : is_well_formed decl ≡ true = all_at (λ (d : GroupDecl). IsTrue (is_well_formed d)) decls number decl lawful.well_formed at in
    let fine : decl_refusal groups.pools decl ≡ None = ap₂ (λ a b. cond (not a) (Some decl_refused.NoPool) (cond (not b) (Some decl_refused.BadDecl) None)) declared formed in
    ap₂ (λ a b. option_or (option_map of_decl a) (option_map of_family b)) fine (ap (λ (l : List GroupDecl). add_refusal l decl) loaded.decls_are ∙ order.accepted number decl at)

owned_at : (decls : List GroupDecl) (number : ℕ) (decl : GroupDecl) (pool : ℕ) → slice_get decls number ≡ Some decl → is_owned decls pool ≡ false → has_pool decl.own pool ≡ false
owned_at [] number decl pool at h = absurd (none-some decl at)
owned_at (d ∷ decls) zero decl pool at h = ap (λ (g : GroupDecl). has_pool g.own pool) (sym (same_Some d decl at)) ∙ (or_parts (has_pool d.own pool) (is_owned decls pool) h).0
owned_at (d ∷ decls) (suc number) decl pool at h = owned_at decls number decl pool at (or_parts (has_pool d.own pool) (is_owned decls pool) h).1

-- one group more
pub one_loaded : (decls : List GroupDecl) (old before now : List (Stored Row)) (groups more : Groups) (number : ℕ) (decl : GroupDecl) → AreLoaded decls old before groups number → slice_get decls number ≡ Some decl
    → more.decls ≡ groups.decls ++ decl ∷ [] → more.pools ≡ groups.pools → AreGrouped more.decls more.lens (packed_of now) → cores_of now ≡ cores_of before → AreStill (has_pool decl.own) (packed_of before) (packed_of now)
    → AreLoaded decls old now more (number + 1)
one_loaded decls old before now groups more number decl loaded at decls_are count grouped cores still = record {
  decls_are = decls_are ∙ (λ i. loaded.decls_are i ++ sym (get_or_from_slice_get decls number decl decl at) i ∷ []) ∙ sym (take_more decls number decl (slice_get_within decls number decl at));
  count = count ∙ loaded.count;
  grouped = grouped;
  cores = cores ∙ loaded.cores;
  still = record { still = λ pool free. still.still pool (owned_at decls number decl pool at free) ∙ loaded.still.still pool free };
}
