-- What admissible lines stand for is lawful as far as it goes: each part after one line more.
use Rattle.std.proofs.Common.{◌≡◌, ℕ, zero, suc, ◌-◌, ◌<◌, ◌≤◌, true, false, not, ◌&&◌, ltb, List, [], ◌∷◌, ◌++◌, length, get_or, set, Some, refl, sym, ap, subst, ◌∙◌, inl, arith}
use Rattle.std.specs.Prelude.{slice_get, nat_lt}
use Rattle.std.specs.List.{AllByRecursion, flat_map, list_any}
use Rattle.std.specs.Option.{option_map_or}
use Rattle.std.proofs.lemmas.List.{length-append}
use Rattle.std.proofs.lemmas.Bool.{and_parts, ltb-true, not-true}
use Rattle.std.proofs.lemmas.Option.{slice_get_within, get_or_from_slice_get}
use Rattle.entity_id.specs.declared.entity.Profile.{Profile}
use Rattle.entity_id.specs.declared.entity.Entity.{Entity}
use Rattle.entity_id.specs.Identifiers.{HasLimits}
use Rattle.entity_id.proofs.ListLemmas.{all-append}
use Rattle.world_model.specs.declared.component.Decl.{Decl}
use Rattle.world_model.specs.declared.component.Row.{Row}
use Rattle.world_model.specs.declared.group.GroupDecl.{GroupDecl}
use Rattle.world_model.specs.declared.slot.Slot.{Slot}
use Rattle.world_model.specs.Components.{kinds_of, has_name}
use Rattle.world_model.specs.Slots.{is_live}
use Rattle.world_model.specs.Worlds.{AreLawfulRows}
use Rattle.world_text.specs.declared.format.Format.{Format}
use Rattle.world_text.specs.FieldValues.{FieldValue}
use Rattle.world_text.specs.LineKinds.{Line, NamedGroup}
use Rattle.row_lang.specs.Naming.{IsNamedDecl}
use Rattle.world_text.specs.Lines.{IsRowLine}
use Rattle.world_text.specs.Meaning.{decl_in, groups_in, group_of, tick_in, slot_in, next_in, row_of, pools_in, settled_from}
use Rattle.world_text.specs.Fitting.{is_above, are_of_kinds, goes_on_last, may_join}
use Rattle.row_lang.specs.Naming.{are_named_apart}
use Rattle.world_text.proofs.GroupLemmas.{AreSoundGroups, no_groups_sound, groups_push}
use Rattle.world_text.proofs.LawfulRows.{row_fits, row_is_row}
use Rattle.row_lang.proofs.NameLemmas.{apart_push}
use Rattle.world_text.proofs.LawfulSlots.{IsListed, listed_push}
use Rattle.world_text.proofs.LawfulPools.{AreBeside, beside_push, beside_set, there, no_rows_lawful, rows_push}

-- what lines stand for, part by part
pub record Parts : Type 0 where
  pub decls : List Decl
  pub groups : List GroupDecl
  pub ticks : List ℕ
  pub slots : List Slot
  pub free : List ℕ
  pub pools : List (List (Entity × Row))

abbrev pub parts_of : Profile → List Line → Parts
parts_of profile lines = record {
  decls = flat_map decl_in lines;
  groups = groups_in lines;
  ticks = flat_map tick_in lines;
  slots = flat_map slot_in lines;
  free = flat_map next_in lines;
  pools = pools_in profile lines;
}

-- lawful components
pub record AreSoundDecls (decls : List Decl) : Type 0 where
  pub few : length decls ≤ 64
  pub named : AllByRecursion IsNamedDecl decls
  pub apart : are_named_apart decls ≡ true

-- lawful slots, whatever the free list
pub record AreSoundSlots (format : Format) (slots : List Slot) : Type 0 where
  pub few : length slots ≤ format.slot_limit
  pub versions : AllByRecursion (λ slot. slot.version < format.profile.version_limit) slots

-- lawful parts, some of which may be missing: pools of the first components, and free slots that are not yet on the free list
pub record AreSound (format : Format) (parts : Parts) : Type 0 where
  pub decls : AreSoundDecls parts.decls
  pub groups : AreSoundGroups (length parts.decls) parts.groups
  pub ticks : AllByRecursion (λ tick. tick ≤ 1000000000000) parts.ticks
  pub slots : AreSoundSlots format parts.slots
  pub listed : (index : ℕ) → IsListed parts.slots parts.free index
  pub pools : AreBeside (AreLawfulRows format.profile parts.slots) parts.pools parts.decls

pub nothing_sound : (format : Format) → AreSound format (parts_of format.profile [])
nothing_sound format = record {
  decls = record { few = omega arith; named = tt; apart = refl };
  groups = no_groups_sound 0;
  ticks = tt;
  slots = record { few = omega arith; versions = tt };
  listed = λ index. inl refl;
  pools = tt;
}

-- ---- a component

-- where no pool stands yet, the components and slots may change
no_pools_beside : {X Y : Type 0} (R : X → Y → Type 0) (ys : List Y) (xs : List X) → ys ≡ [] → AreBeside R ys xs
no_pools_beside R ys xs none = subst (λ l. AreBeside R l xs) (sym none) tt

pub decl_push : (format : Format) (parts : Parts) (decl : Decl) → parts.groups ≡ [] → parts.pools ≡ [] → IsNamedDecl decl → (nat_lt (length parts.decls) 64 && not (list_any (has_name decl.name) parts.decls)) ≡ true → AreSound format parts → AreSound format (record parts { decls = parts.decls ++ decl ∷ [] })
decl_push format parts decl no_groups none is_decl fits sound =
    let tests = and_parts (ltb (length parts.decls) 64) (not (list_any (has_name decl.name) parts.decls)) fits in
    let room : length parts.decls < 64 = ltb-true _ _ tests.0 in
    record {
      decls = record {
        few = omega (arith, length-append parts.decls (decl ∷ []));
        named = all-append IsNamedDecl parts.decls (decl ∷ []) sound.decls.named (is_decl, tt);
        apart = apart_push parts.decls decl sound.decls.apart (not-true _ tests.1);
      };
      groups = subst (AreSoundGroups (length (parts.decls ++ decl ∷ []))) (sym no_groups) (no_groups_sound (length (parts.decls ++ decl ∷ [])));
      ticks = sound.ticks;
      slots = sound.slots;
      listed = sound.listed;
      pools = no_pools_beside _ parts.pools _ none;
    }

-- ---- a group

pub group_push : (format : Format) (parts : Parts) (named : NamedGroup) → may_join parts.groups (group_of parts.decls named) ≡ true → AreSound format parts → AreSound format (record parts { groups = parts.groups ++ group_of parts.decls named ∷ [] })
group_push format parts named joins sound = record {
  decls = sound.decls;
  groups = groups_push parts.decls parts.groups named joins sound.groups;
  ticks = sound.ticks;
  slots = sound.slots;
  listed = sound.listed;
  pools = sound.pools;
}

-- ---- a tick number and a slot

pub tick_push : (format : Format) (parts : Parts) (tick : ℕ) → tick ≤ 1000000000000 → AreSound format parts → AreSound format (record parts { ticks = parts.ticks ++ tick ∷ [] })
tick_push format parts tick low sound = record {
  decls = sound.decls;
  groups = sound.groups;
  ticks = all-append _ parts.ticks (tick ∷ []) sound.ticks (low, tt);
  slots = sound.slots;
  listed = sound.listed;
  pools = sound.pools;
}

pub slot_push : (format : Format) (parts : Parts) (slot : Slot) → parts.pools ≡ [] → parts.free ≡ [] → slot.version < format.profile.version_limit → nat_lt (length parts.slots) format.slot_limit ≡ true → AreSound format parts → AreSound format (record parts { slots = parts.slots ++ slot ∷ [] })
slot_push format parts slot no_pool no_next low fits sound =
    let room : length parts.slots < format.slot_limit = ltb-true _ _ fits in
    record {
      decls = sound.decls;
      groups = sound.groups;
      ticks = sound.ticks;
      slots = record {
        few = omega (arith, length-append parts.slots (slot ∷ []), sound.slots.few);
        versions = all-append _ parts.slots (slot ∷ []) sound.slots.versions (low, tt);
      };
      listed = λ index. subst (λ free. IsListed (parts.slots ++ slot ∷ []) free index) (sym no_next) (inl refl);
      pools = no_pools_beside _ parts.pools _ no_pool;
    }

-- ---- the free list

pub next_push : (format : Format) (parts : Parts) (index : ℕ) → get_or (settled_from 0 parts.slots parts.free) index true ≡ false → AreSound format parts → AreSound format (record parts { free = parts.free ++ index ∷ [] })
next_push format parts index open_slot sound = record {
  decls = sound.decls;
  groups = sound.groups;
  ticks = sound.ticks;
  slots = sound.slots;
  listed = listed_push parts.slots parts.free index open_slot sound.listed;
  pools = sound.pools;
}

-- ---- pools

pub pool_push : (format : Format) (parts : Parts) (name : List ℕ) → option_map_or (has_name name) (slice_get parts.decls (length parts.pools)) false ≡ true → AreSound format parts → AreSound format (record parts { pools = parts.pools ++ [] ∷ [] })
pool_push format parts name fits sound =
    let decl = there (has_name name) (slice_get parts.decls (length parts.pools)) fits in
    record {
      decls = sound.decls;
      groups = sound.groups;
      ticks = sound.ticks;
      slots = sound.slots;
      listed = sound.listed;
      pools = beside_push (AreLawfulRows format.profile parts.slots) parts.pools parts.decls [] (no_rows_lawful format.profile parts.slots)
          (slice_get_within parts.decls (length parts.pools) decl.0 decl.1) sound.pools;
    }

all_there : {X : Type 0} (P : X → Type 0) (xs : List X) (k : ℕ) (x : X) → AllByRecursion P xs → slice_get xs k ≡ Some x → P x
all_there P [] k x each here = absurd cc
all_there P (y ∷ ys) zero x each here = let same : y ≡ x = cc in subst P same each.0
all_there P (y ∷ ys) (suc k) x each here = all_there P ys k x each.1 here

-- the pools after one row more on the last of them
abbrev pub with_row : List (List (Entity × Row)) → Entity × Row → List (List (Entity × Row))
with_row pools entry = set pools (length pools - 1) (get_or pools (length pools - 1) [] ++ entry ∷ [])

pub row_push : (format : Format) (parts : Parts) (entity : Entity) (values : List FieldValue) → HasLimits format.profile → IsRowLine format entity values → (is_live parts.slots entity && goes_on_last parts.decls parts.pools entity values) ≡ true → AreSound format parts → AreSound format (record parts { pools = with_row parts.pools (entity, row_of format.profile values) })
row_push format parts entity values limits is_row fits sound =
    let k : ℕ = length parts.pools - 1 in
    let tests = and_parts (is_live parts.slots entity) (goes_on_last parts.decls parts.pools entity values) fits in
    let last = and_parts (option_map_or (λ rows. is_above rows entity) (slice_get parts.pools k) false) (option_map_or (λ decl. are_of_kinds (kinds_of decl) values) (slice_get parts.decls k) false) tests.1 in
    let rows = there (λ rows. is_above rows entity) (slice_get parts.pools k) last.0 in
    let decl = there (λ decl. are_of_kinds (kinds_of decl) values) (slice_get parts.decls k) last.1 in
    let named = all_there IsNamedDecl parts.decls k decl.0 sound.decls.named decl.1 in
    record {
      decls = sound.decls;
      groups = sound.groups;
      ticks = sound.ticks;
      slots = sound.slots;
      listed = sound.listed;
      pools = beside_set (AreLawfulRows format.profile parts.slots) parts.pools parts.decls k decl.0 _ []
          (slice_get_within parts.pools k rows.0 rows.1) decl.1
          (rows_push format.profile parts.slots decl.0 (get_or parts.pools k []) entity (row_of format.profile values)
          (ap (λ rs. is_above rs entity) (get_or_from_slice_get parts.pools k rows.0 [] rows.1) ∙ rows.2)
          tests.0
          (row_is_row format.profile values limits is_row.few is_row.each)
          (row_fits format.profile decl.0 values limits is_row.each decl.2))
          sound.pools;
    }
