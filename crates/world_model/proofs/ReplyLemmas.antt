-- What a lawful world tells: live identifiers, and rows that may be set again.
use Rattle.std.proofs.Common.{◌≡◌, ℕ, zero, suc, Bool, true, false, List, [], ◌∷◌, map, get_or, Some, None, slice_get, sym, refl, ap, ◌∙◌, subst}
use Rattle.std.specs.List.{AllByRecursion, AllZip}
use Rattle.std.specs.Option.{option_map_or}
use Rattle.std.proofs.Math.ListN.{get_or-map}
use Rattle.std.proofs.lemmas.Bool.{false≢true}
use Rattle.entity_id.specs.declared.entity.Entity.{Entity}
use Rattle.entity_id.specs.declared.entity.Profile.{Profile}
use Rattle.entity_id.specs.Identifiers.{IsOfProfile}
use Rattle.entity_id.specs.Matching.{matches}
use Rattle.entity_id.specs.FiniteMap as rows
use Rattle.entity_id.specs.FiniteMap.{AreAscending}
use Rattle.entity_id.proofs.ListLemmas.{ascending-filter, all-filter, all-map, all_weaker}
use Rattle.entity_id.proofs.MapLemmas.{ascending-keys}
use Rattle.world_model.specs.declared.command.Command.{Command}
use Rattle.world_model.specs.declared.command.Command.TheVariants.{Clear, Create, Hint, Remove, Get, View, Group, Members, SortPool, SortGroup}
use Rattle.world_model.specs.declared.command.Reply.{Reply}
use Rattle.world_model.specs.declared.command.Reply.TheVariants.{Made, Listed, Values}
use Rattle.world_model.specs.declared.component.Decl.{Decl}
use Rattle.world_model.specs.declared.component.Row.{Row}
use Rattle.world_model.specs.declared.event.EventKind.{EventKind}
use Rattle.world_model.specs.declared.event.EventKind.TheVariants.{Destroy}
use Rattle.world_model.specs.declared.slot.Slot.{Slot}
use Rattle.world_model.specs.declared.world.World.{World}
use Rattle.world_model.specs.Components.{IsRow, fits, zero_row}
use Rattle.world_model.specs.Conditions.{MaySet, fits_pool}
use Rattle.world_model.specs.Contents.{pool_at, has_row, row_at, keys_of, group_at}
use Rattle.world_model.specs.Outcomes.{Outcome, tells, outcome_of, member_rows}
use Rattle.world_model.specs.Refusing.{refusal_of, when_absent}
use Rattle.world_model.specs.Slots.{Creation, is_live, plain_creation, creation_by_hint}
use Rattle.world_model.specs.Steps.{step}
use Rattle.world_model.specs.Worlds.{AreLawfulRows, IsLawful}
use Rattle.world_model.proofs.AcceptedLemmas.{IsLawfulCreation, entry_further, present, plainly_created, created_by_hint}
use Rattle.world_model.proofs.KeyLemmas.{ascending_rows}
use Rattle.world_model.proofs.RowLemmas.{all-get}
use Rattle.world_model.proofs.SlotLemmas.{live_of_profile}
use Rattle.world_model.proofs.SortLemmas.{all-sorted}
use Rattle.world_model.proofs.StepLemmas.{step_cases, remove_cases, group_cases}

-- ---- live identifiers in a world

-- what holds of the lawful rows of each component; one that isn't there has none
rows_at : (limit : ℕ) (w : World) (P : List (Entity × Row) → Type 0) → IsLawful limit w → (pool : ℕ) → P []
    → ((decl : Decl) (entries : List (Entity × Row)) → slice_get w.decls pool ≡ Some decl → AreLawfulRows w.profile w.slots decl entries → P entries) → P (pool_at w pool)
rows_at limit w P h pool none next = each w.decls w.pools pool h.pools next
  where
    each : (decls : List Decl) (pools : List (List (Entity × Row))) (pool : ℕ) → AllZip (AreLawfulRows w.profile w.slots) decls pools
        → ((decl : Decl) (entries : List (Entity × Row)) → slice_get decls pool ≡ Some decl → AreLawfulRows w.profile w.slots decl entries → P entries) → P (get_or pools pool [])
    each decls [] pool h next = none
    each [] (p ∷ ps) pool h next = absurd h
    each (d ∷ ds) (p ∷ ps) zero h next = next d p refl h.0
    each (d ∷ ds) (p ∷ ps) (suc pool) h next = each ds ps pool h.1 next

pub live_rows : (limit : ℕ) (w : World) → IsLawful limit w → (pool : ℕ) → AllByRecursion (λ entry. is_live w.slots entry.0 ≡ true) (pool_at w pool)
live_rows limit w h pool = rows_at limit w (AllByRecursion _) h pool tt (λ decl entries _ p. p.live)

pub live_keys : (w : World) (entries : List (Entity × Row)) → AllByRecursion (λ entry. is_live w.slots entry.0 ≡ true) entries → AllByRecursion (λ e. is_live w.slots e ≡ true) (rows.keys entries)
live_keys w entries h = all-map _ (λ entry. entry.0) entries h

live_matches : (limit : ℕ) (w : World) → IsLawful limit w → (all without : List ℕ) → AllByRecursion (λ e. is_live w.slots e ≡ true) (matches (keys_of w) all without)
live_matches limit w h [] without = tt
live_matches limit w h (first ∷ rest) without =
    all-filter _ _ (get_or (keys_of w) first [])
    (subst (λ (keys : List Entity). AllByRecursion (λ e. is_live w.slots e ≡ true) keys) (sym (get_or-map rows.keys w.pools first [])) (live_keys w (pool_at w first) (live_rows limit w h first)))

-- ---- replies

-- what a reply says of identifiers: the one made, and those listed
abbrev pub SaysOf : (Entity → Type 0) → (List Entity → Type 0) → Reply → Type 0
SaysOf IfMade IfListed (Made entity) = IfMade entity
SaysOf IfMade IfListed (Listed entities) = IfListed entities
SaysOf IfMade IfListed _ = Unit {0}

-- live in these slots, and of the profile
pub record IsKnown (profile : Profile) (slots : List Slot) (entity : Entity) : Type 0 where
  pub live : is_live slots entity ≡ true
  pub of_profile : IsOfProfile profile entity

-- what is made is known afterwards, and what is listed was known before
abbrev pub TellsKnown : World → Outcome → Type 0
TellsKnown w outcome = SaysOf (IsKnown w.profile outcome.world.slots) (AllByRecursion (IsKnown w.profile w.slots)) outcome.reply

pub all_known : (limit : ℕ) (w : World) (entities : List Entity) → IsLawful limit w → AllByRecursion (λ e. is_live w.slots e ≡ true) entities → AllByRecursion (IsKnown w.profile w.slots) entities
all_known limit w entities h live =
    all_weaker _ _ (λ e live. record { live = live; of_profile = live_of_profile w.profile limit w.slots w.free e h.slots live }) entities live

made_known : (limit : ℕ) (w : World) (made : Creation) → IsLawfulCreation limit w made → IsKnown w.profile made.slots made.entity
made_known limit w made creation = record { live = creation.is_live; of_profile = live_of_profile w.profile limit made.slots made.free made.entity creation.lawful creation.is_live }

accepted_known : (limit : ℕ) (w : World) (command : Command) → IsLawful limit w → refusal_of limit w command ≡ None → TellsKnown w (outcome_of limit w command)
accepted_known limit w Create h k = made_known limit w (plain_creation w.slots w.free) (plainly_created limit w h k)
accepted_known limit w (Hint hint) h k = made_known limit w (creation_by_hint w.profile limit w.slots w.free hint) (created_by_hint limit w hint h k)
accepted_known limit w (Remove e pool) h k = remove_cases (TellsKnown w) w e pool tt tt
accepted_known limit w (View all without) h k = all_known limit w _ h (live_matches limit w h all without)
accepted_known limit w (Group decl) h k = group_cases (TellsKnown w) w decl (λ _. tt) tt
accepted_known limit w (Members group) h k = all_known limit w _ h (live_matches limit w h _ _)
accepted_known limit w (SortPool pool field) h k = all_known limit w _ h (live_keys w _ (all-sorted _ field (pool_at w pool) (live_rows limit w h pool)))
accepted_known limit w (SortGroup group pool field) h k =
    all_known limit w _ h (live_keys w _ (all-sorted _ field (member_rows w (group_at w group) pool) (all-filter _ _ (pool_at w pool) (live_rows limit w h pool))))
accepted_known limit w _ h k = tt

pub step_known : (limit : ℕ) (w : World) (command : Command) → IsLawful limit w → TellsKnown w (step limit w command)
step_known limit w command h = step_cases (TellsKnown w) limit w command (λ _ _. tt) (accepted_known limit w command h)

-- so an identifier that is made is known
pub made_is_known : (limit : ℕ) (w : World) (command : Command) (entity : Entity) → IsLawful limit w → (step limit w command).reply ≡ Made entity → IsKnown w.profile (step limit w command).world.slots entity
made_is_known limit w command entity h same = subst (SaysOf (IsKnown w.profile (step limit w command).world.slots) (AllByRecursion (IsKnown w.profile w.slots))) same (step_known limit w command h)

-- and those that are listed are
pub listed_are_known : (limit : ℕ) (w : World) (command : Command) (entities : List Entity) → IsLawful limit w → (step limit w command).reply ≡ Listed entities → AllByRecursion (IsKnown w.profile w.slots) entities
listed_are_known limit w command entities h same = subst (SaysOf (IsKnown w.profile (step limit w command).world.slots) (AllByRecursion (IsKnown w.profile w.slots))) same (step_known limit w command h)

-- ---- in order

-- in ascending index, where anything is listed
abbrev ListsAscending : Outcome → Type 0
ListsAscending outcome = SaysOf (λ _. Unit {0}) AreAscending outcome.reply

ascending_matches : (limit : ℕ) (w : World) → IsLawful limit w → (all without : List ℕ) → AreAscending (matches (keys_of w) all without)
ascending_matches limit w h [] without = tt
ascending_matches limit w h (first ∷ rest) without =
    ascending-filter _ _ (get_or (keys_of w) first [])
    (subst AreAscending (sym (get_or-map rows.keys w.pools first [])) (ascending-keys (pool_at w first) (rows_at limit w rows.IsAscending h first tt (λ decl entries _ p. p.ascending))))

-- a view and a group's members are listed in ascending index
pub view_ascends : (limit : ℕ) (w : World) (all without : List ℕ) (entities : List Entity) → IsLawful limit w → (step limit w (View all without)).reply ≡ Listed entities → AreAscending entities
view_ascends limit w all without entities h same =
    subst (SaysOf (λ _. Unit {0}) AreAscending) same (step_cases ListsAscending limit w (View all without) (λ _ _. tt) (λ _. ascending_matches limit w h all without))

pub members_ascend : (limit : ℕ) (w : World) (group : ℕ) (entities : List Entity) → IsLawful limit w → (step limit w (Members group)).reply ≡ Listed entities → AreAscending entities
members_ascend limit w group entities h same =
    subst (SaysOf (λ _. Unit {0}) AreAscending) same (step_cases ListsAscending limit w (Members group) (λ _ _. tt) (λ _. ascending_matches limit w h _ _))

-- what events of one kind and one component name
keys_told : (kind : EventKind) (pool : ℕ) (entities : List Entity) → map (λ event. event.entity) (map (tells kind pool) entities) ≡ entities
keys_told kind pool [] = refl
keys_told kind pool (entity ∷ entities) = ap (λ later. entity ∷ later) (keys_told kind pool entities)

-- and so do the events of a component that is cleared
pub cleared_ascends : (limit : ℕ) (w : World) (pool : ℕ) → IsLawful limit w → AreAscending (map (λ event. event.entity) (step limit w (Clear pool)).events)
cleared_ascends limit w pool lawful =
    step_cases (λ outcome. AreAscending (map (λ event. event.entity) outcome.events)) limit w (Clear pool) (λ _ _. tt)
    (λ _. subst AreAscending (sym (keys_told Destroy pool (rows.keys (pool_at w pool)))) (ascending-keys (pool_at w pool) (ascending_rows limit w pool lawful)))

-- ---- rows that are told

-- a row that is there may be set
may_set_again : (limit : ℕ) (w : World) (e : Entity) (pool : ℕ) → IsLawful limit w → has_row w pool e ≡ true → MaySet w.profile w.decls pool (row_at w pool e)
may_set_again limit w e pool h there = record {
  wide = all-get IsRow (pool_at w pool) e zero_row (rows_at limit w (AllByRecursion _) h pool tt (λ decl entries _ p. p.wide)) there;
  fit = all-get (λ row. fits_pool w.profile w.decls pool row ≡ true) (pool_at w pool) e zero_row
      (rows_at limit w (AllByRecursion _) h pool tt (λ decl entries is p.
      all_weaker _ _ (λ entry fit. ap (λ d. option_map_or (λ decl. fits w.profile decl entry.1) d true) is ∙ fit) entries p.fitting)) there;
}

-- the row that a Get tells may be set in the component
pub told_row : (limit : ℕ) (w : World) (e : Entity) (pool : ℕ) (row : Row) → IsLawful limit w → (step limit w (Get e pool)).reply ≡ Values row → MaySet w.profile w.decls pool row
told_row limit w e pool row h =
    step_cases (λ o. o.reply ≡ Values row → MaySet w.profile w.decls pool row) limit w (Get e pool)
    (λ cause _ same. absurd (false≢true (ap is_values same)))
    (λ k same. subst (MaySet w.profile w.decls pool) (ap values_of same) (may_set_again limit w e pool h (present w pool e (entry_further w pool e (when_absent w pool e) k))))
  where
    is_values : Reply → Bool
    is_values (Values row) = true
    is_values _ = false

    values_of : Reply → Row
    values_of (Values row) = row
    values_of _ = zero_row
