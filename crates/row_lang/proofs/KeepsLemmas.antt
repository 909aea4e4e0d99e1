-- A fit system that changes only its rows leaves a lawful world lawful.
use Rattle.std.proofs.Common.{◌≡◌, ℕ, ◌^◌, ◌<◌, IsTrue, List, [], ◌∷◌, map, get_or, drop, sym, ap, subst}
use Rattle.std.specs.List.{AllByRecursion, AllZip}
use Rattle.entity_id.specs.declared.entity.Entity.{Entity}
use Rattle.entity_id.specs.declared.entity.Profile.{Profile}
use Rattle.entity_id.specs.FiniteMap as entries
use Rattle.entity_id.proofs.MapLemmas.{ascending-keys}
use Rattle.entity_id.proofs.ListLemmas.{all_weaker}
use Rattle.world_model.specs.declared.access.Access.{Access}
use Rattle.world_model.specs.declared.component.Decl.{Decl}
use Rattle.world_model.specs.declared.component.Row.{Row}
use Rattle.world_model.specs.declared.slot.Slot.{Slot}
use Rattle.world_model.specs.declared.world.World.{World}
use Rattle.world_model.specs.Components.{IsRow, fits}
use Rattle.world_model.specs.Slots.{is_live}
use Rattle.world_model.specs.Ticks.{Maps, System}
use Rattle.world_model.specs.Worlds.{AreLawfulRows, IsLawful}
use Rattle.world_model.specs.Frames.{AreFittingMaps, ChangesOnlyItsRows, IsFitSystem, IsWorldOf}

-- what holds of the identifiers holds of the entries
all_of_keys : (P : Entity → Type 0) (rows : List (Entity × Row)) → AllByRecursion P (entries.keys rows) → AllByRecursion (λ entry. P entry.0) rows
all_of_keys P [] all = tt
all_of_keys P (entry ∷ rows) all = (all.0, all_of_keys P rows all.1)

keys_of_all : (P : Entity → Type 0) (rows : List (Entity × Row)) → AllByRecursion (λ entry. P entry.0) rows → AllByRecursion P (entries.keys rows)
keys_of_all P [] all = tt
keys_of_all P (entry ∷ rows) all = (all.0, keys_of_all P rows all.1)

ascending_of_keys : (rows : List (Entity × Row)) → entries.AreAscending (entries.keys rows) → entries.IsAscending rows
ascending_of_keys [] all = tt
ascending_of_keys (entry ∷ rows) all = (all_of_keys (λ e. entry.0.index < e.index) rows all.0, ascending_of_keys rows all.1)

module _ (profile : Profile) (slots : List Slot) where
  rows_lawful : (decl : Decl) (old new : List (Entity × Row)) → entries.keys new ≡ entries.keys old → AreLawfulRows profile slots decl old →
      AllByRecursion (λ entry. IsRow entry.1 × IsTrue (fits profile decl entry.1)) new → AreLawfulRows profile slots decl new
  rows_lawful decl old new same lawful fit = record {
    ascending = ascending_of_keys new (subst entries.AreAscending (sym same) (ascending-keys old lawful.ascending));
    live = all_of_keys (λ e. IsTrue (is_live slots e)) new (subst (AllByRecursion (λ e. IsTrue (is_live slots e))) (sym same) (keys_of_all (λ e. IsTrue (is_live slots e)) old lawful.live));
    wide = all_weaker (λ entry. IsRow entry.1 × IsTrue (fits profile decl entry.1)) (λ entry. IsRow entry.1) (λ entry is. is.0) new fit;
    fitting = all_weaker (λ entry. IsRow entry.1 × IsTrue (fits profile decl entry.1)) (λ entry. IsTrue (fits profile decl entry.1)) (λ entry is. is.1) new fit;
  }

  maps_lawful : (decls : List Decl) (old new : Maps) → map entries.keys new ≡ map entries.keys old → AllZip (AreLawfulRows profile slots) decls old → AreFittingMaps profile decls new → AllZip (AreLawfulRows profile slots) decls new
  maps_lawful [] old [] same lawful fit = tt
  maps_lawful [] old (n ∷ new) same lawful fit = absurd fit
  maps_lawful (d ∷ decls) old [] same lawful fit = absurd fit
  maps_lawful (d ∷ decls) [] (n ∷ new) same lawful fit = absurd lawful
  maps_lawful (d ∷ decls) (o ∷ old) (n ∷ new) same lawful fit =
      (rows_lawful d o n (ap (λ keys. get_or keys 0 []) same) lawful.0 fit.0, maps_lawful decls old new (ap (drop 1) same) lawful.1 fit.1)

pub fit_keeps_lawful : (profile : Profile) (decls : List Decl) (access : Access) (system : System) → IsFitSystem profile decls access system → ChangesOnlyItsRows access system →
    (limit : ℕ) (world : World) → IsLawful limit world → world.profile ≡ profile → world.decls ≡ decls → world.tick < 2 ^ 63 → IsLawful limit (record world { pools = (system world.tick world.pools).maps })
fit_keeps_lawful profile decls access system fit frame limit world lawful profile_is decls_are tick =
    let is : IsWorldOf profile decls world = record { limit = limit; lawful = lawful; profile_is = profile_is; decls_are = decls_are; tick = tick } in
    let new : Maps = (system world.tick world.pools).maps in
    let fitting : AreFittingMaps world.profile world.decls new =
    subst (λ p. AreFittingMaps p world.decls new) (sym profile_is) (subst (λ ds. AreFittingMaps profile ds new) (sym decls_are) (fit.rows world is)) in
    record {
      profile = lawful.profile;
      few_decls = lawful.few_decls;
      decls = lawful.decls;
      slots = lawful.slots;
      groups = lawful.groups;
      pools = maps_lawful world.profile world.slots world.decls world.pools new (frame.identifiers world.tick world.pools) lawful.pools fitting;
    }
