-- What systems leave of a lawful world, and what lists of orders do one after another.
use Rattle.std.proofs.Common.{◌≡◌, ℕ, ◌<◌, ◌^◌, IsTrue, List, [], ◌∷◌, ◌++◌, map, refl, sym, ap, ◌∙◌, append_assoc, append-nil}
use Rattle.std.specs.List.{AllByRecursion, AllZip}
use Rattle.entity_id.specs.declared.entity.Entity.{Entity}
use Rattle.entity_id.specs.declared.entity.Profile.{Profile}
use Rattle.entity_id.specs.FiniteMap as entries
use Rattle.world_model.specs.declared.access.Access.{Access}
use Rattle.world_model.specs.declared.component.Decl.{Decl}
use Rattle.world_model.specs.declared.component.Row.{Row}
use Rattle.world_model.specs.declared.deferred.Deferred.{Deferred}
use Rattle.world_model.specs.declared.slot.Slot.{Slot}
use Rattle.world_model.specs.declared.world.World.{World}
use Rattle.world_model.specs.Components.{IsRow, fits}
use Rattle.world_model.specs.Contents.{keys_of}
use Rattle.world_model.specs.Frames.{AreFittingMaps, ChangesOnlyItsRows, IsFitSystem, IsWorldOf}
use Rattle.world_model.specs.Orders.{Progress, IsFitting, beginning, apply_all}
use Rattle.world_model.specs.Ticks.{Maps, System, orders_of, world_after_orders, order_events, world_after_systems}
use Rattle.world_model.specs.Worlds.{AreLawfulRows, IsLawful}

-- ---- rows

both_all : {X : Type 0} (P Q : X → Type 0) (xs : List X) → AllByRecursion P xs → AllByRecursion Q xs → AllByRecursion (λ x. P x × Q x) xs
both_all P Q [] all also = tt
both_all P Q (x ∷ xs) all also = ((all.0, also.0), both_all P Q xs all.1 also.1)

-- the rows of a lawful world fit
pub rows_fit : (profile : Profile) (slots : List Slot) (decls : List Decl) (maps : Maps) → AllZip (AreLawfulRows profile slots) decls maps → AreFittingMaps profile decls maps
rows_fit profile slots [] [] lawful = tt
rows_fit profile slots [] (rows ∷ maps) lawful = absurd lawful
rows_fit profile slots (decl ∷ decls) [] lawful = absurd lawful
rows_fit profile slots (decl ∷ decls) (rows ∷ maps) lawful =
    (both_all (λ (entry : Entity × Row). IsRow entry.1) (λ entry. IsTrue (fits profile decl entry.1)) rows lawful.0.wide lawful.0.fitting, rows_fit profile slots decls maps lawful.1)

-- other rows that fit leave a lawful world
abbrev pub LawfulAgain : Type 0
LawfulAgain = (limit : ℕ) (world : World) (maps : Maps) → IsLawful limit world → map entries.keys maps ≡ keys_of world → AreFittingMaps world.profile world.decls maps → IsLawful limit (record world { pools = maps })

-- a lawful world is lawful at every tick number
pub at_tick : (limit tick : ℕ) (w : World) → IsLawful limit w → IsLawful limit (record w { tick = tick })
at_tick limit tick w h = record { profile = h.profile; few_decls = h.few_decls; decls = h.decls; slots = h.slots; pools = h.pools; groups = h.groups }

module _ {S : Type 0} (lists : S → Access) (effect : S → System) (frame : (system : S) → ChangesOnlyItsRows (lists system) (effect system)) (again : LawfulAgain) where
  -- systems that are fit leave a lawful world, and give fitting orders
  pub systems_lawful : (limit : ℕ) (systems : List S) (w : World) → IsLawful limit w → w.tick < 2 ^ 63 → AllByRecursion (λ system. IsFitSystem w.profile w.decls (lists system) (effect system)) systems
      → IsLawful limit (world_after_systems (map effect systems) w) × AllByRecursion (AllByRecursion (IsFitting w.profile w.decls)) (orders_of (map effect systems) w.tick w.pools)
  systems_lawful limit [] w lawful tick fit = (lawful, tt)
  systems_lawful limit (system ∷ systems) w lawful tick fit =
      let is : IsWorldOf w.profile w.decls w = record { limit = limit; lawful = lawful; profile_is = refl; decls_are = refl; tick = tick } in
      let after : World = record w { pools = (effect system w.tick w.pools).maps } in
      let rest = systems_lawful limit systems after (again limit w (effect system w.tick w.pools).maps lawful ((frame system).identifiers w.tick w.pools) (fit.0.rows w is)) tick fit.1 in
      (rest.0, (fit.0.orders w is, rest.1))

-- ---- orders

pub world-snoc : (limit : ℕ) (w : World) (lists : List (List Deferred)) (orders : List Deferred)
    → world_after_orders limit w (lists ++ orders ∷ []) ≡ (apply_all limit (beginning (world_after_orders limit w lists)) orders).world
world-snoc limit w [] orders = refl
world-snoc limit w (first ∷ lists) orders = world-snoc limit (apply_all limit (beginning w) first).world lists orders

pub events-snoc : (limit : ℕ) (w : World) (lists : List (List Deferred)) (orders : List Deferred)
    → order_events limit w (lists ++ orders ∷ []) ≡ order_events limit w lists ++ (apply_all limit (beginning (world_after_orders limit w lists)) orders).events
events-snoc limit w [] orders = append-nil (apply_all limit (beginning w) orders).events
events-snoc limit w (first ∷ lists) orders =
    let done = apply_all limit (beginning w) first in
    ap (λ events. done.events ++ events) (events-snoc limit done.world lists orders)
    ∙ sym (append_assoc done.events (order_events limit done.world lists) (apply_all limit (beginning (world_after_orders limit done.world lists)) orders).events)

module _ (limit : ℕ) (profile : (limit : ℕ) (progress : Progress) (orders : List Deferred) → (apply_all limit progress orders).world.profile ≡ progress.world.profile)
    (decls : (limit : ℕ) (progress : Progress) (orders : List Deferred) → (apply_all limit progress orders).world.decls ≡ progress.world.decls) where
  pub lists_profile : (w : World) (lists : List (List Deferred)) → (world_after_orders limit w lists).profile ≡ w.profile
  lists_profile w [] = refl
  lists_profile w (orders ∷ lists) = lists_profile (apply_all limit (beginning w) orders).world lists ∙ profile limit (beginning w) orders

  pub lists_decls : (w : World) (lists : List (List Deferred)) → (world_after_orders limit w lists).decls ≡ w.decls
  lists_decls w [] = refl
  lists_decls w (orders ∷ lists) = lists_decls (apply_all limit (beginning w) orders).world lists ∙ decls limit (beginning w) orders
