-- A tick of a registry, from what its parts do.
use Rattle.std.proofs.Common.{◌≡◌, ℕ, ◌<◌, ◌^◌, List, [], ◌∷◌, ◌++◌, map, length, sym, ap, ◌∙◌, subst, append-nil}
use Rattle.std.specs.List.{AllByRecursion}
use Rattle.storage.specs.Stored.{Stored}
use Rattle.world_model.specs.declared.access.Access.{Access}
use Rattle.world_model.specs.declared.component.Row.{Row}
use Rattle.world_model.specs.declared.deferred.Deferred.{Deferred}
use Rattle.world_model.specs.declared.event.Event.{Event}
use Rattle.world_model.specs.declared.world.World.{World}
use Rattle.world_model.specs.Frames.{AreFittingMaps, ChangesOnlyItsRows, IsFitSystem}
use Rattle.world_model.specs.Orders.{IsFitting, beginning, apply_all}
use Rattle.world_model.specs.Ticks.{Maps, System, maps_after_systems, orders_of, world_after_orders, order_events, world_after_systems}
use Rattle.world_model.specs.Worlds.{IsLawful}
use Rattle.registry.specs.Held.{Held, Becomes}
use Rattle.registry.specs.Layout.{maps_of}
use Rattle.registry.specs.Lending.{Emptied, refilled, shapes_of, IsLent, MayComeBack}
use Rattle.tick_runner.specs.Ticking.{CarriesOut, world_with_rows, Ticks}
use Rattle.tick_runner.proofs.TickLemmas.{LawfulAgain, rows_fit, at_tick, systems_lawful, world-snoc, events-snoc}

-- changes one after another are one change
abbrev pub InParts : Type 0
InParts = (old mid new : Held) (between after : World) (first later : List Event) → Becomes old mid between first → Becomes mid new after later → Becomes old new after (first ++ later)

-- one list of orders more
pub carries_more : InParts → (old mid new : Held) (lists : List (List Deferred)) (orders : List Deferred) → CarriesOut old mid lists → CarriesOut mid new (orders ∷ []) → CarriesOut old new (lists ++ orders ∷ [])
carries_more parts old mid new lists orders before next =
    let w = world_after_orders old.limit old.world lists in
    let done = apply_all old.limit (beginning w) orders in
    let there : Becomes mid new done.world (done.events ++ []) =
    subst (λ (limit : ℕ). Becomes mid new (apply_all limit (beginning w) orders).world ((apply_all limit (beginning w) orders).events ++ [])) before.limit
    (subst (λ (v : World). Becomes mid new (apply_all mid.limit (beginning v) orders).world ((apply_all mid.limit (beginning v) orders).events ++ [])) before.world next) in
    let all : Becomes old new done.world (order_events old.limit old.world lists ++ (done.events ++ [])) = parts old mid new w done.world (order_events old.limit old.world lists) (done.events ++ []) before there in
    subst (λ (v : World). Becomes old new v (order_events old.limit old.world (lists ++ orders ∷ []))) (sym (world-snoc old.limit old.world lists orders))
    (subst (λ (events : List Event). Becomes old new done.world events) (ap (λ events. order_events old.limit old.world lists ++ events) (append-nil done.events) ∙ sym (events-snoc old.limit old.world lists orders)) all)

module _ (held : Held) (shell : Emptied) (lent : List (Stored Row)) (is_lent : IsLent shell lent) (same : refilled shell lent ≡ held) where
  -- there is a pool for each component
  pub lent_count : length lent ≡ length held.world.decls
  lent_count = is_lent.each ∙ ap (λ (h : Held). length h.world.decls) same

  pub lent_maps : maps_of lent ≡ held.world.pools
  lent_maps = ap (λ (h : Held). h.world.pools) same

  module _ {S : Type 0} (lists : S → Access) (effect : S → System) (frame : (system : S) → ChangesOnlyItsRows (lists system) (effect system)) (again : LawfulAgain) (systems : List S) (tick : ℕ)
      (low : tick < 2 ^ 63) (lawful : IsLawful held.limit held.world) (fit : AllByRecursion (λ system. IsFitSystem held.world.profile held.world.decls (lists system) (effect system)) systems) where
    both : IsLawful held.limit (world_after_systems (map effect systems) (record held.world { tick = tick })) × AllByRecursion (AllByRecursion (IsFitting held.world.profile held.world.decls)) (orders_of (map effect systems) tick held.world.pools)
    both = systems_lawful lists effect frame again held.limit systems (record held.world { tick = tick }) (at_tick held.limit tick held.world lawful) low fit

    -- the orders fit the registry
    pub orders_fit : (orders : List (List Deferred)) → orders ≡ orders_of (map effect systems) tick (maps_of lent) → AllByRecursion (AllByRecursion (IsFitting held.world.profile held.world.decls)) orders
    orders_fit orders is = subst (AllByRecursion (AllByRecursion (IsFitting held.world.profile held.world.decls))) (sym (is ∙ ap (orders_of (map effect systems) tick) lent_maps)) both.1

    module _ (pools : List (Stored Row)) (rows : maps_of pools ≡ maps_after_systems (map effect systems) tick (maps_of lent)) where
      rows_are : maps_of pools ≡ maps_after_systems (map effect systems) tick held.world.pools
      rows_are = rows ∙ ap (maps_after_systems (map effect systems) tick) lent_maps

      -- the pools may be put back
      pub may_come_back : shapes_of pools ≡ shapes_of lent → MayComeBack shell pools
      may_come_back shapes =
          let fitting : AreFittingMaps held.world.profile held.world.decls (maps_of pools) =
          subst (AreFittingMaps held.world.profile held.world.decls) (sym rows_are) (rows_fit held.world.profile held.world.slots held.world.decls _ both.0.pools) in
          record {
            lent = lent;
            taken = is_lent;
            shapes = shapes;
            fitting = subst (λ (h : Held). AreFittingMaps h.world.profile h.world.decls (maps_of pools)) (sym same) fitting;
          }

      -- and then the registry stands for the rows that the systems leave
      pub restored : (back : Held) → (let old = refilled shell lent in back ≡ record old { world = record old.world { pools = maps_of pools } }) → back ≡ record held { world = world_with_rows held (map effect systems) tick }
      restored back is =
          is ∙ ap (λ (h : Held). record h { world = record h.world { pools = maps_of pools } }) same
          ∙ ap (λ (maps : Maps). record held { world = record held.world { pools = maps } }) rows_are

      -- and once the orders are carried out it has ticked
      pub ticked : InParts → ((old : Held) (world : World) → Becomes old (record old { world = world }) world []) → (back new : Held) → back ≡ record held { world = world_with_rows held (map effect systems) tick }
          → (orders : List (List Deferred)) → orders ≡ orders_of (map effect systems) tick (maps_of lent) → CarriesOut back new orders → Ticks held new (map effect systems) tick
      ticked parts quiet back new is orders given carried =
          let w = world_with_rows held (map effect systems) tick in
          let mid : Held = record held { world = w } in
          let all = orders_of (map effect systems) tick held.world.pools in
          let there : CarriesOut mid new all = subst (λ (ls : List (List Deferred)). CarriesOut mid new ls) (given ∙ ap (orders_of (map effect systems) tick) lent_maps) (subst (λ (h : Held). CarriesOut h new orders) is carried) in
          parts held mid new w (world_after_orders held.limit w all) [] (order_events held.limit w all) (quiet held w) there
