-- One system more.
use Rattle.std.proofs.Common.{◌≡◌, ℕ, List, [], ◌∷◌, ◌++◌, refl, ap}
use Rattle.world_model.specs.Ticks.{Maps, System, maps_after_systems, orders_of}

pub rows-snoc : (systems : List System) (system : System) (tick : ℕ) (maps : Maps) → maps_after_systems (systems ++ system ∷ []) tick maps ≡ (system tick (maps_after_systems systems tick maps)).maps
rows-snoc [] system tick maps = refl
rows-snoc (first ∷ systems) system tick maps = rows-snoc systems system tick (first tick maps).maps

pub orders-snoc : (systems : List System) (system : System) (tick : ℕ) (maps : Maps)
    → orders_of (systems ++ system ∷ []) tick maps ≡ orders_of systems tick maps ++ (system tick (maps_after_systems systems tick maps)).orders ∷ []
orders-snoc [] system tick maps = refl
orders-snoc (first ∷ systems) system tick maps = ap (λ lists. (first tick maps).orders ∷ lists) (orders-snoc systems system tick (first tick maps).maps)
