-- Orders that a system gives, each beside the index of the entity for which it is given.
use Rattle.std.specs.Prelude.{◌≡◌, ℕ, List, map}
use Rattle.std.specs.List.{flat_map}
use Rattle.entity_id.specs.declared.entity.Entity.{Entity}
use Rattle.world_model.specs.declared.deferred.Deferred.{Deferred}
use Rattle.system_api.specs.Settling.{HasSameParts, IsSettled}

-- an order, and the index of the entity for which it is given
pub record Emission : Type 0 where
  pub index : ℕ
  pub order : Deferred

-- orders as they stand, and for how many more there is room
pub record Emissions : Type 0 where
  pub list : List Emission
  pub spare : ℕ

-- ---- settling

-- for each index the same orders in the same order
abbrev pub GiveTheSame : List Emission → List Emission → Type 0
GiveTheSame a b = HasSameParts (λ (emission : Emission). emission.index) a b

-- orders put in ascending index, those of one index in the order in which they were given
abbrev pub AreSettled : List Emission → List Emission → Type 0
AreSettled given settled = IsSettled (λ (emission : Emission). emission.index) given settled

-- what was given is settled as these orders
abbrev pub SettlesAs : List Emission → List Deferred → Type 0
SettlesAs given orders = (settled : List Emission) → AreSettled given settled → map (λ (emission : Emission). emission.order) settled ≡ orders

-- ---- orders along entries

-- what is given for one entry
abbrev pub emissions_for : {X : Type 0} → (Entity → X → List Deferred) → Entity × X → List Emission
emissions_for give entry = map (λ order. record { index = entry.0.index; order = order }) (give entry.0 entry.1)

-- what is given for entries, one entry after another
abbrev pub emissions_along : {X : Type 0} → (Entity → X → List Deferred) → List (Entity × X) → List Emission
emissions_along give entries = flat_map (emissions_for give) entries

-- the orders alone
abbrev pub orders_along : {X : Type 0} → (Entity → X → List Deferred) → List (Entity × X) → List Deferred
orders_along give entries = flat_map (λ entry. give entry.0 entry.1) entries
