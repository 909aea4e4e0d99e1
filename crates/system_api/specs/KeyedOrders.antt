-- How a buffer keeps orders: by keys, so that settling moves 8 bytes for each. No public clause cites this file.
use Rattle.std.specs.Prelude.{◌≡◌, ℕ, ◌+◌, ◌<◌, ◌≤◌, ◌^◌, ◌/◌, ◌%◌, List, map, length, slice_index_or}
use Rattle.std.specs.List.{AllByRecursion}
use Rattle.std.specs.Vec.{vec_capacity}
use Rattle.std.specs.Global.{Vec}
use Rattle.world_model.specs.declared.deferred.Deferred.{Deferred}
use Rattle.world_model.specs.declared.deferred.Deferred.TheVariants.{Spawn}
use Rattle.system_api.specs.Settling.{of_number, NeverFalls}
use Rattle.system_api.specs.Emissions.{Emission, Emissions}

-- the index in the high bits of a key
abbrev pub index_of_key : ℕ → ℕ
index_of_key key = key / 2 ^ 32

-- the place of the key's order, in the low 32 bits
abbrev pub place_of_key : ℕ → ℕ
place_of_key key = key % 2 ^ 32

-- the order of a key, beside its index
abbrev pub emission_of : List Deferred → ℕ → Emission
emission_of orders key = record { index = index_of_key key; order = slice_index_or orders (place_of_key key) Spawn }

-- what a contract sees of keys and orders
abbrev pub emissions_of : Vec ℕ → Vec Deferred → ℕ → Emissions
emissions_of keys orders spare = record { list = map (emission_of orders.items) keys.items; spare = spare }

-- one key for each order, and room for both; the keys of one index rise
pub record IsBuffer (keys : Vec ℕ) (orders : Vec Deferred) (spare : ℕ) : Type 0 where
  pub even : length orders.items ≡ length keys.items
  pub few : length keys.items + spare ≤ 2 ^ 32
  pub key_room : length keys.items + spare ≤ vec_capacity keys
  pub order_room : length orders.items + spare ≤ vec_capacity orders
  pub below : AllByRecursion (λ key. place_of_key key < length keys.items) keys.items
  pub rising : (index : ℕ) → NeverFalls (λ key. key) (of_number index_of_key index keys.items)
