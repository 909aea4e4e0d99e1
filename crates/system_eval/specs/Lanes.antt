-- What a body finds and does in each lane of a batch.
use Rattle.std.specs.Prelude.{◌≡◌, ◌≢◌, ℕ, ◌<◌, Bool, true, List, map, length, drop, count_by, IsTrue}
use Rattle.std.specs.List.{zip, AllByRecursion}
use Rattle.entity_id.specs.declared.entity.Entity.{Entity}
use Rattle.entity_id.specs.declared.entity.Profile.{Profile}
use Rattle.entity_id.specs.FiniteMap as entries
use Rattle.world_model.specs.declared.access.Access.{Access}
use Rattle.world_model.specs.declared.component.Decl.{Decl}
use Rattle.world_model.specs.declared.component.Row.{Row}
use Rattle.world_model.specs.declared.deferred.Deferred.{Deferred}
use Rattle.world_model.specs.Components.{IsDecl}
use Rattle.world_model.specs.Frames.{own_pools}
use Rattle.world_model.specs.Groups.{are_distinct}
use Rattle.row_lang.specs.declared.token.Token.{Token}
use Rattle.row_lang.specs.Bodies.{Done, body_done}
use Rattle.row_lang.specs.Places.{is_statement}
use Rattle.row_lang.specs.Values.{Setting}
use Rattle.system_api.specs.declared.lent.LentPool.{LentPool}
use Rattle.system_api.specs.Batches.{lanes, row_at, entity_at, is_marked}
use Rattle.system_api.specs.Emissions.{Emission}
use Rattle.system_api.specs.Settling.{of_number}

-- ---- what a body finds

-- what a body finds in a batch: the profile, the number of the tick, the system's lists, the pools that are lent for reading, the entity of
-- each lane, and which lanes count
pub record Scenery : Type 0 where
  pub profile : Profile
  pub tick : ℕ
  pub access : Access
  pub reads : List LentPool
  pub entities : List Entity
  pub marks : List Bool

-- the rows of each component looked at. Their pools are lent behind those that are read
abbrev pub looked_at : Access → List LentPool → List (ℕ × List (Entity × Row))
looked_at access reads = zip access.look (map (λ (pool : LentPool). entries.map_of pool.storage.pairs) (drop (length access.read) reads))

-- what the body finds for the entity of a lane
abbrev pub setting_at : Scenery → ℕ → Setting
setting_at s lane = record { profile = s.profile; tick = s.tick; entity = entity_at s.entities lane; looked_at = looked_at s.access s.reads }

-- the own rows of the entity of a lane, each behind its component's number: there is one column for each component
abbrev pub own_at : List ℕ → List (List Row) → ℕ → List (ℕ × Row)
own_at pools columns lane = zip pools (map (λ column. row_at column lane) columns)

-- how many lanes are marked
abbrev pub marked_count : List Bool → ℕ
marked_count marks = count_by (λ mark. mark) marks

-- no two marked lanes have entities of one index
abbrev pub AreDistinctMarked : List Bool → List Entity → Type 0
AreDistinctMarked marks entities = (a b : ℕ) → a < lanes → b < lanes → IsTrue (is_marked marks a) → IsTrue (is_marked marks b) →
    (entity_at entities a).index ≡ (entity_at entities b).index → a ≡ b

-- an index that no marked lane's entity has
abbrev pub IsOfNoLane : List Bool → List Entity → ℕ → Type 0
IsOfNoLane marks entities index = (lane : ℕ) → lane < lanes → IsTrue (is_marked marks lane) → (entity_at entities lane).index ≢ index

-- ---- what a body does

-- what a body does for the entity of a lane
abbrev pub done_at : Scenery → List (List Token) → List (List Row) → ℕ → Done
done_at s statements columns lane = body_done (setting_at s lane) (own_at (own_pools s.access) columns lane) statements

-- what is emitted for an index
abbrev pub given_to : ℕ → List Emission → List Emission
given_to index emissions = of_number (λ (emission : Emission). emission.index) index emissions

-- orders, each beside an index
abbrev pub beside : ℕ → List Deferred → List Emission
beside index orders = map (λ order. record { index = index; order = order }) orders

-- what a body emits for the entity of a lane
abbrev pub emissions_at : Scenery → List (List Token) → List (List Row) → ℕ → List Emission
emissions_at s statements columns lane = beside (entity_at s.entities lane).index (done_at s statements columns lane).orders

-- ---- which bodies may run

-- own pools of which none comes twice, and statements under these lists and some components of at most 4 fields each
pub record AreReady (access : Access) (statements : List (List Token)) : Type 0 where
  pub apart : IsTrue (are_distinct (own_pools access))
  pub decls : List Decl
  pub declared : AllByRecursion IsDecl decls
  pub each : AllByRecursion (λ tokens. is_statement decls access tokens ≡ true) statements
