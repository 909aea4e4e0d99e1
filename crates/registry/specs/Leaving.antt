-- What leaves with an identifier.
use Rattle.std.specs.Prelude.{◌≡◌, ℕ, if◌then◌else◌, List, [], filter, length, reverse, Option, slice_get, slice_index_or}
use Rattle.std.specs.List.{range_with_len}
use Rattle.std.specs.Option.{option_map}
use Rattle.entity_id.specs.declared.entity.Entity.{Entity}
use Rattle.entity_id.specs.FiniteMap as entries
use Rattle.signal_sink.specs.Hearings.{Hearing, all_told}
use Rattle.world_model.specs.declared.component.Row.{Row}
use Rattle.world_model.specs.declared.event.EventKind.TheVariants as event
use Rattle.world_model.specs.Outcomes.{tells}

-- the destruction listeners of a pool, once an identifier left it: told where it had a row
abbrev pub hearings_after : ℕ → Entity → List (Entity × Row) → List (Option Hearing) → List (Option Hearing)
hearings_after pool entity before hearings = if entries.contains before entity then all_told (tells event.Destroy pool entity) hearings else hearings

-- the destruction listeners of each pool, once an identifier left them all
abbrev pub Leave : Entity → List (List (Entity × Row)) → List (List (Option Hearing)) → List (List (Option Hearing)) → Type 0
Leave entity maps old new = (pool : ℕ) → slice_get new pool ≡ option_map (hearings_after pool entity (slice_index_or maps pool [])) (slice_get old pool)

-- the pools that have a row of an identifier, in descending number
abbrev pub pools_with : List (List (Entity × Row)) → Entity → List ℕ
pools_with maps entity = filter (λ pool. entries.contains (slice_index_or maps pool []) entity) (reverse (range_with_len 0 (length maps)))
