-- The rows of a component that is looked at, by the place of its pool.
use Rattle.std.proofs.Common.{◌≡◌, ℕ, ◌+◌, ◌<◌, ◌≤◌, ◌==◌, List, [], map, drop, length, Some, None, sym, ap, ◌∙◌, arith, length-drop}
use Rattle.std.specs.List.{position_from}
use Rattle.entity_id.specs.FiniteMap as entries
use Rattle.world_model.specs.declared.access.Access.{Access}
use Rattle.row_lang.specs.Values.{known_for}
use Rattle.system_api.specs.declared.lent.LentPool.{LentPool}
use Rattle.system_api.specs.Registers.{no_pool, pool_at}
use Rattle.system_eval.specs.Lanes.{looked_at}
use Rattle.system_eval.proofs.OwnLemmas.{known_found, known_missed, at_mapped, past_mapped, at_dropped}

pub looked_missed : (access : Access) (reads : List LentPool) (pool : ℕ) (look : List ℕ) → look ≡ access.look → position_from (λ other. other == pool) 0 look ≡ None → known_for pool (looked_at access reads) [] ≡ []
looked_missed access reads pool look same is = known_missed pool access.look (map (λ (it : LentPool). entries.map_of it.storage.pairs) (drop (length access.read) reads)) [] (ap (position_from (λ other. other == pool) 0) (sym same) ∙ is)

module _ (access : Access) (reads : List LentPool) (pool at : ℕ) (look : List ℕ) (same : look ≡ access.look) (is : position_from (λ other. other == pool) 0 look ≡ Some at) where
  there : position_from (λ other. other == pool) 0 access.look ≡ Some at
  there = ap (position_from (λ other. other == pool) 0) (sym same) ∙ is

  pub looked_past : length reads ≤ length access.read + at → known_for pool (looked_at access reads) [] ≡ []
  looked_past past =
      known_found pool at access.look (map (λ (it : LentPool). entries.map_of it.storage.pairs) (drop (length access.read) reads)) [] there
      ∙ past_mapped (λ (it : LentPool). entries.map_of it.storage.pairs) (drop (length access.read) reads) at [] (omega (arith, past, length-drop (length access.read) reads))

  pub looked_there : length access.read + at < length reads → known_for pool (looked_at access reads) [] ≡ entries.map_of (pool_at reads (length access.read + at)).storage.pairs
  looked_there within =
      known_found pool at access.look (map (λ (it : LentPool). entries.map_of it.storage.pairs) (drop (length access.read) reads)) [] there
      ∙ at_mapped (λ (it : LentPool). entries.map_of it.storage.pairs) (drop (length access.read) reads) at no_pool [] (omega (arith, within, length-drop (length access.read) reads))
      ∙ ap (λ (it : LentPool). entries.map_of it.storage.pairs) (at_dropped reads (length access.read) at no_pool)
