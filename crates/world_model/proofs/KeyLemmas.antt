-- In a lawful world the identifiers of each component ascend, and so do those that match.
use Rattle.std.proofs.Common.{ℕ, zero, suc, List, [], ◌∷◌, get_or, map, refl, sym, subst, ◌≡◌}
use Rattle.std.specs.List.{AllZip}
use Rattle.entity_id.specs.declared.entity.Entity.{Entity}
use Rattle.entity_id.specs.FiniteMap.{AreAscending, IsAscending, keys}
use Rattle.entity_id.specs.Matching.{matches}
use Rattle.entity_id.proofs.MapLemmas.{ascending-keys}
use Rattle.entity_id.proofs.MatchLemmas.{ascending-matches}
use Rattle.world_model.specs.declared.component.Decl.{Decl}
use Rattle.world_model.specs.declared.component.Row.{Row}
use Rattle.world_model.specs.declared.world.World.{World}
use Rattle.world_model.specs.Contents.{pool_at, keys_of}
use Rattle.world_model.specs.Worlds.{IsLawful, AreLawfulRows}

pub ascending_rows : (limit : ℕ) (w : World) (pool : ℕ) → IsLawful limit w → IsAscending (pool_at w pool)
ascending_rows limit w pool h = each w.decls w.pools pool h.pools
  where
    each : (decls : List Decl) (pools : List (List (Entity × Row))) (pool : ℕ) → AllZip (AreLawfulRows w.profile w.slots) decls pools → IsAscending (get_or pools pool [])
    each [] [] pool h = tt
    each [] (p ∷ ps) pool h = absurd h
    each (d ∷ ds) [] pool h = absurd h
    each (d ∷ ds) (p ∷ ps) zero h = h.0.ascending
    each (d ∷ ds) (p ∷ ps) (suc pool) h = each ds ps pool h.1

-- the identifiers of a component are those of its rows
pub keys_at : (w : World) (pool : ℕ) → get_or (keys_of w) pool [] ≡ keys (pool_at w pool)
keys_at w pool = each w.pools pool
  where
    each : (pools : List (List (Entity × Row))) (pool : ℕ) → get_or (map keys pools) pool [] ≡ keys (get_or pools pool [])
    each [] pool = refl
    each (p ∷ ps) zero = refl
    each (p ∷ ps) (suc pool) = each ps pool

pub ascending_keys : (limit : ℕ) (w : World) (pool : ℕ) → IsLawful limit w → AreAscending (get_or (keys_of w) pool [])
ascending_keys limit w pool h = subst AreAscending (sym (keys_at w pool)) (ascending-keys (pool_at w pool) (ascending_rows limit w pool h))

pub ascending_view : (limit : ℕ) (w : World) (all without : List ℕ) → IsLawful limit w → AreAscending (matches (keys_of w) all without)
ascending_view limit w [] without h = tt
ascending_view limit w (first ∷ rest) without h = ascending-matches (keys_of w) first rest without (ascending_keys limit w first h)
