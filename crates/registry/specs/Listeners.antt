-- Listeners connected and disconnected.
use Rattle.std.specs.Prelude.{◌≡◌, ◌≢◌, ℕ, List, [], Option, slice_index_or}
use Rattle.signal_sink.specs.Hearings.{Hearing}
use Rattle.world_model.specs.declared.event.EventKind.{EventKind}
use Rattle.world_model.specs.declared.event.EventKind.TheVariants as event
use Rattle.registry.specs.Held.{Held}

-- the listeners of a kind, for each pool
abbrev pub listeners_of : Held → EventKind → List (List (Option Hearing))
listeners_of held event.Construct = held.construct
listeners_of held event.Update = held.update
listeners_of held event.Destroy = held.destroy

-- the listeners of a kind and a pool, by number
abbrev pub listeners_at : Held → EventKind → ℕ → List (Option Hearing)
listeners_at held kind pool = slice_index_or (listeners_of held kind) pool []

-- the listeners of this kind and pool have changed, and all else is as it was
pub record IsRewired (old new : Held) (kind : EventKind) (pool : ℕ) : Type 0 where
  pub limit : new.limit ≡ old.limit
  pub world : new.world ≡ old.world
  pub packed : new.packed ≡ old.packed
  pub other_pools : (other : ℕ) → other ≢ pool → listeners_at new kind other ≡ listeners_at old kind other
  pub other_kinds : (other : EventKind) → other ≢ kind → listeners_of new other ≡ listeners_of old other
