-- What is true of every registry between two calls.
use Rattle.std.specs.Prelude.{◌≡◌, ℕ, length, Some, slice_get}
use Rattle.signal_sink.specs.Hearings.{HaveSpare}
use Rattle.world_model.specs.declared.event.EventKind.TheVariants as event
use Rattle.world_model.specs.declared.group.GroupDecl.{GroupDecl}
use Rattle.world_model.specs.Contents.{keys_of, pool_at}
use Rattle.world_model.specs.Groups.{ArePackedListsOf, IsLawfulGroup}
use Rattle.world_model.specs.Worlds.{IsLawful}
use Rattle.registry.specs.Held.{Held, member_count}
use Rattle.registry.specs.Listeners.{listeners_at}

-- a lawful registry: its world is lawful within its limit, each packed list has the identifiers that have a row in its pool, each
-- group's members stand first in the packed lists of the pools that it owns, in one order, and each listener that hears of a pool's
-- rows removed has room for them all
pub record IsLawfulRegistry (held : Held) : Type 0 where
  pub world : IsLawful held.limit held.world
  pub packed : ArePackedListsOf (keys_of held.world) held.packed
  pub groups : (group : ℕ) (decl : GroupDecl) → slice_get held.world.groups group ≡ Some decl → IsLawfulGroup (keys_of held.world) held.packed decl (member_count held group)
  pub room : (pool : ℕ) → HaveSpare (length (pool_at held.world pool)) (listeners_at held event.Destroy pool)
