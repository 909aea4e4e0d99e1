-- What the groups of some pools keep beside what contracts see. No public clause cites this file.
use Rattle.std.specs.Prelude.{◌≡◌, ℕ, List, length}
use Rattle.world_model.specs.Groups.{AreLawfulGroups}
use Rattle.group_engine.specs.declared.marking.Masks.{Masks}
use Rattle.group_engine.specs.Engine.{Groups}
use Rattle.group_engine.specs.Families.{IsOrdered}
use Rattle.group_engine.specs.Masks.{AreMarked}

-- lawful groups over so many pools, a length for each, their numbers so ordered that an outer group comes before those inner to it,
-- and which of them a change of each pool concerns
pub record IsKept (groups : Groups) (order : List ℕ) (masks : Masks) : Type 0 where
  pub lawful : AreLawfulGroups groups.pools groups.decls
  pub each : length groups.lens ≡ length groups.decls
  pub ordered : IsOrdered groups.decls order
  pub marked : AreMarked masks groups.decls order groups.pools
