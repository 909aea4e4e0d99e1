-- The registries of the tests.
use Rattle.std.specs.Prelude.{◌≡◌, List, [], ◌∷◌}
use Rattle.world_model.specs.declared.command.Command.{Command}
use Rattle.world_model.specs.declared.component.Decl.{Decl}
use Rattle.world_model.specs.declared.world.World.{World}
use Rattle.registry.specs.Running.{Asks}
use Rattle.registry_uses.specs.Scenes.{numbers}

-- two components of one number each, without names
abbrev pub sample_components : List Decl
sample_components = numbers [] 1 ∷ numbers [] 1 ∷ []

-- what any registry of these components may be asked
abbrev pub IsPlayable : Command → Type 0
IsPlayable command = (w : World) → w.decls ≡ sample_components → Asks w command
