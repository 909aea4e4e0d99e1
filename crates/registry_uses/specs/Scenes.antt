-- Scenes: the registries of the examples.
use Rattle.std.specs.Prelude.{◌≡◌, ℕ, ℤ, pos, List, [], ◌∷◌, codes}
use Rattle.entity_id.specs.declared.entity.Entity.{Entity}
use Rattle.world_model.specs.declared.command.Command.{Command}
use Rattle.world_model.specs.declared.component.Decl.{Decl}
use Rattle.world_model.specs.declared.component.Kind.TheVariants.{Int}
use Rattle.world_model.specs.declared.component.Row.{Row}
use Rattle.world_model.specs.declared.group.GroupDecl.{GroupDecl}
use Rattle.world_model.specs.declared.world.World.{World}
use Rattle.world_model.specs.Slots.{plain_creation}
use Rattle.world_model.specs.Steps.{run}
use Rattle.registry.specs.Held.{Held, Becomes}
use Rattle.registry_uses.specs.declared.beginning.TheConstants.{FROZEN, POSITION, SLOT_LIMIT, VELOCITY}

-- a component with this name and so many whole numbers
abbrev pub numbers : List ℕ → ℕ → Decl
numbers name count = record { name = name; count = count; kinds = Int ∷ Int ∷ Int ∷ Int ∷ [] }

-- a place and a velocity, of two numbers each, and a mark of what stands still
abbrev pub scene_components : List Decl
scene_components = numbers (codes "position") 2 ∷ numbers (codes "velocity") 2 ∷ numbers (codes "frozen") 0 ∷ []

-- those that have a place and a velocity, which the group owns, and aren't frozen
abbrev pub moving_group : GroupDecl
moving_group = record { own = POSITION ∷ VELOCITY ∷ []; get = []; without = FROZEN ∷ [] }

-- a registry of these components, without groups
pub record IsScene (held : Held) : Type 0 where
  pub limit : held.limit ≡ SLOT_LIMIT
  pub decls : held.world.decls ≡ scene_components
  pub groups : held.world.groups ≡ []

-- the same with the group of those that move, and no other
pub record IsGroupedScene (held : Held) : Type 0 where
  pub limit : held.limit ≡ SLOT_LIMIT
  pub decls : held.world.decls ≡ scene_components
  pub groups : held.world.groups ≡ moving_group ∷ []

-- the row of two numbers
abbrev pub pair : ℤ → ℤ → Row
pair x y = record { f = x ∷ y ∷ pos 0 ∷ pos 0 ∷ [] }

-- the steps of these commands one after another: their last world, and all their events
abbrev pub DoesAll : Held → Held → List Command → Type 0
DoesAll old new commands = let outcome = run old.limit old.world commands in Becomes old new outcome.world outcome.events

-- the identifier that a world's next plain creation makes
abbrev pub next_made : World → Entity
next_made w = (plain_creation w.slots w.free).entity
