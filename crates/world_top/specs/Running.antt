-- Systems run tick by tick on a registry.
use Rattle.std.specs.Prelude.{◌≡◌, ℕ, ◌+◌, List, map}
use Rattle.std.specs.List.{AllByRecursion}
use Rattle.entity_id.specs.declared.entity.Profile.{Profile}
use Rattle.registry.specs.Held.{Held}
use Rattle.row_lang.specs.Effects.{system_effect}
use Rattle.row_lang.specs.Systems.{System}
use Rattle.system_eval.specs.declared.row_system.RowSystem.{RowSystem}
use Rattle.world_model.specs.declared.component.Decl.{Decl}
use Rattle.world_model.specs.declared.world.World.{World}
use Rattle.world_model.specs.Frames.{IsFitSystem}
use Rattle.world_model.specs.Ticks.{System as AnySystem, world_after_ticks}

-- a system in a profile
pub record Placed : Type 0 where
  pub profile : Profile
  pub system : System

-- what a system is that is ready to run
abbrev pub placed : RowSystem → Placed
placed s = record { profile = s.profile; system = s.system.now }

-- these systems in one profile, ready to run
abbrev pub AreReady : Profile → List System → List RowSystem → Type 0
AreReady profile systems ready = map placed ready ≡ map (λ system. record { profile = profile; system = system }) systems

-- what systems do that are ready to run
abbrev pub effects_of : List RowSystem → List AnySystem
effects_of systems = map (λ s. system_effect s.profile s.system.now) systems

-- each of these systems is one that a world of this profile and these components may have
abbrev pub AreFit : Profile → List Decl → List RowSystem → Type 0
AreFit profile decls systems =
    AllByRecursion (λ s. IsFitSystem profile decls s.system.now.access (system_effect s.profile s.system.now)) systems

-- the world of a registry, which has no tick number of its own, at this tick
abbrev pub world_at : ℕ → Held → World
world_at tick held = record held.world { tick = tick }

-- a registry after so many ticks of these systems, of which the first had this number. Who listens is not said
pub record IsAfter (old new : Held) (systems : List AnySystem) (tick ticks : ℕ) : Type 0 where
  pub limit : new.limit ≡ old.limit
  pub world : world_at (tick + ticks) new ≡ world_after_ticks old.limit systems ticks (world_at tick old)
