-- Commands that were read, carried out on a registry of their components.
use Rattle.std.proofs.Common.{◌≡◌, inl, inr, ℕ, List, sym, ap, ◌∙◌, subst}
use Rattle.entity_id.specs.declared.entity.Profile.{Profile}
use Rattle.entity_id.specs.Identifiers.{p20_12}
use Rattle.registry.specs.Held.{Held}
use Rattle.registry.specs.Running.{Asks, IsRun}
use Rattle.world_model.specs.declared.command.Command.{Command}
use Rattle.world_model.specs.declared.command.Command.TheVariants.{Emplace, EmplaceOrReplace, Replace, Patch, View}
use Rattle.world_model.specs.declared.command.Reply.{Reply}
use Rattle.world_model.specs.declared.component.Decl.{Decl}
use Rattle.world_model.specs.declared.world.World.{World}
use Rattle.world_model.specs.Conditions.{IsAllowed}
use Rattle.world_model.proofs.StepLemmas.{step_same}
use Rattle.world_text.specs.Scripts.{IsCommandLine, IsCommandText}
use Rattle.world_text.proofs.ScriptLemmas.{Ascends, line_allowed, step_ascends}

-- what may be written in a script is what its call asks
asks : (w : World) (c : Command) → IsAllowed w c → Asks w c
asks w (Emplace entity pool row) h = h.fit
asks w (EmplaceOrReplace entity pool row) h = h.fit
asks w (Replace entity pool row) h = h.fit
asks w (Patch entity pool field value) h = h.fit
asks w (View all without) h = h.some
asks w _ h = tt

-- the command that a line spells may be written in a script of the world's own components
read_line : (w : World) (decls : List Decl) (line : List ℕ) (c : Command) → IsCommandText p20_12 decls line c → w.decls ≡ decls → w.profile ≡ p20_12 → IsCommandLine w.profile w.decls c
read_line w decls line c read same profile =
    subst (λ (p : Profile). IsCommandLine p w.decls c) (sym profile) (subst (λ (ds : List Decl). IsCommandLine p20_12 ds c) (sym same) read.is)

pub read_asks : (w : World) (decls : List Decl) (line : List ℕ) (c : Command) → IsCommandText p20_12 decls line c → w.decls ≡ decls → w.profile ≡ p20_12 → Asks w c
read_asks w decls line c read same profile = asks w c (line_allowed w c (read_line w decls line c read same profile))

-- what a command leaves as it was
pub record Keeps (old new : Held) : Type 0 where
  pub limit : new.limit ≡ old.limit
  pub decls : new.world.decls ≡ old.world.decls
  pub profile : new.world.profile ≡ old.world.profile

pub run_keeps : (old new : Held) (c : Command) (reply : Reply) → IsRun old new c reply → Keeps old new
run_keeps old new c reply (inl is) =
    let same = step_same old.limit old.world c in
    record {
      limit = is.0.limit;
      decls = ap (λ (w : World). w.decls) is.0.world ∙ same.decls;
      profile = ap (λ (w : World). w.profile) is.0.world ∙ same.profile;
    }
run_keeps old new c reply (inr is) = record {
  limit = is.3.unchanged.limit;
  decls = ap (λ (w : World). w.decls) is.3.unchanged.world;
  profile = ap (λ (w : World). w.profile) is.3.unchanged.world;
}

-- the lists of the groups stay ascending
pub run_ascends : (old new : Held) (decls : List Decl) (line : List ℕ) (c : Command) (reply : Reply) → IsRun old new c reply → IsCommandText p20_12 decls line c → old.world.decls ≡ decls → old.world.profile ≡ p20_12 → Ascends old.world → Ascends new.world
run_ascends old new decls line c reply (inl is) read same profile h =
    subst Ascends (sym is.0.world) (step_ascends old.limit old.world c (read_line old.world decls line c read same profile) h)
run_ascends old new decls line c reply (inr is) read same profile h = subst Ascends (sym is.3.unchanged.world) h
