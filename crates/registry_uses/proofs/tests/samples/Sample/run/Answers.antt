use Rattle.std.proofs.Common.{◌≡◌, ◌∙◌, ap, inl, inr}
use Rattle.world_model.specs.declared.command.Command.{Command}
use Rattle.world_model.specs.declared.command.Reply.{Reply}
use Rattle.world_model.specs.declared.world.World.{World}
use Rattle.world_model.proofs.StepLemmas.{step_same}
use Rattle.registry.specs.Held.{Held}
use Rattle.registry.specs.Running.{IsRun}
use Rattle.registry_uses.proofs.tests.samples.Sample.run.Goals as goal

-- a command leaves the components as they were
same_decls : (old new : Held) (command : Command) (reply : Reply) → IsRun old new command reply → new.world.decls ≡ old.world.decls
same_decls old new command reply (inl done) = ap (λ (w : World). w.decls) done.0.world ∙ (step_same old.limit old.world command).decls
same_decls old new command reply (inr short) = ap (λ (w : World). w.decls) short.3.unchanged.world

pub run-requires : goal.run-requires
run-requires g c = record { asked = c.requires.asked c.args.self.now.registry.world c.args.self.now.decls }

pub invariant_of-self : goal.invariant_of-self
invariant_of-self g c = record { decls = same_decls c.args.self.now.registry c.run.new.self c.args.command c.run.result c.run.ensures.run ∙ c.args.self.now.decls }
