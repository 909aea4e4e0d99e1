use Rattle.registry_uses.specs.Scenes.{IsScene}
use Rattle.registry_uses.proofs.tests.scenes.use_up_in.Given as goal

abbrev pub invariant-loop : goal.invariant-loop
invariant-loop g l = record { scene : IsScene l.registry }
