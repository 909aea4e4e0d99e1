use Rattle.registry_uses.specs.Scenes.{IsScene}
use Rattle.group_walk.proofs.scene.moving_scene_counted.Given as goal

abbrev pub invariant-loop-number : goal.invariant-loop-number
invariant-loop-number g l = IsScene l.registry
