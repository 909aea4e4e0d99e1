use Rattle.std.proofs.Common.{refl}
use Rattle.world_model.specs.declared.command.Command.TheVariants.{Replace}
use Rattle.registry.proofs.DoneLemmas.{same}
use Rattle.registry.proofs.ResultLemmas.{all_err, then_err, then_ok}
use Rattle.registry_uses.specs.declared.beginning.TheConstants.{POSITION}
use Rattle.registry_uses.proofs.SceneLemmas.{after_either, scene_by}
use Rattle.registry_uses.proofs.moving.advance.Goals as goal

pub returns-in_err-place-clause-err : goal.returns-in_err-place-clause-err
returns-in_err-place-clause-err g c = all_err _ (same c.args.registry.now)

pub returns-in_err-velocity-clause-err : goal.returns-in_err-velocity-clause-err
returns-in_err-velocity-clause-err g c = all_err _ (same c.args.registry.now)

pub returns-clause-scene : goal.returns-clause-scene
returns-clause-scene g c =
    scene_by c.args.registry.now c.replace.new.self (Replace c.args.entity POSITION c.moved_by.result) c.replace.result c.requires refl c.replace.ensures.ok c.replace.ensures.err

pub returns-clause-packed : goal.returns-clause-packed
returns-clause-packed g c =
    after_either c.replace.result (then_ok c.replace.result c.replace.ensures.packed (c.packing_without_groups.ensures c.args.registry.now c.replace.new.self (Replace c.args.entity POSITION c.moved_by.result) (λ pool. refl)))
    (then_err c.replace.result c.replace.ensures.err (λ before. before.packed))
