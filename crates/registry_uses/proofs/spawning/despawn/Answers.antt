use Rattle.std.proofs.Common.{ap, refl, ◌∙◌}
use Rattle.world_model.specs.declared.command.Command.TheVariants.{Destroy}
use Rattle.world_model.specs.declared.command.Reply.TheVariants.{Truth}
use Rattle.world_model.specs.declared.world.World.{World}
use Rattle.world_model.specs.Slots.{is_live}
use Rattle.world_model.proofs.LivingLemmas.{lives_on}
use Rattle.registry.proofs.ResultLemmas.{then_ok}
use Rattle.registry_uses.proofs.PackedLemmas.{nothing_moves}
use Rattle.registry_uses.proofs.SceneLemmas.{dead_after, dead_is_told, is_declared, of_destroys, scene_after}
use Rattle.registry_uses.proofs.spawning.despawn.Goals as goal

pub returns-clause-scene : goal.returns-clause-scene
returns-clause-scene g c = scene_after c.args.registry.now c.destroy.new.self (Destroy c.args.entity) c.requires refl c.destroy.ensures.does

pub returns-clause-stale : goal.returns-clause-stale
returns-clause-stale g c = ap Truth (ap (λ (w : World). is_live w.slots c.args.entity) c.destroy.ensures.does.world ∙ dead_after c.args.registry.now.limit c.args.registry.now.world c.args.entity)

pub returns-clause-refused : goal.returns-clause-refused
returns-clause-refused g c =
    let scene = scene_after c.args.registry.now c.destroy.new.self (Destroy c.args.entity) c.requires refl c.destroy.ensures.does in
    dead_is_told c.destroy.new.self _ c.args.entity (is_declared c.destroy.new.self _ scene refl)
    (ap (λ (w : World). is_live w.slots c.args.entity) c.destroy.ensures.does.world ∙ dead_after c.args.registry.now.limit c.args.registry.now.world c.args.entity)

pub returns-clause-others : goal.returns-clause-others
returns-clause-others g c other apart live =
    ap (λ (w : World). is_live w.slots other) c.destroy.ensures.does.world
    ∙ lives_on c.args.registry.now.limit c.args.registry.now.world (Destroy c.args.entity) other c.law.ensures.world live (λ same. apart (of_destroys _ _ same))

pub returns-clause-packed : goal.returns-clause-packed
returns-clause-packed g c =
    let old = c.args.registry.now in
    then_ok c.destroy.result c.destroy.ensures.packed (c.packing_without_groups.ensures old c.destroy.new.self (Destroy c.args.entity) (nothing_moves old (Destroy c.args.entity) c.requires.groups refl))
