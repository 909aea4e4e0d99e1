use Rattle.std.proofs.Common.{◌∙◌, None, cond, is_some, pos, refl, sym, ap}
use Rattle.world_model.specs.declared.command.Command.TheVariants.{EmplaceOrReplace, Remove}
use Rattle.world_model.specs.declared.world.World.{World}
use Rattle.world_model.specs.Contents.{has_row}
use Rattle.world_model.specs.Orders.{is_refused}
use Rattle.registry.specs.Packing.{packed_after}
use Rattle.registry_uses.specs.declared.beginning.TheConstants.{FROZEN}
use Rattle.registry_uses.proofs.PackedLemmas.{nothing_moves}
use Rattle.registry_uses.specs.Scenes.{pair}
use Rattle.registry_uses.proofs.RowLemmas.{remove_groups, removed_is_gone, set_is_there}
use Rattle.registry_uses.proofs.SceneLemmas.{scene_after, was_done}
use Rattle.registry_uses.proofs.steering.set_frozen.Goals as goal

pub returns-in_ok-emplace_or_replace-clause-scene : goal.returns-in_ok-emplace_or_replace-clause-scene
returns-in_ok-emplace_or_replace-clause-scene g c =
    scene_after c.args.registry.now c.emplace_or_replace.new.self (EmplaceOrReplace c.args.entity FROZEN c.pair_of.result) c.requires refl c.in_ok-emplace_or_replace.ensures.ok

pub returns-in_ok-emplace_or_replace-clause-frozen : goal.returns-in_ok-emplace_or_replace-clause-frozen
returns-in_ok-emplace_or_replace-clause-frozen g c =
    let old = c.args.registry.now in
    let done = was_done old c.emplace_or_replace.new.self (EmplaceOrReplace c.args.entity FROZEN c.pair_of.result) c.in_ok-emplace_or_replace.ensures.ok (ap is_refused c.in_ok-emplace_or_replace.ensures.reply) in
    ap is_some (set_is_there old c.emplace_or_replace.new.self c.args.entity FROZEN c.pair_of.result None c.law.ensures.world done.passes done.world) ∙ sym c.if-frozen.true

pub returns-in_ok-remove-clause-scene : goal.returns-in_ok-remove-clause-scene
returns-in_ok-remove-clause-scene g c =
    scene_after c.args.registry.now c.remove.new.self (Remove c.args.entity FROZEN) c.requires (remove_groups c.args.registry.now.limit c.args.registry.now.world c.args.entity FROZEN) c.remove.ensures.does

pub returns-in_ok-remove-clause-frozen : goal.returns-in_ok-remove-clause-frozen
returns-in_ok-remove-clause-frozen g c =
    let old = c.args.registry.now in
    let done = was_done old c.remove.new.self (Remove c.args.entity FROZEN) c.remove.ensures.does (ap is_refused c.in_ok-remove.ensures.ok) in
    ap (λ (w : World). has_row w FROZEN c.args.entity) done.world ∙ removed_is_gone old.limit old.world FROZEN c.args.entity c.law.ensures.world done.passes ∙ sym c.if-frozen.false

pub returns-in_ok-emplace_or_replace-clause-packed : goal.returns-in_ok-emplace_or_replace-clause-packed
returns-in_ok-emplace_or_replace-clause-packed g c =
    let old = c.args.registry.now in
    let command = EmplaceOrReplace c.args.entity FROZEN c.pair_of.result in
    c.packing_without_groups.ensures old c.emplace_or_replace.new.self command (nothing_moves old command c.requires.groups refl) c.in_ok-emplace_or_replace.ensures.packed
    ∙ ap (λ b. packed_after old (cond b (EmplaceOrReplace c.args.entity FROZEN (pair (pos 0) (pos 0))) (Remove c.args.entity FROZEN))) (sym c.if-frozen.true)

pub returns-in_ok-remove-clause-packed : goal.returns-in_ok-remove-clause-packed
returns-in_ok-remove-clause-packed g c =
    let old = c.args.registry.now in
    let command = Remove c.args.entity FROZEN in
    c.packing_without_groups.ensures old c.remove.new.self command (nothing_moves old command c.requires.groups refl) c.in_ok-remove.ensures.packed
    ∙ ap (λ b. packed_after old (cond b (EmplaceOrReplace c.args.entity FROZEN (pair (pos 0) (pos 0))) (Remove c.args.entity FROZEN))) (sym c.if-frozen.false)
