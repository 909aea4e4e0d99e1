use Rattle.std.proofs.Common.{◌≡◌, ◌∙◌, None, refl, ap}
use Rattle.world_model.specs.declared.command.Command.TheVariants.{EmplaceOrReplace}
use Rattle.world_model.specs.declared.command.Reply.TheVariants.{Values}
use Rattle.world_model.specs.Orders.{is_refused}
use Rattle.registry.proofs.ResultLemmas.{both_ok, then_ok}
use Rattle.registry_uses.specs.declared.beginning.TheConstants.{VELOCITY}
use Rattle.registry_uses.specs.Scenes.{pair}
use Rattle.registry_uses.proofs.PackedLemmas.{nothing_moves}
use Rattle.registry_uses.proofs.RowLemmas.{pair_given, set_is_told}
use Rattle.registry_uses.proofs.SceneLemmas.{scene_by, was_done}
use Rattle.registry_uses.proofs.steering.steer.Goals as goal

pub returns-clause-scene : goal.returns-clause-scene
returns-clause-scene g c =
    scene_by c.args.registry.now c.emplace_or_replace.new.self (EmplaceOrReplace c.args.entity VELOCITY c.pair_of.result) c.emplace_or_replace.result c.requires refl c.emplace_or_replace.ensures.ok c.emplace_or_replace.ensures.err

pub returns-clause-told : goal.returns-clause-told
returns-clause-told g c =
    let old = c.args.registry.now in
    let row : c.pair_of.result ≡ pair c.args.x c.args.y = c.pair_of.ensures.row ∙ pair_given c.args.x c.args.y c.ranges.x c.ranges.y in
    both_ok c.emplace_or_replace.result c.emplace_or_replace.ensures.ok c.emplace_or_replace.ensures.reply (λ does reply.
    let done = was_done old c.emplace_or_replace.new.self (EmplaceOrReplace c.args.entity VELOCITY c.pair_of.result) does (ap is_refused reply) in
    set_is_told old c.emplace_or_replace.new.self c.args.entity VELOCITY c.pair_of.result None c.law.ensures.world done.passes done.world ∙ ap Values row)

pub returns-clause-packed : goal.returns-clause-packed
returns-clause-packed g c =
    let old = c.args.registry.now in
    let command = EmplaceOrReplace c.args.entity VELOCITY c.pair_of.result in
    then_ok c.emplace_or_replace.result c.emplace_or_replace.ensures.packed (c.packing_without_groups.ensures old c.emplace_or_replace.new.self command (nothing_moves old command c.requires.groups refl))
