use Rattle.std.proofs.Common.{◌∙◌, ap}
use Rattle.registry.specs.Held.{Held, reply_to}
use Rattle.registry.proofs.ResultLemmas.{if_ok}
use Rattle.registry_uses.proofs.SceneLemmas.{copied_answers}
use Rattle.registry_uses.proofs.saving.copy.Goals as goal

pub returns-clause-same : goal.returns-clause-same
returns-clause-same g c =
    if_ok c.load.result c.load.ensures.world (λ copy is command.
    ap (λ (held : Held). reply_to held command) is ∙ copied_answers c.args.registry.now c.in_ok-world.world copy.packed command c.requires c.in_ok-world.ensures.world)
