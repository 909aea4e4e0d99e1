use Rattle.std.proofs.Common.{ap, ◌∙◌}
use Rattle.registry.specs.Lending.{Emptied, refilled}
use Rattle.registry.proofs.LendingLemmas.{other_rows}
use Rattle.registry.proofs.registry.lending.Shell.restore.Goals as goal

pub returns-clause-rows : goal.returns-clause-rows
returns-clause-rows g c = λ lent same.
    c.put_pools.ensures.held ∙ ap (λ (shell : Emptied). refilled shell c.args.pools.items) c.self.view_is ∙ other_rows c.args.self c.args.pools.items lent same
