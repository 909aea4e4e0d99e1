use Rattle.tick_core.proofs.ChoiceLemmas.{turns_at}
use Rattle.tick_core.proofs.machine.Core.first_at.Goals as goal

pub returns : goal.returns
returns c =
    turns_at c.args.self.now c.args.system c.args.pool c.args.first c.earlier-first.result c.earlier-first-2.result c.earlier.result
    c.earlier-first.ensures c.earlier-first-2.ensures c.earlier.ensures
