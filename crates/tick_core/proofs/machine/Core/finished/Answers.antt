use Rattle.std.proofs.Common.{arith}
use Rattle.tick_core.proofs.FactLemmas.{last_versions}
use Rattle.tick_core.proofs.machine.Core.finished.Goals as goal

pub returns-clause-versions : goal.returns-clause-versions
returns-clause-versions c = λ is pool. last_versions c.args.self.now pool c.law.ensures (λ k low. c.loop-system.invariant k (omega arith))
