use Rattle.tick_runner.proofs.VersionLemmas.{one_step, at_last}
use Rattle.tick_runner.proofs.versions.laws.systems_raise_versions.Goals as goal

pub returns-clause-rows : goal.returns-clause-rows
returns-clause-rows g c = λ systems place tick system maps found is shown. (one_step g.S.System.lists g.S.System.effect tick g.met.S.System.frame g.met.S.System.local systems place system maps found is shown).0

pub returns-clause-orders : goal.returns-clause-orders
returns-clause-orders g c = λ systems place tick system maps found is shown. (one_step g.S.System.lists g.S.System.effect tick g.met.S.System.frame g.met.S.System.local systems place system maps found is shown).1

pub returns-clause-last : goal.returns-clause-last
returns-clause-last g c = λ systems tick pool maps. at_last g.S.System.lists g.S.System.effect g.met.S.System.frame tick pool systems maps
