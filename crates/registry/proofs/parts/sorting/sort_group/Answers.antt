use Rattle.registry.specs.Layout.{held_of}
use Rattle.registry.proofs.DoneLemmas.{same}
use Rattle.registry.proofs.parts.sorting.sort_group.Goals as goal

pub returns-in-Some-clause-err : goal.returns-in-Some-clause-err
returns-in-Some-clause-err g c = same (held_of c.args.parts.now)
