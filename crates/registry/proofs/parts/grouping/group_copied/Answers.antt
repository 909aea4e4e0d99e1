use Rattle.registry.specs.Layout.{held_of}
use Rattle.registry.proofs.DoneLemmas.{same}
use Rattle.registry.proofs.parts.grouping.group_copied.Goals as goal

pub returns-in-Err-clause-err : goal.returns-in-Err-clause-err
returns-in-Err-clause-err g c = same (held_of c.args.parts.now)
