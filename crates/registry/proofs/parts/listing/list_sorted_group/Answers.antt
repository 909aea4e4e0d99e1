use Rattle.registry.specs.Layout.{held_of}
use Rattle.registry.proofs.DoneLemmas.{same}
use Rattle.registry.proofs.parts.listing.list_sorted_group.Goals as goal

pub returns-in-Some-clause-err : goal.returns-in-Some-clause-err
returns-in-Some-clause-err g c = same (held_of c.args.parts.now)

pub returns-in_default-with_capacity-clause-err : goal.returns-in_default-with_capacity-clause-err
returns-in_default-with_capacity-clause-err g c = same (held_of c.args.parts.now)
