use Rattle.registry.proofs.SequenceLemmas.{becomes_both, becomes_quietly}
use Rattle.registry.proofs.laws.registries_change_in_parts.Goals as goal

pub returns-clause-parts : goal.returns-clause-parts
returns-clause-parts c = becomes_both

pub returns-clause-quiet : goal.returns-clause-quiet
returns-clause-quiet c = becomes_quietly
