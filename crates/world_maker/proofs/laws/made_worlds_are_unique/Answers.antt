use Rattle.world_maker.proofs.UniqueWorlds.{one_world}
use Rattle.world_maker.proofs.laws.made_worlds_are_unique.Goals as goal

pub returns : goal.returns
returns c = one_world
