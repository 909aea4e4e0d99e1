use Rattle.world_model.proofs.LivingLemmas.{lives_on, destroyed_is_dead}
use Rattle.world_model.proofs.laws.entities_live_until_destroyed.Goals as goal

pub returns-clause-lives : goal.returns-clause-lives
returns-clause-lives c = lives_on

pub returns-clause-dies : goal.returns-clause-dies
returns-clause-dies c = destroyed_is_dead
