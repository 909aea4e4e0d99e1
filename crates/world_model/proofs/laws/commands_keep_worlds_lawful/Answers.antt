use Rattle.world_model.proofs.LawfulLemmas.{empty_lawful}
use Rattle.world_model.proofs.StepLaw.{step_lawful}
use Rattle.world_model.proofs.StepLemmas.{run_lawful}
use Rattle.world_model.proofs.laws.commands_keep_worlds_lawful.Goals as goal

pub returns-clause-empty : goal.returns-clause-empty
returns-clause-empty c = empty_lawful

pub returns-clause-one : goal.returns-clause-one
returns-clause-one c = step_lawful

pub returns-clause-many : goal.returns-clause-many
returns-clause-many c = run_lawful
