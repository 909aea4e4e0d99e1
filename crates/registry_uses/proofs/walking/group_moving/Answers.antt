use Rattle.registry.proofs.DoneLemmas.{same}
use Rattle.registry.proofs.ResultLemmas.{all_err}
use Rattle.registry_uses.proofs.walking.group_moving.Goals as goal

pub returns-in_err-pools_of-clause-err : goal.returns-in_err-pools_of-clause-err
returns-in_err-pools_of-clause-err g c = all_err _ (same c.args.registry.now)

pub returns-in_err-pools_of-2-clause-err : goal.returns-in_err-pools_of-2-clause-err
returns-in_err-pools_of-2-clause-err g c = all_err _ (same c.args.registry.now)

pub returns-in_err-pools_of-3-clause-err : goal.returns-in_err-pools_of-3-clause-err
returns-in_err-pools_of-3-clause-err g c = all_err _ (same c.args.registry.now)
