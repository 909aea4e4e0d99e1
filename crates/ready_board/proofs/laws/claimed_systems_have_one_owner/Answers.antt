use Rattle.ready_board.proofs.DoneLemmas.{not_theirs}
use Rattle.ready_board.proofs.LawLemmas.{claimed_mine, claimed_owner}
use Rattle.ready_board.proofs.laws.claimed_systems_have_one_owner.Goals as goal

pub returns-clause-one : goal.returns-clause-one
returns-clause-one c preds claimed done views seat other system view another kept at there other_seat has = not_theirs preds claimed done views seat other view another system kept at other_seat there has

pub returns-clause-claimed : goal.returns-clause-claimed
returns-clause-claimed c preds claimed done views seat system view kept = claimed_mine preds claimed done views kept seat system view

pub returns-clause-owner : goal.returns-clause-owner
returns-clause-owner c preds claimed done views system kept = claimed_owner preds claimed done views kept system
