use Rattle.tick_core.proofs.FactLemmas.{at_need}
use Rattle.tick_core.proofs.laws.takes_find_what_they_need.Goals as goal

pub returns : goal.returns
returns c = λ state i pool facts can. at_need state facts i pool can
