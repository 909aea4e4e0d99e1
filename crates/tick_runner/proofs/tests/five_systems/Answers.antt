use Rattle.tick_runner.proofs.tests.five_systems.Goals as goal

pub returns : goal.returns
returns c = λ profile. (c.in_ok-giving.ensures profile, (c.in_ok-giving-2.ensures profile, (c.in_ok-giving-3.ensures profile, (c.in_ok-giving-4.ensures profile, (c.in_ok-giving-5.ensures profile, tt)))))
