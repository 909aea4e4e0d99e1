use Rattle.registry_uses.proofs.tests.samples.Sample.sorts.Given as goal

abbrev pub ghosts-sort : goal.ghosts-sort
ghosts-sort g a = record { name = a.blank.name; parts = a.blank.parts }
