use Rattle.registry_uses.proofs.tests.samples.Sample.groups.Given as goal

abbrev pub ghosts-group : goal.ghosts-group
ghosts-group g a = record { name = a.blank.name; parts = a.blank.parts }
