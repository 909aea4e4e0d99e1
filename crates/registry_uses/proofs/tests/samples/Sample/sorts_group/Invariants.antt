use Rattle.registry_uses.proofs.tests.samples.Sample.sorts_group.Given as goal

abbrev pub ghosts-sort_group : goal.ghosts-sort_group
ghosts-sort_group g a = record { name = a.blank.name; parts = a.blank.parts }
