use Rattle.registry_uses.proofs.tests.samples.Sample.adds.Given as goal

abbrev pub ghosts-emplace : goal.ghosts-emplace
ghosts-emplace g a = record { name = a.blank.name; parts = a.blank.parts }
