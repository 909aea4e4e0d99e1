use Rattle.registry_uses.proofs.tests.samples.Sample.erases.Given as goal

abbrev pub ghosts-erase : goal.ghosts-erase
ghosts-erase g a = record { name = a.blank.name; parts = a.blank.parts }
