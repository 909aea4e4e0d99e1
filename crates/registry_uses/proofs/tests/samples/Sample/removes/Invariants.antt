use Rattle.registry_uses.proofs.tests.samples.Sample.removes.Given as goal

abbrev pub ghosts-remove : goal.ghosts-remove
ghosts-remove g a = record { name = a.blank.name; parts = a.blank.parts }
